-- Defines how often a listener was asked for a connection, and where the connections that it gave were put.
-- Used by: acceptor.rt, desk.rt, server.rt. By it each connection is put where it waits, and put once.
use Rattle.std.specs.Prelude.{◌≡◌, ℕ, List, [], ◌∷◌, length, Option, Some, None}
use Rattle.std.specs.declared.result.Result.{Result}
use Rattle.std.specs.declared.result.Result.TheVariants.{Ok, Err}
use Rattle.mw_session.specs.Transitions.{GoesThrough}
use Rattle.mw_workers.specs.declared.server.ServeEnd.{ServeEnd}
use Rattle.mw_workers.specs.declared.server.ServeEnd.TheVariants.{Served, Memory}

-- The listener was asked exactly so many times. The listener itself says what a call may answer, and what state it then
-- leaves.
abbrev pub IsAsked : {L X : Type 0} → (L → X → L → Type 0) → L → ℕ → L → Type 0
IsAsked {X = X} accepts old count new = (answers : List X) × GoesThrough accepts old answers new × (length answers ≡ count)

-- the connections among the answers, in order
abbrev pub given : {C E : Type 0} → List (Result C E) → List C
given [] = []
given (Ok connection ∷ later) = connection ∷ given later
given (Err fault ∷ later) = given later

-- A connection that was given is put where connections wait. If none was given, what waits is unchanged.
abbrev pub IsPut : {W C E : Type 0} → (W → C → W → Type 0) → W → Result C E → W → Type 0
IsPut puts waiting (Ok connection) new = puts waiting connection new
IsPut puts waiting (Err fault) new = new ≡ waiting

-- The listener was asked exactly so many times, and the connections that it gave were put where connections wait: each
-- once, in order, and nothing else.
abbrev pub ArePut : {L W C E : Type 0} → (L → Result C E → L → Type 0) → (W → C → W → Type 0) → L → W → ℕ → L → W → Type 0
ArePut {C = C} {E = E} accepts puts old waiting count new new_waiting =
    (answers : List (Result C E)) × GoesThrough accepts old answers new × (length answers ≡ count) × GoesThrough puts waiting (given answers) new_waiting

-- The same for a number that may be missing. Without a number the acceptor doesn't end.
abbrev pub EndsPut : {L W C E : Type 0} → (L → Result C E → L → Type 0) → (W → C → W → Type 0) → L → W → Option ℕ → L → W → Type 0
EndsPut accepts puts old waiting (Some count) new new_waiting = ArePut accepts puts old waiting count new new_waiting
EndsPut accepts puts old waiting None new new_waiting = ⊥

-- How serving ended. If memory is out, the listener was asked for nothing. If all are served, it was asked as many
-- times as there were connections to serve. Without a number of connections serving doesn't end so.
abbrev pub EndsSo : {L X : Type 0} → (L → X → L → Type 0) → Option ℕ → L → L → ServeEnd → Type 0
EndsSo accepts connections old new Memory = new ≡ old
EndsSo accepts (Some count) old new Served = IsAsked accepts old count new
EndsSo accepts None old new Served = ⊥
