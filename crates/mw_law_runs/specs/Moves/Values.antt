-- Defines the value that each word represents according to the history, and states that only the commit of a change changes
-- it.
-- Used by: src/move_laws.rt, mw_law_store.
use Rattle.std.specs.Prelude.{ℕ, ◌≡◌, ◌==◌, ◌&&◌, Bool, true, false, if◌then◌else◌, List, [], ◌∷◌, Some}
use Rattle.mw_words.specs.declared.words.Word.{Word}
use Rattle.mw_words.specs.declared.words.Word.TheVariants.{Plain, Planted, Held, Dirty}
use Rattle.mw_actor.specs.declared.points.Slot.{Slot}
use Rattle.mw_actor.specs.ActorState.{ActorState}
use Rattle.mw_world.specs.declared.config.Config.{Config}
use Rattle.mw_world.specs.Definition.History.{has, expected, new}
use Rattle.mw_world.specs.Definition.Logical.{held_value, logical}
use Rattle.mw_world.specs.Definition.State.{State}
use Rattle.mw_world.specs.Definition.Turns.{turn}
use Rattle.mw_law_runs.specs.Moves.Guards.{Guard, Guards}
use Rattle.mw_law_runs.specs.Moves.Memory.{Memory}
use Rattle.mw_law_runs.specs.Moves.Moves.{Move, Seal, made}
use Rattle.mw_law_runs.specs.Moves.StepMoves.{moves_of_turn}

-- The value of a word by the change that it refers to. An attempt represents the value that is expected by the change that the row of the attempt's
-- worker names. A held word represents its change's expected value or, when the change is made, the new one.
abbrev pub value_told : State → ℕ → Word → ℕ
value_told state address (Plain value) = value
value_told state address (Planted worker number) = expected state.history (state.cells.rows worker).slot (state.cells.rows worker).seq address
value_told state address (Held slot seq) = held_value (state.history.fate slot seq) (expected state.history slot seq address) (new state.history slot seq address)
value_told state address (Dirty slot value) = value

-- the value of a tenant's word
abbrev pub told_at : State → ℕ → ℕ → ℕ
told_at state tenant address = value_told state address (state.cells.words tenant address)

-- The shared words tell the same values as the history, if the invariant of the shared words holds.
abbrev pub WordsTellValues : Type 0
WordsTellValues = (config : Config) (state : State) (tenant address : ℕ) → Memory config state → logical state.cells tenant address ≡ told_at state tenant address

-- the move makes a change
abbrev pub is_seal : Move → Bool
is_seal (Seal target) = true
is_seal move = false

-- No move changes the value of a word, except the one that makes a change, if its precondition and the invariant of the shared words hold.
abbrev pub MovesKeepValues : Type 0
MovesKeepValues = (config : Config) (state : State) (by : ℕ) (move : Move) (tenant address : ℕ) → is_seal move ≡ false → Guard config state by move
    → Memory config state
    → logical (made state by move).cells tenant address ≡ logical state.cells tenant address

-- The move that makes a change gives each word of the change its new value, and leaves the others, under the same premises.
abbrev pub SealsPutValues : Type 0
SealsPutValues = (config : Config) (state : State) (by : ℕ) (target : Slot) (tenant address : ℕ) → Guard config state by (Seal target) → Memory config state
    → logical (made state by (Seal target)).cells tenant address
    ≡ (if (state.history.tenant target.slot target.seq == tenant) && has state.history target.slot target.seq address
    then new state.history target.slot target.seq address else logical state.cells tenant address)

-- none of these moves makes a change
abbrev pub AreNoSeals : List Move → Type 0
AreNoSeals [] = Unit {0}
AreNoSeals (move ∷ moves) = (is_seal move ≡ false) × AreNoSeals moves

-- A step that is no call on a file changes no value, if the invariant holds and each of its moves has its precondition.
abbrev pub TurnsKeepValues : Type 0
TurnsKeepValues = (config : Config) (state next : State) (worker : ℕ) (actor : ActorState) (tenant address : ℕ) → actor.worker ≡ worker
    → turn config state worker (Some actor) ≡ Some next → Guards config state worker (moves_of_turn state worker actor) → Memory config state
    → logical next.cells tenant address ≡ logical state.cells tenant address
