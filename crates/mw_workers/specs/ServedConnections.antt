-- Defines which connections a worker served, each by one session, and in what order.
-- Used by: worker.rt (`serve_each`), desk.rt (`serve_in_turn`). A change here changes what a worker promises.
use Rattle.std.specs.Prelude.{ℕ, Bool, true, false, List, [], ◌∷◌, Option}
use Rattle.mw_session.specs.declared.session.Ended.{Ended}
use Rattle.mw_session.specs.StreamRecords.{ReadRecord, WriteRecord}
use Rattle.mw_session.specs.Talk.{Call}
use Rattle.mw_session.specs.Transitions.{GoesThrough}
use Rattle.mw_connections.specs.Sessions.{IsSessionOf}

-- Between two states of a service, one session served the connection, however it ended. `left` and `sent` say what the client has
-- left to send and what it was sent, where that is known, `reads` and `writes` what was recorded, and `answers` what the service
-- says of its answers.
abbrev pub IsServed : {C S : Type 0} → (C → Option (List ℕ)) → (C → Option (List ℕ)) → (C → ReadRecord) → (C → WriteRecord) → (S → S → List Call → Type 0) → S → C → S → Type 0
IsServed {C = C} left sent reads writes answers old connection new =
    (ended : Ended) × (closed : C) × IsSessionOf (left connection) (left closed) (sent connection) (sent closed) (reads connection) (reads closed) (writes connection) (writes closed) (answers old new) ended

-- Each of the connections was served so, one after the other, and the service was asked for nothing else.
abbrev pub AreServed : {C S : Type 0} → (C → Option (List ℕ)) → (C → Option (List ℕ)) → (C → ReadRecord) → (C → WriteRecord) → (S → S → List Call → Type 0) → S → List C → S → Type 0
AreServed left sent reads writes answers old connections new = GoesThrough (IsServed left sent reads writes answers) old connections new

-- those of the connections for which the desk was open
abbrev pub chosen : {C : Type 0} → List Bool → List C → List C
chosen [] connections = []
chosen (first ∷ opens) [] = []
chosen (true ∷ opens) (connection ∷ connections) = connection ∷ chosen opens connections
chosen (false ∷ opens) (connection ∷ connections) = chosen opens connections
