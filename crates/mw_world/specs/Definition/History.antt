-- Defines the history, a ghost state for the claims about runs: what has happened to each change since the last start, and
-- what each worker may still do. No step depends on it.
-- Used by: mw_law_runs, mw_law_store, mw_rule, mw_world_memory, mw_simulator.
use Rattle.std.specs.Prelude.{ℕ, ◌==◌, Bool, true, false, if◌then◌else◌, List, [], ◌∷◌, Option, Some, None, is_some}
use Rattle.std.specs.Option.{option_map_or}
use Rattle.mw_words.specs.declared.jobs.Entry.{Entry}
use Rattle.mw_words.specs.declared.statuses.Status.{Status}
use Rattle.mw_words.specs.declared.statuses.Status.TheVariants.{Draft}
use Rattle.mw_actor.specs.declared.points.Attempt.{Attempt}
use Rattle.mw_actor.specs.declared.points.Task.{Task}
use Rattle.mw_actor.specs.declared.points.Point.{Point}
use Rattle.mw_actor.specs.declared.points.Point.TheVariants.{CheckThenResolve, Resolve}
use Rattle.mw_actor.specs.ActorState.{ActorState, entry_of}
use Rattle.mw_world.specs.declared.step_labels.Phase.{Phase}
use Rattle.mw_world.specs.declared.step_labels.Phase.TheVariants.{Fresh}

-- A worker's own attempt: there is none, or one that may still be in a tenant's word, with its number.
pub data StandingAttempt : Type 0 where
  NoAttempt : StandingAttempt
  AttemptIn : (tenant address number : ℕ) → StandingAttempt

-- A worker's permission to exchange an attempt for a held word. The attempt is one of a worker, with its number, in a
-- tenant's word. The word would be held for the change of a slot with its sequence number.
pub data HoldPermission : Type 0 where
  Idle : HoldPermission
  Permitted : (tenant address worker number slot seq : ℕ) → HoldPermission

-- The history. A slot and its sequence number name one change until the next start. So a later use of the slot
-- overwrites nothing that is known by both.
pub record History : Type 0 where
  -- by slot and number: the slot was claimed with that number; the tenant; which of the tenant's requests; and the
  -- worker that claimed it
  pub is_claimed : ℕ → ℕ → Bool
  pub tenant : ℕ → ℕ → ℕ
  pub request : ℕ → ℕ → ℕ
  pub owner : ℕ → ℕ → ℕ
  -- by slot and number: the entries of the change, and its status; the last status stays until the next start
  pub change : ℕ → ℕ → List Entry
  pub fate : ℕ → ℕ → Status
  -- by slot, number and address: what the change has done to the word
  pub phase : ℕ → ℕ → ℕ → Phase
  -- by slot and number: its worker gave up and left its pin, so the slot isn't freed until the next start
  pub stays : ℕ → ℕ → Bool
  -- by slot and number: the request's reply FAULT was decided, by a seal that failed or by its worker when it gave up
  pub is_fault_decided : ℕ → ℕ → Bool
  -- by worker: its own attempt, from the exchange that made it until the worker knows that the attempt was resolved
  pub standing : ℕ → StandingAttempt
  -- by worker: its permission to hold a word, which it has once it saw that the change is open
  pub permission : ℕ → HoldPermission

-- the entry of this address in a list of entries, if there is one
abbrev pub entry_for : List Entry → ℕ → Option Entry
entry_for [] address = None
entry_for (entry ∷ entries) address = if entry.addr == address then Some entry else entry_for entries address

-- the change of a slot and number has an entry of this address
abbrev pub has : History → ℕ → ℕ → ℕ → Bool
has past slot seq address = is_some (entry_for (past.change slot seq) address)

-- the value that this entry expects; 0 if there is none
abbrev pub expected : History → ℕ → ℕ → ℕ → ℕ
expected past slot seq address = option_map_or (λ entry. entry.expected) (entry_for (past.change slot seq) address) 0

-- the value that this entry writes; 0 if there is none
abbrev pub new : History → ℕ → ℕ → ℕ → ℕ
new past slot seq address = option_map_or (λ entry. entry.new) (entry_for (past.change slot seq) address) 0

-- the history at a start: nothing has happened
abbrev pub no_history : History
no_history = record {
  is_claimed = λ slot seq. false;
  tenant = λ slot seq. 0;
  request = λ slot seq. 0;
  owner = λ slot seq. 0;
  change = λ slot seq. [];
  fate = λ slot seq. Draft;
  phase = λ slot seq address. Fresh;
  stays = λ slot seq. false;
  is_fault_decided = λ slot seq. false;
  standing = λ worker. NoAttempt;
  permission = λ worker. Idle;
}

-- the worker's own attempt, if it made this one
abbrev pub own_attempt : ActorState → Task → ℕ → Attempt → StandingAttempt
own_attempt actor task entry attempt = if attempt.worker == actor.worker then AttemptIn actor.tenant (entry_of actor task entry).addr attempt.number else NoAttempt

-- the worker's own attempt at a point: the worker knows of it from its exchange to its resolve
abbrev pub standing_at : ActorState → Point → StandingAttempt
standing_at actor (CheckThenResolve task entry attempt) = own_attempt actor task entry attempt
standing_at actor (Resolve task entry attempt was_open) = own_attempt actor task entry attempt
standing_at actor point = NoAttempt

-- the worker's permission, if it found the change open
abbrev pub permitted_if : Bool → ActorState → Task → ℕ → Attempt → HoldPermission
permitted_if true actor task entry attempt = Permitted actor.tenant (entry_of actor task entry).addr attempt.worker attempt.number task.target.slot task.target.seq
permitted_if false actor task entry attempt = Idle

-- the worker's permission at a point: it has one once it saw that the change is open
abbrev pub permission_at : ActorState → Point → HoldPermission
permission_at actor (Resolve task entry attempt was_open) = permitted_if was_open actor task entry attempt
permission_at actor point = Idle
