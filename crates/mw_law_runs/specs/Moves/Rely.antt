-- Defines what other workers may rely on while one worker makes steps (a rely condition), and states that each move keeps it.
-- Used by: src/move_laws.rt, mw_law_store.
use Rattle.std.specs.Prelude.{ℕ, ◌≡◌, ◌≢◌, ◌<◌, ◌≤◌, ◌⊎◌, true, List}
use Rattle.mw_words.specs.declared.statuses.Status.TheVariants.{Draft, Open, Yes, No, DoneYes, DoneNo}
use Rattle.mw_words.specs.declared.words.Word.TheVariants.{Planted}
use Rattle.mw_world.specs.declared.config.Config.{Config}
use Rattle.mw_world.specs.declared.step_labels.Phase.TheVariants.{Fresh, Acquired, Released}
use Rattle.mw_world.specs.Claim.Invariant.{IsMade}
use Rattle.mw_world.specs.Definition.State.{State}
use Rattle.mw_law_runs.specs.Moves.Guards.{Guard, Guards}
use Rattle.mw_law_runs.specs.Moves.Memory.{Memory}
use Rattle.mw_law_runs.specs.Moves.Moves.{Move, made, made_all}

-- The slot's status, its count of entries and its entries are the same.
pub record SameSlot (old new : State) (slot : ℕ) : Type 0 where
  pub status : new.cells.statuses slot ≡ old.cells.statuses slot
  pub count : new.cells.counts slot ≡ old.cells.counts slot
  pub addrs : (index : ℕ) → new.cells.addrs slot index ≡ old.cells.addrs slot index
  pub expecteds : (index : ℕ) → new.cells.expecteds slot index ≡ old.cells.expecteds slot index
  pub new_values : (index : ℕ) → new.cells.new_values slot index ≡ old.cells.new_values slot index

-- The facts of a claimed change stay: its tenant, its request, its worker and its entries.
pub record SameClaim (old new : State) (slot seq : ℕ) : Type 0 where
  pub is_claimed : new.history.is_claimed slot seq ≡ true
  pub tenant : new.history.tenant slot seq ≡ old.history.tenant slot seq
  pub request : new.history.request slot seq ≡ old.history.request slot seq
  pub owner : new.history.owner slot seq ≡ old.history.owner slot seq
  pub change : new.history.change slot seq ≡ old.history.change slot seq

-- The attempt was in the same word before, and the row of its worker named the same entry.
pub record StoodBefore (old new : State) (tenant address worker number : ℕ) : Type 0 where
  pub word : old.cells.words tenant address ≡ Planted worker number
  pub row : old.cells.rows worker ≡ new.cells.rows worker

-- What all others may rely on between two moments, if only this worker moves.
pub record Rely (by : ℕ) (old new : State) : Type 0 where
  -- the numbers of attempts and of slots don't fall
  pub attempts : (worker : ℕ) → (old.worker_states worker).attempt ≤ (new.worker_states worker).attempt
  pub seqs : (slot : ℕ) → (old.cells.gates slot).seq ≤ (new.cells.gates slot).seq
  -- a slot stays taken while it has the same number
  pub taken : (slot : ℕ) → (old.cells.gates slot).taken ≡ true → (new.cells.gates slot).seq ≡ (old.cells.gates slot).seq → (new.cells.gates slot).taken ≡ true
  -- a door that has the fault keeps it
  pub faults : (tenant : ℕ) → (old.cells.doors tenant).fault ≡ true → (new.cells.doors tenant).fault ≡ true
  -- another worker's row, the number of its next attempt, its standing attempt and its permission stay
  pub rows : (worker : ℕ) → worker ≢ by → new.cells.rows worker ≡ old.cells.rows worker
  pub own_attempts : (worker : ℕ) → worker ≢ by → (new.worker_states worker).attempt ≡ (old.worker_states worker).attempt
  pub standing : (worker : ℕ) → worker ≢ by → new.history.standing worker ≡ old.history.standing worker
  pub permissions : (worker : ℕ) → worker ≢ by → new.history.permission worker ≡ old.history.permission worker
  -- an attempt with an old number that is in a word now was in it before
  pub stood : (tenant address worker number : ℕ) → number < (old.worker_states worker).attempt → new.cells.words tenant address ≡ Planted worker number
      → StoodBefore old new tenant address worker number
  -- a claimed change stays claimed, with its facts; a pin that was left behind stays so
  pub births : (slot seq : ℕ) → old.history.is_claimed slot seq ≡ true → SameClaim old new slot seq
  pub stays : (slot seq : ℕ) → old.history.stays slot seq ≡ true → new.history.stays slot seq ≡ true
  -- another worker's pin isn't left behind
  pub stays_not : (slot seq : ℕ) → old.history.is_claimed slot seq ≡ true → old.history.owner slot seq ≢ by → new.history.stays slot seq ≡ old.history.stays slot seq
  pub fault_decided : (slot seq : ℕ) → old.history.is_fault_decided slot seq ≡ true → new.history.is_fault_decided slot seq ≡ true
  -- a status only moves forward
  pub ready : (slot seq : ℕ) → old.history.fate slot seq ≢ Draft → new.history.fate slot seq ≢ Draft
  pub was_open : (slot seq : ℕ) → old.history.fate slot seq ≢ Draft → new.history.fate slot seq ≡ Open → old.history.fate slot seq ≡ Open
  pub is_made : (slot seq : ℕ) → IsMade (old.history.fate slot seq) → IsMade (new.history.fate slot seq)
  pub sealed : (slot seq : ℕ) → old.history.fate slot seq ≡ Yes → (new.history.fate slot seq ≡ Yes) ⊎ (new.history.fate slot seq ≡ DoneYes)
  pub done : (slot seq : ℕ) → old.history.fate slot seq ≡ DoneYes → new.history.fate slot seq ≡ DoneYes
  pub refused : (slot seq entry value : ℕ) → old.history.fate slot seq ≡ No entry value
      → (new.history.fate slot seq ≡ No entry value) ⊎ (new.history.fate slot seq ≡ DoneNo entry value)
  pub canceled : (slot seq entry value : ℕ) → old.history.fate slot seq ≡ DoneNo entry value → new.history.fate slot seq ≡ DoneNo entry value
  -- another worker's draft stays a draft, and the contents of its slot stay
  pub drafts : (slot seq : ℕ) → old.history.is_claimed slot seq ≡ true → old.history.owner slot seq ≢ by → old.history.fate slot seq ≡ Draft
      → new.history.fate slot seq ≡ Draft
  pub filled : (slot : ℕ) → (old.cells.gates slot).taken ≡ true → old.history.is_claimed slot (old.cells.gates slot).seq ≡ true
      → old.history.owner slot (old.cells.gates slot).seq ≢ by → old.history.fate slot (old.cells.gates slot).seq ≡ Draft
      → (new.cells.gates slot).seq ≡ (old.cells.gates slot).seq → SameSlot old new slot
  -- a phase only moves forward; a word that was touched and is held now was held before; a word held for a change that is still open is still held
  pub touched : (slot seq address : ℕ) → old.history.phase slot seq address ≢ Fresh → new.history.phase slot seq address ≢ Fresh
  pub was_acquired : (slot seq address : ℕ) → old.history.phase slot seq address ≢ Fresh → new.history.phase slot seq address ≡ Acquired
      → old.history.phase slot seq address ≡ Acquired
  pub acquired : (slot seq address : ℕ) → old.history.fate slot seq ≢ Draft → new.history.fate slot seq ≡ Open → old.history.phase slot seq address ≡ Acquired
      → new.history.phase slot seq address ≡ Acquired
  pub was_released : (slot seq address : ℕ) → old.history.phase slot seq address ≡ Released → new.history.phase slot seq address ≡ Released

-- Each move keeps what others rely on, if its precondition holds and the invariant of the shared words does.
abbrev pub MovesKeepRely : Type 0
MovesKeepRely = (config : Config) (state : State) (by : ℕ) (move : Move) → Guard config state by move → Memory config state → Rely by state (made state by move)

-- What others rely on over one stretch and over the next, they may rely on over both, if the same worker moves in both.
abbrev pub RelyIsTransitive : Type 0
RelyIsTransitive = (by : ℕ) (first second third : State) → Rely by first second → Rely by second third → Rely by first third

-- They may rely on it over several moves, one after the other.
abbrev pub MoveListsKeepRely : Type 0
MoveListsKeepRely = (config : Config) (state : State) (by : ℕ) (moves : List Move) → Guards config state by moves → Memory config state
    → Rely by state (made_all state by moves)
