-- If a value in range is written to a shared word, all shared words stay in range.
-- Used by: AttemptChanges, DoorAndEntryChanges, GateChanges, among others.
use Rattle.std.proofs.Common.{◌≡◌, ◌≤◌, ℕ, subst, arith}
use Rattle.std.specs.Prelude.{◌==◌, if◌then◌else◌, Bool, true, false}
use Rattle.std.proofs.lemmas.Bool.Decides.{nat_tests}
use Rattle.mw_words.specs.declared.limits.TheConstants.{MAX_VALUE}
use Rattle.mw_words.specs.declared.places.At.{At}
use Rattle.mw_words.specs.declared.places.At.TheVariants.{Door as AtDoor, Gate as AtGate, Row as AtRow, Data, Status as AtStatus, Count, Addr, Expected, New}
use Rattle.mw_words.specs.declared.words.Word.{Word}
use Rattle.mw_words.specs.declared.words.Word.TheVariants.{Dirty}
use Rattle.mw_words.specs.declared.statuses.Status.{Status}
use Rattle.mw_words.specs.declared.statuses.Status.TheVariants.{No, DoneNo}
use Rattle.mw_words.specs.Patterns.{IsWordInRange, IsStatusInRange}
use Rattle.mw_actor.specs.declared.points.Slot.{Slot}
use Rattle.mw_look.specs.Places.{Val, Fits}
use Rattle.mw_world.specs.declared.config.Config.{Config}
use Rattle.mw_world.specs.Definition.Cells.{Cells, write, AllFit}
use Rattle.mw_world.specs.Maps.{upd, upd_two}
use Rattle.mw_world.specs.Definition.State.{State}
use Rattle.mw_law_runs.specs.Moves.Guards.{MayCancel}
use Rattle.mw_law_runs.specs.Moves.Memory.{Memory}

either : {A : Type 0} → (P : A → Type 0) (test : Bool) (x y : A) → P x → P y → P (if test then x else y)
either P true x y one two = one
either P false x y one two = two

upd_keeps : {A : Type 0} → (P : A → Type 0) (f : ℕ → A) (i : ℕ) (x : A) → P x → ((k : ℕ) → P (f k)) → (k : ℕ) → P (upd f i x k)
upd_keeps P f i x one all k = either P (k == i) x (f k) one (all k)

upd_two_keeps : {A : Type 0} → (P : A → Type 0) (f : ℕ → ℕ → A) (i j : ℕ) (x : A) → P x → ((k l : ℕ) → P (f k l)) → (k l : ℕ) → P (upd_two f i j x k l)
upd_two_keeps P f i j x one all k l = either P (k == i) (if l == j then x else f k l) (f k l) (either P (l == j) x (f k l) one (all k l)) (all k l)

-- if something in range is written, all stays in range
pub put_fits : (cells : Cells) (at : At) (x : Val at) → AllFit cells → Fits at x → AllFit (write cells at x)
put_fits cells (AtDoor i) x all one (AtDoor k) = upd_keeps (λ y. Fits (AtDoor i) y) cells.doors i x one (λ n. all (AtDoor n)) k
put_fits cells (AtGate i) x all one (AtGate k) = upd_keeps (λ y. Fits (AtGate i) y) cells.gates i x one (λ n. all (AtGate n)) k
put_fits cells (AtRow i) x all one (AtRow k) = upd_keeps (λ y. Fits (AtRow i) y) cells.rows i x one (λ n. all (AtRow n)) k
put_fits cells (Data i j) x all one (Data k l) = upd_two_keeps (λ y. Fits (Data i j) y) cells.words i j x one (λ n m. all (Data n m)) k l
put_fits cells (AtStatus i) x all one (AtStatus k) = upd_keeps (λ y. Fits (AtStatus i) y) cells.statuses i x one (λ n. all (AtStatus n)) k
put_fits cells (Count i) x all one (Count k) = upd_keeps (λ y. Fits (Count i) y) cells.counts i x one (λ n. all (Count n)) k
put_fits cells (Addr i j) x all one (Addr k l) = upd_two_keeps (λ y. Fits (Addr i j) y) cells.addrs i j x one (λ n m. all (Addr n m)) k l
put_fits cells (Expected i j) x all one (Expected k l) = upd_two_keeps (λ y. Fits (Expected i j) y) cells.expecteds i j x one (λ n m. all (Expected n m)) k l
put_fits cells (New i j) x all one (New k l) = upd_two_keeps (λ y. Fits (New i j) y) cells.new_values i j x one (λ n m. all (New n m)) k l
put_fits cells at x all one other = all other

-- the value of a word that a change has written is in the range of a word
pub dirty_fits : (slot value : ℕ) (word : Word) → word ≡ Dirty slot value → IsWordInRange word → value ≤ MAX_VALUE
dirty_fits slot value word is fits = (subst IsWordInRange is fits).1

status_fits : (entry value : ℕ) (status : Status) → status ≡ No entry value → IsStatusInRange status → IsStatusInRange (DoneNo entry value)
status_fits entry value status is fits = subst IsStatusInRange is fits

-- the entry and value of a refusal stay in range
pub refused_fits : (config : Config) (state : State) (target : Slot) (entry value : ℕ) → MayCancel state target entry value → Memory config state → IsStatusInRange (DoneNo entry value)
refused_fits config state target entry value guard memory =
    status_fits entry value (state.cells.statuses target.slot)
    (grind (arith, nat_tests, memory.slots.status target.slot, guard.live.taken, guard.live.seq, guard.refused))
    (memory.fits (AtStatus target.slot))
