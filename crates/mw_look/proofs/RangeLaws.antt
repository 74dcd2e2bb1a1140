-- The numbers that a read keeps (slot, sequence number, entry, value) stay in range from each point of its program to the
-- next.
-- Used by: Look::tell_observation, many crates from mw_actor on.
use Rattle.std.specs.Prelude.{◌≡◌, ℕ, ◌<◌, ◌-◌, ◌==◌, Bool, true, false, cond, nat_lt, Some, None, IfSome}
use Rattle.std.specs.declared.option.Option.{Option}
use Rattle.std.proofs.Common.{refl, sym, subst, arith}
use Rattle.std.proofs.lemmas.Bool.Decides.{nat_tests}
use Rattle.mw_words.specs.declared.limits.TheConstants.{MAX_ENTRIES, WORN_NUMBER}
use Rattle.mw_words.specs.declared.gates.Gate.{Gate}
use Rattle.mw_words.specs.declared.words.Word.{Word}
use Rattle.mw_words.specs.declared.words.Word.TheVariants.{Plain, Planted, Held, Dirty}
use Rattle.mw_words.specs.declared.statuses.Status.{Status}
use Rattle.mw_words.specs.Patterns.{IsGateInRange}
use Rattle.mw_pool.specs.Moves.{Pins, after_pin}
use Rattle.mw_pool.proofs.MoveLaws.{pin_is}
use Rattle.mw_look.specs.declared.observations.Observation.{Observation}
use Rattle.mw_look.specs.declared.observations.Observation.TheVariants.{SawDoor, SawGate, SawWord, SawStatus, SawRow, SawNumber, Won, Lost}
use Rattle.mw_look.specs.declared.points.Trail.{Trail}
use Rattle.mw_look.specs.declared.points.Trail.TheVariants.{Held as ByHeld, Planted as ByPlanted}
use Rattle.mw_look.specs.declared.points.After.{After}
use Rattle.mw_look.specs.declared.points.After.TheVariants.{Again, Answer}
use Rattle.mw_look.specs.declared.points.Point.{Point}
use Rattle.mw_look.specs.declared.points.Point.TheVariants.{ReadDoor, ReadWord, ReadRow, ConfirmWord, ReadGate, Pin, ReadStatus, FindEntry, ReadExpected, ReadNew, RecheckWord, Unpin, FreeSlot, LowerDoor}
use Rattle.mw_look.specs.Observations.{IsObservationInRange}
use Rattle.mw_look.specs.Program.{Reading, word_of, seq_of, same_word, word_seen, pinned, pinning, first_entry, next_entry, resumed, goes, IsPointInRange}

-- a property of both results of a test holds of the result that the test chooses
pub either_way : {A : Type 0} (P : A → Type 0) (test : Bool) (x y : A) → (test ≡ true → P x) → (test ≡ false → P y) → P (cond test x y)
either_way P true x y one other = one refl
either_way P false x y one other = other refl

resumed_fits : (after : After) → IsPointInRange (resumed after)
resumed_fits Again = tt
resumed_fits (Answer value) = tt

word_seen_fits : (word : Word) → IsPointInRange (word_seen word)
word_seen_fits (Plain value) = tt
word_seen_fits (Dirty slot value) = tt
word_seen_fits (Held slot seq) = tt
word_seen_fits (Planted worker attempt) = tt

pinned_fits : (trail : Trail) (gate : Gate) (next : Option Gate) → seq_of trail < WORN_NUMBER → IsGateInRange gate → IfSome next (λ to. Pins (seq_of trail) gate to × IsGateInRange to) → IsPointInRange (pinned trail gate next)
pinned_fits trail gate (Some to) low fits is = (low, fits, is.1)
pinned_fits trail gate None low fits is = tt

pinning_fits : (trail : Trail) (gate : Gate) → IsGateInRange gate → IsPointInRange (pinning trail gate)
pinning_fits trail gate fits =
    either_way IsPointInRange (nat_lt (seq_of trail) WORN_NUMBER) (pinned trail gate (after_pin gate (seq_of trail))) ReadDoor
    (λ low. pinned_fits trail gate (after_pin gate (seq_of trail)) (grind (arith, nat_tests, low)) fits (pin_is gate (seq_of trail) fits))
    (λ worn. tt)

first_entry_fits : (trail : Trail) (status : Status) → seq_of trail < WORN_NUMBER → IsPointInRange (first_entry trail status)
first_entry_fits (ByHeld slot seq) status low = low
first_entry_fits (ByPlanted worker attempt row) status low = low

next_entry_fits : (trail : Trail) (status : Status) (entry : ℕ) → seq_of trail < WORN_NUMBER → IsPointInRange (next_entry trail status entry)
next_entry_fits trail status entry low = either_way IsPointInRange (nat_lt entry (MAX_ENTRIES - 1)) _ _ (λ more. low) (λ last. low)

-- a read's numbers stay in range at the next point, if the observation is in range
pub goes_in_range : (address : ℕ) (point : Point) (observation : Observation) → IsPointInRange point → IsObservationInRange observation → IsPointInRange (goes address point observation)
goes_in_range address ReadDoor (SawDoor door) fits saw = either_way IsPointInRange door.fault _ _ (λ e. tt) (λ e. tt)
goes_in_range address ReadWord (SawWord word) fits saw = word_seen_fits word
goes_in_range address (ReadRow worker attempt) (SawRow row) fits saw = tt
goes_in_range address (ConfirmWord trail) (SawWord word) fits saw = either_way IsPointInRange (same_word word (word_of trail)) _ _ (λ e. tt) (λ e. tt)
goes_in_range address (ReadGate trail) (SawGate gate) fits saw = pinning_fits trail gate saw
goes_in_range address (Pin trail from to) Won fits saw = fits.0
goes_in_range address (Pin trail from to) Lost fits saw = tt
goes_in_range address (ReadStatus trail) (SawStatus status) fits saw = first_entry_fits trail status fits
goes_in_range address (FindEntry trail status entry) (SawNumber number) fits saw =
    either_way IsPointInRange (number == address) (ReadExpected trail status entry) (next_entry trail status entry) (λ e. fits) (λ e. next_entry_fits trail status entry fits)
goes_in_range address (ReadExpected trail status entry) (SawNumber expected) fits saw = fits
goes_in_range address (ReadNew trail status entry expected) (SawNumber new) fits saw = fits
goes_in_range address (RecheckWord trail status expected new) (SawWord word) fits saw = fits
goes_in_range address (Unpin slot seq after) (SawGate gate) fits saw = either_way IsPointInRange (gate.pins == 1) _ _ (λ e. fits) (λ e. resumed_fits after)
goes_in_range address (FreeSlot slot seq after) Won fits saw = tt
goes_in_range address (LowerDoor after) (SawDoor door) fits saw = resumed_fits after
goes_in_range address point observation fits saw = fits

-- the same of points that are given by equations
pub next_in_range : (read : Reading) (point next : Point) (observation : Observation) → point ≡ read.point → next ≡ goes read.address read.point observation → IsPointInRange point → IsObservationInRange observation → IsPointInRange next
next_in_range read point next observation is goes_on fits saw =
    subst IsPointInRange (sym goes_on) (goes_in_range read.address read.point observation (subst IsPointInRange is fits) saw)
