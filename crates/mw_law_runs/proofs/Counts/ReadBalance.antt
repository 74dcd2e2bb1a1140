-- How many pins a read holds after each step, case by case. Also which slots it will free, and which its tenant's door counts
-- for it. Used by: Points.
use Rattle.std.specs.Prelude.{ℕ, ◌≡◌, ◌+◌, ◌-◌, ◌==◌, ◌&&◌, Bool, true, false, cond, nat_lt, nat_le, IfSome, Option, Some, None}
use Rattle.std.proofs.Common.{refl, sym, ap, arith}
use Rattle.std.proofs.lemmas.Bool.Decides.{nat_tests}
use Rattle.mw_words.specs.declared.gates.Gate.{Gate}
use Rattle.mw_words.specs.declared.words.Word.{Word}
use Rattle.mw_words.specs.declared.words.Word.TheVariants.{Plain, Planted, Held, Dirty}
use Rattle.mw_words.specs.declared.statuses.Status.{Status}
use Rattle.mw_words.specs.declared.limits.TheConstants.{MAX_ENTRIES, MAX_PINS, WORN_NUMBER}
use Rattle.mw_pool.specs.Moves.{Pins, after_pin}
use Rattle.mw_look.specs.declared.observations.Observation.{Observation}
use Rattle.mw_look.specs.declared.observations.Observation.TheVariants.{SawDoor, SawGate, SawWord, SawStatus, SawRow, SawNumber, Won, Lost}
use Rattle.mw_look.specs.declared.points.After.{After}
use Rattle.mw_look.specs.declared.points.After.TheVariants.{Again, Answer}
use Rattle.mw_look.specs.declared.points.Point.{Point}
use Rattle.mw_look.specs.declared.points.Point.TheVariants.{ReadDoor, ReadWord, ReadRow, ConfirmWord, ReadGate, Pin, ReadStatus, FindEntry, ReadExpected, ReadNew, RecheckWord, Unpin, FreeSlot, LowerDoor}
use Rattle.mw_look.specs.declared.points.Trail.{Trail}
use Rattle.mw_look.specs.declared.points.Trail.TheVariants.{Held as ByHeld, Planted as ByPlanted}
use Rattle.mw_look.specs.Program.{goes, same_word, word_of, word_seen, slot_of, seq_of, pinning, pinned, first_entry, next_entry, address_seen, resumed}
use Rattle.mw_look.proofs.RangeLaws.{either_way}
use Rattle.mw_look.specs.Runs.{holds_at, if_same}
use Rattle.mw_world.specs.Definition.Counts.{pin_of, frees_by_read, waits_in_read}
use Rattle.mw_law_runs.specs.Counts.Ready.{IsReadReady}

-- At this point a read holds so many pins of each slot, will free so many slots, and its door counts so many for it that aren't taken.
pub record ReadHolds (pins frees : ℕ → ℕ) (waits : ℕ) (now : Point) : Type 0 where
  pub pins_are : (slot : ℕ) → pin_of slot (holds_at now) ≡ pins slot
  pub frees_are : (slot : ℕ) → frees_by_read slot now ≡ frees slot
  pub waits_are : waits_in_read now ≡ waits
  pub ready : IsReadReady now

-- the pins of this slot that it holds after the step
abbrev pub pins_then : ℕ → Point → Observation → ℕ
pins_then slot (Pin trail from to) Won = if_same (slot_of trail) slot
pins_then slot (Unpin other seq next) (SawGate gate) = 0
pins_then slot now observation = pin_of slot (holds_at now)

-- 1 if it will free this slot after the step, else 0
abbrev pub frees_then : ℕ → Point → Observation → ℕ
frees_then slot (Unpin other seq next) (SawGate gate) = cond (gate.pins == 1) (if_same other slot) 0
frees_then slot (FreeSlot other seq next) Won = 0
frees_then slot now observation = frees_by_read slot now

-- 1 if the door counts a slot for it that isn't taken after the step, else 0
abbrev pub waits_then : Point → Observation → ℕ
waits_then (FreeSlot other seq next) Won = 1
waits_then (LowerDoor next) (SawDoor door) = 0
waits_then now observation = waits_in_read now

-- a fact of the value that a test lets through
by_test : {B : Type 0} (test : Bool) (x : B) (P : B → Type 0) → (test ≡ true → P x) → IfSome (cond test (Some x) None) P
by_test true x P here = here refl
by_test false x P here = tt

-- a pin gives a pinned gate
pins_of : (gate : Gate) (seq : ℕ) → IfSome (after_pin gate seq) (λ to. Pins seq gate to)
pins_of gate seq = by_test (gate.taken && nat_le 1 gate.pins && nat_lt gate.pins MAX_PINS && (gate.seq == seq)) (record gate { pins = gate.pins + 1 }) (λ to. Pins seq gate to) (λ is. grind (arith, nat_tests, is))

word_seen_holds : (word : Word) → ReadHolds (λ slot. 0) (λ slot. 0) 0 (word_seen word)
word_seen_holds (Plain value) = record { pins_are = λ slot. refl; frees_are = λ slot. refl; waits_are = refl; ready = tt }
word_seen_holds (Dirty slot value) = record { pins_are = λ slot. refl; frees_are = λ slot. refl; waits_are = refl; ready = tt }
word_seen_holds (Held slot seq) = record { pins_are = λ slot. refl; frees_are = λ slot. refl; waits_are = refl; ready = tt }
word_seen_holds (Planted worker attempt) = record { pins_are = λ slot. refl; frees_are = λ slot. refl; waits_are = refl; ready = tt }

pinned_holds : (trail : Trail) (gate : Gate) (next : Option Gate) → IfSome next (λ to. Pins (seq_of trail) gate to) → ReadHolds (λ slot. 0) (λ slot. 0) 0 (pinned trail gate next)
pinned_holds trail gate (Some to) is = record { pins_are = λ slot. refl; frees_are = λ slot. refl; waits_are = refl; ready = is }
pinned_holds trail gate None is = record { pins_are = λ slot. refl; frees_are = λ slot. refl; waits_are = refl; ready = tt }

pinning_holds : (trail : Trail) (gate : Gate) → ReadHolds (λ slot. 0) (λ slot. 0) 0 (pinning trail gate)
pinning_holds trail gate = either_way (ReadHolds (λ slot. 0) (λ slot. 0) 0) (nat_lt (seq_of trail) WORN_NUMBER) (pinned trail gate (after_pin gate (seq_of trail))) ReadDoor
    (λ low. pinned_holds trail gate (after_pin gate (seq_of trail)) (pins_of gate (seq_of trail)))
    (λ worn. record { pins_are = λ slot. refl; frees_are = λ slot. refl; waits_are = refl; ready = tt })

-- the read holds a pin while it looks for the word's entry
first_entry_holds : (trail : Trail) (status : Status) → ReadHolds (λ slot. if_same (slot_of trail) slot) (λ slot. 0) 0 (first_entry trail status)
first_entry_holds (ByHeld slot seq) status = record { pins_are = λ slot. refl; frees_are = λ slot. refl; waits_are = refl; ready = tt }
first_entry_holds (ByPlanted worker attempt row) status = record { pins_are = λ slot. refl; frees_are = λ slot. refl; waits_are = refl; ready = tt }

next_entry_holds : (trail : Trail) (status : Status) (entry : ℕ) → ReadHolds (λ slot. if_same (slot_of trail) slot) (λ slot. 0) 0 (next_entry trail status entry)
next_entry_holds trail status entry =
    either_way (ReadHolds (λ slot. if_same (slot_of trail) slot) (λ slot. 0) 0) (nat_lt entry (MAX_ENTRIES - 1)) (FindEntry trail status (entry + 1)) (Unpin (slot_of trail) (seq_of trail) Again)
    (λ more. record { pins_are = λ slot. refl; frees_are = λ slot. refl; waits_are = refl; ready = tt })
    (λ last. record { pins_are = λ slot. refl; frees_are = λ slot. refl; waits_are = refl; ready = tt })

address_holds : (trail : Trail) (status : Status) (entry : ℕ) (is : Bool) → ReadHolds (λ slot. if_same (slot_of trail) slot) (λ slot. 0) 0 (address_seen trail status entry is)
address_holds trail status entry true = record { pins_are = λ slot. refl; frees_are = λ slot. refl; waits_are = refl; ready = tt }
address_holds trail status entry false = next_entry_holds trail status entry

resumed_holds : (frees : ℕ → ℕ) (onward : After) → ((slot : ℕ) → 0 ≡ frees slot) → ReadHolds (λ slot. 0) frees 0 (resumed onward)
resumed_holds frees Again none = record { pins_are = λ slot. refl; frees_are = none; waits_are = refl; ready = tt }
resumed_holds frees (Answer value) none = record { pins_are = λ slot. refl; frees_are = none; waits_are = refl; ready = tt }

-- What a read counts after a step.
pub goes_on_with : (address : ℕ) (point : Point) (observation : Observation) → IsReadReady point
    → ReadHolds (λ slot. pins_then slot point observation) (λ slot. frees_then slot point observation) (waits_then point observation) (goes address point observation)
goes_on_with address ReadDoor (SawDoor door) ready = either_way (ReadHolds (λ slot. 0) (λ slot. 0) 0) door.fault _ ReadWord
    (λ e. record { pins_are = λ slot. refl; frees_are = λ slot. refl; waits_are = refl; ready = tt })
    (λ e. record { pins_are = λ slot. refl; frees_are = λ slot. refl; waits_are = refl; ready = tt })
goes_on_with address ReadWord (SawWord word) ready = word_seen_holds word
goes_on_with address (ReadRow worker attempt) (SawRow row) ready = record { pins_are = λ slot. refl; frees_are = λ slot. refl; waits_are = refl; ready = tt }
goes_on_with address (ConfirmWord trail) (SawWord word) ready = either_way (ReadHolds (λ slot. 0) (λ slot. 0) 0) (same_word word (word_of trail)) (ReadGate trail) ReadDoor
    (λ e. record { pins_are = λ slot. refl; frees_are = λ slot. refl; waits_are = refl; ready = tt })
    (λ e. record { pins_are = λ slot. refl; frees_are = λ slot. refl; waits_are = refl; ready = tt })
goes_on_with address (ReadGate trail) (SawGate gate) ready = pinning_holds trail gate
goes_on_with address (Pin trail from to) Won ready = record { pins_are = λ slot. refl; frees_are = λ slot. refl; waits_are = refl; ready = tt }
goes_on_with address (Pin trail from to) Lost ready = record { pins_are = λ slot. refl; frees_are = λ slot. refl; waits_are = refl; ready = tt }
goes_on_with address (ReadStatus trail) (SawStatus status) ready = first_entry_holds trail status
goes_on_with address (FindEntry trail status entry) (SawNumber number) ready = address_holds trail status entry (number == address)
goes_on_with address (ReadExpected trail status entry) (SawNumber expected) ready = record { pins_are = λ slot. refl; frees_are = λ slot. refl; waits_are = refl; ready = tt }
goes_on_with address (ReadNew trail status entry expected) (SawNumber new) ready = record { pins_are = λ slot. refl; frees_are = λ slot. refl; waits_are = refl; ready = tt }
goes_on_with address (RecheckWord trail status expected new) (SawWord word) ready = record { pins_are = λ slot. refl; frees_are = λ slot. refl; waits_are = refl; ready = tt }
goes_on_with address (Unpin other seq next) (SawGate gate) ready =
    let frees : ℕ → ℕ = λ slot. cond (gate.pins == 1) (if_same other slot) 0 in
    either_way (ReadHolds (λ slot. 0) frees 0) (gate.pins == 1) (FreeSlot other seq next) (resumed next)
    (λ last. record { pins_are = λ slot. refl; frees_are = λ slot. sym (ap (λ b. cond b (if_same other slot) 0) last); waits_are = refl; ready = tt })
    (λ more. resumed_holds frees next (λ slot. sym (ap (λ b. cond b (if_same other slot) 0) more)))
goes_on_with address (FreeSlot other seq next) Won ready = record { pins_are = λ slot. refl; frees_are = λ slot. refl; waits_are = refl; ready = tt }
goes_on_with address (LowerDoor next) (SawDoor door) ready = resumed_holds (λ slot. 0) next (λ slot. refl)
goes_on_with address point observation ready = record { pins_are = λ slot. refl; frees_are = λ slot. refl; waits_are = refl; ready = ready }
