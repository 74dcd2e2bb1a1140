-- Defines what a step may make of a door or a gate: admit, claim, pin, unpin and free. Each move has a relation between the
-- value before it and the value after it, of values in range, and a function that gives the value after it. If the result
-- would be out of range there is no move, and the function gives nothing.
-- Used by: many crates from mw_look on, doors.rt, gates.rt. A change here changes the algorithm, and the laws above must be
-- proved again.
use Rattle.std.specs.Prelude.{◌≡◌, ℕ, ◌+◌, ◌-◌, ◌<◌, ◌≤◌, ◌==◌, ◌&&◌, true, false, not, cond, nat_lt, nat_le, Some, None}
use Rattle.std.specs.declared.option.Option.{Option}
use Rattle.mw_words.specs.declared.limits.TheConstants.{WORN_NUMBER, MAX_PINS}
use Rattle.mw_words.specs.declared.doors.Door.{Door}
use Rattle.mw_words.specs.declared.gates.Gate.{Gate}
use Rattle.mw_words.specs.Patterns.{IsDoorInRange}
use Rattle.mw_pool.specs.declared.doors.Admission.{Admission}
use Rattle.mw_pool.specs.declared.doors.Admission.TheVariants.{Fault, Busy, To}

-- A change is admitted: its tenant's file hasn't failed, and fewer slots are in use than the quota. Then one more is in use.
pub record Admits (quota : ℕ) (before after : Door) : Type 0 where
  pub had_no_fault : before.fault ≡ false
  pub was_below_quota : before.used < quota
  pub has_no_fault : after.fault ≡ false
  pub one_more : after.used ≡ before.used + 1

-- What a door answers. `Fault`: the file has failed. `Busy`: it hasn't, and no slot of the quota is left. `To`: the
-- door that counts the admitted change.
abbrev pub Says : Door → ℕ → Admission → Type 0
Says door quota Fault = door.fault ≡ true
Says door quota Busy = (door.fault ≡ false) × (quota ≤ door.used)
Says door quota (To after) = Admits quota door after × IsDoorInRange after

-- the door's answer
abbrev pub after_admit : Door → ℕ → Admission
after_admit door quota = cond door.fault Fault (cond (nat_lt door.used quota) (To (record door { used = door.used + 1 })) Busy)

-- A gate is claimed: it isn't taken and its number isn't worn. Then it is taken, with one pin and the same number.
pub record Claims (before after : Gate) : Type 0 where
  pub was_not_taken : before.taken ≡ false
  pub was_not_worn : before.seq < WORN_NUMBER
  pub is_taken : after.taken ≡ true
  pub has_one_pin : after.pins ≡ 1
  pub same_number : after.seq ≡ before.seq

-- the gate after a claim, if it can be claimed
abbrev pub after_claim : Gate → Option Gate
after_claim gate = cond (not gate.taken && nat_lt gate.seq WORN_NUMBER) (Some (record { taken = true; pins = 1; seq = gate.seq })) None

-- A gate is pinned under a number: it is taken and has a pin and that number. Then it has one pin more.
pub record Pins (seq : ℕ) (before after : Gate) : Type 0 where
  pub was_taken : before.taken ≡ true
  pub was_pinned : 1 ≤ before.pins
  pub had_that_number : before.seq ≡ seq
  pub is_taken : after.taken ≡ true
  pub one_more : after.pins ≡ before.pins + 1
  pub same_number : after.seq ≡ before.seq

-- the gate with one pin more, if it can be pinned: a gate with the most pins can't
abbrev pub after_pin : Gate → ℕ → Option Gate
after_pin gate seq = cond (gate.taken && nat_le 1 gate.pins && nat_lt gate.pins MAX_PINS && (gate.seq == seq)) (Some (record gate { pins = gate.pins + 1 })) None

-- A gate loses one pin, and nothing else changes.
pub record Unpins (before after : Gate) : Type 0 where
  pub same_taken : after.taken ≡ before.taken
  pub one_less : after.pins + 1 ≡ before.pins
  pub same_number : after.seq ≡ before.seq

-- the gate with one pin less
abbrev pub after_unpin : Gate → Gate
after_unpin gate = record gate { pins = gate.pins - 1 }

-- A gate is freed: it is taken and has no pins. Then it isn't taken, has no pins, and has the next number.
pub record Frees (before after : Gate) : Type 0 where
  pub was_taken : before.taken ≡ true
  pub had_no_pins : before.pins ≡ 0
  pub is_not_taken : after.taken ≡ false
  pub has_no_pins : after.pins ≡ 0
  pub next_number : after.seq ≡ before.seq + 1

-- the gate after it is freed, if it can be: a gate with the worn number can't
abbrev pub after_free : Gate → Option Gate
after_free gate = cond (gate.taken && (gate.pins == 0) && nat_lt gate.seq WORN_NUMBER) (Some (record { taken = false; pins = 0; seq = gate.seq + 1 })) None
