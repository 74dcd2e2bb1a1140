-- Defines the counts of a change after its next step: its pins, the slots that it will free, and those that its door counts
-- for it.
-- Used by: proofs of this crate.
use Rattle.std.specs.Prelude.{ℕ, ◌+◌, ◌==◌, cond}
use Rattle.mw_look.specs.declared.observations.Observation.{Observation}
use Rattle.mw_look.specs.declared.observations.Observation.TheVariants.{SawDoor, SawGate, SawStatus, Won}
use Rattle.mw_look.specs.Runs.{if_same}
use Rattle.mw_actor.specs.Stages.{Stage, Entering, Claiming, Pinning, Leaving, Freeing, Lowering, GivingUp}
use Rattle.mw_actor.specs.Balance.{task_pins, pins_after, pins_at, to_free, to_lower}

-- the pins of this slot that it holds after the step
abbrev pub pins_then : ℕ → Stage → Observation → ℕ
pins_then slot (Claiming other from to) Won = if_same other slot
pins_then slot (Pinning task other from to) Won = if_same other.slot slot + task_pins slot task
pins_then slot (Leaving given onward) (SawGate gate) = pins_after slot onward
pins_then slot (GivingUp own) (SawStatus status) = 0
pins_then slot now observation = pins_at slot now

-- 1 if it will free this slot after the step, else 0
abbrev pub frees_then : ℕ → Stage → Observation → ℕ
frees_then slot (Leaving given onward) (SawGate gate) = cond (gate.pins == 1) (if_same given.slot slot) 0
frees_then slot (Freeing given onward) Won = 0
frees_then slot now observation = to_free slot now

-- 1 if the door counts a slot for it that isn't taken after the step, else 0
abbrev pub waits_then : Stage → Observation → ℕ
waits_then (Entering from to) Won = 1
waits_then (Claiming slot from to) Won = 0
waits_then (Freeing given onward) Won = 1
waits_then (Lowering onward) (SawDoor door) = 0
waits_then now observation = to_lower now
