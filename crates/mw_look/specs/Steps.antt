-- Defines the steps that a request's program asks for, with values in place of their 64 bits.
-- Used by: many crates from mw_actor on, look.rt, steps.rt. A new kind of step needs a case here, in src/steps.rt, and
-- wherever the world makes steps (mw_world).
use Rattle.std.specs.Prelude.{ℕ}
use Rattle.mw_words.specs.declared.places.At.{At}
use Rattle.mw_words.specs.declared.places.At.TheVariants.{Status as AtStatus}
use Rattle.mw_look.specs.declared.steps.Kind.{Kind}
use Rattle.mw_look.specs.declared.steps.Call.{Call}
use Rattle.mw_look.specs.declared.steps.Op.{Op}
use Rattle.mw_look.specs.declared.steps.Op.TheVariants.{Load as LoadBits, Change as ChangeBits, File as FileCall}
use Rattle.mw_look.specs.Places.{Val, Fits, pack, nil}

-- A step: a load of a place; a change of some kind at a place, from what an exchange expects there to what an
-- exchange or a store leaves; or a call on the file, for the change of a slot.
pub data Step : Type 0 where
  Load : (at : At) → Step
  Change : (kind : Kind) (at : At) (from to : Val at) → Step
  File : (call : Call) (slot : ℕ) → Step

-- the step in bits
abbrev pub op_of : Step → Op
op_of (Load at) = LoadBits at
op_of (Change kind at from to) = ChangeBits kind at (pack at from) (pack at to)
op_of (File call slot) = FileCall call slot

-- what a step expects at its place and what it leaves there is in range
abbrev pub StepFits : Step → Type 0
StepFits (Load at) = Unit {0}
StepFits (Change kind at from to) = Fits at from × Fits at to
StepFits (File call slot) = Unit {0}

-- a change to which the machine gives no value
abbrev pub fetch : Kind → At → Step
fetch kind at = Change kind at (nil at) (nil at)

-- a change that leaves this value, whatever was there
abbrev pub store : Kind → (at : At) → Val at → Step
store kind at to = Change kind at (nil at) to

-- the place that a step loads or changes; for a call on the file, the slot's status
abbrev pub place : Step → At
place (Load at) = at
place (Change kind at from to) = at
place (File call slot) = AtStatus slot

-- the same for a step in bits
abbrev pub place_of : Op → At
place_of (LoadBits at) = at
place_of (ChangeBits kind at from to) = at
place_of (FileCall call slot) = AtStatus slot
