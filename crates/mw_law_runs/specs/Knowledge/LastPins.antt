-- Defines that, when a request takes back the last pin of a slot, no word refers to the slot.
-- Used by: specs/Knowledge/MoveGuards, specs/ObligationLaws.
use Rattle.std.specs.Prelude.{ℕ, ◌≡◌}
use Rattle.mw_look.specs.declared.points.Point.{Point as ReadPoint}
use Rattle.mw_look.specs.declared.points.Point.TheVariants.{Unpin as UnpinOfRead}
use Rattle.mw_actor.specs.declared.points.Point.{Point}
use Rattle.mw_actor.specs.declared.points.Point.TheVariants.{Read, Unpin}
use Rattle.mw_world.specs.Definition.State.{State}
use Rattle.mw_law_runs.specs.Moves.Guards.{NoWordRefers}

-- if the slot has one pin, no word refers to it
abbrev pub IsFreeOfWords : State → ℕ → Type 0
IsFreeOfWords state slot = (state.cells.gates slot).pins ≡ 1 → NoWordRefers state slot

-- if a read takes back a pin of a slot, and it is the only one, no word refers to the slot
abbrev pub ReadMayLeave : State → ReadPoint → Type 0
ReadMayLeave state (UnpinOfRead slot seq after) = IsFreeOfWords state slot
ReadMayLeave state point = Unit {0}

-- the same of a read or a change
abbrev pub MayLeave : State → Point → Type 0
MayLeave state (Read look) = ReadMayLeave state look.point
MayLeave state (Unpin slot onward) = IsFreeOfWords state slot.slot
MayLeave state point = Unit {0}
