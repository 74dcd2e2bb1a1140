-- Defines a request's live slots: those of which it holds a pin and the one that it will free, each taken under the number by
-- which it knows it.
-- Used by: mw_law_store.
use Rattle.std.specs.Prelude.{Option, Some, None}
use Rattle.mw_look.specs.declared.observations.Observation.{Observation}
use Rattle.mw_look.specs.declared.observations.Observation.TheVariants.{Won}
use Rattle.mw_look.specs.Runs.{Hold, holds_at}
use Rattle.mw_look.specs.declared.points.Point.{Point as ReadPoint}
use Rattle.mw_look.specs.declared.points.Point.TheVariants.{Pin as PinOfRead, FreeSlot as FreeOfRead}
use Rattle.mw_actor.specs.declared.points.After.{After}
use Rattle.mw_actor.specs.declared.points.After.TheVariants.{Work, GiveUp as ThenGiveUp, Reply as ThenReply}
use Rattle.mw_actor.specs.declared.points.Point.{Point}
use Rattle.mw_actor.specs.declared.points.Point.TheVariants.{Read}
use Rattle.mw_actor.specs.declared.points.Task.{Task}
use Rattle.mw_actor.specs.Stages.{Stage, Reading, Claiming, WritingStatus, WritingCount, WritingAddr, WritingExpected, WritingNew, Preparing, Checking, Inspecting, Holding, Deciding, Working, Nearing, Pinning, Fetching, Leaving, Freeing, Lowering, GivingUp, stage}
use Rattle.mw_world.specs.Definition.State.{State}
use Rattle.mw_law_runs.specs.Moves.Guards.{IsLive}

-- the slots of both changes of a task are live: each is taken under its change's number
abbrev pub IsLiveTask : State → Task → Type 0
IsLiveTask state task = IsLive state task.own × IsLive state task.target

-- the slots of which a pin is held when this follows are live
abbrev pub AreLiveAfter : State → After → Type 0
AreLiveAfter state (Work task) = IsLiveTask state task
AreLiveAfter state (ThenGiveUp own undecided) = IsLive state own
AreLiveAfter state (ThenReply reply) = Unit {0}

-- the slots of a change at a stage are live; a read has its own case below, and never comes here
abbrev pub AreLiveAt : State → Stage → Type 0
AreLiveAt state (Reading tenant) = ⊥
AreLiveAt state (WritingStatus own) = IsLive state own
AreLiveAt state (WritingCount own) = IsLive state own
AreLiveAt state (WritingAddr own entry) = IsLive state own
AreLiveAt state (WritingExpected own entry) = IsLive state own
AreLiveAt state (WritingNew own entry) = IsLive state own
AreLiveAt state (Preparing own) = IsLive state own
AreLiveAt state (GivingUp own) = IsLive state own
AreLiveAt state (Checking task) = IsLiveTask state task
AreLiveAt state (Inspecting task entry) = IsLiveTask state task
AreLiveAt state (Holding task entry) = IsLiveTask state task
AreLiveAt state (Deciding task) = IsLiveTask state task
AreLiveAt state (Working task) = IsLiveTask state task
AreLiveAt state (Nearing task other) = IsLiveTask state task
AreLiveAt state (Pinning task other from to) = IsLiveTask state task
AreLiveAt state (Fetching task) = IsLiveTask state task
AreLiveAt state (Leaving slot onward) = IsLive state slot × AreLiveAfter state onward
AreLiveAt state (Freeing slot onward) = IsLive state slot × AreLiveAfter state onward
AreLiveAt state (Lowering onward) = AreLiveAfter state onward
AreLiveAt state now = Unit {0}

-- the slot of which a read holds a pin is live, if there is one
abbrev pub IsLiveHold : State → Option Hold → Type 0
IsLiveHold state None = Unit {0}
IsLiveHold state (Some hold) = IsLive state (record { slot = hold.slot; seq = hold.seq })

-- the slot of which a read holds a pin, or that it will free, is live
abbrev pub AreLiveInRead : State → ReadPoint → Type 0
AreLiveInRead state (FreeOfRead slot seq after) = IsLive state (record { slot = slot; seq = seq })
AreLiveInRead state point = IsLiveHold state (holds_at point)

-- the slots of a request at this point are live
abbrev pub AreLive : State → Point → Type 0
AreLive state (Read look) = AreLiveInRead state look.point
AreLive state point = AreLiveAt state (stage point)

-- The step takes no pin: it claims no slot, and pins none.
abbrev pub TakesNoPinAt : Stage → Observation → Type 0
TakesNoPinAt (Claiming slot from to) Won = ⊥
TakesNoPinAt (Pinning task other from to) Won = ⊥
TakesNoPinAt now observation = Unit {0}

-- the same of a read
abbrev pub TakesNoPinInRead : ReadPoint → Observation → Type 0
TakesNoPinInRead (PinOfRead trail from to) Won = ⊥
TakesNoPinInRead point observation = Unit {0}

-- the same of a read or a change
abbrev pub TakesNoPin : Point → Observation → Type 0
TakesNoPin (Read look) observation = TakesNoPinInRead look.point observation
TakesNoPin point observation = TakesNoPinAt (stage point) observation
