-- When a request is ready for its next exchange of a gate or door, by its point: what it saw before allows the exchange.
-- Used by: mw_law_store. A new point of a read (points.rt of mw_look) or stage of a change (specs/Stages of mw_actor) that
-- exchanges a gate or door needs a case here: else it is in the last case, and always ready.
use Rattle.std.specs.Prelude.{ℕ, ◌≡◌, false}
use Rattle.mw_pool.specs.Moves.{Admits, Claims, Pins}
use Rattle.mw_look.specs.Program.{seq_of}
use Rattle.mw_look.specs.declared.points.Point.{Point as ReadPoint}
use Rattle.mw_look.specs.declared.points.Point.TheVariants.{Pin as PinOfRead}
use Rattle.mw_actor.specs.declared.points.Point.{Point}
use Rattle.mw_actor.specs.declared.points.Point.TheVariants.{Read}
use Rattle.mw_actor.specs.ActorState.{ActorState, same_slot}
use Rattle.mw_actor.specs.Stages.{Stage, Reading, Entering, Claiming, Nearing, Pinning, stage}

-- a change is ready at a stage, under its tenant's quota; a read has its own case below, and never comes here
abbrev pub IsReadyAt : ℕ → Stage → Type 0
IsReadyAt quota (Reading tenant) = ⊥
IsReadyAt quota (Entering from to) = Admits quota from to
IsReadyAt quota (Claiming slot from to) = Claims from to
IsReadyAt quota (Nearing task other) = same_slot other task.own ≡ false
IsReadyAt quota (Pinning task other from to) = (same_slot other task.own ≡ false) × Pins other.seq from to
IsReadyAt quota now = Unit {0}

-- a read is ready at a point
abbrev pub IsReadReady : ReadPoint → Type 0
IsReadReady (PinOfRead trail from to) = Pins (seq_of trail) from to
IsReadReady point = Unit {0}

-- a request is ready at a point; a read is of the request's tenant
abbrev pub IsReady : ActorState → Point → Type 0
IsReady actor (Read look) = (look.tenant ≡ actor.tenant) × IsReadReady look.point
IsReady actor point = IsReadyAt actor.quota (stage point)
