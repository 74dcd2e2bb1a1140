-- How many pins a request (a read or a change) holds at its point and after its next step. Also which slots it will free, and
-- which its door counts for it. Used by: FileCallsKeepCounts, GateSteps, QuietSteps, among others.
use Rattle.std.specs.Prelude.{ℕ, ◌≡◌}
use Rattle.std.proofs.Common.{refl, ◌∙◌}
use Rattle.mw_look.specs.declared.observations.Observation.{Observation}
use Rattle.mw_look.specs.declared.points.Point.{Point as ReadPoint}
use Rattle.mw_look.specs.declared.points.Point.TheVariants.{Pin as PinOfRead, Unpin as UnpinOfRead, FreeSlot as FreeOfRead, LowerDoor as LowerOfRead}
use Rattle.mw_look.specs.Program.{Reading, goes as look_goes}
use Rattle.mw_look.specs.Runs.{holds_at}
use Rattle.mw_actor.specs.declared.points.Point.{Point}
use Rattle.mw_actor.specs.declared.points.Point.TheVariants.{Read, Admit, Claim, PinOther, Unpin, FreeSlot, LowerDoor, GiveUp}
use Rattle.mw_actor.specs.ActorState.{ActorState}
use Rattle.mw_actor.specs.Program.{goes}
use Rattle.mw_actor.specs.Stages.{stage}
use Rattle.mw_world.specs.Definition.Counts.{pins_held, frees_at, waits_at, pin_of, frees_by_read, waits_in_read}
use Rattle.mw_law_runs.specs.Counts.Ready.{IsReadyAt, IsReady}
use Rattle.mw_law_runs.proofs.Counts.Balance.{Holds, goes_on_with}
use Rattle.mw_law_runs.specs.Counts.Then.{pins_then, frees_then, waits_then}
use Rattle.mw_law_runs.proofs.Counts.ReadBalance.{ReadHolds, pins_then as read_pins, frees_then as read_frees, waits_then as read_waits, goes_on_with as read_goes_on_with}

-- At this point a request holds so many pins of each slot, will free so many slots, and its door counts so many for it that aren't taken.
pub record PointHolds (actor : ActorState) (pins frees : ℕ → ℕ) (waits : ℕ) (point : Point) : Type 0 where
  pub pins_are : (slot : ℕ) → pins_held slot point ≡ pins slot
  pub frees_are : (slot : ℕ) → frees_at slot point ≡ frees slot
  pub waits_are : waits_at point ≡ waits
  pub ready : IsReady actor point

-- what is held at a change's stage is held at its point
of_stage : (actor : ActorState) (pins frees : ℕ → ℕ) (waits : ℕ) (point : Point) → Holds actor.quota pins frees waits (stage point) → PointHolds actor pins frees waits point
of_stage actor pins frees waits (Read look) on = absurd on.ready
of_stage actor pins frees waits point on = record { pins_are = on.pins_are; frees_are = on.frees_are; waits_are = on.waits_are; ready = on.ready }

-- a change goes on
pub change_goes : (actor : ActorState) (next : ℕ) (point : Point) (observation : Observation) → IsReadyAt actor.quota (stage point)
    → PointHolds actor (λ slot. pins_then slot (stage point) observation) (λ slot. frees_then slot (stage point) observation) (waits_then (stage point) observation) (goes actor next point observation)
change_goes actor next point observation ready =
    of_stage actor (λ slot. pins_then slot (stage point) observation) (λ slot. frees_then slot (stage point) observation) (waits_then (stage point) observation) (goes actor next point observation)
    (goes_on_with actor next point observation ready)

-- a read goes on
pub read_goes : (actor : ActorState) (next : ℕ) (look : Reading) (observation : Observation) → IsReady actor (Read look)
    → PointHolds actor (λ slot. read_pins slot look.point observation) (λ slot. read_frees slot look.point observation) (read_waits look.point observation) (goes actor next (Read look) observation)
read_goes actor next look observation ready =
    let on : ReadHolds (λ slot. read_pins slot look.point observation) (λ slot. read_frees slot look.point observation) (read_waits look.point observation) (look_goes look.address look.point observation) = read_goes_on_with look.address look.point observation ready.1 in
    record { pins_are = on.pins_are; frees_are = on.frees_are; waits_are = on.waits_are; ready = (ready.0, on.ready) }

-- At these points a read's step takes no pin, gives none back, frees nothing and lowers no door.
abbrev pub IsQuietRead : ReadPoint → Type 0
IsQuietRead (PinOfRead trail from to) = ⊥
IsQuietRead (UnpinOfRead slot seq next) = ⊥
IsQuietRead (FreeOfRead slot seq next) = ⊥
IsQuietRead (LowerOfRead next) = ⊥
IsQuietRead point = Unit {0}

-- the same of a read or a change, which also isn't admitted and doesn't give up
abbrev pub IsQuiet : Point → Type 0
IsQuiet (Read look) = IsQuietRead look.point
IsQuiet (Admit from to) = ⊥
IsQuiet (Claim slot saw_worn from to) = ⊥
IsQuiet (PinOther task other from to) = ⊥
IsQuiet (Unpin slot onward) = ⊥
IsQuiet (FreeSlot slot onward) = ⊥
IsQuiet (LowerDoor onward) = ⊥
IsQuiet (GiveUp own undecided) = ⊥
IsQuiet point = Unit {0}

quiet_read_pins : (slot : ℕ) (point : ReadPoint) (observation : Observation) → IsQuietRead point → read_pins slot point observation ≡ pin_of slot (holds_at point)
quiet_read_pins slot (PinOfRead trail from to) observation quiet = absurd quiet
quiet_read_pins slot (UnpinOfRead other seq next) observation quiet = absurd quiet
quiet_read_pins slot point observation quiet = refl

quiet_read_frees : (slot : ℕ) (point : ReadPoint) (observation : Observation) → IsQuietRead point → read_frees slot point observation ≡ frees_by_read slot point
quiet_read_frees slot (UnpinOfRead other seq next) observation quiet = absurd quiet
quiet_read_frees slot (FreeOfRead other seq next) observation quiet = absurd quiet
quiet_read_frees slot point observation quiet = refl

quiet_read_waits : (point : ReadPoint) (observation : Observation) → IsQuietRead point → read_waits point observation ≡ waits_in_read point
quiet_read_waits (FreeOfRead other seq next) observation quiet = absurd quiet
quiet_read_waits (LowerOfRead next) observation quiet = absurd quiet
quiet_read_waits point observation quiet = refl

-- At a quiet point a request holds the same after its step, whatever it learns.
pub quiet_goes : (actor : ActorState) (next : ℕ) (point : Point) (observation : Observation) → IsQuiet point → IsReady actor point
    → PointHolds actor (λ slot. pins_held slot point) (λ slot. frees_at slot point) (waits_at point) (goes actor next point observation)
quiet_goes actor next (Read look) observation quiet ready =
    let on : PointHolds actor (λ slot. read_pins slot look.point observation) (λ slot. read_frees slot look.point observation) (read_waits look.point observation) (goes actor next (Read look) observation) = read_goes actor next look observation ready in
    record {
      pins_are = λ slot. on.pins_are slot ∙ quiet_read_pins slot look.point observation quiet;
      frees_are = λ slot. on.frees_are slot ∙ quiet_read_frees slot look.point observation quiet;
      waits_are = on.waits_are ∙ quiet_read_waits look.point observation quiet;
      ready = on.ready;
    }
quiet_goes actor next (Admit from to) observation quiet ready = absurd quiet
quiet_goes actor next (Claim slot saw_worn from to) observation quiet ready = absurd quiet
quiet_goes actor next (PinOther task other from to) observation quiet ready = absurd quiet
quiet_goes actor next (Unpin slot onward) observation quiet ready = absurd quiet
quiet_goes actor next (FreeSlot slot onward) observation quiet ready = absurd quiet
quiet_goes actor next (LowerDoor onward) observation quiet ready = absurd quiet
quiet_goes actor next (GiveUp own undecided) observation quiet ready = absurd quiet
quiet_goes actor next point observation quiet ready = change_goes actor next point observation ready
