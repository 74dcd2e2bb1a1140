-- Lists the ends that a step of a request may have, for each label (addition to the history).
-- Used by: Dues/Steps, SimulationSteps/Turned, among others.
use Rattle.std.specs.Prelude.{ℕ, ◌≡◌, ◌⊎◌, true, false, Some, None}
use Rattle.std.proofs.Common.{sym, ap, ◌∙◌, inl}
use Rattle.mw_words.specs.declared.doors.Door.{Door}
use Rattle.mw_words.specs.declared.replies.Reply.{Reply}
use Rattle.mw_words.specs.declared.replies.Reply.TheVariants.{Val, Busy as SaysBusy, Fault as SaysFault}
use Rattle.mw_words.specs.declared.statuses.Status.{Status}
use Rattle.mw_look.specs.declared.observations.Observation.{Observation}
use Rattle.mw_look.specs.declared.observations.Observation.TheVariants.{SawDoor, SawStatus, Won}
use Rattle.mw_look.specs.declared.points.Point.{Point as ReadPoint}
use Rattle.mw_look.specs.declared.points.Point.TheVariants as look
use Rattle.mw_actor.specs.declared.points.After.TheVariants.{Reply as ThenReply}
use Rattle.mw_actor.specs.declared.points.Point.{Point}
use Rattle.mw_actor.specs.declared.points.Point.TheVariants.{Read, FreeSlot, LowerDoor, GiveUp, Unpin}
use Rattle.mw_actor.specs.declared.points.Slot.{Slot}
use Rattle.mw_world.specs.declared.step_labels.StepLabel.{StepLabel}
use Rattle.mw_world.specs.declared.step_labels.StepLabel.TheVariants.{Nothing, Admitted, FoundBusy, FoundFault, Looked, LookedBefore, Claimed, Moved, Freed, Lowered as IsLowered, GaveUp}
use Rattle.mw_world.specs.Definition.StepLabels.{inspect_label}
use Rattle.mw_law_runs.specs.Obligations.{own_of}
use Rattle.mw_law_runs.proofs.Obligations.Pins.{some_same}
use Rattle.mw_law_store.proofs.Dues.Onward.{Onward, Going, Finishing}
use Rattle.mw_law_store.proofs.Ends.{EndsBy, Same, Enters, Claiming, Freeing, Lowered, Dropped, Settles, Placed, Quitting}
use Rattle.mw_law_store.proofs.ReachablePoints.{is_reachable}
use Rattle.mw_law_store.specs.Due.{Waits, Works, due, Elsewhere, Retiring, Dropping, lowers}

-- What a request is told, as far as this decides the label of its step: that its store is made, what its door has, or its
-- change's status.
abbrev pub IsToldInRead : ReadPoint → Observation → Type 0
IsToldInRead (look.FreeSlot slot seq after) observation = observation ≡ Won
IsToldInRead (look.LowerDoor after) observation = (door : Door) × (observation ≡ SawDoor door)
IsToldInRead point observation = Unit {0}

abbrev pub IsToldAt : Point → Observation → Type 0
IsToldAt (Read reading) observation = IsToldInRead reading.point observation
IsToldAt (FreeSlot slot onward) observation = observation ≡ Won
IsToldAt (LowerDoor onward) observation = (door : Door) × (observation ≡ SawDoor door)
IsToldAt (GiveUp own undecided) observation = (status : Status) × (observation ≡ SawStatus status)
IsToldAt point observation = Unit {0}

-- A request goes on as before; or its own change has this reply, and it will take back its pin.
pub data KeepsOn (point after : Point) : Type 0 where
  Stays : EndsBy Same point after → KeepsOn point after
  Settled : (own : Slot) (reply : Reply) → after ≡ Unpin own (ThenReply reply) → EndsBy (Settles own reply) point after → KeepsOn point after

-- the ends that a step with this label may have
abbrev pub EndOf : StepLabel → Point → Point → Type 0
EndOf Nothing point after = KeepsOn point after ⊎ EndsBy Quitting point after
EndOf Admitted point after = EndsBy Enters point after
EndOf FoundBusy point after = EndsBy (Placed SaysBusy) point after
EndOf FoundFault point after = EndsBy (Placed SaysFault) point after
EndOf Looked point after = (value : ℕ) × EndsBy (Placed (Val value)) point after
EndOf LookedBefore point after = (value : ℕ) × EndsBy (Placed (Val value)) point after
EndOf (Claimed own) point after = EndsBy (Claiming own) point after
EndOf (Moved target address phase) point after = KeepsOn point after
EndOf (Freed slot) point after = EndsBy Freeing point after
EndOf IsLowered point after = EndsBy Lowered point after ⊎ EndsBy Dropped point after
EndOf (GaveUp own true) point after = EndsBy (Settles own SaysFault) point after
EndOf (GaveUp own false) point after = ((reply : Reply) × EndsBy (Settles own reply) point after) ⊎ EndsBy Quitting point after
EndOf label point after = EndsBy Same point after

-- and the request is at a point that it can reach
abbrev pub StepEnds : StepLabel → Point → Point → Type 0
StepEnds label point after = EndOf label point after × (is_reachable after ≡ true)

-- a request that lowers no door, or lowers it for its own request without a slot, does not lower it for a slot that was freed
pub elsewhere : Elsewhere ≡ Retiring → ⊥
elsewhere e = cc

pub dropping : Dropping ≡ Retiring → ⊥
dropping e = cc

-- a request with a change of its own keeps on
module _ (own : Slot) (point after : Point) (is_due : due point ≡ Works) (its_own : own_of point ≡ Some own) where
  pub keeps_on : Onward own after → KeepsOn point after
  keeps_on (Going is mine low quiet meant) = Stays (is ∙ sym is_due, (λ other has. its_own ∙ sym mine ∙ has), (λ falls. elsewhere (sym low ∙ falls)))
  keeps_on (Finishing reply goes is meant) =
      Settled own reply goes
      (is_due, its_own, ap due goes ∙ is, (λ mine has. some_same mine own (sym has ∙ ap own_of goes)), (λ falls. elsewhere (sym (ap lowers goes) ∙ falls)))

  pub is_meant_on : Onward own after → is_reachable after ≡ true
  is_meant_on (Going is mine low quiet meant) = meant
  is_meant_on (Finishing reply goes is meant) = meant

  pub is_quiet_on : Onward own after → inspect_label after ≡ Nothing
  is_quiet_on (Going is mine low quiet meant) = quiet
  is_quiet_on (Finishing reply goes is meant) = ap inspect_label goes

-- A request that looks for a slot.
pub record Seeks (after : Point) : Type 0 where
  pub is_due : due after ≡ Waits true
  pub no_change : own_of after ≡ None
  pub not_retiring : lowers after ≡ Retiring → ⊥
  pub meant : is_reachable after ≡ true

pub seeks_on : (point after : Point) → due point ≡ Waits true → own_of point ≡ None → Seeks after → StepEnds Nothing point after
seeks_on point after is none seeks = (inl (Stays (seeks.is_due ∙ sym is, (λ mine has. none ∙ sym seeks.no_change ∙ has), seeks.not_retiring)), seeks.meant)
