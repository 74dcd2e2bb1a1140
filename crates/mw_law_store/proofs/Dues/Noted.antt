-- Each step, and each call on a file, leaves its request as the step's label says. The label is what the step adds to the
-- history. Used by: ReachedPoints, Called, Turned.
use Rattle.std.specs.Prelude.{ℕ, ◌≡◌, Bool, true, false, Some}
use Rattle.std.proofs.Common.{refl, subst, inl, inr}
use Rattle.mw_words.specs.declared.jobs.Job.{Job}
use Rattle.mw_words.specs.declared.jobs.Job.TheVariants.{Get, Cas}
use Rattle.mw_words.specs.declared.replies.Reply.{Reply}
use Rattle.mw_words.specs.declared.replies.Reply.TheVariants.{Val, Yes as SaysYes, No as SaysNo, Busy as SaysBusy, Fault as SaysFault, Worn as SaysWorn}
use Rattle.mw_lone.specs.Store.{is_cas}
use Rattle.mw_look.proofs.RangeLaws.{either_way}
use Rattle.mw_look.specs.declared.observations.Observation.{Observation}
use Rattle.mw_look.specs.declared.observations.Observation.TheVariants.{Filed}
use Rattle.mw_look.specs.declared.points.Point.{Point as ReadPoint}
use Rattle.mw_look.specs.declared.points.Point.TheVariants as look
use Rattle.mw_look.specs.Program.{asks_at as asks_in_read}
use Rattle.mw_actor.specs.declared.points.After.TheVariants.{Work, GiveUp as ThenGiveUp, Reply as ThenReply}
use Rattle.mw_actor.specs.declared.points.Point.{Point}
use Rattle.mw_actor.specs.declared.points.Point.TheVariants.{Read, Prepare, Seal, Settle, Cancel, Unpin, FreeSlot, LowerDoor, GiveUp}
use Rattle.mw_actor.specs.ActorState.{ActorState, is_alone}
use Rattle.mw_actor.specs.Asks.{asks_at}
use Rattle.mw_actor.specs.Program.{goes}
use Rattle.mw_world.specs.declared.step_labels.StepLabel.{StepLabel}
use Rattle.mw_world.specs.Definition.Calls.{Called, called_at}
use Rattle.mw_world.specs.Definition.Cells.{Cells}
use Rattle.mw_look.specs.declared.steps.Shape.TheVariants.{Exchange, Store, Fetch}
use Rattle.mw_world.specs.Definition.StepLabels.{label_of}
use Rattle.mw_law_runs.specs.Knowledge.Informed.{IsPointFor}
use Rattle.mw_law_runs.proofs.StepEnds.{Ends}
use Rattle.mw_law_runs.proofs.Obligations.Pins.{none_some}
use Rattle.mw_law_store.proofs.Dues.StepEnds.{IsToldInRead, IsToldAt, EndOf, elsewhere}
use Rattle.mw_law_store.proofs.Dues.Steps.{step_ends}
use Rattle.mw_law_store.proofs.Ends.{EndsBy, Same}
use Rattle.mw_law_store.proofs.ReachablePoints.{is_reachable}
use Rattle.mw_law_store.specs.Due.{due, due_reply, waits}

module _ (actor : ActorState) (next : ℕ) (point : Point) (observation : Observation) (meant : is_reachable point ≡ true) (told : IsToldAt point observation) where
  -- A step with this label ends so.
  pub ends_as : (label : StepLabel) → label_of actor point observation (goes actor next point observation) ≡ label → EndOf label point (goes actor next point observation)
  ends_as label is = subst (λ (one : StepLabel). EndOf one point (goes actor next point observation)) is (step_ends actor next point observation meant told).0

  -- It leaves the request at a point that a request can reach.
  pub meant_goes : is_reachable (goes actor next point observation) ≡ true
  meant_goes = (step_ends actor next point observation meant told).1

-- What a request is told is what memory gives.
no_exchange : Store ≡ Exchange → ⊥
no_exchange e = cc

no_fetch : Fetch ≡ Exchange → ⊥
no_fetch e = cc

told_in_read : (cells : Cells) (tenant address : ℕ) (point : ReadPoint) (observation : Observation) → Ends cells (asks_in_read tenant address point) observation → IsToldInRead point observation
told_in_read cells tenant address (look.FreeSlot slot seq after) observation (inl quiet) = absurd (no_exchange quiet.0)
told_in_read cells tenant address (look.FreeSlot slot seq after) observation (inr changes) = changes
told_in_read cells tenant address (look.LowerDoor after) observation (inl quiet) = absurd (no_fetch quiet.0)
told_in_read cells tenant address (look.LowerDoor after) observation (inr changes) = (cells.doors tenant, changes)
told_in_read cells tenant address point observation ends = tt

pub told_at : (cells : Cells) (actor : ActorState) (point : Point) (observation : Observation) → Ends cells (asks_at actor point) observation → IsToldAt point observation
told_at cells actor (Read reading) observation ends = told_in_read cells reading.tenant reading.address reading.point observation ends
told_at cells actor (FreeSlot slot onward) observation (inl quiet) = absurd (no_exchange quiet.0)
told_at cells actor (FreeSlot slot onward) observation (inr changes) = changes
told_at cells actor (LowerDoor onward) observation (inl quiet) = absurd (no_fetch quiet.0)
told_at cells actor (LowerDoor onward) observation (inr changes) = (cells.doors actor.tenant, changes)
told_at cells actor (GiveUp own undecided) observation (inl quiet) = (cells.statuses own.slot, quiet)
told_at cells actor (GiveUp own undecided) observation (inr changes) = absurd changes
told_at cells actor point observation ends = tt

-- After a call on its file a request goes on as before, however the call ended.
abbrev IsSame : Point → Point → Type 0
IsSame point after = EndsBy Same point after × (is_reachable after ≡ true)

pub call_keeps : (actor : ActorState) (next : ℕ) (point : Point) (called : Called) (went_well : Bool) → called_at point ≡ Some called → IsSame point (goes actor next point (Filed went_well))
call_keeps actor next (Prepare own) called true is = ((refl, (λ mine has. has), elsewhere), refl)
call_keeps actor next (Prepare own) called false is = ((refl, (λ mine has. has), elsewhere), refl)
call_keeps actor next (Seal task) called true is = ((refl, (λ mine has. has), elsewhere), refl)
call_keeps actor next (Seal task) called false is =
    either_way (IsSame (Seal task)) (is_alone task) (GiveUp task.own SaysFault) (Unpin task.target (ThenGiveUp task.own SaysFault)) (λ e. ((refl, (λ mine has. has), elsewhere), refl)) (λ e. ((refl, (λ mine has. has), elsewhere), refl))
call_keeps actor next (Settle task) called true is = ((refl, (λ mine has. has), elsewhere), refl)
call_keeps actor next (Settle task) called false is =
    either_way (IsSame (Settle task)) (is_alone task) (GiveUp task.own SaysFault) (Unpin task.target (ThenGiveUp task.own SaysFault)) (λ e. ((refl, (λ mine has. has), elsewhere), refl)) (λ e. ((refl, (λ mine has. has), elsewhere), refl))
call_keeps actor next (Cancel task) called went_well is = ((refl, (λ mine has. has), elsewhere), refl)
call_keeps actor next point called went_well is = absurd (none_some called is)

-- At this point a slot is freed.
abbrev pub FreesAt : Point → Type 0
FreesAt (Read reading) = Unit {0}
FreesAt (FreeSlot slot onward) = Unit {0}
FreesAt point = ⊥

-- A change that waits for a slot frees none.
pub who_frees_reads : (job : Job) (point : Point) → FreesAt point → IsPointFor job point → waits (due point) ≡ true → is_cas job ≡ true → ⊥
who_frees_reads (Get address) point frees for_job waiting is_change = cc
who_frees_reads (Cas entries) (Read reading) frees for_job waiting is_change = for_job
who_frees_reads (Cas entries) (FreeSlot slot (Work task)) frees for_job waiting is_change = cc
who_frees_reads (Cas entries) (FreeSlot slot (ThenGiveUp own undecided)) frees for_job waiting is_change = cc
who_frees_reads (Cas entries) (FreeSlot slot (ThenReply reply)) frees for_job waiting is_change = never reply waiting
  where
    never : (reply : Reply) → waits (due_reply reply) ≡ true → ⊥
    never (Val value) is = cc
    never SaysYes is = cc
    never (SaysNo address value) is = cc
    never SaysBusy is = cc
    never SaysFault is = cc
    never SaysWorn is = cc
who_frees_reads (Cas entries) point frees for_job waiting is_change = absurd frees
