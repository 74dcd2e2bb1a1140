-- After each step a request still has its own change, except after the last step that it makes for the change.
-- Used by: Cleaners, FileCalls, StepObligations.
use Rattle.std.specs.Prelude.{ℕ, ◌≡◌, List, Some}
use Rattle.mw_words.specs.declared.jobs.Entry.{Entry}
use Rattle.mw_look.specs.declared.observations.Observation.{Observation}
use Rattle.mw_look.specs.declared.observations.Observation.TheVariants.{SawDoor, SawGate, Won, Lost, Filed}
use Rattle.mw_actor.specs.declared.points.After.{After}
use Rattle.mw_actor.specs.declared.points.After.TheVariants.{Work, GiveUp as ThenGiveUp, Reply as ThenReply}
use Rattle.mw_actor.specs.declared.points.Point.{Point}
use Rattle.mw_actor.specs.declared.points.Point.TheVariants.{Read}
use Rattle.mw_actor.specs.declared.points.Slot.{Slot}
use Rattle.mw_actor.specs.declared.points.Task.{Task}
use Rattle.mw_actor.specs.ActorState.{ActorState}
use Rattle.mw_actor.specs.Help.{others_read}
use Rattle.mw_actor.specs.Program.{goes}
use Rattle.mw_law_runs.proofs.Requests.StageLaws.{goes_leads}
use Rattle.mw_actor.specs.Stages.{Stage, Reading, Outside, Entering, Seeking, Claiming, WritingStatus, WritingCount, WritingAddr, WritingExpected, WritingNew, Preparing, Checking, Inspecting, Holding, Deciding, Working, Nearing, Pinning, Fetching, Leaving, Freeing, Lowering, GivingUp, Over, stage, Resumes, OnTask, Leads}
use Rattle.mw_world.specs.Claim.Obligations.{GoesOn}
use Rattle.mw_law_runs.specs.Obligations.{own_after, own_at, own_of}
use Rattle.mw_law_runs.proofs.Obligations.Pins.{none_some}

-- The stage isn't the last one in which the request has its own change.
abbrev pub IsNotLast : Stage → Type 0
IsNotLast (GivingUp own) = ⊥
IsNotLast (Leaving slot onward) = GoesOn onward
IsNotLast now = Unit {0}

module _ (own : Slot) where
  -- the change is the request's own
  abbrev IsOwnAt : Stage → Type 0
  IsOwnAt now = own_at now ≡ Some own

  resumes : (onward : After) → own_after onward ≡ Some own → Resumes IsOwnAt onward
  resumes (Work task) is = (λ alone. is, λ other. is)
  resumes (ThenGiveUp one undecided) is = is
  resumes (ThenReply reply) is = absurd (none_some own is)

  on_task : (task : Task) → Some task.own ≡ Some own → OnTask IsOwnAt task
  on_task task is = record {
    checks = is;
    works = is;
    nears = λ other apart. is;
    turns_back = (λ alone. (λ one. is, λ two. is), λ other. is);
    ends = λ reply alone. is;
    gives_up = λ alone. is;
    leaves_and_gives_up = λ undecided other. is;
  }

  leads : (actor : ActorState) (others : List Entry) (now : Stage) (observation : Observation) → IsNotLast now → own_at now ≡ Some own → Leads IsOwnAt actor others now observation
  leads actor others (Reading tenant) observation more is = absurd (none_some own is)
  leads actor others Outside observation more is = absurd (none_some own is)
  leads actor others (Entering from to) observation more is = absurd (none_some own is)
  leads actor others Seeking observation more is = absurd (none_some own is)
  leads actor others (Claiming slot from to) observation more is = absurd (none_some own is)
  leads actor others (WritingStatus one) Won more is = is
  leads actor others (WritingCount one) Won more is = is
  leads actor others (WritingAddr one entry) Won more is = is
  leads actor others (WritingExpected one entry) Won more is = is
  leads actor others (WritingNew one entry) Won more is = (λ again. is, λ last. is)
  leads actor others (Preparing one) (Filed went_well) more is = (λ well. is, λ failed. is)
  leads actor others (Checking task) observation more is = (λ is_open. is, on_task task is)
  leads actor others (Inspecting task entry) observation more is = (is, is, λ held again. is, λ held last. is, on_task task is)
  leads actor others (Holding task entry) observation more is = (is, on_task task is)
  leads actor others (Deciding task) observation more is = (is, on_task task is)
  leads actor others (Working task) observation more is = on_task task is
  leads actor others (Nearing task other) observation more is = (is, is, λ from to pins. is)
  leads actor others (Pinning task other from to) Won more is = (λ alone. (λ one. is, λ two. is), λ not_alone. is)
  leads actor others (Pinning task other from to) Lost more is = is
  leads actor others (Fetching task) observation more is = (is, λ some. is)
  leads actor others (Leaving slot (Work task)) (SawGate gate) more is = (λ last. is, λ again. (λ alone. is, λ other. is))
  leads actor others (Leaving slot (ThenGiveUp one undecided)) (SawGate gate) more is = (λ last. is, λ again. is)
  leads actor others (Leaving slot (ThenReply reply)) observation more is = absurd more
  leads actor others (Freeing slot onward) Won more is = is
  leads actor others (Lowering onward) (SawDoor door) more is = resumes onward is
  leads actor others (GivingUp one) observation more is = absurd more
  leads actor others Over observation more is = absurd (none_some own is)
  leads actor others now observation more is = is

  of_stage : (point : Point) → own_at (stage point) ≡ Some own → own_of point ≡ Some own
  of_stage (Read look) is = is
  of_stage point is = is

  pub own_goes_on : (actor : ActorState) (next : ℕ) (point : Point) (observation : Observation) → IsNotLast (stage point) → own_of point ≡ Some own → own_of (goes actor next point observation) ≡ Some own
  own_goes_on actor next (Read look) observation more is = absurd (none_some own is)
  own_goes_on actor next point observation more is =
      of_stage (goes actor next point observation) (goes_leads IsOwnAt actor next point observation (leads actor (others_read actor.others point observation) (stage point) observation more is))
