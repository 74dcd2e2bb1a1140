-- After one step without a reply, or before a call on its file, a request is the same and under way. Used by: Engine::go_on.
use Rattle.std.specs.Prelude.{◌≡◌, false, Option, None, if◌then◌else◌, is_some}
use Rattle.std.proofs.Common.{refl}
use Rattle.mw_look.specs.declared.steps.Call.{Call}
use Rattle.mw_actor.specs.ActorState.{ActorState}
use Rattle.mw_actor.specs.Program.{replied}
use Rattle.mw_core.specs.FromTable.{IsCarried, Pass, View}
use Rattle.mw_core.specs.declared.calls.Advance.{Advance}
use Rattle.mw_core.specs.declared.calls.Advance.TheVariants.{NeedsFile}
use Rattle.mw_core.specs.Steps.{Advances, Steps, answer_of}
use Rattle.mw_core.proofs.StepEnds.{advanced}
use Rattle.mw_engine.specs.History.{IsInProgress}
use Rattle.mw_engine.specs.Replies.{IsOnItsWay}
use Rattle.mw_engine.specs.Steps.{IsSameRequest}
use Rattle.mw_engine.proofs.RequestAfterStep.{same_request}
use Rattle.mw_engine.proofs.Histories.{advanced_serves}
use Rattle.mw_engine.proofs.PassAfterCall.{advanced_files}
use Rattle.mw_engine.proofs.RepliesOfJobs.{advanced_way}

module _ (old new : Pass) (actor next : ActorState) (call : Option Call) (running : replied actor ≡ None) (steps : Steps old new actor next call) where
  abbrev answer : Advance
  answer = if is_some call then NeedsFile else answer_of (replied next)

  advances : Advances old new actor next answer
  advances = advanced old new actor next call answer running steps refl

  -- no step changes which file passes its pass has
  pub stepped_files : new.seat.me.0.files ≡ old.seat.me.0.files
  stepped_files = advanced_files old new actor next answer advances

  -- it is the same request, and its thread still serves it
  pub stepped_same : IsSameRequest actor next
  stepped_same = same_request false old new actor next answer advances

  pub stepped_serves : (first : View) → IsInProgress first old.seat.me.0 actor → IsInProgress first new.seat.me.0 next
  stepped_serves first served = advanced_serves first old new actor next answer served advances

  pub stepped_way : IsCarried old actor → IsOnItsWay actor.job actor.point → IsOnItsWay next.job next.point
  stepped_way carried way = advanced_way old new actor next answer carried advances way
