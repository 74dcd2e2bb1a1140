-- Defines the effect of a call of the engine that makes one step of a request.
-- Used by: src/file_lock/one_call.rt, src/serving.rt, src/steps.rt.
use Rattle.std.specs.Prelude.{◌≡◌, ◌≢◌, Bool, true, false, Option, Some, None}
use Rattle.mw_words.specs.declared.replies.Reply.{Reply}
use Rattle.mw_actor.specs.ActorState.{ActorState}
use Rattle.mw_actor.specs.Program.{replied}
use Rattle.mw_world.specs.Definition.Calls.{called_at}
use Rattle.mw_core.specs.FromTable.{IsIdleAfter, Pass}
use Rattle.mw_core.specs.declared.calls.Advance.{Advance}
use Rattle.mw_core.specs.Steps.{Advances, Begins, answer_of}

-- How the step ends. On an idle pass the request comes and makes its first step. Else its next step is made, unless a
-- call on a file is next.
abbrev pub EndsAs : Bool → Pass → Pass → ActorState → ActorState → Advance → Type 0
EndsAs true old new actor next result = (result ≡ answer_of (replied next)) × Begins old new actor next
EndsAs false old new actor next result = Advances old new actor next result

-- The pass is made idle if the request has its reply, and else is unchanged.
abbrev pub RestsAs : Option Reply → Pass → Pass → Type 0
RestsAs None old new = new ≡ old
RestsAs (Some reply) old new = IsIdleAfter old new

-- A step was made, or a call on a file is next. If the request then has its reply, the pass is idle.
pub record MakesStep (old new : Pass) (actor next : ActorState) (result : Advance) : Type 0 where
  pub made : Pass
  pub ends : EndsAs old.idle old made actor next result
  pub rests : RestsAs (replied next) made new

-- The request has come to a call on its tenant's file.
pub record IsAtCall (actor : ActorState) : Type 0 where
  pub running : replied actor ≡ None
  pub comes : called_at actor.point ≢ None

-- It is the same request: of the same worker and tenant, for the same job.
pub record IsSameRequest (old new : ActorState) : Type 0 where
  pub same_worker : new.worker ≡ old.worker
  pub same_tenant : new.tenant ≡ old.tenant
  pub same_job : new.job ≡ old.job
