-- Defines that a pass carries a request or has handed out its reply, and that the words of its next step exist.
-- Used by: src/passes.rt, mw_core.
use Rattle.std.specs.Prelude.{Some}
use Rattle.mw_actor.specs.ActorState.{ActorState}
use Rattle.mw_rule.specs.declared.views.WorkerToken.{WorkerToken}
use Rattle.mw_rule.specs.Steps.{Carries, IsReadyFor}
use Rattle.mw_table.specs.declared.shared.Pass.{Pass}

-- The pass carries this request, or has handed out its reply. The words of the request's next step, or of the call on
-- a file at which it is, are there.
pub record IsCarried (pass : Pass) (actor : ActorState) : Type 0 where
  pub token : WorkerToken
  pub carries : Carries pass.seat.me.0 pass.worker pass.attempt actor token
  pub ready : IsReadyFor pass.seat.me.0.config (Some actor)
