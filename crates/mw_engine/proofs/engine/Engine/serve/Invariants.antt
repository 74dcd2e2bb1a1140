-- Loop invariants of `Engine::serve` (src/serving.rt).
use Rattle.std.specs.Prelude.{◌≡◌}
use Rattle.mw_core.specs.FromTable.{IsCarried, IsOfSameWorker}
use Rattle.mw_engine.specs.History.{IsInProgress}
use Rattle.mw_engine.specs.Passes.{IsPassOf}
use Rattle.mw_engine.specs.Replies.{IsOnItsWay}
use Rattle.mw_engine.specs.RequestTurns.{IsBroughtTo}
use Rattle.mw_engine.proofs.engine.Engine.serve.Given as goal

-- the request has come, and is under way or has its reply
abbrev pub invariant-loop : goal.invariant-loop
invariant-loop g l = record {
  own : IsPassOf g.J.EngineBrand.identity l.pass;
  worker : IsOfSameWorker l.fn.pass l.pass;
  its : l.actor.tenant ≡ l.tenant;
  same_job : l.actor.job ≡ l.job;
  way : IsOnItsWay l.actor.job l.actor.point;
  carried : IsCarried l.pass l.actor;
  call : IsInProgress l.fn.pass.seat.me.0 l.pass.seat.me.0 l.actor;
  turns : IsBroughtTo g.D.Disk.facts g.J.EngineBrand.identity l.fn.pass l.tenant l.job l.pass l.actor;
}
