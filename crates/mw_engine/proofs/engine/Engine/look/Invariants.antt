-- Loop invariants of `Engine::look` (src/reads.rt).
use Rattle.std.specs.Prelude.{◌≡◌, false}
use Rattle.mw_core.specs.FromTable.{IsCarried, IsOfSameWorker, View}
use Rattle.mw_engine.specs.History.{IsSince}
use Rattle.mw_engine.specs.Passes.{IsPassOf}
use Rattle.mw_engine.specs.Requests.{read_of}
use Rattle.mw_engine.proofs.engine.Engine.look.Given as goal

-- the read came with this call, or before it, and begins again
abbrev pub invariant-loop : goal.invariant-loop
invariant-loop g l = record {
  own : IsPassOf g.J.EngineBrand.identity l.pass;
  worker : IsOfSameWorker l.fn.pass l.pass;
  goes_on : l.pass.idle ≡ false → IsCarried l.pass (read_of g.J.EngineBrand.identity l.pass l.tenant l.address);
  call : (first : View) → IsSince l.fn.pass.idle first l.fn.pass.seat.me.0 (read_of g.J.EngineBrand.identity l.fn.pass l.tenant l.address) → IsSince l.pass.idle first l.pass.seat.me.0 (read_of g.J.EngineBrand.identity l.pass l.tenant l.address);
}
