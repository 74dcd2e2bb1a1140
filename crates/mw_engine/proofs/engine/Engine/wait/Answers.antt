-- Goals of `Engine::wait` (src/combiner.rt).
use Rattle.mw_engine.proofs.engine.Engine.wait.Goals as goal

pub returns-in-Ok : goal.returns-in-Ok
returns-in-Ok g c = λ left its. c.in-Ok.ensures.gone_on left (c.loop.invariant.same left its)

pub loop-preserved : goal.loop-preserved
loop-preserved g c =
    let own = c.loop.invariant.own in
    record {
      own = record { left = own.left; is = c.in-Err.ensures.kept own.left own.is };
      same = λ left its. c.in-Err.ensures.kept left (c.loop.invariant.same left its);
    }
