-- Goals of `accept_some` (src/acceptor.rt).
use Rattle.mw_workers.proofs.ListenerCallLaws.{put_more}
use Rattle.mw_workers.proofs.acceptor.accept_some.Goals as goal

pub loop-preserved : goal.loop-preserved
loop-preserved g c =
    put_more g.L.Listener.accepts g.W.Intake.puts c.args.listener.now c.args.waiting.now c.loop.counter c.loop.listener c.loop.waiting c.accept_one.ensures.0
    c.accept_one.new.listener c.accept_one.new.waiting c.loop.invariant c.accept_one.ensures.1 c.accept_one.ensures.2
