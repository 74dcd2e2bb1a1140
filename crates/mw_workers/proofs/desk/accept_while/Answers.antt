-- Goals of `accept_while` (src/desk.rt).
use Rattle.std.proofs.Common.{◌+◌}
use Rattle.mw_workers.proofs.ListenerCallLaws.{put_more}
use Rattle.mw_workers.proofs.desk.accept_while.Goals as goal

pub loop-preserved : goal.loop-preserved
loop-preserved g c =
    let so_far = c.loop.invariant in (
      so_far.0 + 1,
      put_more g.L.Listener.accepts g.W.Intake.puts c.args.listener.now c.args.waiting.now so_far.0 c.loop.listener c.loop.waiting c.accept_one.ensures.0
          c.accept_one.new.listener c.accept_one.new.waiting so_far.1 c.accept_one.ensures.1 c.accept_one.ensures.2,
    )
