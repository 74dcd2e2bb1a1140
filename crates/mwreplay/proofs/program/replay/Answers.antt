-- Goals of `replay` (src/program.rt).
use Rattle.mwreplay.proofs.Served.{may_print}
use Rattle.mwreplay.proofs.program.replay.Goals as goal

pub returns-in-Ok : goal.returns-in-Ok
returns-in-Ok g c =
    may_print c.args.trace c.in-Ok.schedule (g.O.Write.contents c.args.out.now) (g.O.Write.contents c.replay_schedule.new.out) c.replay_schedule.result
    c.in-Ok.ensures c.replay_schedule.ensures
