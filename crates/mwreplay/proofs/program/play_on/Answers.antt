-- Goals of `play_on` (src/program.rt).
use Rattle.mwreplay.specs.Replayed.{status_after}
use Rattle.mwreplay.proofs.Served.{prints_halted, prints_whole}
use Rattle.mwreplay.proofs.program.play_on.Goals as goal

pub returns-in-Ok : goal.returns-in-Ok
returns-in-Ok g c =
    let W = g.O.Write.contents in
    prints_whole c.args.player c.play_lines.new.player (W c.args.out.now) (W c.play_lines.new.out) (W c.flush.new.out) c.args.lines.items c.in-Ok.field-0
    (status_after c.flush.result) c.in-Ok.ensures.same c.in-Ok.ensures.plays c.flush.ensures

pub returns : goal.returns
returns g c =
    let W = g.O.Write.contents in
    prints_halted c.args.player c.play_lines.new.player (W c.args.out.now) (W c.play_lines.new.out) c.args.lines.items c.in-Err.number c.in-Err.halt c.in-Err.reason c.at.result
    c.at.ensures c.in-Err.ensures.same c.in-Err.ensures.plays
