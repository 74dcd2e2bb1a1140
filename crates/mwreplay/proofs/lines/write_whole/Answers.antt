-- Goals of `write_whole` (src/lines.rt).
use Rattle.std.proofs.Common.{sym, subst, take}
use Rattle.std.specs.Io.KnownBytes.{Appends}
use Rattle.mwreplay.proofs.WrittenText.{sending_starts, sending_more, write_takes}
use Rattle.mwreplay.proofs.lines.write_whole.Goals as goal

pub loop-rest-init : goal.loop-rest-init
loop-rest-init g c = sending_starts (g.W.Write.contents c.args.out.now) c.args.text.now

pub loop-rest-preserved : goal.loop-rest-preserved
loop-rest-preserved g c =
    let W = g.W.Write.contents in
    let rest = c.loop-rest.rest.now in
    let taken = c.unwrap_or-taken.result in
    sending_more (W c.args.out.now) (W c.loop-rest.out) (W c.write.new.self) c.args.text.now rest taken
    c.loop-rest.invariant
    (subst (λ k. Appends (W c.loop-rest.out) (W c.write.new.self) (take k rest)) (sym c.unwrap_or-taken.ensures)
    (write_takes (W c.loop-rest.out) (W c.write.new.self) c.write.result rest c.write.ensures.bytes))
