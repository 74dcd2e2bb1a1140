-- Goals of `receive_from` (src/receiving.rt): the bytes so far hold no head, until something came.
use Rattle.std.proofs.Common.{inr, ◌∙◌, arith}
use Rattle.mw_session.specs.KnownStreams.{reads_of}
use Rattle.mw_http.proofs.receiving.receive_from.Goals as goal

pub loop-preserved : goal.loop-preserved
loop-preserved g c =
    let so = c.loop.invariant in
    let more = c.in_default.ensures.comes (reads_of c.args.stream.now) so.read so.more in
    record {
      long = omega (arith, so.long, more.0);
      short = more.2.1;
      read = more.1;
      more = inr more.2;
      writes = c.receive_more.ensures.writes ∙ so.writes;
    }

pub returns-in-Some-clause-received : goal.returns-in-Some-clause-received
returns-in-Some-clause-received g c = c.in-Some.ensures.comes (reads_of c.args.stream.now) c.loop.invariant.read c.loop.invariant.more
