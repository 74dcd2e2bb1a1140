-- Loop invariants of `write_counted` (src/writer.rt).
use Rattle.std.proofs.Common.{◌≡◌, length}
use Rattle.mw_session.specs.SessionParts.{Sending}
use Rattle.mw_session.specs.RecordedCalls.{HasMade}
use Rattle.mw_session.specs.KnownStreams.{IsTied, reads_of, writes_of}
use Rattle.mw_session.proofs.writer.write_counted.Given as goal

-- what was sent of the text, and the rest
abbrev pub invariant-loop-rest : goal.invariant-loop-rest
invariant-loop-rest g l =
    let T = g.T.PeerStream in
    record {
      sending : Sending (writes_of l.initial.stream) (writes_of l.stream) l.initial.count l.count l.text l.rest;
      reads : reads_of l.stream ≡ reads_of l.initial.stream;
      tied : IsTied T.remaining T.contents l.initial.stream l.stream;
      made : HasMade T.called l.initial.stream l.stream;
    }

abbrev pub decreases-loop-rest : goal.decreases-loop-rest
decreases-loop-rest g l = length l.rest
