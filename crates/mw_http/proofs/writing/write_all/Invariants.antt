-- Loop invariants of `write_all` (src/writing.rt).
use Rattle.std.proofs.Common.{◌≡◌, length}
use Rattle.mw_session.specs.KnownStreams.{reads_of, writes_of}
use Rattle.mw_http.proofs.ExchangeLaws.{Sending}
use Rattle.mw_http.proofs.writing.write_all.Given as goal

-- what was sent of the text, and the rest
abbrev pub invariant-loop-rest : goal.invariant-loop-rest
invariant-loop-rest g l = record {
  sending : Sending (writes_of l.initial.stream) (writes_of l.stream) l.text l.rest;
  reads : reads_of l.stream ≡ reads_of l.initial.stream;
}

abbrev pub decreases-loop-rest : goal.decreases-loop-rest
decreases-loop-rest g l = length l.rest
