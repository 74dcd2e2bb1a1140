-- Goals of `RecordedStream::read` (src/recorded_stream.rt).
use Rattle.std.proofs.Common.{ap}
use Rattle.mw_session.specs.declared.transcript.Transcript.{Transcript}
use Rattle.mw_session.specs.KnownStreams.{reads_of, writes_of}
use Rattle.mw_session.proofs.Agreements.{agree_kept}
use Rattle.mw_session.proofs.recorded_stream.RecordedStream.read.Goals as goal

pub returns-in-Err-clause-tied : goal.returns-in-Err-clause-tied
returns-in-Err-clause-tied g c =
    let T = g.T.PeerStream in
    let old = c.args.self.now in
    let kept = c.with-self-in-Err in
    agree_kept (T.remaining old.inner) (T.remaining c.read.new.self) (T.contents old.inner) (T.contents c.read.new.self)
    (reads_of old) kept.result.reads (writes_of old) kept.result.writes c.in-Err.ensures.bytes c.read.ensures.contents
    (ap (λ (t : Transcript). t.reads.bytes) kept.ensures) (ap (λ (t : Transcript). t.writes.bytes) kept.ensures)
