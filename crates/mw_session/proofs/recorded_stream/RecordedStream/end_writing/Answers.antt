-- Goals of `RecordedStream::end_writing` (src/recorded_stream.rt).
use Rattle.std.proofs.Common.{refl}
use Rattle.mw_session.specs.KnownStreams.{reads_of, writes_of}
use Rattle.mw_session.proofs.Agreements.{agree_kept}
use Rattle.mw_session.proofs.recorded_stream.RecordedStream.end_writing.Goals as goal

pub returns-clause-tied : goal.returns-clause-tied
returns-clause-tied g c =
    let T = g.T.PeerStream in
    let old = c.args.self.now in
    agree_kept (T.remaining old.inner) (T.remaining c.end_writing.new.self) (T.contents old.inner) (T.contents c.end_writing.new.self)
    (reads_of old) (reads_of old) (writes_of old) (writes_of old) c.end_writing.ensures.remaining c.end_writing.ensures.contents refl refl
