-- Goals of `RecordedStream::write` (src/recorded_stream.rt).
use Rattle.std.proofs.Common.{ap, subst, sym, ◌∙◌, ◌++◌, [], take, append-nil}
use Rattle.std.specs.Io.KnownBytes.{Appends}
use Rattle.mw_session.specs.declared.transcript.Transcript.{Transcript}
use Rattle.mw_session.specs.KnownStreams.{reads_of, writes_of}
use Rattle.mw_session.proofs.Agreements.{agree_kept, agree_written}
use Rattle.mw_session.proofs.recorded_stream.RecordedStream.write.Goals as goal

pub returns-in-Ok-eq0-clause-tied : goal.returns-in-Ok-eq0-clause-tied
returns-in-Ok-eq0-clause-tied g c =
    let T = g.T.PeerStream in
    let old = c.args.self.now in
    let kept = c.with-self in
    agree_written (T.remaining old.inner) (T.remaining c.write.new.self) (T.contents old.inner) (T.contents c.write.new.self)
    (reads_of old) kept.result.reads (writes_of old) kept.result.writes [] c.write.ensures.remaining
    (subst (λ i. Appends (T.contents old.inner) (T.contents c.write.new.self) (take i c.args.text.now)) c.in-Ok-eq0.field-0-test c.in-Ok-eq0.ensures.bytes)
    (ap (λ (t : Transcript). t.reads.bytes) kept.ensures)
    (ap (λ (t : Transcript). t.writes.bytes) kept.ensures ∙ sym (append-nil (writes_of old).bytes))

pub returns-in-Ok-clause-tied : goal.returns-in-Ok-clause-tied
returns-in-Ok-clause-tied g c =
    let T = g.T.PeerStream in
    let old = c.args.self.now in
    let more = c.with-self-in-Ok in
    agree_written (T.remaining old.inner) (T.remaining c.write.new.self) (T.contents old.inner) (T.contents c.write.new.self)
    (reads_of old) more.result.reads (writes_of old) more.result.writes (take c.in-Ok.count c.args.text.now) c.write.ensures.remaining c.in-Ok.ensures.bytes
    (ap (λ (t : Transcript). t.reads.bytes) more.ensures)
    (ap (λ (t : Transcript). t.writes.bytes) more.ensures ∙ ap (λ l. (writes_of old).bytes ++ l) c.of-bytes.ensures)

pub returns-in-Err-clause-tied : goal.returns-in-Err-clause-tied
returns-in-Err-clause-tied g c =
    let T = g.T.PeerStream in
    let old = c.args.self.now in
    let kept = c.with-self-in-Err in
    agree_kept (T.remaining old.inner) (T.remaining c.write.new.self) (T.contents old.inner) (T.contents c.write.new.self)
    (reads_of old) kept.result.reads (writes_of old) kept.result.writes c.write.ensures.remaining c.in-Err.ensures.bytes
    (ap (λ (t : Transcript). t.reads.bytes) kept.ensures) (ap (λ (t : Transcript). t.writes.bytes) kept.ensures)
