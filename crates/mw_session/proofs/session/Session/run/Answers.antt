-- Goals of `Session::run` (src/session.rt): its loop keeps its invariant, and its contract holds however the session ends.
use Rattle.std.proofs.Common.{◌≡◌, ◌==◌, false, rules, sym, subst, ◌∙◌, take}
use Rattle.mw_frame.specs.Stream.{fed}
use Rattle.mw_session.specs.KnownStreams.{inner_of, reads_of, writes_of}
use Rattle.mw_session.specs.SessionParts.{Gives}
use Rattle.mw_session.specs.UnderWay.{UnderWay}
use Rattle.mw_session.specs.ServiceCalls.{AreAnswered}
use Rattle.mw_session.proofs.Agreements.{agree_nothing, tied_then}
use Rattle.mw_session.proofs.CallsMade.{made_nothing, made_read, made_then}
use Rattle.mw_session.proofs.LineJudgments.{on_ok, read_end, no_end_of_memory, no_end_of_fault, no_peer_end, read_failed, read_some, some_read}
use Rattle.mw_session.proofs.StepOutputs.{asked_nothing, asked_then}
use Rattle.mw_session.proofs.SessionEnds.{holds_nothing, starts, holds_peer_end, holds_read_fault, holds_memory, last_lines, more_lines}
use Rattle.mw_session.proofs.session.Session.run.Goals as goal

pub loop-init : goal.loop-init
loop-init g c =
    let T = g.T.PeerStream in
    let s = g.S.Service in
    let now = c.args.service.now in
    let stream = c.args.stream.now in
    record {
      way = starts (reads_of stream) (writes_of stream) (AreAnswered s.answered now now) c.in-Ok.feed c.in-Ok.ensures (asked_nothing s.answered now);
      tied = agree_nothing (T.remaining (inner_of stream)) (T.contents (inner_of stream)) (reads_of stream) (writes_of stream);
      made = made_nothing T.called stream;
      served = tt;
    }

pub returns-in_default-clause-holds : goal.returns-in_default-clause-holds
returns-in_default-clause-holds g c =
    let s = g.S.Service in
    let now = c.args.service.now in
    let stream = c.args.stream.now in
    holds_nothing (reads_of stream) (writes_of stream) (AreAnswered s.answered now now) (asked_nothing s.answered now)

pub returns-in_default-clause-tied : goal.returns-in_default-clause-tied
returns-in_default-clause-tied g c =
    let T = g.T.PeerStream in
    let stream = c.args.stream.now in
    agree_nothing (T.remaining (inner_of stream)) (T.contents (inner_of stream)) (reads_of stream) (writes_of stream)

pub returns-in-Ok-eq0-clause-holds : goal.returns-in-Ok-eq0-clause-holds
returns-in-Ok-eq0-clause-holds g c =
    let s = g.S.Service in
    let first = c.args.stream.now in
    let before = c.loop.stream in
    let read = c.read.new.self in
    let now = c.loop.session in
    let Asked = AreAnswered s.answered c.args.service.now c.loop.service in
    let way = subst (λ w. UnderWay (reads_of first) (reads_of before) (writes_of first) w Asked now.feed now.bound now.written) (sym c.read.ensures.writes) c.loop.invariant.way in
    holds_peer_end (reads_of first) (reads_of before) (reads_of read) (writes_of first) (writes_of read) Asked now.feed now.bound now.written way
    (read_end (reads_of before) (reads_of read) c.read.result c.in-Ok-eq0.field-0 c.read.new.piece c.in-Ok-eq0.is c.in-Ok-eq0.field-0-test c.read.ensures.reads)

pub returns-in-Ok-eq0-clause-tied : goal.returns-in-Ok-eq0-clause-tied
returns-in-Ok-eq0-clause-tied g c =
    let T = g.T.PeerStream in
    tied_then T.remaining T.contents c.args.stream.now c.loop.stream c.read.new.self c.loop.invariant.tied c.read.ensures.tied

pub returns-in-Ok-eq0-clause-at_end : goal.returns-in-Ok-eq0-clause-at_end
returns-in-Ok-eq0-clause-at_end g c = λ is. c.in-Ok-eq0.ensures.at_end c.in-Ok-eq0.field-0-test

pub returns-then-is_err-clause-holds : goal.returns-then-is_err-clause-holds
returns-then-is_err-clause-holds g c =
    let s = g.S.Service in
    let first = c.args.stream.now in
    let before = c.loop.stream in
    let read = c.read.new.self in
    let now = c.loop.session in
    let Asked = AreAnswered s.answered c.args.service.now c.loop.service in
    let way = subst (λ w. UnderWay (reads_of first) (reads_of before) (writes_of first) w Asked now.feed now.bound now.written) (sym c.read.ensures.writes) c.loop.invariant.way in
    let piece = take c.in-Ok-read.count c.read.new.piece in
    let some : (c.in-Ok-read.count == 0) ≡ false = search rules in
    let more = read_some (reads_of before) (reads_of read) c.read.result c.in-Ok-read.count c.read.new.piece c.in-Ok-read.is some c.read.ensures.reads in
    holds_memory (reads_of first) (reads_of before) (reads_of read) (writes_of first) (writes_of read) Asked now.feed now.bound now.written way piece
    (some_read c.in-Ok-read.count c.read.new.piece c.in-Ok-read.ensures.bound.1 some) more

pub returns-then-is_err-clause-tied : goal.returns-then-is_err-clause-tied
returns-then-is_err-clause-tied g c =
    let T = g.T.PeerStream in
    tied_then T.remaining T.contents c.args.stream.now c.loop.stream c.read.new.self c.loop.invariant.tied c.read.ensures.tied

pub returns-then-is_err-clause-at_end : goal.returns-then-is_err-clause-at_end
returns-then-is_err-clause-at_end g c = λ is. no_end_of_memory is

pub returns-in-Err-answer_all-clause-holds : goal.returns-in-Err-answer_all-clause-holds
returns-in-Err-answer_all-clause-holds g c =
    let s = g.S.Service in
    let first = c.args.stream.now in
    let before = c.loop.stream in
    let read = c.read.new.self in
    let now = c.loop.session in
    let Asked = AreAnswered s.answered c.args.service.now c.loop.service in
    let way = subst (λ w. UnderWay (reads_of first) (reads_of before) (writes_of first) w Asked now.feed now.bound now.written) (sym c.read.ensures.writes) c.loop.invariant.way in
    let piece = take c.in-Ok-read.count c.read.new.piece in
    let some : (c.in-Ok-read.count == 0) ≡ false = search rules in
    let more = read_some (reads_of before) (reads_of read) c.read.result c.in-Ok-read.count c.read.new.piece c.in-Ok-read.is some c.read.ensures.reads in
    let middle = c.loop.service in
    let end = c.answer_all.new.service in
    let last = c.answer_all.new.stream in
    let after = c.answer_all.new.self in
    let told = c.in-Err-answer_all.ensures.turned in
    last_lines (reads_of first) (reads_of before) (reads_of last) (writes_of first) (writes_of read) Asked now.feed now.bound now.written way
    (writes_of last) (AreAnswered s.answered middle end) (AreAnswered s.answered c.args.service.now end) (asked_then s.answered c.args.service.now middle end)
    piece told.0 after.feed after.written after.bound
    (c.answer_all.ensures.reads ∙ more)
    (subst (λ f. Gives f told.0 after.feed) (on_ok c.feed.result c.feed.new.self (fed now.feed piece) (sym c.is_err.ensures.value ∙ c.if-is_err.false) c.feed.ensures.ok) told.1)
    c.in-Err-answer_all.ended told.2

pub returns-in-Err-answer_all-clause-tied : goal.returns-in-Err-answer_all-clause-tied
returns-in-Err-answer_all-clause-tied g c =
    let T = g.T.PeerStream in
    tied_then T.remaining T.contents c.args.stream.now c.read.new.self c.answer_all.new.stream
    (tied_then T.remaining T.contents c.args.stream.now c.loop.stream c.read.new.self c.loop.invariant.tied c.read.ensures.tied) c.answer_all.ensures.tied

pub returns-in-Err-answer_all-clause-at_end : goal.returns-in-Err-answer_all-clause-at_end
returns-in-Err-answer_all-clause-at_end g c =
    let s = g.S.Service in
    let told = c.in-Err-answer_all.ensures.turned in
    λ is. absurd (no_peer_end (writes_of c.read.new.self) (writes_of c.answer_all.new.stream) c.loop.session.written c.answer_all.new.self.written
    (AreAnswered s.answered c.loop.service c.answer_all.new.service) told.0 c.loop.session.bound c.answer_all.new.self.bound c.in-Err-answer_all.ended is told.2)

pub loop-preserved : goal.loop-preserved
loop-preserved g c =
    let T = g.T.PeerStream in
    let s = g.S.Service in
    let first = c.args.stream.now in
    let before = c.loop.stream in
    let read = c.read.new.self in
    let now = c.loop.session in
    let Asked = AreAnswered s.answered c.args.service.now c.loop.service in
    let way = subst (λ w. UnderWay (reads_of first) (reads_of before) (writes_of first) w Asked now.feed now.bound now.written) (sym c.read.ensures.writes) c.loop.invariant.way in
    let piece = take c.in-Ok-read.count c.read.new.piece in
    let some : (c.in-Ok-read.count == 0) ≡ false = search rules in
    let more = read_some (reads_of before) (reads_of read) c.read.result c.in-Ok-read.count c.read.new.piece c.in-Ok-read.is some c.read.ensures.reads in
    let middle = c.loop.service in
    let end = c.answer_all.new.service in
    let last = c.answer_all.new.stream in
    let after = c.answer_all.new.self in
    let told = c.in_default-answer_all.ensures.turned in
    record {
      way = more_lines (reads_of first) (reads_of before) (reads_of last) (writes_of first) (writes_of read) Asked now.feed now.bound now.written way
          (writes_of last) (AreAnswered s.answered middle end) (AreAnswered s.answered c.args.service.now end) (asked_then s.answered c.args.service.now middle end)
          piece told.0 after.feed after.written after.bound
          (c.answer_all.ensures.reads ∙ more)
          (subst (λ f. Gives f told.0 after.feed) (on_ok c.feed.result c.feed.new.self (fed now.feed piece) (sym c.is_err.ensures.value ∙ c.if-is_err.false) c.feed.ensures.ok) told.1)
          told.2 c.in_default-answer_all.ensures.all;
      tied = tied_then T.remaining T.contents first read last (tied_then T.remaining T.contents first before read c.loop.invariant.tied c.read.ensures.tied) c.answer_all.ensures.tied;
      made = made_then T.called first read last (made_then T.called first before read c.loop.invariant.made (made_read T.called before read c.read.new.piece c.read.result c.read.ensures.called c.read.ensures.reads c.read.ensures.writes)) c.answer_all.ensures.made;
      served = c.in_default-answer_all.ensures.served;
    }

pub returns-in-Err-clause-holds : goal.returns-in-Err-clause-holds
returns-in-Err-clause-holds g c =
    let s = g.S.Service in
    let first = c.args.stream.now in
    let before = c.loop.stream in
    let read = c.read.new.self in
    let now = c.loop.session in
    let Asked = AreAnswered s.answered c.args.service.now c.loop.service in
    let way = subst (λ w. UnderWay (reads_of first) (reads_of before) (writes_of first) w Asked now.feed now.bound now.written) (sym c.read.ensures.writes) c.loop.invariant.way in
    holds_read_fault (reads_of first) (reads_of before) (reads_of read) (writes_of first) (writes_of read) Asked now.feed now.bound now.written way
    (read_failed (reads_of before) (reads_of read) c.read.result _ c.read.new.piece c.in-Err.is c.read.ensures.reads)

pub returns-in-Err-clause-tied : goal.returns-in-Err-clause-tied
returns-in-Err-clause-tied g c =
    let T = g.T.PeerStream in
    tied_then T.remaining T.contents c.args.stream.now c.loop.stream c.read.new.self c.loop.invariant.tied c.read.ensures.tied

pub returns-in-Err-clause-at_end : goal.returns-in-Err-clause-at_end
returns-in-Err-clause-at_end g c = λ is. no_end_of_fault is

pub returns-in_default-clause-made : goal.returns-in_default-clause-made
returns-in_default-clause-made g c = made_nothing g.T.PeerStream.called c.args.stream.now

pub returns-in-Ok-eq0-clause-made : goal.returns-in-Ok-eq0-clause-made
returns-in-Ok-eq0-clause-made g c =
    let T = g.T.PeerStream in
    let before = c.loop.stream in
    let read = c.read.new.self in
    made_then T.called c.args.stream.now before read c.loop.invariant.made
    (made_read T.called before read c.read.new.piece c.read.result c.read.ensures.called c.read.ensures.reads c.read.ensures.writes)

pub returns-then-is_err-clause-made : goal.returns-then-is_err-clause-made
returns-then-is_err-clause-made g c =
    let T = g.T.PeerStream in
    let before = c.loop.stream in
    let read = c.read.new.self in
    made_then T.called c.args.stream.now before read c.loop.invariant.made
    (made_read T.called before read c.read.new.piece c.read.result c.read.ensures.called c.read.ensures.reads c.read.ensures.writes)

pub returns-in-Err-clause-made : goal.returns-in-Err-clause-made
returns-in-Err-clause-made g c =
    let T = g.T.PeerStream in
    let before = c.loop.stream in
    let read = c.read.new.self in
    made_then T.called c.args.stream.now before read c.loop.invariant.made
    (made_read T.called before read c.read.new.piece c.read.result c.read.ensures.called c.read.ensures.reads c.read.ensures.writes)

pub returns-in-Err-answer_all-clause-made : goal.returns-in-Err-answer_all-clause-made
returns-in-Err-answer_all-clause-made g c =
    let T = g.T.PeerStream in
    let before = c.loop.stream in
    let read = c.read.new.self in
    made_then T.called c.args.stream.now read c.answer_all.new.stream
    (made_then T.called c.args.stream.now before read c.loop.invariant.made
    (made_read T.called before read c.read.new.piece c.read.result c.read.ensures.called c.read.ensures.reads c.read.ensures.writes)) c.answer_all.ensures.made
