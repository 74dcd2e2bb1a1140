-- Goals of `Session::answer` (src/session.rt).
use Rattle.std.proofs.Common.{sym, ◌∙◌}
use Rattle.mw_session.specs.KnownStreams.{writes_of}
use Rattle.mw_session.specs.ServiceCalls.{AreAnswered}
use Rattle.mw_session.proofs.LineJudgments.{wrote_all}
use Rattle.mw_session.proofs.AnsweredLines.{line_breaks, line_ends, line_goes_on}
use Rattle.mw_session.proofs.session.Session.answer.Goals as goal

pub returns-then-is_err-clause-turned : goal.returns-then-is_err-clause-turned
returns-then-is_err-clause-turned g c =
    let s = g.S.Service in
    let old = c.args.self.now in
    let sent = c.reply-sent in
    let new = sent.new.self in
    let replies = sent.ensures.replies in
    let Asked = AreAnswered s.answered c.args.service.now sent.new.service in
    λ line judges. line_breaks (writes_of c.args.stream.now) (writes_of sent.new.stream) Asked old.written new.written line old.bound new.bound c.args.step.now replies.0 sent.result
    (sym c.is_err.ensures.value ∙ c.if-is_err.true) judges replies.1 replies.2

pub returns-in-Some-clause-turned : goal.returns-in-Some-clause-turned
returns-in-Some-clause-turned g c =
    let s = g.S.Service in
    let old = c.args.self.now in
    let sent = c.reply-sent in
    let new = sent.new.self in
    let replies = sent.ensures.replies in
    let Asked = AreAnswered s.answered c.args.service.now sent.new.service in
    λ line judges. line_ends (writes_of c.args.stream.now) (writes_of sent.new.stream) Asked old.written new.written line old.bound new.bound c.args.step.now replies.0 c.in-Some.ended
    (sym c.end.ensures ∙ c.in-Some.is) judges replies.1
    (wrote_all (writes_of c.args.stream.now) (writes_of sent.new.stream) old.written new.written replies.0 sent.result (sym c.is_err.ensures.value ∙ c.if-is_err.false) replies.2)

pub returns-in-None-clause-turned : goal.returns-in-None-clause-turned
returns-in-None-clause-turned g c =
    let s = g.S.Service in
    let old = c.args.self.now in
    let sent = c.reply-sent in
    let new = sent.new.self in
    let replies = sent.ensures.replies in
    let Asked = AreAnswered s.answered c.args.service.now sent.new.service in
    λ line judges. line_goes_on (writes_of c.args.stream.now) (writes_of sent.new.stream) Asked old.written new.written line old.bound new.bound c.args.step.now replies.0
    (sym c.end.ensures ∙ c.in-None.is) judges replies.1
    (wrote_all (writes_of c.args.stream.now) (writes_of sent.new.stream) old.written new.written replies.0 sent.result (sym c.is_err.ensures.value ∙ c.if-is_err.false) replies.2)
