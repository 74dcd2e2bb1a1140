-- Goals of `Session::reply` (src/session.rt).
use Rattle.std.proofs.Common.{sym, subst, ◌∙◌}
use Rattle.mw_line.specs.Replies.{text_of}
use Rattle.mw_session.specs.declared.steps.Step.TheVariants.{Report}
use Rattle.mw_session.specs.KnownStreams.{writes_of}
use Rattle.mw_session.specs.ServiceCalls.{AreAnswered}
use Rattle.mw_session.specs.SessionParts.{Performs, Writes}
use Rattle.mw_session.proofs.session.Session.reply.Goals as goal

pub returns-in-Some-clause-replies : goal.returns-in-Some-clause-replies
returns-in-Some-clause-replies g c =
    let sent = c.write_counted in (
      text_of c.in-Some.say,
      c.in-Some.ensures.performs,
      subst (λ text. Writes (writes_of c.args.stream.now) (writes_of sent.new.stream) c.args.self.now.written sent.new.count text sent.result)
          (c.deref.ensures.0 ∙ c.text.ensures) sent.ensures.writes,
    )

pub returns-in-None-clause-replies : goal.returns-in-None-clause-replies
returns-in-None-clause-replies g c =
    let s = g.S.Service in
    let now = c.args.service.now in
    let end = c.write_report.new.service in
    let bound = c.perform.new.bound in
    let replies = c.write_report.ensures.replies in
    let text = replies.0 in (
      text,
      subst (λ old. Performs (AreAnswered s.answered now end) c.args.step.now old bound text) c.in-None.ensures.bound
          (subst (λ step. Performs (AreAnswered s.answered now end) step bound bound text) (sym c.in-None.ensures.report)
          (subst (λ before. Performs (AreAnswered s.answered before end) Report bound bound text) c.in-None.ensures.service (replies.1 bound))),
      replies.2,
    )
