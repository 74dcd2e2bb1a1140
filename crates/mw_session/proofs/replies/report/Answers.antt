-- Goals of `report` (src/replies.rt).
use Rattle.std.proofs.Common.{refl, ap, ◌∙◌}
use Rattle.mw_report.specs.Table.{report}
use Rattle.mw_session.specs.ServiceCalls.{AreAnswered}
use Rattle.mw_session.proofs.StepOutputs.{reported}
use Rattle.mw_session.proofs.replies.report.Goals as goal

pub returns-clause-performs : goal.returns-clause-performs
returns-clause-performs g c =
    let s = g.S.Service in
    let f = c.figures-figures in
    λ bound. reported (AreAnswered s.answered c.args.service.now f.new.self) f.result bound c.report_text.result.items
    (f.new.self, f.ensures.answered, refl)
    (c.report_text.ensures ∙ ap (λ ts. report ts f.result.pool_free) c.deref.ensures.0)
