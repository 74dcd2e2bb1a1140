-- Goals of `step_at` (src/steps.rt).
use Rattle.std.proofs.Common.{sym, ap, ◌∙◌}
use Rattle.mw_session.specs.declared.steps.Step.TheVariants.{Refuse}
use Rattle.mw_session.specs.Talk.{Said, step_at}
use Rattle.mw_session.specs.Lines.{Says}
use Rattle.mw_session.proofs.LineJudgments.{judged}
use Rattle.mw_session.proofs.steps.step_at.Goals as goal

pub returns-in-Ok-clause-judges : goal.returns-in-Ok-clause-judges
returns-in-Ok-clause-judges c =
    let e = c.read_line.ensures in
    let says : Says c.deref.result.now c.read_line.result = record { spelled = e.read; answered = e.answered; not_a_command = e.not_a_command } in
    judged c.args.bound c.args.line.now c.in-Text.text c.deref.result.now c.read_line.result c.step_for.result c.in-Text.is c.deref.ensures.0 says
    (c.step_for.ensures.step ∙ ap (λ r. step_at c.args.bound (Said r)) (sym c.in-Ok.is))

pub returns-in-Err-clause-judges : goal.returns-in-Err-clause-judges
returns-in-Err-clause-judges c =
    let e = c.read_line.ensures in
    let says : Says c.deref.result.now c.read_line.result = record { spelled = e.read; answered = e.answered; not_a_command = e.not_a_command } in
    judged c.args.bound c.args.line.now c.in-Text.text c.deref.result.now c.read_line.result (Refuse c.into.result) c.in-Text.is c.deref.ensures.0 says
    (ap Refuse c.into.ensures ∙ ap (λ r. step_at c.args.bound (Said r)) (sym c.in-Err.is))
