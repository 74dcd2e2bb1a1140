-- Goals of `next_step` (src/steps.rt).
use Rattle.std.proofs.Common.{ap, ◌∙◌}
use Rattle.mw_frame.specs.Stream.{behind}
use Rattle.mw_session.proofs.LineJudgments.{none_left}
use Rattle.mw_session.proofs.steps.next_step.Goals as goal

pub returns-in_default-clause-takes : goal.returns-in_default-clause-takes
returns-in_default-clause-takes c =
    let old = c.args.feed.now in
    let next = c.next in
    (next.ensures.left ∙ ap (λ line. behind line old) c.in_default.is, none_left old next.new.self next.result c.in_default.is next.ensures.first next.ensures.left)
