-- Goals of `Core::advance` (src/calls.rt).
use Rattle.std.specs.Prelude.{Bool, if◌then◌else◌, is_some}
use Rattle.std.proofs.Common.{ap, sym, ◌∙◌}
use Rattle.mw_actor.specs.Program.{replied}
use Rattle.mw_core.specs.declared.calls.Advance.TheVariants.{NeedsFile}
use Rattle.mw_core.specs.Steps.{answer_of}
use Rattle.mw_core.proofs.StepEnds.{advanced, runs_still}
use Rattle.mw_core.proofs.calls.Core.advance.Goals as goal

pub returns-then-is_some-2-clause-advances : goal.returns-then-is_some-2-clause-advances
returns-then-is_some-2-clause-advances c =
    let actor = c.args.actor.now in
    let next = c.step.new.actor in
    let running = runs_still actor (sym (c.is_some.ensures ∙ ap is_some c.reply.ensures) ∙ c.if-is_some.false) in
    advanced c.args.pass.now c.step.new.pass actor next c.step.result NeedsFile running c.step.ensures.steps
    (ap (λ (test : Bool). if test then NeedsFile else answer_of (replied next)) (sym c.if-is_some-2.true ∙ c.is_some-2.ensures))

pub returns-clause-advances : goal.returns-clause-advances
returns-clause-advances c =
    let actor = c.args.actor.now in
    let next = c.step.new.actor in
    let running = runs_still actor (sym (c.is_some.ensures ∙ ap is_some c.reply.ensures) ∙ c.if-is_some.false) in
    advanced c.args.pass.now c.step.new.pass actor next c.step.result c.ended.result running c.step.ensures.steps
    (c.ended.ensures ∙ ap (λ (test : Bool). if test then NeedsFile else answer_of (replied next)) (sym c.if-is_some-2.false ∙ c.is_some-2.ensures))
