-- Goals of `IdlePass::figures` (src/idle_pass.rt).
use Rattle.std.specs.Prelude.{map}
use Rattle.std.proofs.Common.{ap, sym, subst, ◌∙◌}
use Rattle.mw_rule.specs.Steps.{ExtendsView}
use Rattle.mw_engine.specs.Figures.{TellAll}
use Rattle.mw_engine.specs.FromBelow.{note}
use Rattle.mw_engine.specs.LinesOfWorld.{places_told}
use Rattle.mw_service.specs.OwnReplies.{came_to}
use Rattle.mw_service.specs.RequestTokens.{source_of}
use Rattle.mw_service.proofs.OwnTokens.{same_figures}
use Rattle.mw_service.proofs.idle_pass.IdlePass.figures.Goals as goal

-- the note changes nothing of what the pass knows
pub returns-clause-counted : goal.returns-clause-counted
returns-clause-counted g c =
    let same = sym (λ i. (c.note-note.ensures.knows i).0) in
    let first = c.learn.new.self.pass.seat.me.0 in
    let identity = g.J.EngineBrand.identity in
    let figures = c.figures-figures.result in
    record {
      borrows = record {
        own = c.args.self.now.own;
        idle = c.args.self.now.idle;
        begun = c.args.self.now.begun;
        learned = c.learn.new.self.pass;
        same = c.learn.ensures.same;
        learns = c.learn.ensures.learned;
        same_worker = c.note-note.ensures.stays.same_worker ∙ (c.figures-figures.ensures.looked.same_worker ∙ c.learn.ensures.same.same_worker);
        stays_own = c.note-note.ensures.own;
        stays_idle = c.note-note.ensures.stays.same_idle ∙ c.figures-figures.ensures.looked.idle;
        says = c.note-note.ensures.says ∙ ap note same;
      };
      keeps = subst (ExtendsView first) same c.figures-figures.ensures.looked.keeps;
      told = subst (TellAll identity.config.pool identity.config.pool identity.lines (map places_told identity.openings) figures.tenants.items figures.pool_free first) same c.figures-figures.ensures.tells;
    }

-- loads that are no steps bring no request
pub invariant_of-self-clause-counted : goal.invariant_of-self-clause-counted
invariant_of-self-clause-counted g c =
    let learned = c.learn.new.self in
    let worker = c.note-note.ensures.stays.same_worker ∙ c.figures-figures.ensures.looked.same_worker in
    let tokens = (λ i. (c.note-note.ensures.knows i).0.tokens) ∙ same_figures _ _ _ _ _ _ _ _ c.figures-figures.ensures.tells in
    learned.counted ∙ (λ i. source_of (sym worker i) (came_to (sym tokens i)))
