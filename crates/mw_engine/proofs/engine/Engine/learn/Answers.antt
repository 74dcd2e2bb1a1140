-- Goals of `Engine::learn` (src/notes.rt).
use Rattle.std.proofs.Common.{ap, sym, subst, ◌∙◌}
use Rattle.mw_core.specs.FromTable.{IsOf, Shared}
use Rattle.mw_engine.proofs.Branded.{in_words, same_table, still_of}
use Rattle.mw_engine.proofs.engine.Engine.learn.Goals as goal

pub learn-requires-clause-own : goal.learn-requires-clause-own
learn-requires-clause-own g c =
    subst (λ (shared : Shared). IsOf shared c.args.pass.now) (sym c.shared.ensures) (in_words c.args.self.now.words g.J.EngineBrand.identity c.args.self.now.same c.args.pass.now c.requires.own).own

pub learn-requires-clause-its : goal.learn-requires-clause-its
learn-requires-clause-its g c =
    c.requires.its ∙ sym (same_table c.args.self.now.words g.J.EngineBrand.identity c.args.self.now.same) ∙ sym (ap (λ (shared : Shared). shared.table.shared.table_id) c.shared.ensures)

pub returns-clause-own : goal.returns-clause-own
returns-clause-own g c =
    still_of c.args.self.now.words g.J.EngineBrand.identity c.args.self.now.same c.args.pass.now c.learn.new.pass c.requires.own (subst (λ (shared : Shared). IsOf shared c.learn.new.pass) c.shared.ensures c.learn.ensures.own)
    c.learn.ensures.stays.same_worker c.learn.ensures.learned.same_files
