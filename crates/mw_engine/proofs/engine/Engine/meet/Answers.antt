-- Goals of `Engine::meet` (src/meet.rt).
use Rattle.std.proofs.Common.{sym, subst}
use Rattle.mw_core.specs.FromTable.{IsOf, Shared}
use Rattle.mw_engine.proofs.Branded.{free_of, in_words}
use Rattle.mw_engine.proofs.engine.Engine.meet.Goals as goal

pub meet-requires-clause-one : goal.meet-requires-clause-one
meet-requires-clause-one g c =
    subst (λ (shared : Shared). IsOf shared c.args.one.now) (sym c.shared.ensures) (in_words c.args.self.now.words g.J.EngineBrand.identity c.args.self.now.same c.args.one.now c.requires.one).own

pub meet-requires-clause-other : goal.meet-requires-clause-other
meet-requires-clause-other g c =
    subst (λ (shared : Shared). IsOf shared c.args.other.now) (sym c.shared.ensures) (in_words c.args.self.now.words g.J.EngineBrand.identity c.args.self.now.same c.args.other.now c.requires.other).own

pub returns-clause-one : goal.returns-clause-one
returns-clause-one g c =
    free_of c.args.self.now.words g.J.EngineBrand.identity c.args.self.now.same c.args.one.now c.meet.new.one c.requires.one (subst (λ (shared : Shared). IsOf shared c.meet.new.one) c.shared.ensures c.meet.ensures.one)
    c.meet.ensures.one_stays.same_worker c.meet.ensures.one_free

pub returns-clause-other : goal.returns-clause-other
returns-clause-other g c =
    free_of c.args.self.now.words g.J.EngineBrand.identity c.args.self.now.same c.args.other.now c.meet.new.other c.requires.other (subst (λ (shared : Shared). IsOf shared c.meet.new.other) c.shared.ensures c.meet.ensures.other)
    c.meet.ensures.other_stays.same_worker c.meet.ensures.other_free
