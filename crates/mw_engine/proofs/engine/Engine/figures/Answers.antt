-- Goals of `Engine::figures` (src/figures.rt).
use Rattle.std.specs.Prelude.{ℕ, List, map}
use Rattle.std.proofs.Common.{subst}
use Rattle.mw_engine.specs.LinesOfWorld.{places_told}
use Rattle.mw_engine.specs.Figures.{TellAll}
use Rattle.mw_engine.specs.Identity.{Line}
use Rattle.mw_engine.specs.TenantWords.{lines_told, places_kept}
use Rattle.mw_engine.proofs.Branded.{in_words, of_engine, same_lines, same_places, same_pool, same_slots}
use Rattle.mw_engine.proofs.engine.Engine.figures.Goals as goal

pub tenant_figures-tenants-requires-clause-own : goal.tenant_figures-tenants-requires-clause-own
tenant_figures-tenants-requires-clause-own g c = in_words c.args.self.now.words g.J.EngineBrand.identity c.args.self.now.same c.args.pass.now c.requires.own

pub returns-clause-own : goal.returns-clause-own
returns-clause-own g c = of_engine c.args.self.now.words g.J.EngineBrand.identity c.args.self.now.same c.free_slots-pool_free.new.pass c.free_slots-pool_free.ensures.own

pub returns-clause-tells : goal.returns-clause-tells
returns-clause-tells g c =
    let engine = c.args.self.now in
    let words = engine.words in
    let identity = g.J.EngineBrand.identity in
    let old = c.args.pass.now.seat.me.0 in
    let new = c.free_slots-pool_free.new.pass.seat.me.0 in
    let shown = c.tenant_figures-tenants.result.items in
    let free = c.free_slots-pool_free.result in
    let places = map places_told identity.openings in
    let tells : TellAll words.core.shared.pool words.pool (lines_told words) (places_kept words) shown free old new =
    record { between = c.tenant_figures-tenants.new.pass.seat.me.0; tenants = c.tenant_figures-tenants.ensures.tells; slots_free = c.free_slots-pool_free.ensures.tells } in
    subst (λ (lines : List Line). TellAll identity.config.pool identity.config.pool lines places shown free old new) (same_lines words identity engine.same)
    (subst (λ (slots : ℕ). TellAll identity.config.pool slots (lines_told words) places shown free old new) (same_slots words identity engine.same)
    (subst (λ (pool : ℕ). TellAll pool words.pool (lines_told words) places shown free old new) (same_pool words identity engine.same)
    (subst (λ (all : List ℕ). TellAll words.core.shared.pool words.pool (lines_told words) all shown free old new) (same_places words identity engine.same) tells)))
