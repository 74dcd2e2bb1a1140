-- Goals of `World::restart` (src/world/restarts.rt).
use Rattle.std.specs.Prelude.{◌≡◌}
use Rattle.std.proofs.Common.{ap, arith, refl, subst, sym, ℕ, ◌∙◌}
use Rattle.mw_world.specs.Definition.State.{tenants_of}
use Rattle.mw_simulator.specs.Events.{are_named}
use Rattle.mw_simulator.specs.Starts.{AreTenants, HaveWords}
use Rattle.mw_simulator.proofs.TakenOverMarks.{are_reopened, words_before}
use Rattle.mw_simulator.proofs.Restarted.{all_found, has_started, made, afters_words}
use Rattle.mw_simulator.proofs.SoundBooks.{sound_tenants}
use Rattle.mw_simulator.proofs.world.World.restart.Goals as goal

pub first_cells-requires-clause-tenant_states : goal.first_cells-requires-clause-tenant_states
first_cells-requires-clause-tenant_states c =
    let old = c.args.self.now in
    let afters = c.in-Ok.tenant_states.items in
    subst (AreTenants old.config) (sym c.deref.ensures.value) (sound_tenants old.config afters (c.in-Ok.ensures.reopen.0 ∙ old.tenants) c.in-Ok.ensures.sound)

pub returns-clause-ends : goal.returns-clause-ends
returns-clause-ends c state shows =
    let old = c.args.self.now in
    let stops = c.args.stops.now in
    let parts = c.in-Ok.tenant_states.items in
    let afters = c.follow.new.tenant_states.items in
    let all = c.in-Ok.ensures.reopen in
    let long = c.follow.ensures.count ∙ all.0 in
    let are = are_reopened old stops parts afters c.follow.ensures.count all.1 c.follow.ensures.follow in
    let found = all_found old state stops afters shows long are in
    let counted : c.len.result ≡ tenants_of old.config = omega (arith, c.len.ensures, old.tenant_states.ok.0, old.tenants) in
    let named = ap (λ count. are_named count stops) (sym counted) ∙ sym c.are_named.ensures ∙ c.if-not-are_named.false in
    let words = λ (tenant : ℕ). (made old.config state found.founds tenant).file.contents in
    let ups = λ (tenant : ℕ). (made old.config state found.founds tenant).is_up in
    let have = subst (λ held. HaveWords held words ups) (sym c.deref.ensures.value) (words_before parts afters words ups c.follow.ensures.books (afters_words old state stops afters long found)) in
    let fit = sym (c.may_give.ensures.shown state shows) ∙ c.if-not-may_give.false in
    has_started old state stops afters long found _ refl named fit refl (c.in-Ok-first_cells.ensures.tie words ups have) c.in-Ok-idle_worker_states.ensures c.clear.ensures
