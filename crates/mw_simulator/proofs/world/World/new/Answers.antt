-- Goals of `World::new` (src/world/new_worlds.rt).
use Rattle.std.proofs.Common.{subst, sym, refl, ℕ, is_none}
use Rattle.mw_world.specs.Definition.State.{new_world, tenant_at}
use Rattle.mw_world.proofs.FirstInvariant.{new_worlds_start}
use Rattle.mw_simulator.specs.Starts.{AreFresh, AreTenants, HaveWords}
use Rattle.mw_simulator.proofs.FirstWorlds.{AreShown, are_tenants, first_tenant_states, fresh_shown, have_words, not_twice, shows_start}
use Rattle.mw_simulator.proofs.SoundBooks.{fresh_sound}
use Rattle.mw_simulator.proofs.InvariantLaws.{holds}
use Rattle.mw_simulator.proofs.ServiceAloneLaws.{serves}
use Rattle.mw_simulator.proofs.world.World.new.Goals as goal

pub first_cells-requires-clause-tenant_states : goal.first_cells-requires-clause-tenant_states
first_cells-requires-clause-tenant_states c =
    let config = c.args.config in
    let tenant_states = c.in_ok-tenant_states.tenant_states.items in
    let fresh : AreFresh config.tenants.items tenant_states = subst (λ tenants. AreFresh tenants tenant_states) c.deref.ensures.0 c.in_ok-tenant_states.ensures in
    subst (AreTenants config) (sym c.deref-2.ensures.value) (are_tenants config tenant_states (first_tenant_states config) (fresh_shown config tenant_states fresh) fresh.count)

pub invariant_of-result-clause-books : goal.invariant_of-result-clause-books
invariant_of-result-clause-books c =
    let config = c.args.config in
    let tenant_states = c.in_ok-tenant_states.tenant_states.items in
    let fresh : AreFresh config.tenants.items tenant_states = subst (λ tenants. AreFresh tenants tenant_states) c.deref.ensures.0 c.in_ok-tenant_states.ensures in
    fresh_sound config tenant_states fresh

pub returns-clause-stands : goal.returns-clause-stands
returns-clause-stands c =
    let config = c.args.config in
    let tenant_states = c.in_ok-tenant_states.tenant_states.items in
    let fresh : AreFresh config.tenants.items tenant_states = subst (λ tenants. AreFresh tenants tenant_states) c.deref.ensures.0 c.in_ok-tenant_states.ensures in
    let shown : AreShown config tenant_states (first_tenant_states config) = fresh_shown config tenant_states fresh in
    let words = λ (tenant : ℕ). (first_tenant_states config tenant).file.contents in
    let ups = λ (tenant : ℕ). (first_tenant_states config tenant).is_up in
    let have = subst (λ held. HaveWords held words ups) (sym c.deref-2.ensures.value) (have_words config tenant_states (first_tenant_states config) shown (λ tenant. not_twice (is_none (tenant_at config tenant).old))) in
    record {
      state = new_world config;
      runs = refl;
      shows = shows_start _ (first_tenant_states config) (c.in_ok-cells.ensures.tie words ups have) c.in_ok-worker_states.ensures c.new.ensures shown
          (λ tenant up. (new_worlds_start config c.requires).words tenant);
    }

pub returns-clause-holds : goal.returns-clause-holds
returns-clause-holds c = holds _

pub returns-clause-serves : goal.returns-clause-serves
returns-clause-serves c = serves _
