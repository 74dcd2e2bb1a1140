-- The marks of a simulated tenant are those of the definition's tenant that it represents. Used by: World::marks.
use Rattle.std.specs.Prelude.{ℕ, ◌≡◌, ◌<◌, ◌++◌, Some, slice_get}
use Rattle.std.proofs.Common.{sym, ap, subst, ◌∙◌, get_or}
use Rattle.std.proofs.lemmas.Option.{slice_get_read}
use Rattle.mw_world.specs.Definition.State.{TenantState, marks_in, tenants_of}
use Rattle.mw_world_memory.specs.declared.tenants.TenantState.{TenantState as TenantStateInMemory}
use Rattle.mw_simulator.specs.declared.world.World.{World}
use Rattle.mw_simulator.specs.Representation.{RepresentsTenant}

-- the tenant that was read is the one with that number
pub tenant_state_read : (world : World) (index tenant : ℕ) (shown : TenantStateInMemory) → tenant < tenants_of world.config → index ≡ tenant
    → shown ≡ get_or world.tenant_states.items index shown → slice_get world.tenant_states.items tenant ≡ Some shown
tenant_state_read world index tenant shown lt same is =
    slice_get_read world.tenant_states.items (tenants_of world.config) tenant shown (sym world.tenants) lt (subst (λ i. shown ≡ get_or world.tenant_states.items i shown) same is)

-- its marks are those of the tenant that it represents
pub marks_shown : (words : ℕ) (shown : TenantStateInMemory) (tenant_state : TenantState) → RepresentsTenant words shown tenant_state
    → shown.lines.closed.items ++ marks_in shown.lines.lines.items ≡ tenant_state.closed ++ marks_in tenant_state.lines
marks_shown words shown tenant_state shows = ap (λ closed. closed ++ marks_in shown.lines.lines.items) shows.closed ∙ ap (λ lines. tenant_state.closed ++ marks_in lines) shows.lines
