-- Loop invariants of `tenants_of` (src/world_table/copies.rt).
use Rattle.std.proofs.Common.{◌≡◌, map, take}
use Rattle.mw_table.specs.Runs.{last_start}
use Rattle.mw_table_tests.specs.Worlds.{last_start_of}
use Rattle.mw_table_tests.proofs.world_table.copies.tenants_of.Given as goal

abbrev pub invariant-loop-tenant_state : goal.invariant-loop-tenant_state
invariant-loop-tenant_state l = map last_start l.tenants.items ≡ map last_start_of (take l.tenant_state-index l.tenant_states)
