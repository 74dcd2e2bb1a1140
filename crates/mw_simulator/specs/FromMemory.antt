-- Definitions of `mw_world_memory` that this crate passes on to `mw_table_tests`, which then names this crate alone.
-- Used by: mw_table_tests. Add and take out names as these crates need them.
pub use Rattle.mw_world_memory.specs.declared.tenants.TenantState.{TenantState}
pub use Rattle.mw_world_memory.specs.declared.workers.WorkerState.{WorkerState}
pub use Rattle.mw_world_memory.specs.Workers.{worker_state_of}
