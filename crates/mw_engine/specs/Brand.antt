-- Defines the identity of an engine: what stays the same for its whole life.
-- Used by: src/brand.rt, src/end.rt, src/engine.rt, src/file_calls.rt, src/parts.rt, mw_service, mw_law_threads,
-- mw_programs.
use Rattle.std.specs.Prelude.{List, [], Option}
use Rattle.atomic_table.specs.Seated.{TableId}
use Rattle.mw_world.specs.declared.config.Config.{Config}
use Rattle.mw_world.specs.Definition.State.{TenantStart}
use Rattle.mw_core.specs.FromTable.{Shared, config_of, openings_of}
use Rattle.mw_engine.specs.DisksAtStart.{DiskAtStart}
use Rattle.mw_engine.specs.Identity.{Line}

-- An engine's identity: its table of shared words, the configuration of their world, what the latest start gave the
-- tenants, the tenants' lines, and their disks at the start; None for a tenant whose file didn't open.
pub record Identity : Type 0 where
  pub table : TableId
  pub config : Config
  pub openings : List TenantStart
  pub lines : List Line
  pub disks : List (Option DiskAtStart)

-- the identity of an engine on these shared words, with these lines and these disks at the start
abbrev pub identity_on : Shared → List Line → List (Option DiskAtStart) → Identity
identity_on shared lines disks = record { table = shared.table.shared.table_id; config = config_of shared.table.shared.key; openings = openings_of shared.table.shared.key; lines = lines; disks = disks }

-- the identity of an engine that has no tenant
abbrev pub of_none : Identity
of_none = record {
  table = record { words = 0; slots = 0; views_name = 0; atom = 0; block = 0; offset = 0; slot_names = [] };
  config = record { pool = 0; workers = 0; seq = 0; tenants = record { items = [] } };
  openings = [];
  lines = [];
  disks = [];
}
