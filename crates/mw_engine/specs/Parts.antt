-- Defines the identity of an engine from its parts, and the world that its lines make.
-- Used by: new_parts.rt, start.rt, mw_programs, mw_engine_tests. A change here changes which world an engine
-- serves.
use Rattle.std.specs.Prelude.{ℕ, List, map}
use Rattle.mw_disk.specs.declared.device.Disk.{Ghosts}
use Rattle.mw_config.specs.declared.lines.TenantLine.{TenantLine}
use Rattle.mw_world.specs.declared.config.Config.{Config}
use Rattle.mw_engine.specs.declared.parts.EngineParts.{EngineParts}
use Rattle.mw_engine.specs.Brand.{Identity, identity_on}
use Rattle.mw_engine.specs.DisksAtStart.{disks_in}
use Rattle.mw_engine.specs.TenantWords.{lines_told}
use Rattle.mw_engine.specs.OpenedFiles.{tenant_read}

-- the identity of the engine that these parts make; its disks are those of the parts' books
abbrev pub identity_of : {D H : Type 0} {device : Ghosts D} → EngineParts D H device → Identity
identity_of {D} {H} {device} parts = identity_on parts.words.core.shared (lines_told parts.words) (disks_in device.facts parts.books.items)

-- The configuration of the world of these lines: so many slots, each first used under the number 0, and so many
-- workers.
abbrev pub world_read : ℕ → ℕ → List TenantLine → Config
world_read pool workers lines = record { pool = pool; workers = workers; seq = 0; tenants = record { items = map tenant_read lines } }
