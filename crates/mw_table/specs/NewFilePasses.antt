-- Defines the file passes that a table makes at a start, one for each tenant's file.
-- Used by: src/at_start.rt, src/new_table.rt, mw_core.
use Rattle.std.specs.Prelude.{ℕ, ◌≡◌, List, [], ◌∷◌, length, slice_get, Some}
use Rattle.mw_world.specs.Definition.State.{tenants_of}
use Rattle.mw_rule.specs.Splits.{knows}
use Rattle.mw_table.specs.declared.file_pass.FilePass.{FilePass}
use Rattle.mw_table.specs.declared.shared.Shared.{Shared}
use Rattle.mw_table.specs.Basis.{Basis}
use Rattle.mw_table.specs.FileCalls.{IsFilePassOf}
use Rattle.mw_table.specs.TableAtStart.{held_given}

-- A file pass of this table, for this tenant's file as the start left it. It knows what the start gave, and has no worker.
pub record IsOpened (shared : Shared) (basis : Basis) (tenant : ℕ) (file_pass : FilePass) : Type 0 where
  pub own : IsFilePassOf shared file_pass
  pub whose : file_pass.tenant ≡ tenant
  pub view : file_pass.seat.me.0 ≡ knows basis.config basis.openings (Some basis.known_run) [] (held_given basis.config.pool basis.openings tenant ∷ [])

-- there is one for each tenant, in the tenants' order
pub record AreOpened (shared : Shared) (basis : Basis) (file_passes : List FilePass) : Type 0 where
  pub count : length file_passes ≡ tenants_of basis.config
  pub each : (tenant : ℕ) (file_pass : FilePass) → slice_get file_passes tenant ≡ Some file_pass → IsOpened shared basis tenant file_pass
