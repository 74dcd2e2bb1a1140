-- Loop invariants of `Shared::give_file` (src/new_table.rt).
use Rattle.std.proofs.Common.{ℕ, ◌≡◌, length, slice_get, Some}
use Rattle.mw_table.specs.declared.file_pass.FilePass.{FilePass}
use Rattle.mw_table.specs.NewFilePasses.{IsOpened}
use Rattle.mw_table.specs.Origins.{basis_of}
use Rattle.mw_table.proofs.FilePassesAtStart.{files_from}
use Rattle.mw_table.proofs.shared.Shared.give_file.Given as goal

abbrev pub invariant-loop-tenant : goal.invariant-loop-tenant
invariant-loop-tenant l = record {
  same_table : l.seat.table_id ≡ l.self.table.shared.table_id;
  left : l.seat.me ≡ files_from (basis_of l.self.table.shared.key) l.tenants l.tenant;
  count : length l.file_passes.items ≡ l.tenant;
  each : (k : ℕ) (file_pass : FilePass) → slice_get l.file_passes.items k ≡ Some file_pass → IsOpened l.self (basis_of l.self.table.shared.key) k file_pass;
}
