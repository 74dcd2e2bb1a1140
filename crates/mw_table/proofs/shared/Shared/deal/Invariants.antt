-- Loop invariants of `Shared::deal` (src/new_table.rt).
use Rattle.std.proofs.Common.{◌≡◌, All, length}
use Rattle.mw_table.specs.NewPasses.{AreInOrder, IsDealt}
use Rattle.mw_table.specs.Origins.{basis_of}
use Rattle.mw_table.proofs.PassesAtStart.{left_at}
use Rattle.mw_table.proofs.shared.Shared.deal.Given as goal

abbrev pub invariant-loop-worker : goal.invariant-loop-worker
invariant-loop-worker l = record {
  same_table : l.seat.table_id ≡ l.self.table.shared.table_id;
  left : l.seat.me ≡ left_at (basis_of l.self.table.shared.key) l.worker;
  count : length l.passes.items ≡ l.worker;
  dealt : All (IsDealt l.self (basis_of l.self.table.shared.key)) l.passes.items;
  order : AreInOrder l.passes.items;
}
