-- Loop invariants of `Engine::wait` (src/combiner.rt).
use Rattle.mw_loan.specs.Loans.{IsReceiptFor, IsReceiptOf}
use Rattle.mw_engine.specs.declared.errand.Errand.{Errand}
use Rattle.mw_engine.proofs.engine.Engine.wait.Given as goal

-- the receipt is for what was left at first
abbrev pub invariant-loop : goal.invariant-loop
invariant-loop g l = record {
  own : IsReceiptOf {T = Errand} l.own_box.loan.table.shared.table_id l.receipt;
  same : (left : Errand) → IsReceiptFor {T = Errand} l.own_box.loan.table.shared.table_id left l.fn.receipt → IsReceiptFor {T = Errand} l.own_box.loan.table.shared.table_id left l.receipt;
}
