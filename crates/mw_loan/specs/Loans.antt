-- Defines what a receipt of a box is. Used by: src/loan_box.rt, mw_engine.
use Rattle.std.specs.Prelude.{◌≡◌}
use Rattle.atomic_table.specs.Seated.{TableId}
use Rattle.mw_loan.specs.declared.loan_box.Receipt.{Receipt}
use Rattle.mw_loan.specs.Plays.{owner}

module _ {T : Type 0} where
  -- The receipt is of the box of this table, in which this value was left.
  pub record IsReceiptFor (box : TableId) (left : T) (receipt : Receipt T) : Type 0 where
    pub its : receipt.seat.table_id ≡ box
    pub owns : receipt.seat.me ≡ owner left

  -- It is of that box, in which some value was left.
  pub record IsReceiptOf (box : TableId) (receipt : Receipt T) : Type 0 where
    pub left : T
    pub is : IsReceiptFor box left receipt
