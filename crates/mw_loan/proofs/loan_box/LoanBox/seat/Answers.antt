-- Goals of `LoanBox::seat` (src/loan_box.rt).
use Rattle.std.proofs.Common.{rules}
use Rattle.mw_loan.proofs.Moves.{comes}
use Rattle.mw_loan.proofs.loan_box.LoanBox.seat.Goals as goal

pub load_new_seat-seat-requires : goal.load_new_seat-seat-requires
load_new_seat-seat-requires g c = (search rules, comes _ _)
