-- Goals of `LoanBox::new` (src/loan_box.rt).
use Rattle.std.proofs.Common.{refl}
use Rattle.mw_loan.proofs.Moves.{begins}
use Rattle.mw_loan.proofs.loan_box.LoanBox.new.Goals as goal

pub vacant-requires : goal.vacant-requires
vacant-requires g c = begins _ _ _ refl refl
