-- Proves the law `body_is_read_again`.
use Rattle.mw_record.proofs.ReadAgain.{record_again}
use Rattle.mw_record.proofs.laws.body_is_read_again.Goals as goal

pub returns : goal.returns
returns c = record_again
