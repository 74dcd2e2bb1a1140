-- Proves the law `header_is_read_again`.
use Rattle.mw_record.proofs.ReadAgain.{header_again}
use Rattle.mw_record.proofs.laws.header_is_read_again.Goals as goal

pub returns : goal.returns
returns c = header_again
