-- Proves the law `numbers_as_printed`.
use Rattle.mw_line.proofs.Numerals.{as_printed}
use Rattle.mw_line.proofs.laws.numbers_as_printed.Goals as goal

pub returns : goal.returns
returns c = as_printed
