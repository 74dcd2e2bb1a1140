-- Proves the law `number_texts`.
use Rattle.mw_line.proofs.Numerals.{number_texts_are}
use Rattle.mw_line.proofs.laws.number_texts.Goals as goal

pub returns : goal.returns
returns c = number_texts_are
