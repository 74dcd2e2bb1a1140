-- Proves the law `words_are_what_the_bytes_represent`.
use Rattle.mw_record.proofs.Sound.{words_iff}
use Rattle.mw_record.proofs.laws.words_are_what_the_bytes_represent.Goals as goal

pub returns : goal.returns
returns c = λ image contents. words_iff contents image
