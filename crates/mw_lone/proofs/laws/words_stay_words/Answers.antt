-- Proves the law `words_stay_words`.
use Rattle.mw_lone.proofs.KeptRuns.{words-stay-words}
use Rattle.mw_lone.proofs.laws.words_stay_words.Goals as goal

pub returns : goal.returns
returns c = words-stay-words
