-- Proves the law `reads_stay_at_their_word`.
use Rattle.mw_look.proofs.RunLaws.{reads-stay-at-their-word}
use Rattle.mw_look.proofs.laws.reads_stay_at_their_word.Goals as goal

pub returns : goal.returns
returns c = reads-stay-at-their-word
