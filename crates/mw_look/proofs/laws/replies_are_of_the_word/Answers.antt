-- Proves the law `replies_are_of_the_word`.
use Rattle.mw_look.proofs.ValueLaws.{replies-are-of-the-word}
use Rattle.mw_look.proofs.laws.replies_are_of_the_word.Goals as goal

pub returns : goal.returns
returns c = replies-are-of-the-word
