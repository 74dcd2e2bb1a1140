-- Proves the law `replies_give_back`.
use Rattle.mw_look.proofs.RunLaws.{replies-give-back, replies-stay}
use Rattle.mw_look.proofs.laws.replies_give_back.Goals as goal

pub returns : goal.returns
returns c = record { give_back = replies-give-back; stay = replies-stay }
