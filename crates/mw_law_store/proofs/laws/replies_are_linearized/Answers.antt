-- Proves the law `replies_are_linearized`.
use Rattle.mw_law_store.proofs.ReplyPlaceLaws as calls
use Rattle.mw_law_store.proofs.SealedLists.{places_stay_right}
use Rattle.mw_law_store.proofs.laws.replies_are_linearized.Goals as goal

pub returns-clause-replies : goal.returns-clause-replies
returns-clause-replies c = calls.replies_are_linearized

pub returns-clause-calls : goal.returns-clause-calls
returns-clause-calls c = calls.calls_keep_their_place

pub returns-clause-stay : goal.returns-clause-stay
returns-clause-stay c = places_stay_right
