-- Goals of `replies_are_in_order` (src/laws.rt).
use Rattle.mw_service.proofs.OwnTokens.{by_notes}
use Rattle.mw_service.proofs.SessionOrders.{in_order}
use Rattle.mw_service.proofs.laws.replies_are_in_order.Goals as goal

pub returns-clause-replies : goal.returns-clause-replies
returns-clause-replies c = in_order

pub returns-clause-notes : goal.returns-clause-notes
returns-clause-notes c = by_notes
