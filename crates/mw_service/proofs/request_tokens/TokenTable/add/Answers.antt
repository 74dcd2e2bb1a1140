-- Goals of `TokenTable::add` (src/request_tokens.rt).
use Rattle.std.proofs.Common.{rules}
use Rattle.mw_service.proofs.TokenMoves.{adds_tokens}
use Rattle.mw_service.proofs.request_tokens.TokenTable.add.Goals as goal

pub join_seat-requires : goal.join_seat-requires
join_seat-requires g c = (search rules, search rules, search rules, search rules, adds_tokens _ _ _ _)
