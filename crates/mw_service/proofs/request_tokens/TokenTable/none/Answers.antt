-- Goals of `TokenTable::none` (src/request_tokens.rt).
use Rattle.std.proofs.Common.{rules}
use Rattle.mw_service.proofs.TokenMoves.{comes}
use Rattle.mw_service.proofs.request_tokens.TokenTable.none.Goals as goal

pub load_new_seat-seat-requires : goal.load_new_seat-seat-requires
load_new_seat-seat-requires g c = (search rules, comes _)
