-- Goals of `TokenTable::take` (src/request_tokens.rt).
use Rattle.std.proofs.Common.{rules}
use Rattle.mw_service.proofs.TokenMoves.{gives_token}
use Rattle.mw_service.proofs.request_tokens.TokenTable.take.Goals as goal

pub split_seat-seat-requires : goal.split_seat-seat-requires
split_seat-seat-requires g c = (search rules, search rules, gives_token _ _)
