-- Goals of `TokenTable::source` (src/request_tokens.rt).
use Rattle.std.proofs.Common.{rules}
use Rattle.mw_service.proofs.TokenMoves.{takes_source}
use Rattle.mw_service.proofs.request_tokens.TokenTable.source.Goals as goal

pub swap_new_seat-found-requires : goal.swap_new_seat-found-requires
swap_new_seat-found-requires g c = (search rules, takes_source _ _ _ (search rules))
