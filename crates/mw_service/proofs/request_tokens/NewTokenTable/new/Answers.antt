-- Goals of `NewTokenTable::new` (src/request_tokens.rt).
use Rattle.std.proofs.Common.{refl}
use Rattle.mw_service.proofs.TokenMoves.{begins}
use Rattle.mw_service.proofs.request_tokens.NewTokenTable.new.Goals as goal

pub of_words-requires : goal.of_words-requires
of_words-requires c = begins _ refl
