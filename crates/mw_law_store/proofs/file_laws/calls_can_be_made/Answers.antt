-- Proves the law `calls_can_be_made`.
use Rattle.mw_law_store.proofs.Files.CallsCanBeMade.{calls_can_be_made}
use Rattle.mw_law_store.proofs.file_laws.calls_can_be_made.Goals as goal

pub returns : goal.returns
returns c = calls_can_be_made
