-- Proves the law `turns_keep_files`.
use Rattle.mw_law_store.proofs.Files.TurnFiles.{turns_keep_files}
use Rattle.mw_law_store.proofs.file_laws.turns_keep_files.Goals as goal

pub returns : goal.returns
returns c = turns_keep_files
