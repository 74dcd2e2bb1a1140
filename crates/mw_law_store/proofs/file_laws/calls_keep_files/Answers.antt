-- Proves the law `calls_keep_files`.
use Rattle.mw_law_store.proofs.Files.CallFiles.{calls_keep_files}
use Rattle.mw_law_store.proofs.file_laws.calls_keep_files.Goals as goal

pub returns : goal.returns
returns c = calls_keep_files
