-- Proves the law `events_keep_files`.
use Rattle.mw_law_store.proofs.Files.RunsKeepFiles.{events_keep_files}
use Rattle.mw_law_store.proofs.file_laws.events_keep_files.Goals as goal

pub returns : goal.returns
returns c = events_keep_files
