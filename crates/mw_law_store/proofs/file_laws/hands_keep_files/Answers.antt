-- Proves the law `hands_keep_files`.
use Rattle.mw_law_store.proofs.Files.ArrivalsAndStarts.{hands_keep_files}
use Rattle.mw_law_store.proofs.file_laws.hands_keep_files.Goals as goal

pub returns : goal.returns
returns c = hands_keep_files
