-- Proves the law `comes_keep_files`.
use Rattle.mw_law_store.proofs.Files.ArrivalsAndStarts.{comes_keep_files}
use Rattle.mw_law_store.proofs.file_laws.comes_keep_files.Goals as goal

pub returns : goal.returns
returns c = comes_keep_files
