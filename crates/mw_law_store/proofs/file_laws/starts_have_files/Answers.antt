-- Proves the law `starts_have_files`.
use Rattle.mw_law_store.proofs.Files.ArrivalsAndStarts.{first_starts_have_files, restarts_keep_files, starts_have_files}
use Rattle.mw_law_store.proofs.file_laws.starts_have_files.Goals as goal

pub returns-clause-start : goal.returns-clause-start
returns-clause-start c = starts_have_files

pub returns-clause-first : goal.returns-clause-first
returns-clause-first c = first_starts_have_files

pub returns-clause-again : goal.returns-clause-again
returns-clause-again c = restarts_keep_files
