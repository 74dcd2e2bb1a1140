-- Proves the law `runs_have_files`.
use Rattle.mw_law_store.proofs.Files.RunsKeepFiles.{runs_go_on, runs_have_files, worlds_are_right}
use Rattle.mw_law_store.proofs.file_laws.runs_have_files.Goals as goal

pub returns-clause-goes_on : goal.returns-clause-goes_on
returns-clause-goes_on c = runs_go_on

pub returns-clause-files : goal.returns-clause-files
returns-clause-files c = runs_have_files

pub returns-clause-right : goal.returns-clause-right
returns-clause-right c = worlds_are_right
