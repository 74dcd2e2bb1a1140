-- Proves the law `every_run_holds`.
use Rattle.mw_law_store.proofs.Files.EnabledEvents.{every_run_holds}
use Rattle.mw_law_store.proofs.file_laws.every_run_holds.Goals as goal

pub returns : goal.returns
returns c = every_run_holds
