-- Proves the law `runs_are_enabled`.
use Rattle.mw_law_store.proofs.Files.EnabledEvents.{runs_are_enabled}
use Rattle.mw_law_store.proofs.file_laws.runs_are_enabled.Goals as goal

pub returns : goal.returns
returns c = runs_are_enabled
