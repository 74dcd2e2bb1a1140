-- Proves the law `ready_events_happen`.
use Rattle.mw_law_store.proofs.Files.Readiness.{other_events_do_not, ready_events_happen}
use Rattle.mw_law_store.proofs.file_laws.ready_events_happen.Goals as goal

pub returns : goal.returns
returns c = record { ready = ready_events_happen; others = other_events_do_not }
