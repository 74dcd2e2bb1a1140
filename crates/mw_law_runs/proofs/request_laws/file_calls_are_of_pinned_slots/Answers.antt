-- Proves the law `file_calls_are_of_pinned_slots`.
use Rattle.mw_law_runs.proofs.Requests.BalanceLaws.{file-calls-are-of-pinned-slots}
use Rattle.mw_law_runs.proofs.request_laws.file_calls_are_of_pinned_slots.Goals as goal

pub returns : goal.returns
returns c = file-calls-are-of-pinned-slots
