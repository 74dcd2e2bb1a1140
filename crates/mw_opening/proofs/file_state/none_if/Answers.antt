-- Goals of `none_if` (src/file_state.rt).
use Rattle.mw_opening.proofs.ReplacedFiles.{stale}
use Rattle.mw_opening.proofs.file_state.none_if.Goals as goal

pub returns-then-is_replaced-clause-failed : goal.returns-then-is_replaced-clause-failed
returns-then-is_replaced-clause-failed c = stale _ c.from_raw_os_error.ensures.kind
