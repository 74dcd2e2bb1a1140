-- Proves the law `refused_requests_make_no_change`.
use Rattle.mw_law_threads.proofs.Whole.RefusedChangeLaws.{refused_requests_make_no_change}
use Rattle.mw_law_threads.proofs.whole_laws.refused_requests_make_no_change.Goals as goal

pub returns : goal.returns
returns c = refused_requests_make_no_change
