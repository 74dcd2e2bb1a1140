-- Goals of `new_plain` (src/twins.rt).
use Rattle.mw_engine_tests.proofs.Beside.{fit_plain}
use Rattle.mw_engine_tests.proofs.twins.new_plain.Goals as goal

-- src/twins.rt
pub new-requires-clause-fit : goal.new-requires-clause-fit
new-requires-clause-fit c =
    fit_plain _ _ c.in_ok-lines.lines.items c.deref.result.now c.deref-2.result.now c.in_ok-files.files.items
    c.deref.ensures.0 c.deref-2.ensures.0 c.in_ok-lines.ensures.permitted c.in_ok-files.ensures
