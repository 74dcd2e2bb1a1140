-- Goals of `open_file` (src/opening.rt).
use Rattle.mw_opening.proofs.opening.open_file.Goals as goal

pub returns-in_default-clause-opened : goal.returns-in_default-clause-opened
returns-in_default-clause-opened g c = c.in-Err.ensures.refused c.in_default.not-Memory
