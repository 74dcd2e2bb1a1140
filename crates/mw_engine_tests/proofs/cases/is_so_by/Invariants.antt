-- Loop invariants of `is_so_by` (src/cases.rt).
use Rattle.mw_engine.specs.Parts.{identity_of}
use Rattle.mw_engine_tests.proofs.cases.is_so_by.Given as goal

abbrev pub ghosts-is_so_of : goal.ghosts-is_so_of
ghosts-is_so_of g a = record { identity = identity_of a.parts }
