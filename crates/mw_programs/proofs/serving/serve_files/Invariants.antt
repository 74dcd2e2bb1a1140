-- Loop invariants of `serve_files` (src/serving.rt).
use Rattle.mw_engine.specs.Parts.{identity_of}
use Rattle.mw_programs.proofs.serving.serve_files.Given as goal

abbrev pub ghosts-serve_engine : goal.ghosts-serve_engine
ghosts-serve_engine g a = record { identity = identity_of a.parts }
