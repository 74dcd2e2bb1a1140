-- Loop invariants of `Engine::copy_file` (src/copies.rt).
use Rattle.mw_engine.proofs.engine.Engine.copy_file.Given as goal

-- no file was copied yet
abbrev pub invariant-loop : goal.invariant-loop
invariant-loop g l = record {}
