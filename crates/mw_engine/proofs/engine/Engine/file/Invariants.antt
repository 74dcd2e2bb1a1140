-- Loop invariants of `Engine::file` (src/file_lock/one_call.rt).
use Rattle.std.specs.Prelude.{◌≡◌}
use Rattle.mw_engine.proofs.engine.Engine.file.Given as goal

-- nothing was done yet
abbrev pub invariant-loop : goal.invariant-loop
invariant-loop g l = record {
  pass_is : l.pass ≡ l.fn.pass;
  actor_is : l.actor ≡ l.fn.actor;
}
