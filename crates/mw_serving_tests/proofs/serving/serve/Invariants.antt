-- Loop invariants of `serve` (src/serving.rt).
use Rattle.std.proofs.Common.{◌≡◌, vec_len}
use Rattle.mw_serving_tests.proofs.serving.serve.Given as goal

-- a service a round
abbrev pub invariant-loop : goal.invariant-loop
invariant-loop g l = vec_len l.services ≡ l.counter
