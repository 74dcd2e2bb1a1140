-- Loop invariants of `by_steps` (src/steps.rt).
use Rattle.std.specs.Prelude.{◌≡◌, true, false}
use Rattle.mw_engine.specs.FromBelow.{IsCarried}
use Rattle.mw_engine.specs.Passes.{IsPassOf}
use Rattle.mw_engine.specs.Requests.{IsRequest}
use Rattle.mw_engine_tests.proofs.steps.by_steps.Given as goal

-- the request comes with its first step, or is under way
abbrev pub invariant-loop : goal.invariant-loop
invariant-loop g l = record {
  own : IsPassOf g.J.EngineBrand.identity l.pass;
  comes : l.pass.idle ≡ true → IsRequest g.J.EngineBrand.identity l.pass.worker l.actor;
  goes_on : l.pass.idle ≡ false → IsCarried l.pass l.actor;
}
