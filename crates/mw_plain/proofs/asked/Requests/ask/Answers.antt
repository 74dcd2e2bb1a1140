-- Goals of `Requests::ask` (src/asked.rt).
use Rattle.std.proofs.Common.{arith}
use Rattle.mw_plain.proofs.Numbered.{pushed}
use Rattle.std.proofs.lemmas.Grind.{common_steps}
use Rattle.mw_plain.proofs.asked.Requests.ask.Goals as goal

pub returns-clause-ok : goal.returns-clause-ok
returns-clause-ok c = rw (← c.self.view_is, c.in_ok-push.ensures.items) (pushed _ _ _ _)

pub invariant_of-self-2 : goal.invariant_of-self-2
invariant_of-self-2 c = grind (arith, common_steps)
