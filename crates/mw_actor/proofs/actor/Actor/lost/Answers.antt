-- Goals of `Actor::lost` (src/actor/moves.rt).
use Rattle.std.proofs.Common.{refl}
use Rattle.mw_look.specs.declared.observations.Observation.TheVariants.{Lost}
use Rattle.mw_actor.proofs.PointLaws.{goes_at}
use Rattle.mw_actor.proofs.actor.Actor.lost.Goals as goal

-- a door that was changed meanwhile is loaded again
pub returns-in-Admit : goal.returns-in-Admit
returns-in-Admit c = λ next. goes_at c.args.self.now Lost next c.self.view_is c.in-Admit.is refl

-- a slot that another claimed is passed over
pub returns-in-Claim : goal.returns-in-Claim
returns-in-Claim c = λ next. goes_at c.args.self.now Lost next c.self.view_is c.in-Claim.is c.next_gate.ensures
