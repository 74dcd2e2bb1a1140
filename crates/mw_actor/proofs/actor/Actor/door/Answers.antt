-- Goals of `Actor::door` (src/actor/asks.rt).
use Rattle.std.proofs.Common.{ap}
use Rattle.mw_words.specs.declared.places.At.TheVariants.{Door as AtDoor}
use Rattle.mw_actor.specs.ActorState.{ActorState}
use Rattle.mw_actor.proofs.actor.Actor.door.Goals as goal

-- a request counts its changes at its own tenant's door
pub returns : goal.returns
returns c = ap (λ (a : ActorState). AtDoor a.tenant) c.self.view_is
