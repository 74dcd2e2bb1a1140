-- Goals of `Actor::saw_door` (src/actor/moves.rt).
use Rattle.mw_look.specs.declared.observations.Observation.TheVariants.{SawDoor}
use Rattle.mw_actor.proofs.PointLaws.{goes_at}
use Rattle.mw_actor.proofs.actor.Actor.saw_door.Goals as goal

-- the request goes from each of these points as its program says
pub returns-in-ReadDoor : goal.returns-in-ReadDoor
returns-in-ReadDoor c = goes_at c.args.self.now (SawDoor c.args.door) c.args.next c.self.view_is c.in-ReadDoor.is c.door_read.ensures

pub returns-in-LowerDoor : goal.returns-in-LowerDoor
returns-in-LowerDoor c = goes_at c.args.self.now (SawDoor c.args.door) c.args.next c.self.view_is c.in-LowerDoor.is c.resumed.ensures
