-- Goals of `Actor::reply` (src/actor.rt).
use Rattle.mw_actor.proofs.PointLaws.{replies_at}
use Rattle.mw_actor.proofs.actor.Actor.reply.Goals as goal

-- a read has the reply of its own program
pub returns-in-Read : goal.returns-in-Read
returns-in-Read c = replies_at c.args.self.now c.self.view_is c.in-Read.is c.reply.ensures
