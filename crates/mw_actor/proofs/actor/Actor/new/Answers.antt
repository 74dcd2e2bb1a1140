-- Goals of `Actor::new` (src/actor.rt).
use Rattle.mw_actor.proofs.JobLaws.{begins_in_range}
use Rattle.mw_actor.proofs.actor.Actor.new.Goals as goal

pub invariant_of-result : goal.invariant_of-result
invariant_of-result c = begins_in_range c.args.worker c.args.tenant c.args.quota c.args.pool c.args.job c.new.result.items c.first_point-point.result c.new.ensures c.first_point-point.ensures c.requires.is_worker c.ranges.quota.fits c.requires.is_pool c.requires.is_change
