-- Goals of `Engine::reclaim` (src/combiner.rt).
use Rattle.mw_engine.proofs.RequestsGoOn.{goes_further, still_here}
use Rattle.mw_engine.proofs.engine.Engine.reclaim.Goals as goal

pub go_oneself-requires : goal.go_oneself-requires
go_oneself-requires g c =
    let own = c.requires.own in
    record { here = still_here g.D.Disk.facts g.J.EngineBrand.identity own.left.pass own.left.actor c.in-Ok.errand.pass c.in-Ok.errand.actor (c.in-Ok.ensures.taken own.left own.is) }

pub returns-in-Ok-clause-gone_on : goal.returns-in-Ok-clause-gone_on
returns-in-Ok-clause-gone_on g c =
    λ left its. goes_further g.D.Disk.facts g.J.EngineBrand.identity left.pass left.actor c.in-Ok.errand.pass c.in-Ok.errand.actor c.go_oneself.result.pass c.go_oneself.result.actor (c.in-Ok.ensures.taken left its) c.go_oneself.ensures
