-- Goals of `Engine::send` (src/combiner.rt).
use Rattle.std.proofs.Common.{sym, subst}
use Rattle.mw_engine.specs.Errands.{GoesOn, IsCarriedHere}
use Rattle.mw_engine.specs.declared.errand.Errand.{Errand}
use Rattle.mw_engine.proofs.RequestsGoOn.{stays}
use Rattle.mw_engine.proofs.engine.Engine.send.Goals as goal

-- a request that was just left has become itself
pub leave-requires : goal.leave-requires
leave-requires g c = record { lasts = stays g.D.Disk.facts g.J.EngineBrand.identity c.args.errand.pass c.args.errand.actor c.requires.here }

-- the receipt is of the box in which the request was left
pub wait-requires : goal.wait-requires
wait-requires g c = record { own = record { left = c.args.errand; is = c.in-Ok.ensures.left } }

pub returns-in-Ok : goal.returns-in-Ok
returns-in-Ok g c = c.wait.ensures c.args.errand c.in-Ok.ensures.left

-- the box wasn't empty, and gave the request back as it was
pub go_oneself-requires : goal.go_oneself-requires
go_oneself-requires g c = record { here = subst (λ (same : Errand). IsCarriedHere g.J.EngineBrand.identity same) (sym c.in-Err.ensures.back) c.requires.here }

pub returns-in-Err : goal.returns-in-Err
returns-in-Err g c = subst (λ (same : Errand). GoesOn g.D.Disk.facts g.J.EngineBrand.identity same c.go_oneself.result) c.in-Err.ensures.back c.go_oneself.ensures
