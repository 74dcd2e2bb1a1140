-- Goals of `Engine::make_for` (src/file_lock/one_call.rt).
use Rattle.std.proofs.Common.{rules}
use Rattle.std.proofs.iter.Serving.{serving}
use Rattle.mw_engine.specs.Errands.{GoesOn}
use Rattle.mw_engine.specs.declared.errand.Errand.{Errand}
use Rattle.mw_engine.proofs.RequestsGoOn.{goes_further}
use Rattle.mw_engine.proofs.engine.Engine.make_for.Goals as goal

pub lend-is_lent-requires-clause-lasts : goal.lend-is_lent-requires-clause-lasts
lend-is_lent-requires-clause-lasts g c =
    λ left value new on returns.
    let one : GoesOn g.D.Disk.facts g.J.EngineBrand.identity value new = grind serving in
    goes_further g.D.Disk.facts g.J.EngineBrand.identity left.pass left.actor value.pass value.actor new.pass new.actor on one
