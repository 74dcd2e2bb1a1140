-- Goals of `workers_for` (src/services.rt).
use Rattle.std.proofs.Common.{length}
use Rattle.std.specs.Vec.Iter.{into_iter_items}
use Rattle.mw_engine.specs.Passes.{IsNew}
use Rattle.mw_service.proofs.Workers.{behind, of_next, one_more}
use Rattle.mw_programs.proofs.services.workers_for.Goals as goal

-- src/services.rt
pub new-worker-requires : goal.new-worker-requires
new-worker-requires g c =
    let left = into_iter_items c.loop-pass.pass-iterator in
    let rest = into_iter_items c.next.new.self in
    let new = of_next (IsNew g.J.EngineBrand.identity) left rest c.in-Some.pass c.in-Some.ensures.steps.0 c.loop-pass.invariant.new in
    record { own = new.own; idle = new.idle }

pub loop-pass-preserved : goal.loop-pass-preserved
loop-pass-preserved g c =
    let left = into_iter_items c.loop-pass.pass-iterator in
    let rest = into_iter_items c.next.new.self in
    record {
      count = one_more (length c.args.passes.items) (length c.loop-pass.workers.items) (length c.add.new.services.items) left rest c.in-Some.pass c.in-Some.ensures.steps.0 c.in_ok-add.ensures c.loop-pass.invariant.count;
      new = behind (IsNew g.J.EngineBrand.identity) left rest c.in-Some.pass c.in-Some.ensures.steps.0 c.loop-pass.invariant.new;
    }
