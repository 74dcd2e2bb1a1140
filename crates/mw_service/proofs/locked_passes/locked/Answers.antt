-- Goals of `locked` (src/locked_passes.rt).
use Rattle.std.proofs.Common.{◌≡◌, ◌+◌, length, sym, ◌∙◌}
use Rattle.std.specs.Vec.Iter.{into_iter_items}
use Rattle.mw_engine.specs.Passes.{IsNew}
use Rattle.mw_service.proofs.SinceStarts.{of_new}
use Rattle.mw_service.proofs.Workers.{behind, of_next, one_more, pushed}
use Rattle.mw_service.proofs.locked_passes.locked.Goals as goal

pub invariant_of-idle : goal.invariant_of-idle
invariant_of-idle g c =
    let left = into_iter_items c.loop-pass.pass-iterator in
    let rest = into_iter_items c.next.new.self in
    let new = of_next (IsNew g.J.EngineBrand.identity) left rest c.in-Some.pass c.in-Some.ensures.steps.0 c.loop-pass.invariant.new in
    record { own = new.own; idle = new.idle; begun = of_new g.J.EngineBrand.identity c.in-Some.pass new; counted = c.in-Some-source.ensures }

pub loop-pass-preserved : goal.loop-pass-preserved
loop-pass-preserved g c =
    let left = into_iter_items c.loop-pass.pass-iterator in
    let rest = into_iter_items c.next.new.self in
    let made = c.loop-pass.made in
    let went : length c.push.new.self.items ≡ length made.items + 1 = pushed c.push.result made.items c.push.new.self.items c.new.result (sym c.is_err.ensures.value ∙ c.if-is_err.false) c.push.ensures.items in
    record {
      count = one_more (length c.args.passes.items) (length made.items) (length c.push.new.self.items) left rest c.in-Some.pass c.in-Some.ensures.steps.0 went c.loop-pass.invariant.count;
      new = behind (IsNew g.J.EngineBrand.identity) left rest c.in-Some.pass c.in-Some.ensures.steps.0 c.loop-pass.invariant.new;
    }
