-- Goals of `Plain::each_figures` (src/plain.rt).
use Rattle.std.proofs.Common.{◌≤◌, ◌+◌, map, take, length, ap, sym, ◌∙◌, arith}
use Rattle.std.proofs.lemmas.List.{take_all}
use Rattle.mw_plain.specs.Report.{figures_of}
use Rattle.mw_plain.proofs.UsedSlots.{figures_more}
use Rattle.mw_plain.proofs.plain.Plain.each_figures.Goals as goal

pub loop-part-preserved : goal.loop-part-preserved
loop-part-preserved g c =
    let value = c.deref-part-items.ensures.value in
    let items = c.deref-part-items.result.now in
    let k = c.loop-part.part-index in
    let so_far = c.loop-part.invariant.told ∙ ap (λ ps. map figures_of (take k ps)) (sym value) in
    let more = figures_more items k c.part-item.result c.loop-part.tenants.items c.figures.result c.loop-part-test.true (sym c.part-item.is) so_far c.figures.ensures in
    record {
      told = c.push.ensures.items ∙ more ∙ ap (λ ps. map figures_of (take (k + 1) ps)) value;
      count = omega (arith, c.push.ensures.len, c.loop-part.invariant.count);
    }

pub returns : goal.returns
returns g c =
    let all : length c.args.self.now.parts.items ≤ c.loop-part.part-index = omega (arith, c.loop-part-test.false, ap length c.deref-part-items.ensures.value) in
    c.loop-part.invariant.told ∙ ap (map figures_of) (take_all c.loop-part.part-index c.args.self.now.parts.items all)
