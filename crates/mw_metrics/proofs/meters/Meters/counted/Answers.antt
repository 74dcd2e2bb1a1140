-- Goals of `Meters::counted` (src/meters.rt).
use Rattle.std.proofs.Common.{sym, ◌∙◌}
use Rattle.mw_metrics.proofs.CountedFigures.{begun, one_more, all_told}
use Rattle.mw_metrics.proofs.meters.Meters.counted.Goals as goal

pub loop-figures-init : goal.loop-figures-init
loop-figures-init c = begun c.in_ok-all.all.items c.into_iter-figures-iterator.result c.args.figures.items c.in_ok-all.ensures.items c.into_iter-figures-iterator.ensures.into_iter_gives.0

pub loop-figures-preserved : goal.loop-figures-preserved
loop-figures-preserved c = one_more c.push.result c.loop-figures.all.items c.push.new.self.items (record { figures = c.in-Some.figures; place = c.place_of-place.result; counts = c.counts_of-counts.result })
    c.loop-figures.figures-iterator c.next.new.self c.args.figures.items (sym c.is_err.ensures.value ∙ c.if-is_err.false) c.push.ensures.items c.in-Some.ensures.steps c.loop-figures.invariant

pub returns : goal.returns
returns c = all_told c.loop-figures.all.items c.loop-figures.figures-iterator c.args.figures.items c.in-None.ensures.steps.0 c.loop-figures.invariant
