-- Loop invariants of `Meters::counted` (src/meters.rt).
use Rattle.std.proofs.Common.{◌≡◌, ◌++◌, map}
use Rattle.mw_metrics.specs.Counted.{figures_of}
use Rattle.mw_metrics.proofs.meters.Meters.counted.Given as goal

-- the figures of the tenants so far, and those that are left, are all of them
abbrev pub invariant-loop-figures : goal.invariant-loop-figures
invariant-loop-figures l = map figures_of l.all.items ++ l.figures-iterator ≡ l.fn.figures.items
