-- Loop invariants of `places_rise` (src/calls.rt).
use Rattle.std.proofs.Common.{◌≡◌, drop}
use Rattle.mw_file_tests.specs.Permitted as spec
use Rattle.mw_file_tests.proofs.calls.places_rise.Given as goal

-- what is left rises from here on exactly where all of them rise
abbrev pub invariant-loop-change : goal.invariant-loop-change
invariant-loop-change l = spec.places_rise l.lowest (drop l.change-index l.changes) ≡ spec.places_rise 0 l.changes
