-- Loop invariants of `has_room_for` (src/calls.rt).
use Rattle.std.proofs.Common.{◌≡◌, drop}
use Rattle.std.specs.List.{list_all}
use Rattle.mw_file_tests.specs.Permitted as spec
use Rattle.mw_file_tests.proofs.calls.has_room_for.Given as goal

-- there is room for what is left exactly where there is for all
abbrev pub invariant-loop-change : goal.invariant-loop-change
invariant-loop-change l = list_all (spec.has_room l.words l.states) (drop l.change-index l.changes) ≡ list_all (spec.has_room l.words l.states) l.changes
