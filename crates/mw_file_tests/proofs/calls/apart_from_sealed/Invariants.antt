-- Loop invariants of `apart_from_sealed` (src/calls.rt).
use Rattle.std.proofs.Common.{◌≡◌, drop}
use Rattle.std.specs.List.{list_all}
use Rattle.mw_file_tests.specs.Permitted as spec
use Rattle.mw_file_tests.proofs.calls.apart_from_sealed.Given as goal

-- the writes are apart from what is left exactly where they are from all
abbrev pub invariant-loop-state : goal.invariant-loop-state
invariant-loop-state l = list_all (spec.is_apart l.writes) (drop l.state-index l.states) ≡ list_all (spec.is_apart l.writes) l.states
