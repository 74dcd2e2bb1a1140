-- Loop invariants of `are_apart` (src/calls.rt).
use Rattle.std.proofs.Common.{◌≡◌, drop}
use Rattle.mw_file_tests.specs.Permitted as spec
use Rattle.mw_file_tests.proofs.calls.are_apart.Given as goal

-- what is left is apart from the others exactly where all is
abbrev pub invariant-loop-write : goal.invariant-loop-write
invariant-loop-write l = spec.are_apart (drop l.write-index l.writes) l.others ≡ spec.are_apart l.writes l.others
