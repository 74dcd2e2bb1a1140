-- Loop invariants of `writes_at` (src/calls.rt).
use Rattle.std.proofs.Common.{◌≡◌, drop}
use Rattle.mw_record.specs.Records.{holds}
use Rattle.mw_file_tests.proofs.calls.writes_at.Given as goal

-- an address is written by what is left exactly where it is by all
abbrev pub invariant-loop-write : goal.invariant-loop-write
invariant-loop-write l = holds (drop l.write-index l.writes) l.addr ≡ holds l.writes l.addr
