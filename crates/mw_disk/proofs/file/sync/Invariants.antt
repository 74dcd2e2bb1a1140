-- Loop invariants of `sync` (src/file.rt).
use Rattle.mw_disk.specs.DeviceCalls.{Sync}
use Rattle.mw_disk.proofs.Repeated.{LeadsOn}
use Rattle.mw_disk.proofs.file.sync.Given as goal

-- each call so far was interrupted
abbrev pub invariant-loop : goal.invariant-loop
invariant-loop g l = LeadsOn g.F.DiskFile.made Sync l.initial.file l.file
