-- Loop invariants of `ask` (src/file.rt).
use Rattle.mw_disk.specs.DeviceCalls.{Length}
use Rattle.mw_disk.proofs.Repeated.{LeadsOn}
use Rattle.mw_disk.proofs.file.ask.Given as goal

-- each call so far was interrupted
abbrev pub invariant-loop : goal.invariant-loop
invariant-loop g l = LeadsOn g.F.DiskFile.made Length l.initial.file l.file
