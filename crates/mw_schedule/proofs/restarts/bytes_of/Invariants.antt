-- Loop invariants of `bytes_of` (src/restarts.rt).
use Rattle.std.proofs.Common.{length}
use Rattle.mw_schedule.proofs.restarts.bytes_of.Given as goal

abbrev pub decreases-loop-rest : goal.decreases-loop-rest
decreases-loop-rest l = length l.rest
