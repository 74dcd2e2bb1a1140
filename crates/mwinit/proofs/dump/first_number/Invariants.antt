-- States why the loop of `first_number` (src/dump.rt) ends.
use Rattle.std.proofs.Common.{length}
use Rattle.mwinit.proofs.dump.first_number.Given as goal

-- each turn takes a byte away
abbrev pub decreases-loop-rest : goal.decreases-loop-rest
decreases-loop-rest l = length l.rest
