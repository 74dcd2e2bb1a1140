-- Loop invariants of `listing_of` (src/changes.rt).
use Rattle.std.proofs.Common.{length}
use Rattle.mw_line.proofs.ChangeReader.{GoesOn}
use Rattle.mw_line.proofs.changes.listing_of.Given as goal

-- the entries so far are listed, and what is left goes on with them
abbrev pub invariant-loop-rest : goal.invariant-loop-rest
invariant-loop-rest l = GoesOn l.listing l.rest l.fn.bytes

abbrev pub decreases-loop-rest : goal.decreases-loop-rest
decreases-loop-rest l = length l.rest
