-- Loop invariants of `write_whole` (src/lines.rt).
use Rattle.std.proofs.Common.{length}
use Rattle.mwreplay.proofs.WrittenText.{Sending}
use Rattle.mwreplay.proofs.lines.write_whole.Given as goal

-- the part of the text that was sent, and the rest
abbrev pub invariant-loop-rest : goal.invariant-loop-rest
invariant-loop-rest g l = Sending (g.W.Write.contents l.initial.out) (g.W.Write.contents l.out) l.text l.rest

abbrev pub decreases-loop-rest : goal.decreases-loop-rest
decreases-loop-rest g l = length l.rest
