-- Loop invariants of `SizedFile::home_of` (src/sized.rt).
use Rattle.std.proofs.Common.{◌≡◌}
use Rattle.mwshow.specs.Places.{first_of, passes_at}
use Rattle.mwshow.proofs.sized.SizedFile.home_of.Given as goal

-- none of the home words so far makes a value above the greatest
abbrev pub invariant-loop-addr : goal.invariant-loop-addr
invariant-loop-addr l = first_of (passes_at l.self.at l.self.words l.self.bytes.now) l.addr ≡ l.addr
