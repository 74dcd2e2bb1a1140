-- Loop invariants of `read_words` (src/dump.rt).
use Rattle.std.proofs.Common.{◌≡◌, ◌++◌, length}
use Rattle.mwinit.specs.Dump.{words_text}
use Rattle.mwinit.proofs.dump.read_words.Given as goal

-- the lines so far are those of the words so far
abbrev pub invariant-loop-addr : goal.invariant-loop-addr
invariant-loop-addr l = (l.text ≡ words_text 0 l.words.items ++ l.rest) × (length l.words.items ≡ l.addr)
