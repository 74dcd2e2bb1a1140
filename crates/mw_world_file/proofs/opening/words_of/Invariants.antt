-- Loop invariants of `words_of` (src/opening.rt).
use Rattle.std.proofs.Common.{◌≡◌, take}
use Rattle.mw_record.specs.Damages.{words_in}
use Rattle.mw_world_file.proofs.opening.words_of.Given as goal

-- the words so far
abbrev pub invariant-loop-addr : goal.invariant-loop-addr
invariant-loop-addr l = l.words.items ≡ take l.addr (words_in l.image)
