-- Loop invariants of `fill_words` (src/opening.rt).
use Rattle.std.proofs.Common.{◌≡◌, take, vec_len}
use Rattle.mw_record.specs.Damages.{words_in, words_of}
use Rattle.mw_file.proofs.opening.fill_words.Given as goal

-- the words so far
abbrev pub invariant-loop-addr : goal.invariant-loop-addr
invariant-loop-addr l = (take l.addr l.words.items ≡ take l.addr (words_in l.image)) × (vec_len l.words ≡ words_of l.image)
