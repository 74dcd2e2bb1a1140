-- Loop invariants of `has_words` (src/dumped_file.rt).
use Rattle.std.proofs.Common.{◌≡◌, ◌<◌, ℕ, Some, slice_get, slice_index}
use Rattle.mw_record.specs.Damages.{words_in}
use Rattle.mwinit.proofs.dumped_file.has_words.Given as goal

-- the words so far are those that were told
abbrev pub invariant-loop-addr : goal.invariant-loop-addr
invariant-loop-addr l = (addr : ℕ) → addr < l.addr → slice_get (words_in l.image) addr ≡ Some (slice_index l.told addr)
