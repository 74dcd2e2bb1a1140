-- Loop invariants of `put` (src/changes.rt).
use Rattle.std.proofs.Common.{◌≡◌, drop, length, IsTrue}
use Rattle.std.specs.List.{list_all}
use Rattle.mw_words.specs.Change.{is_in_range, put}
use Rattle.mw_plain.proofs.changes.put.Given as goal

-- the entries that are left are in range, and put over the words so far give what all of them give
abbrev pub invariant-loop-entry : goal.invariant-loop-entry
invariant-loop-entry l =
    IsTrue (list_all (is_in_range (length l.words)) (drop l.entry-index l.entries))
    × (put l.words (drop l.entry-index l.entries) ≡ put l.initial.words l.entries)
