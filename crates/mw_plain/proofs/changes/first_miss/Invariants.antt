-- Loop invariants of `first_miss` (src/changes.rt).
use Rattle.std.proofs.Common.{◌≡◌, take, drop, length, IsTrue}
use Rattle.std.specs.List.{list_all}
use Rattle.mw_words.specs.Change.{is_in_range, fits}
use Rattle.mw_plain.proofs.changes.first_miss.Given as goal

-- the entries that are left are in range, all fit if those fit, and those before them fit
abbrev pub invariant-loop-entry : goal.invariant-loop-entry
invariant-loop-entry l =
    IsTrue (list_all (is_in_range (length l.words)) (drop l.entry-index l.entries))
    × (fits l.words (drop l.entry-index l.entries) ≡ fits l.words l.entries)
    × IsTrue (fits l.words (take l.entry-index l.entries))
