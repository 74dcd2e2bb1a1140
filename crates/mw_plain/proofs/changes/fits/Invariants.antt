-- Loop invariants of `fits` (src/changes.rt).
use Rattle.std.proofs.Common.{◌≡◌, length, drop, IsTrue}
use Rattle.std.specs.List.{list_all}
use Rattle.mw_words.specs.Change.{is_in_range, fits}
use Rattle.mw_plain.proofs.changes.fits.Given as goal

-- what is left fits exactly if all of them do
abbrev pub invariant-loop-entry : goal.invariant-loop-entry
invariant-loop-entry l =
    (fits l.words (drop l.entry-index l.entries) ≡ fits l.words l.entries)
    × IsTrue (list_all (is_in_range (length l.words)) (drop l.entry-index l.entries))
