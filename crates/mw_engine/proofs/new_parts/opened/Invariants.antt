-- Loop invariants of `opened` (src/new_parts.rt).
use Rattle.std.proofs.Common.{◌≤◌, ◌++◌, List, length, drop}
use Rattle.std.specs.Vec.Iter.{into_iter_items}
use Rattle.mw_book.specs.declared.book.Book.{Book}
use Rattle.mw_core.specs.FromTable.{FileOpening}
use Rattle.mw_engine.specs.OpenedFiles.{AreMadeOf, FitLines}
use Rattle.mw_engine.proofs.new_parts.opened.Given as goal

-- the lines and files that are left fit each other; what is made so far, with what is made of them, is all
abbrev pub invariant-loop-file : goal.invariant-loop-file
invariant-loop-file g l = record {
  fit : FitLines g.D.Disk.facts (drop (length l.openings.items) l.lines) (into_iter_items l.file-iterator);
  made : (os : List FileOpening) (bs : List (Book g.row.D.Denot)) → AreMadeOf g.D.Disk.facts (drop (length l.openings.items) l.lines) (into_iter_items l.file-iterator) os bs
      → AreMadeOf g.D.Disk.facts l.lines l.fn.files.items (l.openings.items ++ os) (l.books.items ++ bs);
  few : length l.openings.items ≤ length l.lines;
}
