-- Loop invariants of `locked` (src/start.rt).
use Rattle.std.specs.Prelude.{◌≡◌, ◌+◌, length}
use Rattle.std.specs.Vec.Iter.{into_iter_items}
use Rattle.mw_engine.proofs.GuardedFileLaws.{ArePaired}
use Rattle.mw_engine.proofs.start.locked.Given as goal

-- what is left agrees, and is as many
abbrev pub invariant-loop-book : goal.invariant-loop-book
invariant-loop-book g l = record {
  kept : ArePaired g.D.Disk.facts g.J.EngineBrand.identity (into_iter_items l.book-iterator) (into_iter_items l.file_passes);
  even : length (into_iter_items l.file_passes) ≡ length (into_iter_items l.book-iterator);
  all : length l.made.items + length (into_iter_items l.book-iterator) ≡ length l.fn.books.items;
}
