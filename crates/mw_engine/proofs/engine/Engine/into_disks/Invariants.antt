-- Loop invariants of `Engine::into_disks` (src/end.rt).
use Rattle.std.specs.Prelude.{◌≡◌, ◌+◌, length}
use Rattle.std.specs.Vec.Iter.{into_iter_items}
use Rattle.mw_core.specs.FromTable.{IsSamePass}
use Rattle.mw_engine.specs.DisksAtEnd.{EachIsGivenSeen, SeesMore}
use Rattle.mw_engine.specs.Passes.{IsPassOf}
use Rattle.mw_engine.proofs.engine.Engine.into_disks.Given as goal

-- a disk, or none, for each tenant so far; the pass has seen these files
abbrev pub invariant-loop-book : goal.invariant-loop-book
invariant-loop-book g l = record {
  all : length l.disks.items + length (into_iter_items l.book-iterator) ≡ length l.fn.self.books.items;
  own : IsPassOf g.J.EngineBrand.identity l.pass;
  stays : IsSamePass l.fn.pass l.pass;
  sees : SeesMore l.fn.pass.seat.me.0 l.pass.seat.me.0;
  each : EachIsGivenSeen g.D.Disk.facts g.J.EngineBrand.identity l.fn.pass.seat.me.0 l.pass.seat.me.0 l.disks.items;
}
