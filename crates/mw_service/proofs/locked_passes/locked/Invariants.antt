-- Loop invariants of `locked` (src/locked_passes.rt).
use Rattle.std.proofs.Common.{◌≡◌, ◌+◌, All, length}
use Rattle.std.specs.Vec.Iter.{into_iter_items}
use Rattle.mw_engine.specs.Passes.{IsNew}
use Rattle.mw_service.specs.OwnReplies.{came_to}
use Rattle.mw_service.proofs.locked_passes.locked.Given as goal

-- there is a lock for each pass so far, and the passes that are left are as they were dealt
abbrev pub invariant-loop-pass : goal.invariant-loop-pass
invariant-loop-pass g l = record {
  count : length l.made.items + length (into_iter_items l.pass-iterator) ≡ length l.fn.passes.items;
  new : All (IsNew g.J.EngineBrand.identity) (into_iter_items l.pass-iterator);
}

-- the source begins with the pass's next request
abbrev pub ghosts-source : goal.ghosts-source
ghosts-source g a = record { first = came_to a.pass.now.seat.me.0.tokens }
