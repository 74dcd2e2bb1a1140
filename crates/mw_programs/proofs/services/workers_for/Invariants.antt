-- Loop invariants of `workers_for` (src/services.rt).
use Rattle.std.proofs.Common.{◌≡◌, ◌+◌, All, length}
use Rattle.std.specs.Vec.Iter.{into_iter_items}
use Rattle.mw_engine.specs.Passes.{IsNew}
use Rattle.mw_programs.proofs.services.workers_for.Given as goal

-- there is a worker for each pass so far, and the passes that are left are as they were dealt
abbrev pub invariant-loop-pass : goal.invariant-loop-pass
invariant-loop-pass g l = record {
  count : length l.workers.items + length (into_iter_items l.pass-iterator) ≡ length l.fn.passes.items;
  new : All (IsNew g.J.EngineBrand.identity) (into_iter_items l.pass-iterator);
}
