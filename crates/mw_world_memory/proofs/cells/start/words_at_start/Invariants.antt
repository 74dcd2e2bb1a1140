-- Loop invariants of `words_at_start` (src/cells/start.rt).
use Rattle.std.proofs.Common.{map}
use Rattle.mw_world_memory.specs.Openings.{AreFirstWords}
use Rattle.mw_world_memory.proofs.cells.start.words_at_start.Given as goal

-- the words of each tenant so far
abbrev pub invariant-loop-index : goal.invariant-loop-index
invariant-loop-index l = AreFirstWords l.tenants l.openings (map (λ tenant. tenant.items) l.words.items) l.index
