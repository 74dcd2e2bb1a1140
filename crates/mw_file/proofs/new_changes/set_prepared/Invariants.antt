-- Loop invariants of `set_prepared` (src/new_changes.rt).
use Rattle.std.proofs.Common.{take}
use Rattle.mw_file.specs.NewChanges.{ArePrepared}
use Rattle.mw_file.proofs.new_changes.set_prepared.Given as goal

-- each change so far is prepared in its place
abbrev pub invariant-loop-change : goal.invariant-loop-change
invariant-loop-change l = ArePrepared l.fn.states l.states (take l.change-index l.changes)
