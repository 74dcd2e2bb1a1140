-- Loop invariants of `read_lines` (src/reader.rt).
use Rattle.std.proofs.Common.{◌<◌, length}
use Rattle.std.specs.Prelude.{All}
use Rattle.mw_schedule.specs.Playable.{ArePlayable}
use Rattle.mw_schedule.proofs.reader.read_lines.Given as goal

-- the commands so far are playable, and their lines are before those that are left
abbrev pub invariant-loop-left : goal.invariant-loop-left
invariant-loop-left l = record {
  read : ArePlayable l.config l.read.items;
  before : All (λ line. line.number < l.left.number) l.read.items;
}

abbrev pub decreases-loop-left : goal.decreases-loop-left
decreases-loop-left l = length l.left.rest.now
