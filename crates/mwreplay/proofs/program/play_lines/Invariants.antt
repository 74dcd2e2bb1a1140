-- Loop invariants of `play_lines` (src/program.rt).
use Rattle.std.proofs.Common.{◌≡◌, ◌++◌, Ok}
use Rattle.std.specs.Vec.Iter.{into_iter_items}
use Rattle.mwreplay.specs.PlayerSteps.{IsSame, ObeysAll, Plays}
use Rattle.mwreplay.proofs.program.play_lines.Given as goal

-- the lines so far were played, and these are left
abbrev pub invariant-loop-line : goal.invariant-loop-line
invariant-loop-line g l = record {
  same : IsSame l.initial.player l.player;
  plays : Plays l.initial.player l.player (g.O.Write.contents l.initial.out) (g.O.Write.contents l.out) (ObeysAll l.yielded) (Ok tt);
  left : l.yielded ++ into_iter_items l.line-iterator ≡ l.fn.lines.items;
}
