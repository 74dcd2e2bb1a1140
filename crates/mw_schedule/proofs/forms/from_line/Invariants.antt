-- Loop invariants of `from_line` (src/forms.rt).
use Rattle.std.proofs.Common.{◌≡◌, ◌≤◌, ◌-◌}
use Rattle.mw_schedule.specs.Forms.{after_lines, from_line}
use Rattle.mw_schedule.proofs.forms.from_line.Given as goal

-- the lines that are left to pass lead from the rest to the same bytes
abbrev pub invariant-loop-at : goal.invariant-loop-at
invariant-loop-at l = record {
  begun : 1 ≤ l.at;
  left : after_lines (l.number - l.at) l.rest ≡ from_line l.number l.text;
}

abbrev pub decreases-loop-at : goal.decreases-loop-at
decreases-loop-at l = l.number - l.at
