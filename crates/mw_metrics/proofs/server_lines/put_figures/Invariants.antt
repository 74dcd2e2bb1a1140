-- Loop invariants of `put_figures` (src/server_lines.rt).
use Rattle.std.proofs.Common.{◌≡◌, ◌+◌, ◌*◌, ◌≤◌, ◌++◌, length, drop, flat_map}
use Rattle.mw_metrics.specs.declared.families.TheConstants.{SERVER_FIGURES}
use Rattle.mw_metrics.specs.Figures.{figure_family}
use Rattle.mw_metrics.proofs.server_lines.put_figures.Given as goal

-- the families so far and those that are left are all
abbrev pub invariant-loop-figure : goal.invariant-loop-figure
invariant-loop-figure l = record {
  lines : l.text.bytes.items ++ flat_map (figure_family l.server) (drop l.figure-index SERVER_FIGURES) ≡ l.initial.text.bytes.items ++ flat_map (figure_family l.server) SERVER_FIGURES;
  room : length l.text.bytes.items ≤ length l.initial.text.bytes.items + l.figure-index * 440;
}
