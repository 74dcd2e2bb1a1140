-- Loop invariants of `show_record` (src/lines.rt).
use Rattle.std.proofs.Common.{take}
use Rattle.std.specs.List.{flat_map}
use Rattle.std.specs.Io.KnownBytes.{Appends}
use Rattle.mw_record.specs.Damages.{pairs_in}
use Rattle.mw_file_text.specs.Text.{entry_line}
use Rattle.mw_file_text.proofs.lines.show_record.Given as goal

-- the entries so far were written
abbrev pub invariant-loop-i : goal.invariant-loop-i
invariant-loop-i g l =
    Appends (g.O.Write.contents l.initial.out) (g.O.Write.contents l.out) (flat_map (entry_line l.place) (take l.i (pairs_in l.image l.place)))
