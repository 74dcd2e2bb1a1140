-- Loop invariants of `show_records` (src/lines.rt).
use Rattle.std.specs.List.{flat_map, range_with_len}
use Rattle.std.specs.Io.KnownBytes.{Appends}
use Rattle.mw_file_text.specs.Text.{record_text}
use Rattle.mw_file_text.proofs.lines.show_records.Given as goal

-- the records of the places so far were written
abbrev pub invariant-loop-place : goal.invariant-loop-place
invariant-loop-place g l =
    Appends (g.O.Write.contents l.initial.out) (g.O.Write.contents l.out) (flat_map (record_text l.image) (range_with_len 0 l.place))
