-- Loop invariants of `show_words` (src/lines.rt).
use Rattle.std.specs.List.{flat_map, range_with_len}
use Rattle.std.specs.Io.KnownBytes.{Appends}
use Rattle.mw_file_text.specs.Text.{word_at, word_text}
use Rattle.mw_file_text.proofs.lines.show_words.Given as goal

-- the words so far were written
abbrev pub invariant-loop-addr : goal.invariant-loop-addr
invariant-loop-addr g l =
    Appends (g.O.Write.contents l.initial.out) (g.O.Write.contents l.out)
    (flat_map (λ addr. word_text l.all_words addr (word_at l.image addr)) (range_with_len 0 l.addr))
