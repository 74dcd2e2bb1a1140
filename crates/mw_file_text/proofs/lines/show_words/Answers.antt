-- Goals of `show_words` (src/lines.rt).
use Rattle.std.proofs.Common.{◌≡◌, ℕ, subst, arith}
use Rattle.std.specs.Io.KnownBytes.{Appends}
use Rattle.mw_record.proofs.Faults.{word_in}
use Rattle.mw_record.specs.Damages.{layout_of, part_of}
use Rattle.mw_file_text.specs.Text.{word_at, word_text}
use Rattle.mw_file_text.proofs.Written.{text_more}
use Rattle.mw_file_text.proofs.lines.show_words.Goals as goal

pub loop-addr-preserved : goal.loop-addr-preserved
loop-addr-preserved g c =
    let W = g.O.Write.contents in
    let image = c.args.image.now in
    let read = word_in (layout_of image) (part_of image) c.loop-addr.addr (omega (arith, c.loop-addr-test.true, c.words-addr-end.ensures.value)) in
    let told = c.word.ensures in
    let value : c.word.result ≡ word_at image c.loop-addr.addr = cc in
    text_more (W c.args.out.now) (W c.loop-addr.out) (W c.show_word.new.out) (λ addr. word_text c.args.all_words addr (word_at image addr)) c.loop-addr.addr c.loop-addr.invariant
    (subst (λ (value : ℕ). Appends (W c.loop-addr.out) (W c.show_word.new.out) (word_text c.args.all_words c.loop-addr.addr value)) value c.in_ok-show_word.ensures)
