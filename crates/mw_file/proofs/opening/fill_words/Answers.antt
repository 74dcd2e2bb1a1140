-- Goals of `fill_words` (src/opening.rt).
use Rattle.std.proofs.Common.{◌∙◌, ◌≤◌, ◌<◌, length, sym, arith}
use Rattle.std.proofs.lemmas.List.{take_all}
use Rattle.std.proofs.lemmas.List.FromFn.{length-map-range_with_len}
use Rattle.mw_record.specs.LayoutBytes.{told_at}
use Rattle.mw_record.specs.Damages.{words_in, words_of, layout_of, part_of}
use Rattle.mw_file.proofs.Recalled.{word_more}
use Rattle.mw_file.proofs.opening.fill_words.Goals as goal

-- both lists have as many words as the loop has done
pub returns : goal.returns
returns c =
    let words = c.loop-addr.words.items in
    let image = c.args.image.now in
    let stands = c.loop-addr.words.ok.0 in
    let long = length-map-range_with_len (told_at (layout_of image) (part_of image)) 0 (words_of image) in
    let all : length words ≤ c.loop-addr.addr = omega (arith, stands, c.loop-addr.invariant.1, c.words-addr-end.ensures.value) in
    let enough : length (words_in image) ≤ c.loop-addr.addr = omega (arith, long, c.words-addr-end.ensures.value) in
    sym (take_all c.loop-addr.addr words all) ∙ c.loop-addr.invariant.0 ∙ take_all c.loop-addr.addr (words_in image) enough

pub loop-addr-preserved : goal.loop-addr-preserved
loop-addr-preserved c =
    let stands = c.loop-addr.words.ok.0 in
    let l = c.loop-addr-test.true in
    let within : c.loop-addr.addr < length c.loop-addr.words.items = omega (arith, l, stands, c.loop-addr.invariant.1, c.words-addr-end.ensures.value) in (
      word_more c.loop-addr.words.items (words_in c.args.image.now) c.loop-addr.addr c.word.result within c.loop-addr.invariant.0 c.word.ensures,
      c.loop-addr.invariant.1,
    )
