-- Goals of `words_of` (src/opening.rt).
use Rattle.std.proofs.Common.{◌∙◌, ◌≤◌, ◌∷◌, ◌++◌, [], length, ap, arith}
use Rattle.std.proofs.lemmas.List.{take_all}
use Rattle.std.proofs.lemmas.List.FromFn.{length-map-range_with_len}
use Rattle.mw_record.specs.Damages.{words_in, words_of, layout_of, part_of}
use Rattle.mw_record.specs.LayoutBytes.{told_at}
use Rattle.mw_world_file.proofs.OpenedFiles.{take_next}
use Rattle.mw_world_file.proofs.opening.words_of.Goals as goal

pub loop-addr-preserved : goal.loop-addr-preserved
loop-addr-preserved c = c.in_ok-push.ensures.items ∙ ap (λ xs. xs ++ c.word.result ∷ []) c.loop-addr.invariant ∙ take_next (words_in c.args.image.now) c.loop-addr.addr c.word.result c.word.ensures

-- it has come to the last word
pub returns : goal.returns
returns c =
    let image = c.args.image.now in
    let long = length-map-range_with_len (told_at (layout_of image) (part_of image)) 0 (words_of image) in
    let enough : length (words_in image) ≤ c.loop-addr.addr = omega (arith, long, c.words-addr-end.ensures.value) in
    c.loop-addr.invariant ∙ take_all c.loop-addr.addr (words_in image) enough
