-- Goals of `copies` (src/places.rt).
use Rattle.std.proofs.Common.{◌++◌, ◌∷◌, [], ◌∙◌, ap, sym, take}
use Rattle.std.proofs.lemmas.List.{take_more, take_all}
use Rattle.mw_world_file.proofs.places.copies.Goals as goal

pub loop-place-preserved : goal.loop-place-preserved
loop-place-preserved c =
    let places = c.args.places.now in
    let k = c.loop-place.place-index in
    c.in_ok-push.ensures.items
    ∙ ap (λ xs. xs ++ c.copy.result ∷ []) c.loop-place.invariant
    ∙ ap (λ p. take k places ++ p ∷ []) (c.copy.ensures ∙ c.place-item.is)
    ∙ sym (take_more places k c.place-item.result c.loop-place-test.true)

pub returns : goal.returns
returns c = c.loop-place.invariant ∙ take_all c.loop-place.place-index c.args.places.now c.loop-place-test.false
