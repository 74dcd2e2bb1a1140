-- Goals of `copies` (src/place_states.rt).
use Rattle.std.proofs.Common.{◌++◌, ◌∷◌, [], ◌∙◌, ap, sym, take}
use Rattle.std.proofs.lemmas.List.{take_more, take_all}
use Rattle.mw_file.proofs.place_states.copies.Goals as goal

pub loop-state-preserved : goal.loop-state-preserved
loop-state-preserved c =
    let states = c.args.states.now in
    let k = c.loop-state.state-index in
    c.in_ok-push.ensures.items
    ∙ ap (λ xs. xs ++ c.copy.result ∷ []) c.loop-state.invariant
    ∙ ap (λ s. take k states ++ s ∷ []) (c.copy.ensures ∙ c.state-item.is)
    ∙ sym (take_more states k c.state-item.result c.loop-state-test.true)

pub returns : goal.returns
returns c = c.loop-state.invariant ∙ take_all c.loop-state.state-index c.args.states.now c.loop-state-test.false
