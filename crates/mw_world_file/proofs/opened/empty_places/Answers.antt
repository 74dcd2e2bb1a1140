-- Goals of `empty_places` (src/opened.rt).
use Rattle.std.proofs.Common.{◌≡◌, ◌++◌, ◌∷◌, [], ◌∙◌, ap, arith, replicate}
use Rattle.std.proofs.lemmas.List.{replicate-append-replicate}
use Rattle.mw_world_file.specs.declared.places.Place.TheVariants.{Empty}
use Rattle.mw_world_file.proofs.opened.empty_places.Goals as goal

pub loop-preserved : goal.loop-preserved
loop-preserved c =
    c.in_ok-push.ensures.items ∙ ap (λ places. places ++ Empty ∷ []) c.loop.invariant ∙ replicate-append-replicate c.loop.counter 1 Empty

pub returns : goal.returns
returns c =
    let all : c.loop.counter ≡ c.args.count = omega (arith, c.loop-test.false, c.loop.auto.counter-end) in
    c.loop.invariant ∙ ap (λ n. replicate n Empty) all
