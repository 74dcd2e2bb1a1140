-- Goals of `opened_one` (src/new_parts.rt).
use Rattle.std.specs.Prelude.{replicate, None}
use Rattle.std.proofs.Common.{refl, sym, subst, ◌∙◌}
use Rattle.std.proofs.lemmas.List.{length-replicate}
use Rattle.mw_engine.specs.OpenedFiles.{IsMadeOf}
use Rattle.mw_engine.proofs.new_parts.opened_one.Goals as goal

pub returns-in-None : goal.returns-in-None
returns-in-None g c =
    let line = c.args.line.now in
    let book = c.unopened-book.result in
    subst (λ file. IsMadeOf g.D.Disk.facts line file (record { quota = line.quota; places = line.quota; words = None }) book) (sym c.in-None.is)
    (record { opening_is = refl; held = c.unopened-book.ensures.held; places = c.unopened-book.ensures.places ∙ c.from-in-None.ensures; shows = c.unopened-book.ensures.shows (replicate line.words 0) (length-replicate line.words 0) })
