-- Goals of `give_second` (src/opening.rt).
use Rattle.std.proofs.Common.{◌*◌, ℕ, ap, ◌∙◌, subst}
use Rattle.mw_record.specs.declared.layout.Layout.TheVariants.{First}
use Rattle.mw_record.specs.declared.layout.TheConstants.{PLACES_GROW}
use Rattle.mw_record.specs.Layout.{size, second_part}
use Rattle.mw_record.specs.Damages.{words_of, found_places}
use Rattle.mw_file.specs.Migration.{InSwitch, Grown, given_second, IsMigrated}
use Rattle.mw_file.proofs.RollLoop.{on_ok}
use Rattle.mw_file.proofs.OpeningCallLaws.{migration_as}
use Rattle.mw_file.proofs.Ready.{can_migrate}
use Rattle.mw_file.proofs.opening.give_second.Goals as goal

pub returns-clause-given : goal.returns-clause-given
returns-clause-given g c =
    let f = g.D.Disk.facts c.args.disk.now in
    let f2 = g.D.Disk.facts c.migrate.new.disk in
    let image = c.args.image.now in
    let words = c.args.words.now in
    let ends = c.size.ensures ∙ ap (λ n. size First n c.places.result) c.words-2.ensures.value ∙ ap (size First (words_of image)) c.places.ensures.value in
    let bytes = c.write_second.ensures ∙ ap (λ n. second_part (PLACES_GROW * n) words) c.places-places.ensures.value in
    on_ok _ _ c.migrate.result (λ done grow.
    done (words_of image) (found_places image) words (can_migrate f image words _ _ grow ends bytes)
    ∙ ap (λ bs. given_second c.size.result bs f.reads) bytes
    ∙ ap (λ k. given_second k (second_part (PLACES_GROW * found_places image) words) f.reads) ends) c.migrate.ensures.given

pub returns-clause-moments : goal.returns-clause-moments
returns-clause-moments g c grow =
    let f = g.D.Disk.facts c.args.disk.now in
    let image = c.args.image.now in
    let words = c.args.words.now in
    let ends = c.size.ensures ∙ ap (λ n. size First n c.places.result) c.words-2.ensures.value ∙ ap (size First (words_of image)) c.places.ensures.value in
    let bytes = c.write_second.ensures ∙ ap (λ n. second_part (PLACES_GROW * n) words) c.places-places.ensures.value in
    c.migrate.ensures.moments (words_of image) (found_places image) words (can_migrate f image words _ _ grow ends bytes)

pub returns-clause-read : goal.returns-clause-read
returns-clause-read g c grow =
    let f = g.D.Disk.facts c.args.disk.now in
    let image = c.args.image.now in
    let words = c.args.words.now in
    let ends = c.size.ensures ∙ ap (λ n. size First n c.places.result) c.words-2.ensures.value ∙ ap (size First (words_of image)) c.places.ensures.value in
    let bytes = c.write_second.ensures ∙ ap (λ n. second_part (PLACES_GROW * n) words) c.places-places.ensures.value in
    c.migrate.ensures.read (words_of image) (found_places image) words (can_migrate f image words _ _ grow ends bytes)

pub returns-clause-done : goal.returns-clause-done
returns-clause-done g c =
    let f = g.D.Disk.facts c.args.disk.now in
    let f2 = g.D.Disk.facts c.migrate.new.disk in
    let image = c.args.image.now in
    let words = c.args.words.now in
    let ends = c.size.ensures ∙ ap (λ n. size First n c.places.result) c.words-2.ensures.value ∙ ap (size First (words_of image)) c.places.ensures.value in
    let bytes = c.write_second.ensures ∙ ap (λ n. second_part (PLACES_GROW * n) words) c.places-places.ensures.value in
    on_ok _ _ c.migrate.result (λ done grow.
    subst (λ (k : ℕ). IsMigrated f2 k (words_of image) (PLACES_GROW * found_places image) words) ends
    (done (words_of image) (found_places image) words (can_migrate f image words _ _ grow ends bytes))) c.migrate.ensures.done

pub returns-clause-grown : goal.returns-clause-grown
returns-clause-grown g c grow =
    let f = g.D.Disk.facts c.args.disk.now in
    let f2 = g.D.Disk.facts c.migrate.new.disk in
    let image = c.args.image.now in
    let words = c.args.words.now in
    let ends = c.size.ensures ∙ ap (λ n. size First n c.places.result) c.words-2.ensures.value ∙ ap (size First (words_of image)) c.places.ensures.value in
    let bytes = c.write_second.ensures ∙ ap (λ n. second_part (PLACES_GROW * n) words) c.places-places.ensures.value in
    subst (λ (k : ℕ). Grown InSwitch k f f2) ends
    (c.migrate.ensures.grown (words_of image) (found_places image) words (can_migrate f image words _ _ grow ends bytes))

pub returns-clause-made : goal.returns-clause-made
returns-clause-made g c =
    let image = c.args.image.now in
    let words = c.args.words.now in
    let ends = c.size.ensures ∙ ap (λ n. size First n c.places.result) c.words-2.ensures.value ∙ ap (size First (words_of image)) c.places.ensures.value in
    let bytes = c.write_second.ensures ∙ ap (λ n. second_part (PLACES_GROW * n) words) c.places-places.ensures.value in
    migration_as g.D.Disk.made _ _ _ _ _ c.args.disk.now c.migrate.new.disk ends bytes c.migrate.ensures.made
