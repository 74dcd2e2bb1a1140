-- Goals of `SimulatedFile::new` (src/new_books.rt).
use Rattle.std.proofs.Common.{◌∙◌, ℕ, List, length, replicate, None, sym, ap, subst, arith}
use Rattle.std.proofs.lemmas.List.{length-replicate}
use Rattle.mw_file.specs.RecoveryInvariant.{IsFile}
use Rattle.mw_world.specs.Files.FirstPlaces.{first_places}
use Rattle.mw_world_file.specs.StoppedFiles.{IsReopened}
use Rattle.mw_world.proofs.EnoughPlaces.{places_enough}
use Rattle.mw_world_file.proofs.NewFiles.{first_is_file}
use Rattle.mw_world_file.proofs.simulated_file.SimulatedFile.new.Goals.{In-Ok}
use Rattle.mw_world_file.proofs.simulated_file.SimulatedFile.new.Goals as goal

-- the bytes that it was made of
is_file : (c : In-Ok) → IsFile (first_places c.args.quota) (replicate {A = ℕ} c.args.words 0) c.in_ok-bytes.bytes.items
is_file c =
    subst (λ (image : List ℕ). IsFile (first_places c.args.quota) (replicate {A = ℕ} c.args.words 0) image) (sym c.in_ok-bytes.ensures)
    (first_is_file c.args.words c.args.quota c.min-places.result c.requires.some_word c.requires.words_fit c.requires.some_place (omega (arith, c.min-places.ensures, c.from.ensures)))

reopened : (c : In-Ok) → IsReopened c.in_ok-bytes.bytes.items c.from-2.result (replicate {A = ℕ} c.args.words 0) None c.in-Ok.book
reopened c =
    c.in-Ok.ensures (replicate {A = ℕ} c.args.words 0) (is_file c).words_are
    (let has = (is_file c).places_are in let enough = places_enough c.args.quota c.requires.places_fit in omega (arith, has, enough, c.from-2.ensures))

pub returns-in-Ok-clause-shows : goal.returns-in-Ok-clause-shows
returns-in-Ok-clause-shows c = (reopened c).shows

pub returns-in-Ok-clause-places : goal.returns-in-Ok-clause-places
returns-in-Ok-clause-places c = (reopened c).count ∙ c.from-2.ensures

pub returns-in-Ok-clause-has : goal.returns-in-Ok-clause-has
returns-in-Ok-clause-has c = (reopened c).has ∙ (is_file c).places_are

pub returns-in-Ok-clause-words : goal.returns-in-Ok-clause-words
returns-in-Ok-clause-words c = sym (ap (λ (ws : List ℕ). length ws) (reopened c).shows.same_contents) ∙ length-replicate c.args.words 0
