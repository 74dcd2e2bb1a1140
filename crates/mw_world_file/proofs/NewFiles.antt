-- A new file has all words 0. After its opening it has as many record places as a tenant's first file.
-- Used by: SimulatedFile::new.
use Rattle.std.proofs.Common.{◌≡◌, ℕ, ◌≤◌, ◌*◌, min, replicate, subst, arith}
use Rattle.std.proofs.lemmas.Bool.Decides.{nat_tests}
use Rattle.mw_words.specs.declared.limits.TheConstants.{MAX_WORDS}
use Rattle.mw_record.specs.declared.layout.Layout.TheVariants.{First}
use Rattle.mw_record.specs.declared.layout.TheConstants.{FIRST_PLACES, PLACES_GROW}
use Rattle.mw_record.specs.Layout.{new_file}
use Rattle.mw_record.specs.Contents.{MayHave}
use Rattle.mw_record.proofs.ClosedPlaces.{new_file_has, new_file_first}
use Rattle.mw_record.proofs.Sound.{first_file}
use Rattle.mw_file.specs.RecoveryInvariant.{IsFile}
use Rattle.mw_world.specs.Files.FirstPlaces.{first_places}

-- A new file represents zeros. The places that it was made with grow by PLACES_GROW when it is opened.
new_is_file : (words places : ℕ) → MayHave First words places → IsFile (PLACES_GROW * places) (replicate words 0) (new_file words places)
new_is_file words places may =
    let file = first_file words places (replicate words 0) (new_file words places) (new_file_first words places) (new_file_has words places may) in
    record { words_are = file.0; places_are = file.2 }

-- so it has as many as a tenant's first file, if it was made with the quota, or with the most that a first layout may
-- have
pub grown : (quota made : ℕ) → made ≡ min quota FIRST_PLACES → PLACES_GROW * made ≡ first_places quota
grown quota made as_many = grind (arith, nat_tests, as_many)

pub first_is_file : (words quota made : ℕ) → 1 ≤ words → words ≤ MAX_WORDS → 1 ≤ quota → made ≡ min quota FIRST_PLACES → IsFile (first_places quota) (replicate words 0) (new_file words made)
first_is_file words quota made some_word words_fit some_place as_many =
    subst (λ (n : ℕ). IsFile n (replicate words 0) (new_file words made)) (grown quota made as_many)
    (new_is_file words made (record { some_word = some_word; words_fit = words_fit; some_place = omega (arith, some_place, as_many); places_fit = omega (arith, as_many) }))
