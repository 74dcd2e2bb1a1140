-- The book of a file that just opened, or that didn't open, represents that file, and no change is settled ahead.
-- Used by: Book::new, unopened.
use Rattle.std.proofs.Common.{◌≡◌, ℕ, zero, suc, ◌<◌, true, false, List, [], length, get_or, replicate, Option, Some, None, is_some, IsTrue, nat_lt, refl, sym, ◌∙◌, arith}
use Rattle.std.proofs.lemmas.Bool.{le-ltb}
use Rattle.mw_words.specs.declared.limits.TheConstants.{MAX_POOL}
use Rattle.mw_words.specs.declared.jobs.Entry.{Entry}
use Rattle.mw_disk.specs.Facts.{Facts}
use Rattle.mw_file.specs.declared.place_states.PlaceState.{PlaceState}
use Rattle.mw_file.specs.declared.tenant_file.TenantFile.{TenantFile}
use Rattle.mw_file.specs.File.{disk_of, words_of, states_of}
use Rattle.mw_file.proofs.Free.{stage_of-all_free}
use Rattle.mw_file.specs.RecoveryInvariant.{RecoversTo}
use Rattle.mw_file.specs.PlaceStates.{all_free}
use Rattle.mw_world.specs.Files.State.{Empty, file_of}
use Rattle.mw_book.specs.declared.place_table.PlaceTable.{PlaceTable}
use Rattle.mw_book.specs.FilePlaces.{flag_of}
use Rattle.mw_book.specs.PreparedAhead.{written_place}
use Rattle.mw_book.specs.Representation.{PartsRepresent, is_prepared_ahead, is_settled, place_in_file, unopened}
use Rattle.mw_book.proofs.PlacesAhead.{held_plain}
use Rattle.mw_book.proofs.RecordsAhead.{not_written}
use Rattle.mw_book.proofs.WrittenPlaces.{written_none}

module _ {D : Type 0} (facts : D → Facts) where
  -- the parts of the book of a file that just opened
  pub new_tells : (file : TenantFile D) (contents : List ℕ) (words places : ℕ) (place_of : List ℕ) (table : PlaceTable) → all_free (states_of file) ≡ true → ((slot : ℕ) → slot < MAX_POOL → get_or place_of slot 0 ≡ 0)
      → ((place : ℕ) → is_settled table place ≡ false) → ((place : ℕ) → is_prepared_ahead table place ≡ false) → words ≡ words_of file
      → length contents ≡ words_of file → (IsTrue (facts (disk_of file)).honest → RecoversTo facts file contents []) → PartsRepresent facts (Some file) words places place_of table false (file_of contents)
  new_tells file contents words places place_of table free zeros plain own same long keeps = record {
    same_words = long ∙ sym same;
    same_places = record {
      stages = λ place lt. stage_of-all_free (states_of file) (place_in_file table place) free ∙ sym (held_plain (is_settled table place) (is_prepared_ahead table place) Empty (plain place) (own place));
      ahead = λ place lt flag. absurd (let e : false ≡ true = sym (plain place) ∙ flag in cc);
      empty_ahead = λ place lt flag. refl;
      further = λ place le. stage_of-all_free (states_of file) place free;
      further_not_ahead = λ place le. plain place;
      further_none_ahead = λ place le. own place;
      writes = λ place lt busy. absurd (let e : true ≡ false = busy in cc);
    };
    same_place_of = λ slot lt. sym (zeros slot lt);
    same_failed = refl;
    stands = keeps;
  }

  -- the parts of the book of a file that didn't open
  pub unopened_tells : (contents : List ℕ) (words places : ℕ) (place_of : List ℕ) (table : PlaceTable) → ((slot : ℕ) → slot < MAX_POOL → get_or place_of slot 0 ≡ 0) → ((place : ℕ) → is_settled table place ≡ false) → ((place : ℕ) → is_prepared_ahead table place ≡ false) → length contents ≡ words
      → PartsRepresent facts None words places place_of table true (unopened contents)
  unopened_tells contents words places place_of table zeros plain own long = record {
    same_words = long;
    same_places = record {
      stages = λ place lt. sym (held_plain (is_settled table place) (is_prepared_ahead table place) Empty (plain place) (own place));
      ahead = λ place lt flag. absurd (let e : false ≡ true = sym (plain place) ∙ flag in cc);
      empty_ahead = λ place lt flag. refl;
      further = λ place le. refl;
      further_not_ahead = λ place le. plain place;
      further_none_ahead = λ place le. own place;
      writes = λ place lt busy. absurd (let e : true ≡ false = busy in cc);
    };
    same_place_of = λ slot lt. sym (zeros slot lt);
    same_failed = refl;
    stands = tt;
  }

-- no change is settled ahead if all flags are false
pub none_ahead : (many place : ℕ) → flag_of (replicate many false) place ≡ false
none_ahead zero place = refl
none_ahead (suc many) zero = refl
none_ahead (suc many) (suc place) = none_ahead many place

-- none is prepared ahead if no place has a slot
abbrev no_slots : ℕ → List (Option ℕ)
no_slots many = replicate many None

-- the table of a new book
abbrev bare : List ℕ → ℕ → PlaceTable
bare numbers many = record { file_place = numbers; settled = replicate many false; ahead_for = no_slots many }

pub none_prepared : (many place : ℕ) → is_some (get_or (no_slots many) place None) ≡ false
none_prepared zero place = refl
none_prepared (suc many) zero = refl
none_prepared (suc many) (suc place) = none_prepared many place

-- then no record is
pub no_records : (states : List PlaceState) (numbers : List ℕ) (many places slot : ℕ) (entries : List Entry)
    → nat_lt (written_place states (record { file_place = numbers; settled = replicate many false; ahead_for = no_slots many }) slot entries places) places ≡ false
no_records states numbers many places slot entries =
    let at = written_none states (bare numbers many) slot entries 0 places (λ place. not_written states (bare numbers many) slot entries place (none_prepared many place)) in
    le-ltb (written_place states (bare numbers many) slot entries places) places (omega (arith, at))
