-- The book of a file that was just opened represents that file: it has the file's words and record places.
-- Used by: open_book, words_of.
use Rattle.std.proofs.Common.{◌≡◌, ℕ, zero, suc, ◌+◌, ◌≤◌, ◌==◌, min, true, false, if◌then◌else◌, List, [], ◌∷◌, ◌++◌, length, take, replicate, get_or, slice_get, Some, None, is_none, IsTrue, refl, sym, ap, subst, ◌∙◌, arith}
use Rattle.std.proofs.lemmas.List.{length-take}
use Rattle.mw_words.specs.declared.jobs.Entry.{Entry}
use Rattle.mw_memory_disk.specs.Memory.{Memory, memory_facts}
use Rattle.mw_record.specs.declared.layout.TheConstants.{MAX_FILE}
use Rattle.mw_record.specs.Damages.{damage_of, file_words, found_places, is_switched, pairs_in, places_of}
use Rattle.mw_record.proofs.FirstBytes.{is_switched_first, found_places_first, places_of_first, damage_of_first, pairs_in_first}
use Rattle.mw_file.specs.declared.place_states.PlaceState.{PlaceState}
use Rattle.mw_file.specs.declared.tenant_file.TenantFile.{TenantFile}
use Rattle.mw_file.specs.File.{states_of}
use Rattle.mw_file.specs.OpeningEnds.{IsOpened, entries_below, records_below, open_entries, open_records, ready_calls, repair_calls, read_calls, open_calls}
use Rattle.mw_file.specs.Migration.{migration_calls}
use Rattle.mw_file.specs.PlaceStates.{all_free}
use Rattle.mw_file.proofs.Free.{stage_of-all_free}
use Rattle.mw_file.specs.RecoveryInvariant.{RecoversTo}
use Rattle.mw_world_file.specs.declared.device.Device.TheVariants.{Open}
use Rattle.mw_world_file.specs.declared.places.Place.{Place as KeptPlace}
use Rattle.mw_world_file.specs.declared.places.Place.TheVariants.{Empty as KeptEmpty}
use Rattle.mw_world.specs.Files.State.{Empty, is_empty, file_of}
use Rattle.mw_world.specs.Files.Stages.{stage_told}
use Rattle.mw_world_file.specs.Devices.{place_in, AreKept, DeviceRecoversTo}
use Rattle.mw_world_file.specs.Books.{PartsRepresent}

-- each of `n` empty places is empty, and so is every place after them
pub none_there : (n place : ℕ) → place_in (replicate n KeptEmpty) place ≡ Empty
none_there zero place = refl
none_there (suc n) zero = refl
none_there (suc n) (suc place) = none_there n place

-- each of `n` zeros is 0, and so is what is read after them
pub zero_there : (n k : ℕ) → get_or {A = ℕ} (replicate n 0) k 0 ≡ 0
zero_there zero k = refl
zero_there (suc n) zero = refl
zero_there (suc n) (suc k) = zero_there n k

-- if all places of a file are free, a book keeps them as empty places
pub free_kept : (states : List PlaceState) (places : List KeptPlace) (n : ℕ) → IsTrue (all_free states) → places ≡ replicate n KeptEmpty → AreKept states places
free_kept states places n free empty = record {
  stages = λ place. stage_of-all_free states place free ∙ sym (ap stage_told (there place));
  writes = λ place busy. absurd (let e : true ≡ false = sym (ap is_empty (there place)) ∙ busy in cc);
} where
  there : (place : ℕ) → place_in places place ≡ Empty
  there place = ap (λ ps. place_in ps place) empty ∙ none_there n place

-- the parts of the book represent a file that was just opened
pub tells_opened : (file : TenantFile Memory) (contents : List ℕ) (places : List KeptPlace) (count : ℕ) (doubt : List Entry) (n slots : ℕ) → RecoversTo memory_facts file contents []
    → places ≡ replicate n KeptEmpty → doubt ≡ [] → PartsRepresent (Open file) contents places count (replicate slots 0) false doubt (file_of contents)
tells_opened file contents places count doubt n slots keeps empty none = record {
  same_contents = refl;
  same_places = λ place lt. sym (ap (λ ps. place_in ps place) empty ∙ none_there n place);
  same_place_of = λ slot lt. sym (zero_there slots slot);
  same_failed = refl;
  same_doubt = sym none;
  stands = subst (λ es. DeviceRecoversTo (Open file) count contents es) (sym none) keeps;
}

-- the first `k` elements, and then element `k`, are the first `k + 1` elements
pub take_next : {A : Type 0} (xs : List A) (k : ℕ) (x : A) → slice_get xs k ≡ Some x → take k xs ++ x ∷ [] ≡ take (k + 1) xs
take_next {A = A} xs k x at = let next : suc k ≡ k + 1 = omega arith in by xs k at ∙ ap (λ n. take n xs) next where
  by : (ys : List A) (n : ℕ) → slice_get ys n ≡ Some x → take n ys ++ x ∷ [] ≡ take (suc n) ys
  by [] n is = absurd (cc)
  by (y ∷ ys) zero is = let e : Some y ≡ Some x = is in cc
  by (y ∷ ys) (suc n) is = ap (λ rest. y ∷ rest) (by ys n is)

-- The device calls of an opening depend only on the bytes that can belong to a file.
module _ (bytes : List ℕ) (none : damage_of bytes ≡ None) where
  same_entries : (n : ℕ) → n ≤ found_places bytes → entries_below (take MAX_FILE bytes) n ≡ entries_below bytes n
  same_entries zero le = refl
  same_entries (suc n) le =
      ap (λ k. k + length (pairs_in (take MAX_FILE bytes) n)) (same_entries n (omega (arith, le)))
      ∙ ap (λ ps. entries_below bytes n + length ps) (pairs_in_first bytes none n (omega (arith, le)))

  same_records : (n : ℕ) → n ≤ found_places bytes → records_below (take MAX_FILE bytes) n ≡ records_below bytes n
  same_records zero le = refl
  same_records (suc n) le =
      ap (λ k. k + min 1 (length (pairs_in (take MAX_FILE bytes) n))) (same_records n (omega (arith, le)))
      ∙ ap (λ ps. records_below bytes n + min 1 (length ps)) (pairs_in_first bytes none n (omega (arith, le)))

  same_repair : repair_calls (take MAX_FILE bytes) ≡ repair_calls bytes
  same_repair =
      let places : found_places (take MAX_FILE bytes) ≡ found_places bytes = found_places_first bytes none in
      let entries = ap (λ n. entries_below (take MAX_FILE bytes) n) places ∙ same_entries (found_places bytes) (omega arith) in
      let records = ap (λ n. records_below (take MAX_FILE bytes) n) places ∙ same_records (found_places bytes) (omega arith) in
      ap (λ r. if r == 0 then 0 else (open_entries (take MAX_FILE bytes) + 1) + (r + 1)) records
      ∙ ap (λ e. if open_records bytes == 0 then 0 else (e + 1) + (open_records bytes + 1)) entries

  same_reading : read_calls (take MAX_FILE bytes) ≡ read_calls bytes
  same_reading = let long = length-take MAX_FILE bytes in omega (arith, long)

  same_ready : ready_calls (take MAX_FILE bytes) ≡ ready_calls bytes
  same_ready =
      ap (λ b. if b then repair_calls (take MAX_FILE bytes) else migration_calls) (is_switched_first bytes)
      ∙ ap (λ n. if is_switched bytes then n else migration_calls) same_repair

  pub same_calls : open_calls (take MAX_FILE bytes) ≡ open_calls bytes
  same_calls =
      ap (λ n. n + (if is_none (damage_of (take MAX_FILE bytes)) then ready_calls (take MAX_FILE bytes) else 0)) same_reading
      ∙ ap (λ d. read_calls bytes + (if is_none d then ready_calls (take MAX_FILE bytes) else 0)) (damage_of_first bytes)
      ∙ ap (λ n. read_calls bytes + (if is_none (damage_of bytes) then n else 0)) same_ready

-- a file in memory is opened with the words of its bytes
pub opened_words : (disk : Memory) (file : TenantFile Memory) (words contents : List ℕ) → IsOpened memory_facts disk file words → file_words (memory_facts disk).reads ≡ Some contents → words ≡ contents
opened_words disk file words contents opened is = let e : Some words ≡ Some contents = sym (opened.whole refl) ∙ is in cc

-- an opened file in memory has as many places as its bytes tell
pub opened_places : (disk : Memory) (file : TenantFile Memory) (words : List ℕ) → IsOpened memory_facts disk file words → length (states_of file) ≡ places_of (memory_facts disk).reads
opened_places disk file words opened =
    let reads : List ℕ = (memory_facts disk).reads in
    let none : damage_of reads ≡ None = sym (damage_of_first reads) ∙ sym (ap damage_of (opened.seen refl)) ∙ opened.undamaged in
    opened.places ∙ ap places_of (opened.seen refl) ∙ places_of_first reads none
