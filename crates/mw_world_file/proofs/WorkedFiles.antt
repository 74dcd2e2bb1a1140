-- After a call on a simulated file, the new book represents the file after the call.
-- Used by: SimulatedFile::prepare, cancel, seal, settle, stop_preparing, among others.
use Rattle.std.proofs.Common.{◌≡◌, ℕ, ◌+◌, ◌<◌, ◌≤◌, Bool, true, false, List, [], ◌∷◌, length, Option, Some, None, Result, Ok, Err, slice_get, slice_set, get_or, nat_lt, min, is_some, IsErrAnd, refl, sym, ap, subst, ◌∙◌, inl, inr, arith}
use Rattle.std.specs.List.{list_any}
use Rattle.std.proofs.lemmas.Bool.{cases_Bool, cond-true, cond-false, ltb-true}
use Rattle.std.proofs.lemmas.List.{length-set}
use Rattle.std.proofs.lemmas.Option.{slice_get_read, slice_get_within}
use Rattle.mw_words.specs.declared.limits.TheConstants.{MAX_POOL}
use Rattle.mw_words.specs.declared.jobs.Entry.{Entry}
use Rattle.arrayvec.specs.ArrayVec.{ArrayVec}
use Rattle.mw_look.specs.declared.steps.Call.{Call}
use Rattle.mw_look.specs.declared.steps.Call.TheVariants.{Prepare as PrepareCall}
use Rattle.mw_memory_disk.specs.Memory.{Memory, memory_facts}
use Rattle.mw_record.specs.Records.{Pairs}
use Rattle.mw_record.specs.Layout.{pairs_of}
use Rattle.mw_file.specs.declared.tenant_file.TenantFile.{TenantFile}
use Rattle.mw_file.specs.File.{states_of, words_of, has_failed}
use Rattle.mw_file.specs.RecoveryInvariant.{RecoversTo}
use Rattle.mw_file.specs.declared.place_states.Stage.{Stage}
use Rattle.mw_file.specs.PlaceStates.{free_place, IsStaged}
use Rattle.mw_world_file.specs.declared.device.Device.{Device}
use Rattle.mw_world_file.specs.declared.device.Device.TheVariants.{Open}
use Rattle.mw_world_file.specs.declared.places.Place.{Place as KeptPlace}
use Rattle.mw_world_file.specs.declared.places.Place.TheVariants.{Prepared as KeptPrepared}
use Rattle.mw_world_file.specs.declared.simulated_file.SimulatedFile.{SimulatedFile}
use Rattle.mw_world.specs.declared.outcomes.Outcome.{Outcome}
use Rattle.mw_world.specs.declared.outcomes.Outcome.TheVariants.{Good, Fail}
use Rattle.mw_world_file.specs.declared.faults.BookFault.{BookFault}
use Rattle.mw_world_file.specs.declared.faults.BookFault.TheVariants.{NotEnabled, Memory as NoMemory}
use Rattle.mw_world.specs.Files.State.{File, Prepared, is_empty, entries_in, entries_at, broken, prepared, empty_from, file_of}
use Rattle.mw_world.specs.Files.Calls.{place_for, suits, device_calls, filed, doubt_of}
use Rattle.mw_world.specs.Maps.{upd}
use Rattle.mw_world.specs.Files.Stages.{stage_told}
use Rattle.mw_world_file.specs.Devices.{told, told_at, place_in, DeviceRecoversTo, AreKept, states_on, words_on, has_failed_on, is_open}
use Rattle.mw_world_file.specs.Books.{PartsRepresent, Represents, HasParts, quota_of, places_of_file}
use Rattle.mw_world_file.specs.CallEffects.{may_end, left_by, worked_at, worked, Turns, Works}
use Rattle.mw_world.proofs.MapLaws.{set_number}
use Rattle.mw_world_file.proofs.KeptPlaces.{lowest, Lowest, empty_among, set_told, kept_on}

-- a call during which memory was out
pub refused : (old : SimulatedFile) (call : Call) (slot : ℕ) (entries : List Entry) (outcome : Outcome) (r : Result SimulatedFile BookFault) → IsErrAnd r (λ e. e ≡ NoMemory) → Works old call slot entries outcome r
refused old call slot entries outcome (Ok book) is = absurd is
refused old call slot entries outcome (Err NotEnabled) is = absurd (let e : NotEnabled ≡ NoMemory = is in cc)
refused old call slot entries outcome (Err NoMemory) is = tt

-- a call under another name
pub works_as : (old : SimulatedFile) (call other : Call) (slot : ℕ) (entries : List Entry) (outcome : Outcome) (r : Result SimulatedFile BookFault) → call ≡ other → Works old other slot entries outcome r
    → Works old call slot entries outcome r
works_as old call other slot entries outcome r same works = subst (λ k. Works old k slot entries outcome r) (sym same) works

-- a place that doesn't suit, a call that can't end so, and a call that can
pub unsuited : (call : Call) (file : File) (places slot place : ℕ) (entries : List Entry) (outcome : Outcome) → suits call file places place ≡ false
    → worked_at call file places slot place entries outcome ≡ None
unsuited call file places slot place entries outcome not = cond-false (suits call file places place) _ None not

pub unending : (call : Call) (file : File) (places slot place : ℕ) (entries : List Entry) (outcome : Outcome) → may_end (device_calls call (entries_at file place)) outcome ≡ false
    → worked_at call file places slot place entries outcome ≡ None
unending call file places slot place entries outcome not = elim (cases_Bool (suits call file places place)) [
  | inl is ↦ cond-true (suits call file places place) _ None is ∙ cond-false (may_end (device_calls call (entries_at file place)) outcome) (Some (left_by call file slot place entries outcome)) None not
  | inr isnt ↦ unsuited call file places slot place entries outcome isnt
]

pub suited : (call : Call) (file : File) (places slot place : ℕ) (entries : List Entry) (outcome : Outcome) → suits call file places place ≡ true → may_end (device_calls call (entries_at file place)) outcome ≡ true
    → worked_at call file places slot place entries outcome ≡ Some (left_by call file slot place entries outcome)
suited call file places slot place entries outcome is may =
    cond-true (suits call file places place) _ None is ∙ cond-true (may_end (device_calls call (entries_at file place)) outcome) (Some (left_by call file slot place entries outcome)) None may

-- a book represents what its parts represent
pub shows_parts : (book : SimulatedFile) (device : Device) (contents : List ℕ) (places : List KeptPlace) (count : ℕ) (place_of : List ℕ) (failed : Bool) (doubt : List Entry) (file : File)
    → HasParts book device contents places count place_of failed doubt → PartsRepresent device contents places count place_of failed doubt file → Represents book file
shows_parts book device contents places count place_of failed doubt file parts tells = record {
  same_contents = tells.same_contents ∙ sym parts.is_contents;
  same_places = λ k lt. tells.same_places k (subst (λ ps. k < length ps) parts.is_places lt) ∙ ap (λ ps. place_in ps k) (sym parts.is_places);
  same_place_of = λ slot lt. tells.same_place_of slot lt ∙ ap (λ numbers. get_or numbers slot 0) (sym parts.is_place_of);
  same_failed = tells.same_failed ∙ sym parts.is_failed;
  same_doubt = tells.same_doubt ∙ sym parts.is_doubt;
  stands = subst (λ d. DeviceRecoversTo d book.file_places book.contents.items book.doubt.items) (sym parts.is_device)
      (subst (λ n. DeviceRecoversTo device n book.contents.items book.doubt.items) (sym parts.is_file_places)
      (subst (λ ws. DeviceRecoversTo device count ws book.doubt.items) (sym parts.is_contents)
      (subst (λ es. DeviceRecoversTo device count contents es) (sym parts.is_doubt) tells.stands)));
}

-- what an open file recovers to
pub stands_open : (device : Device) (held : TenantFile Memory) (places : ℕ) (contents : List ℕ) (doubt : List Entry) → device ≡ Open held → DeviceRecoversTo device places contents doubt
    → RecoversTo memory_facts held contents (pairs_of doubt)
stands_open device held places contents doubt is stands = subst (λ d. DeviceRecoversTo d places contents doubt) is stands

-- a file that hasn't failed has no change in doubt
none_written : (doubt : List Entry) → pairs_of doubt ≡ [] → doubt ≡ []
none_written [] none = refl
none_written (e ∷ doubt) none = absurd (cc)

-- The facts of a book whose file is open.
module _ (old : SimulatedFile) (held : TenantFile Memory) (is : old.device ≡ Open held) where
  pub places_open : length (states_of held) ≡ places_of_file old
  places_open = sym (ap (λ d. length (states_on d)) is) ∙ old.has (ap (λ d. is_open d) is)

  counted : length old.places.items ≤ length (states_of held)
  counted = let has = places_open in let count = old.count in omega (arith, has, count)

  pub kept_open : AreKept (states_of held) old.places.items
  kept_open = subst (λ d. AreKept (states_on d) old.places.items) is old.kept

  pub keeps_open : (file : File) → Represents old file → RecoversTo memory_facts held old.contents.items (pairs_of old.doubt.items)
  keeps_open file shows = stands_open old.device held old.file_places old.contents.items old.doubt.items is shows.stands

  -- the file has as many words as the book
  pub sized_open : words_of held ≡ length old.contents.items
  sized_open = sym (ap (λ d. words_on d) is) ∙ old.sized (ap (λ d. is_open d) is)

  -- the file has failed only if the book says so
  pub unfailed_open : old.has_failed ≡ false → has_failed held ≡ false
  unfailed_open sound = sym (ap (λ d. has_failed_on d) is) ∙ old.failed ∙ sound

  -- a place of a copy of the file changed
  pub kept_after : (before now : TenantFile Memory) (number : ℕ) (p : KeptPlace) (stage : Stage) (w : Pairs) → states_of before ≡ states_of held → number < length old.places.items
      → IsStaged (states_of before) (states_of now) number stage w → stage ≡ stage_told (told p) → (is_empty (told p) ≡ false → w ≡ pairs_of (entries_in (told p)))
      → AreKept (states_of now) (slice_set old.places.items number p)
  kept_after before now number p stage w same within staged is_stage is_writes =
      kept_on (states_of before) (states_of now) old.places.items number p stage w within (subst (λ ss. AreKept ss old.places.items) (sym same) kept_open) staged is_stage is_writes

  -- a device call of a call failed
  pub broken_turns : (now : TenantFile Memory) (new : SimulatedFile) (call : Call) (slot : ℕ) (entries : List Entry) (outcome : Outcome) (number : ℕ) (doubt : ArrayVec Entry) → outcome ≡ Fail number
      → HasParts new (Open now) old.contents.items old.places.items old.file_places old.place_of true doubt.items
      → ((file : File) → Represents old file → RecoversTo memory_facts now old.contents.items (pairs_of doubt.items))
      → ((file : File) → Represents old file → suits call file (quota_of old) (place_for call file (quota_of old) slot) ≡ true)
      → ((file : File) → Represents old file → may_end (device_calls call (entries_at file (place_for call file (quota_of old) slot))) outcome ≡ true)
      → ((file : File) → Represents old file → doubt_of call (entries_at file (place_for call file (quota_of old) slot)) ≡ doubt.items)
      → Turns old new (λ file. worked call file (quota_of old) slot entries outcome)
  broken_turns now new call slot entries outcome number doubt fails parts keeps suit may in_doubt = record {
    places = ap (λ ps. length ps) parts.is_places;
    has = parts.is_file_places;
    words = ap (λ ws. length ws) parts.is_contents;
    shows = λ file shows. (
      broken file doubt.items,
      suited call file (quota_of old) slot (place_for call file (quota_of old) slot) entries outcome (suit file shows) (may file shows)
          ∙ ap (λ o. Some (left_by call file slot (place_for call file (quota_of old) slot) entries o)) fails ∙ ap (λ es. Some (broken file es)) (in_doubt file shows),
      shows_parts new (Open now) old.contents.items old.places.items old.file_places old.place_of true doubt.items (broken file doubt.items) parts (record {
        same_contents = shows.same_contents;
        same_places = shows.same_places;
        same_place_of = shows.same_place_of;
        same_failed = refl;
        same_doubt = refl;
        stands = keeps file shows;
      }),
    );
  }

  -- a call leaves the words, with no change in doubt
  pub none_doubted : (now : TenantFile Memory) → old.has_failed ≡ false → ((contents : List ℕ) (doubt : Pairs) → RecoversTo memory_facts held contents doubt → RecoversTo memory_facts now contents doubt)
      → (file : File) → Represents old file → RecoversTo memory_facts now old.contents.items []
  none_doubted now sound stays file shows =
      let keeps = keeps_open file shows in
      let none : pairs_of old.doubt.items ≡ [] = keeps.certain (unfailed_open sound) in
      subst (λ doubt. RecoversTo memory_facts now old.contents.items doubt) none (stays old.contents.items (pairs_of old.doubt.items) keeps)

-- what is known of the place of a slot's change
pub record IsAt (old : SimulatedFile) (slot number : ℕ) (p : KeptPlace) : Type 0 where
  pub at : number ≡ get_or old.place_of slot 0
  pub there : slice_get old.places.items number ≡ Some p
  pub within : number < length old.places.items
  pub state_within : slot < MAX_POOL

-- what was read of a book at a slot
pub is_at : (old : SimulatedFile) (slot : ℕ) (p x : KeptPlace) (xs : List KeptPlace) → x ≡ p → true ≡ nat_lt (get_or old.place_of slot 0) (length xs) → x ≡ get_or xs (get_or old.place_of slot 0) x
    → xs ≡ old.places.items → slot < MAX_POOL → IsAt old slot (get_or old.place_of slot 0) p
is_at old slot p x xs same within read are state_within =
    let number : ℕ = get_or old.place_of slot 0 in
    let lt : number < length xs = ltb-true number (length xs) (sym within) in
    record {
      at = refl;
      there = ap (λ l. slice_get l number) (sym are) ∙ slice_get_read xs (length xs) number x refl lt read ∙ ap Some same;
      within = subst (λ l. number < length l) are lt;
      state_within = state_within;
    }

pub is_there : (old : SimulatedFile) (slot : ℕ) (p : KeptPlace) (xs : List KeptPlace) → slice_get xs (get_or old.place_of slot 0) ≡ Some p → xs ≡ old.places.items → slot < MAX_POOL
    → IsAt old slot (get_or old.place_of slot 0) p
is_there old slot p xs there are state_within = record {
  at = refl;
  there = ap (λ l. slice_get l (get_or old.place_of slot 0)) (sym are) ∙ there;
  within = subst (λ l. get_or old.place_of slot 0 < length l) are (slice_get_within xs (get_or old.place_of slot 0) p there);
  state_within = state_within;
}

module _ (old : SimulatedFile) (slot number : ℕ) (p : KeptPlace) (is : IsAt old slot number p) (file : File) (shows : Represents old file) where
  -- the file has the same place for the slot, and the same change in it
  pub place_is : file.place_of slot ≡ number
  place_is = shows.same_place_of slot is.state_within ∙ sym is.at

  pub told_is : file.places number ≡ told p
  told_is = shows.same_places number is.within ∙ ap told_at is.there

  pub told_there : file.places (file.place_of slot) ≡ told p
  told_there = ap file.places place_is ∙ told_is

-- a call on a place that has a change went well
module _ (old : SimulatedFile) (held : TenantFile Memory) (is : old.device ≡ Open held) where
  pub done_turns : (now : TenantFile Memory) (new : SimulatedFile) (call : Call) (slot : ℕ) (entries : List Entry) (outcome : Outcome) (number : ℕ) (words : List ℕ) (p : KeptPlace) → outcome ≡ Good
      → HasParts new (Open now) words (slice_set old.places.items number p) old.file_places old.place_of old.has_failed old.doubt.items
      → length words ≡ length old.contents.items → number < length old.places.items
      → ((file : File) → Represents old file → RecoversTo memory_facts now words (pairs_of old.doubt.items))
      → ((file : File) → Represents old file → suits call file (quota_of old) (place_for call file (quota_of old) slot) ≡ true)
      → ((file : File) → Represents old file → filed call file slot (place_for call file (quota_of old) slot) entries ≡ record file { contents = words; places = upd file.places number (told p) })
      → Turns old new (λ file. worked call file (quota_of old) slot entries outcome)
  done_turns now new call slot entries outcome number words p well parts count within keeps suit after = record {
    places = ap (λ ps. length ps) parts.is_places ∙ length-set old.places.items number p;
    has = parts.is_file_places;
    words = ap (λ ws. length ws) parts.is_contents ∙ count;
    shows = λ file shows. (
      record file { contents = words; places = upd file.places number (told p) },
      suited call file (quota_of old) slot (place_for call file (quota_of old) slot) entries outcome (suit file shows)
          (ap (may_end (device_calls call (entries_at file (place_for call file (quota_of old) slot)))) well)
          ∙ ap (λ o. Some (left_by call file slot (place_for call file (quota_of old) slot) entries o)) well ∙ ap Some (after file shows),
      shows_parts new (Open now) words (slice_set old.places.items number p) old.file_places old.place_of old.has_failed old.doubt.items (record file { contents = words; places = upd file.places number (told p) }) parts (record {
        same_contents = refl;
        same_places = set_told file.places old.places.items number p (told p) refl within shows.same_places;
        same_place_of = shows.same_place_of;
        same_failed = shows.same_failed;
        same_doubt = shows.same_doubt;
        stands = keeps file shows;
      }),
    );
  }

-- what the book's test of its places found
pub found : (old : SimulatedFile) (places : List KeptPlace) (test b : Bool) → places ≡ old.places.items → test ≡ list_any (λ place. is_empty (told place)) places → test ≡ b → list_any (λ place. is_empty (told place)) old.places.items ≡ b
found old places test b are is same = ap (list_any (λ place. is_empty (told place))) (sym are) ∙ sym is ∙ same

-- The facts of a change that a prepare writes into the lowest free place.
module _ (old : SimulatedFile) (held : TenantFile Memory) (slot : ℕ) (entries : ArrayVec Entry) (is : old.device ≡ Open held) where
  -- what the book's own places say
  abbrev as_kept : File
  as_kept = record (file_of []) { places = place_in old.places.items }

  lowest_in : (file : File) → ((k : ℕ) → k < quota_of old → file.places k ≡ place_in old.places.items k) → (found : Option ℕ) → free_place (states_of held) ≡ found → Lowest file 0 (quota_of old) found
  lowest_in file same found at =
      subst (λ f. Lowest file 0 (quota_of old) f) at (lowest (states_of held) old.places.items file (counted old held is) (kept_open old held is) same)

  -- the book's test whether there is an empty place
  suits_as : (b : Bool) → list_any (λ place. is_empty (told place)) old.places.items ≡ b → (file : File) → ((k : ℕ) → k < quota_of old → file.places k ≡ place_in old.places.items k)
      → nat_lt (empty_from file 0 (quota_of old)) (quota_of old) ≡ b
  suits_as b test file same = sym (empty_among old.places.items file same) ∙ test

  pub none_suits : list_any (λ place. is_empty (told place)) old.places.items ≡ false → (file : File) → Represents old file → nat_lt (empty_from file 0 (quota_of old)) (quota_of old) ≡ false
  none_suits none file shows = suits_as false none file shows.same_places

  pub none_empty : (outcome : Outcome) → list_any (λ place. is_empty (told place)) old.places.items ≡ false → (file : File) → Represents old file
      → worked PrepareCall file (quota_of old) slot entries.items outcome ≡ None
  none_empty outcome none file shows = unsuited PrepareCall file (quota_of old) slot (empty_from file 0 (quota_of old)) entries.items outcome (none_suits none file shows)

  -- the book has an empty place
  module _ (some : list_any (λ place. is_empty (told place)) old.places.items ≡ true) where
    pub some_empty : (file : File) → Represents old file → nat_lt (empty_from file 0 (quota_of old)) (quota_of old) ≡ true
    some_empty file shows = suits_as true some file shows.same_places

    kept_within : empty_from as_kept 0 (quota_of old) < quota_of old
    kept_within = ltb-true (empty_from as_kept 0 (quota_of old)) (quota_of old) (suits_as true some as_kept (λ k lt. refl))

    module _ (before : TenantFile Memory) (same : states_of before ≡ states_of held) where
      -- the file finds an empty place
      pub is_found : is_some (free_place (states_of before)) ≡ true
      is_found = ap (λ ss. is_some (free_place ss)) same ∙ by (free_place (states_of held)) refl where
        by : (found : Option ℕ) → free_place (states_of held) ≡ found → is_some (free_place (states_of held)) ≡ true
        by None at =
            let past : empty_from as_kept 0 (quota_of old) ≡ 0 + quota_of old = lowest_in as_kept (λ k lt. refl) None at in
            let lt = kept_within in
            absurd (let e : ⊥ = omega (arith, past, lt) in e)
        by (Some place) at = ap is_some at

      -- it is the book's lowest one
      pub place_within : (place : ℕ) → free_place (states_of before) ≡ Some place → place < length old.places.items
      place_within place found =
          let low : empty_from as_kept 0 (quota_of old) ≡ min place (0 + quota_of old) = lowest_in as_kept (λ k lt. refl) (Some place) (sym (ap free_place same) ∙ found) in
          let lt = kept_within in
          omega (arith, low, lt)

      lowest_is : (place : ℕ) → free_place (states_of before) ≡ Some place → (file : File) → Represents old file → empty_from file 0 (quota_of old) ≡ place
      lowest_is place found file shows =
          let low : empty_from file 0 (quota_of old) ≡ min place (0 + quota_of old) = lowest_in file shows.same_places (Some place) (sym (ap free_place same) ∙ found) in
          let lt = place_within place found in
          omega (arith, low, lt)

      -- the device failed as scripted
      pub prepare_broken : (now : TenantFile Memory) (new : SimulatedFile) (outcome : Outcome) (number : ℕ) (doubt : ArrayVec Entry) → outcome ≡ Fail number → doubt.items ≡ [] → may_end 2 outcome ≡ true
          → old.has_failed ≡ false
          → ((contents : List ℕ) (doubt : Pairs) → RecoversTo memory_facts held contents doubt → RecoversTo memory_facts now contents doubt)
          → HasParts new (Open now) old.contents.items old.places.items old.file_places old.place_of true doubt.items
          → Turns old new (λ file. worked PrepareCall file (quota_of old) slot entries.items outcome)
      prepare_broken now new outcome number doubt fails none may sound stays parts =
          broken_turns old held is now new PrepareCall slot entries.items outcome number doubt fails parts
          (λ file shows. subst (λ es. RecoversTo memory_facts now old.contents.items (pairs_of es)) (sym none) (none_doubted old held is now sound stays file shows))
          some_empty (λ file shows. may) (λ file shows. sym none)

      -- all went well
      pub prepare_done : (now : TenantFile Memory) (new : SimulatedFile) (outcome : Outcome) (place : ℕ) → outcome ≡ Good → free_place (states_of before) ≡ Some place → slot < MAX_POOL → MAX_POOL ≤ length old.place_of
          → ((contents : List ℕ) (doubt : Pairs) → RecoversTo memory_facts held contents doubt → RecoversTo memory_facts now contents doubt)
          → HasParts new (Open now) old.contents.items (slice_set old.places.items place (KeptPrepared entries)) old.file_places (slice_set old.place_of slot place) old.has_failed old.doubt.items
          → Turns old new (λ file. worked PrepareCall file (quota_of old) slot entries.items outcome)
      prepare_done now new outcome place well found within long stays parts = record {
        places = ap (λ ps. length ps) parts.is_places ∙ length-set old.places.items place (KeptPrepared entries);
        has = parts.is_file_places;
        words = ap (λ ws. length ws) parts.is_contents;
        shows = λ file shows. (
          prepared file slot place entries.items,
          suited PrepareCall file (quota_of old) slot (empty_from file 0 (quota_of old)) entries.items outcome (some_empty file shows) (ap (may_end 2) well)
              ∙ ap (λ o. Some (left_by PrepareCall file slot (empty_from file 0 (quota_of old)) entries.items o)) well ∙ ap (λ n. Some (prepared file slot n entries.items)) (lowest_is place found file shows),
          shows_parts new (Open now) old.contents.items (slice_set old.places.items place (KeptPrepared entries)) old.file_places (slice_set old.place_of slot place) old.has_failed old.doubt.items
              (prepared file slot place entries.items) parts (record {
                same_contents = shows.same_contents;
                same_places = set_told file.places old.places.items place (KeptPrepared entries) (Prepared entries.items) refl (place_within place found) shows.same_places;
                same_place_of = set_number file.place_of old.place_of slot place MAX_POOL long within shows.same_place_of;
                same_failed = shows.same_failed;
                same_doubt = shows.same_doubt;
                stands = stays old.contents.items (pairs_of old.doubt.items) (keeps_open old held is file shows);
              }),
        );
      }
