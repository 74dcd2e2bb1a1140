-- What a file's token (the ghost capability to call it) says of calls on the file is true, and every file has a token.
-- Used by: file_tokens_tell_files, mw_table, mw_law_threads.
use Rattle.std.specs.Prelude.{ℕ, zero, suc, ◌+◌, ◌≡◌, ◌<◌, ◌≤◌, ◌&&◌, ◌⊎◌, Bool, true, false, not, nat_lt, if◌then◌else◌, List, length, replicate, slice_get, Some, None}
use Rattle.std.proofs.Common.{refl, sym, ap, ◌∙◌, inl, inr, arith}
use Rattle.std.proofs.lemmas.Bool.Decides.{nat_tests}
use Rattle.std.proofs.lemmas.Bool.{cases_lt}
use Rattle.std.proofs.lemmas.List.{get_or-replicate, length-replicate}
use Rattle.std.proofs.lemmas.Option.{get_or_from_slice_get, slice_get-get_or}
use Rattle.mw_words.specs.declared.jobs.Entry.{Entry}
use Rattle.mw_words.specs.Change.{is_change}
use Rattle.mw_look.specs.declared.steps.Call.{Call}
use Rattle.mw_look.specs.declared.steps.Call.TheVariants.{Prepare as PrepareCall, Seal as SealCall, Settle as SettleCall, Cancel as CancelCall}
use Rattle.mw_world.specs.Files.Calls.{device_calls, fails_on, is_formed, place_for, suits}
use Rattle.mw_world.specs.Files.State.{File, file_of, Place, Empty, Prepared, Sealed, empty_from, entries_at, entries_in, is_apart, is_empty, is_prepared, is_sealed, share_a_word}
use Rattle.mw_rule.specs.declared.file_token.FileToken.{FileToken}
use Rattle.mw_rule.specs.declared.file_token.PlaceKept.TheVariants.{Empty as KeptEmpty}
use Rattle.mw_rule.specs.Calls.FileTokens.{FileTokensTellCalls, FileTokensTellFiles, FileTokensTellOpenedFiles, TellsCall, TellsFile, file_told, listed, place_if, place_kept, place_told, file_token_opened}

module _ (many_places many_slots : ℕ) (file_token : FileToken) (file : File) (tells : TellsFile many_places many_slots file_token file) where
  abbrev told : File
  told = file_told file_token

  pub same_entries : (place : ℕ) → place < many_places → entries_at file place ≡ entries_at told place
  same_entries place low = ap entries_in (tells.places place low)

  same_fails : (call : Call) → fails_on call file ≡ fails_on call told
  same_fails PrepareCall = tells.has_failed
  same_fails SealCall = tells.has_failed
  same_fails SettleCall = tells.has_failed
  same_fails CancelCall = refl

  same_empty : (first left : ℕ) → first + left ≤ many_places → empty_from file first left ≡ empty_from told first left
  same_empty first zero within = refl
  same_empty first (suc left) within =
      let place = tells.places first (omega (arith, within)) in
      let rest = same_empty (first + 1) left (omega (arith, within)) in
      λ i. if is_empty (place i) then first else rest i

  same_apart : (entries : List Entry) (places : ℕ) → places ≤ many_places → is_apart file entries places ≡ is_apart told entries places
  same_apart entries zero within = refl
  same_apart entries (suc other) within =
      let place = tells.places other (omega (arith, within)) in
      let rest = same_apart entries other (omega (arith, within)) in
      λ i. rest i && not (is_sealed (place i) && share_a_word entries (entries_in (place i)))

  same_formed : (call : Call) (entries : List Entry) → is_formed call file entries ≡ is_formed call told entries
  same_formed PrepareCall entries = ap (λ (words : List ℕ). is_change (length words) entries) tells.contents
  same_formed SealCall entries = refl
  same_formed SettleCall entries = refl
  same_formed CancelCall entries = refl

  same_place : (call : Call) (slot : ℕ) → slot < many_slots → place_for call file many_places slot ≡ place_for call told many_places slot
  same_place PrepareCall slot low = same_empty 0 many_places (omega arith)
  same_place SealCall slot low = tells.place_of slot low
  same_place SettleCall slot low = tells.place_of slot low
  same_place CancelCall slot low = tells.place_of slot low

  -- a place of the file suits a call if the token tells so
  suits_there : (call : Call) (place : ℕ) → place < many_places → suits call file many_places place ≡ suits call told many_places place
  suits_there PrepareCall place low = refl
  suits_there SealCall place low =
      let at = tells.places place low in
      λ i. nat_lt place many_places && is_prepared (at i) && same_apart (entries_in (at i)) many_places (omega arith) i
  suits_there SettleCall place low = let at = tells.places place low in λ i. nat_lt place many_places && is_sealed (at i)
  suits_there CancelCall place low = let at = tells.places place low in λ i. nat_lt place many_places && is_prepared (at i)

  -- and no place past them does
  none_past : (call : Call) (file : File) (place : ℕ) → nat_lt place many_places ≡ false → suits call file many_places place ≡ false
  none_past PrepareCall file place past = past
  none_past SealCall file place past = ap (λ (test : Bool). test && is_prepared (file.places place) && is_apart file (entries_at file place) many_places) past
  none_past SettleCall file place past = ap (λ (test : Bool). test && is_sealed (file.places place)) past
  none_past CancelCall file place past = ap (λ (test : Bool). test && is_prepared (file.places place)) past

  past_many : (place : ℕ) → many_places ≤ place → nat_lt place many_places ≡ false
  past_many place high = grind (arith, nat_tests, high)

  same_suits : (call : Call) (place : ℕ) → suits call file many_places place ≡ suits call told many_places place
  same_suits call place = by_place (cases_lt place many_places)
    where
      by_place : (place < many_places) ⊎ (many_places ≤ place) → suits call file many_places place ≡ suits call told many_places place
      by_place (inl low) = suits_there call place low
      by_place (inr high) = none_past call file place (past_many place high) ∙ sym (none_past call told place (past_many place high))

  pub tells_call : (call : Call) (slot : ℕ) (entries : List Entry) → slot < many_slots → TellsCall many_places slot call entries told file
  tells_call call slot entries low =
      let place = same_place call slot low in
      let formed = same_formed call entries in
      let there : place_for call file many_places slot < many_places → entries_at file (place_for call file many_places slot) ≡ entries_at told (place_for call told many_places slot) =
      λ within. same_entries (place_for call file many_places slot) within ∙ ap (entries_at told) place in
      record {
        fails = same_fails call;
        place = place;
        can = (λ i. formed i && same_suits call (place i) i);
        entries_there = there;
        calls = λ within. ap (device_calls call) (there within);
      }

pub file_tokens_tell_calls : FileTokensTellCalls
file_tokens_tell_calls many_places many_slots slot call entries file_token file tells low = tells_call many_places many_slots file_token file tells call slot entries low

-- The list of a map.

long_as : {A : Type 0} (f : ℕ → A) (first left : ℕ) → length (listed f first left) ≡ left
long_as f first zero = refl
long_as f first (suc left) = let rest = long_as f (first + 1) left in omega (arith, rest)

listed_there : {A : Type 0} (f : ℕ → A) (first left k : ℕ) → k < left → slice_get (listed f first left) k ≡ Some (f (first + k))
listed_there f first zero k low = absurd (omega (arith, low))
listed_there f first (suc left) zero low = ap (λ (n : ℕ). Some (f n)) (omega arith)
listed_there f first (suc left) (suc k) low = listed_there f (first + 1) left k (omega (arith, low)) ∙ ap (λ (n : ℕ). Some (f n)) (omega arith)

kept_told : (place : Place) → place_told (place_kept place) ≡ place
kept_told Empty = refl
kept_told (Prepared entries) = refl
kept_told (Sealed entries) = refl

pub file_tokens_tell_files : FileTokensTellFiles
file_tokens_tell_files tenant many_places many_slots file = record {
  long = long_as (λ place. place_kept (file.places place)) 0 many_places;
  of_slots = long_as file.place_of 0 many_slots;
  contents = refl;
  places = λ place low.
      sym (ap place_if (listed_there (λ k. place_kept (file.places k)) 0 many_places place low) ∙ kept_told (file.places (0 + place)) ∙ ap file.places (plain place));
  place_of = λ slot low.
      sym (get_or_from_slice_get (listed file.place_of 0 many_slots) slot (file.place_of (0 + slot)) 0 (listed_there file.place_of 0 many_slots slot low) ∙ ap file.place_of (plain slot));
  has_failed = refl;
  doubt = refl;
}
  where
    plain : (n : ℕ) → 0 + n ≡ n
    plain n = omega arith

-- A file that was just opened.

long_replicate : {A : Type 0} (many : ℕ) (x : A) → length (replicate many x) ≡ many
long_replicate many x = length-replicate many x

replicate_there : {A : Type 0} (many k : ℕ) (x : A) → k < many → slice_get (replicate many x) k ≡ Some x
replicate_there many k x low = slice_get-get_or (replicate many x) k x (let long = length-replicate many x in omega (arith, low, long)) ∙ ap Some (get_or-replicate many k x x low)

pub opened_told : (tenant many_places many_slots : ℕ) (words : List ℕ) (has_failed : Bool)
    → TellsFile many_places many_slots (file_token_opened tenant many_places many_slots words has_failed) (record (file_of words) { has_failed = has_failed })
opened_told tenant many_places many_slots words has_failed = record {
  long = long_replicate many_places KeptEmpty;
  of_slots = long_replicate many_slots 0;
  contents = refl;
  places = λ place low. sym (ap place_if (replicate_there many_places place KeptEmpty low));
  place_of = λ slot low. sym (get_or-replicate many_slots slot 0 0 low);
  has_failed = refl;
  doubt = refl;
}

pub file_tokens_tell_opened_files : FileTokensTellOpenedFiles
file_tokens_tell_opened_files tenant many_places many_slots words None = opened_told tenant many_places many_slots words false
file_tokens_tell_opened_files tenant many_places many_slots words (Some number) = opened_told tenant many_places many_slots words true
