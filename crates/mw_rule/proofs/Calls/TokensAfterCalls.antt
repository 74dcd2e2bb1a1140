-- After a call on a file, what the new token (the ghost capability to call it) says is true of the new file.
-- Used by: file_tokens_follow_files, mw_table.
use Rattle.std.specs.Prelude.{ℕ, ◌≡◌, ◌≢◌, ◌<◌, ◌⊎◌, List, length, slice_index, slice_set}
use Rattle.std.proofs.Common.{refl, sym, ap, ◌∙◌, inl, inr, arith}
use Rattle.std.proofs.lemmas.Bool.{cases_eq}
use Rattle.std.proofs.lemmas.List.{get_or-set_other, get_or-set_same, length-set}
use Rattle.mw_words.specs.declared.jobs.Entry.{Entry}
use Rattle.mw_words.specs.Change.{put}
use Rattle.mw_look.specs.declared.steps.Call.{Call}
use Rattle.mw_look.specs.declared.steps.Call.TheVariants.{Prepare as PrepareCall, Seal as SealCall, Settle as SettleCall, Cancel as CancelCall}
use Rattle.mw_world.specs.Files.Calls.{doubt_of, filed}
use Rattle.mw_world.specs.Files.State.{File, Place, Sealed, broken, emptied, entries_at, prepared, sealed}
use Rattle.mw_world.specs.Maps.{upd}
use Rattle.mw_world.proofs.MapLaws.{get_others, get_written, upd_here, upd_there}
use Rattle.mw_rule.specs.declared.file_token.FileToken.{FileToken}
use Rattle.mw_rule.specs.declared.file_token.PlaceKept.{PlaceKept}
use Rattle.mw_rule.specs.declared.file_token.PlaceKept.TheVariants.{Empty as KeptEmpty, Prepared as KeptPrepared, Sealed as KeptSealed}
use Rattle.mw_rule.specs.Calls.FileTokens.{FileTokensFollowCalls, FileTokensFollowFaults, TellsFile, file_told, place_if, place_in, place_told, file_token_broken, file_token_emptied, file_token_filed, file_token_prepared, file_token_sealed}
use Rattle.mw_rule.proofs.Calls.TokensTellCalls.{same_entries}

-- the places after one of them has changed, as a map and as a list
places_set : (at : ℕ → Place) (places : List PlaceKept) (many number : ℕ) (now : PlaceKept) → length places ≡ many → ((k : ℕ) → k < many → at k ≡ place_in places k) → (k : ℕ) → k < many
    → upd at number (place_told now) k ≡ place_in (slice_set places number now) k
places_set at places many number now long same k low = by_place (cases_eq k number)
  where
    by_place : (k ≡ number) ⊎ (k ≢ number) → upd at number (place_told now) k ≡ place_in (slice_set places number now) k
    by_place (inl here) =
        upd_here at number k (place_told now) here
        ∙ sym (ap (λ (n : ℕ). place_in (slice_set places number now) n) here ∙ ap place_if (get_written places number now (omega (arith, long, low, here))))
    by_place (inr apart) = upd_there at number k (place_told now) apart ∙ same k low ∙ sym (ap place_if (get_others places number k now apart))

-- the same of numbers
numbers_set : (at : ℕ → ℕ) (numbers : List ℕ) (many number now : ℕ) → length numbers ≡ many → ((k : ℕ) → k < many → at k ≡ slice_index numbers k) → (k : ℕ) → k < many
    → upd at number now k ≡ slice_index (slice_set numbers number now) k
numbers_set at numbers many number now long same k low = by_number (cases_eq k number)
  where
    by_number : (k ≡ number) ⊎ (k ≢ number) → upd at number now k ≡ slice_index (slice_set numbers number now) k
    by_number (inl here) =
        upd_here at number k now here
        ∙ sym (ap (λ (n : ℕ). slice_index (slice_set numbers number now) n) here ∙ get_or-set_same numbers number now 0 (omega (arith, long, low, here)))
    by_number (inr apart) = upd_there at number k now apart ∙ same k low ∙ sym (get_or-set_other numbers number k now 0 apart)

module _ (many_places many_slots : ℕ) (file_token : FileToken) (file : File) (tells : TellsFile many_places many_slots file_token file) where
  prepared_told : (slot place : ℕ) (entries : List Entry) → TellsFile many_places many_slots (file_token_prepared file_token slot place entries) (prepared file slot place entries)
  prepared_told slot place entries = record {
    long = length-set file_token.places place (KeptPrepared entries) ∙ tells.long;
    of_slots = length-set file_token.place_of slot place ∙ tells.of_slots;
    contents = tells.contents;
    places = places_set file.places file_token.places many_places place (KeptPrepared entries) tells.long tells.places;
    place_of = numbers_set file.place_of file_token.place_of many_slots slot place tells.of_slots tells.place_of;
    has_failed = tells.has_failed;
    doubt = tells.doubt;
  }

  sealed_told : (place : ℕ) → place < many_places → TellsFile many_places many_slots (file_token_sealed file_token place) (sealed file place)
  sealed_told place low =
      let entries = same_entries many_places many_slots file_token file tells place low in
      let now = KeptSealed (entries_at (file_told file_token) place) in
      record {
        long = length-set file_token.places place now ∙ tells.long;
        of_slots = tells.of_slots;
        contents = (λ i. put (tells.contents i) (entries i));
        places = λ k within.
            (λ i. upd file.places place (Sealed (entries i)) k) ∙ places_set file.places file_token.places many_places place now tells.long tells.places k within;
        place_of = tells.place_of;
        has_failed = tells.has_failed;
        doubt = tells.doubt;
      }

  emptied_told : (place : ℕ) → TellsFile many_places many_slots (file_token_emptied file_token place) (emptied file place)
  emptied_told place = record {
    long = length-set file_token.places place KeptEmpty ∙ tells.long;
    of_slots = tells.of_slots;
    contents = tells.contents;
    places = places_set file.places file_token.places many_places place KeptEmpty tells.long tells.places;
    place_of = tells.place_of;
    has_failed = tells.has_failed;
    doubt = tells.doubt;
  }

  filed_told : (call : Call) (slot place : ℕ) (entries : List Entry) → place < many_places
      → TellsFile many_places many_slots (file_token_filed call file_token slot place entries) (filed call file slot place entries)
  filed_told PrepareCall slot place entries low = prepared_told slot place entries
  filed_told SealCall slot place entries low = sealed_told place low
  filed_told SettleCall slot place entries low = emptied_told place
  filed_told CancelCall slot place entries low = emptied_told place

  broken_told : (call : Call) (place : ℕ) → place < many_places
      → TellsFile many_places many_slots (file_token_broken file_token (doubt_of call (entries_at (file_told file_token) place))) (broken file (doubt_of call (entries_at file place)))
  broken_told call place low = record {
    long = tells.long;
    of_slots = tells.of_slots;
    contents = tells.contents;
    places = tells.places;
    place_of = tells.place_of;
    has_failed = refl;
    doubt = ap (doubt_of call) (same_entries many_places many_slots file_token file tells place low);
  }

pub file_tokens_follow_calls : FileTokensFollowCalls
file_tokens_follow_calls many_places many_slots slot place call entries file_token file tells low = filed_told many_places many_slots file_token file tells call slot place entries low

pub file_tokens_follow_faults : FileTokensFollowFaults
file_tokens_follow_faults many_places many_slots place call file_token file tells low = broken_told many_places many_slots file_token file tells call place low
