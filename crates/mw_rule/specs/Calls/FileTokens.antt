-- Defines what a file token (the ghost capability to call that file) says of its file.
-- Used by: src/call_laws.rt, mw_table, mw_law_threads.
use Rattle.std.specs.Prelude.{ℕ, zero, suc, ◌+◌, ◌≡◌, ◌<◌, Bool, true, List, [], ◌∷◌, length, replicate, slice_get, slice_index, slice_set, is_some, Option, Some, None}
use Rattle.mw_words.specs.declared.jobs.Entry.{Entry}
use Rattle.mw_words.specs.Change.{put}
use Rattle.mw_look.specs.declared.steps.Call.{Call}
use Rattle.mw_look.specs.declared.steps.Call.TheVariants.{Prepare as PrepareCall, Seal as SealCall, Settle as SettleCall, Cancel as CancelCall}
use Rattle.mw_world.specs.Files.Calls.{can_be_made, device_calls, doubt_of, fails_on, filed, place_for}
use Rattle.mw_world.specs.Files.State.{File, Place, Empty, Prepared, Sealed, broken, entries_at}
use Rattle.mw_world.specs.Files.Restarts.{opened_file}
use Rattle.mw_rule.specs.declared.file_token.FileToken.{FileToken}
use Rattle.mw_rule.specs.declared.file_token.PlaceKept.{PlaceKept}
use Rattle.mw_rule.specs.declared.file_token.PlaceKept.TheVariants.{Empty as KeptEmpty, Prepared as KeptPrepared, Sealed as KeptSealed}

-- a place, as the token tells it
abbrev pub place_told : PlaceKept → Place
place_told KeptEmpty = Empty
place_told (KeptPrepared entries) = Prepared entries
place_told (KeptSealed entries) = Sealed entries

-- the same, if there is a place; else an empty one
abbrev pub place_if : Option PlaceKept → Place
place_if None = Empty
place_if (Some place) = place_told place

-- the place with this number; past the last place an empty one
abbrev pub place_in : List PlaceKept → ℕ → Place
place_in places place = place_if (slice_get places place)

-- the file that the token tells; past its last place all places are empty
abbrev pub file_told : FileToken → File
file_told file_token = record {
  contents = file_token.contents;
  places = place_in file_token.places;
  place_of = slice_index file_token.place_of;
  has_failed = file_token.has_failed;
  doubt = file_token.doubt;
}

-- The token is true of the file: of its first so many places, of the places of the first so many slots' changes, and
-- of all the rest of it.
pub record TellsFile (many_places many_slots : ℕ) (file_token : FileToken) (file : File) : Type 0 where
  pub long : length file_token.places ≡ many_places
  pub of_slots : length file_token.place_of ≡ many_slots
  pub contents : file.contents ≡ file_token.contents
  pub places : (place : ℕ) → place < many_places → file.places place ≡ place_in file_token.places place
  pub place_of : (slot : ℕ) → slot < many_slots → file.place_of slot ≡ slice_index file_token.place_of slot
  pub has_failed : file.has_failed ≡ file_token.has_failed
  pub doubt : file.doubt ≡ file_token.doubt

-- What a token tells of a call for the change of a slot is true of the file: whether the call fails because the file
-- had failed, and which place it is about. Of that place: whether the call can be made there, its change's entries,
-- and how many device calls the call makes.
pub record TellsCall (places slot : ℕ) (call : Call) (entries : List Entry) (told file : File) : Type 0 where
  pub fails : fails_on call file ≡ fails_on call told
  pub place : place_for call file places slot ≡ place_for call told places slot
  pub can : can_be_made call file places (place_for call file places slot) entries ≡ can_be_made call told places (place_for call told places slot) entries
  pub entries_there : place_for call file places slot < places → entries_at file (place_for call file places slot) ≡ entries_at told (place_for call told places slot)
  pub calls : place_for call file places slot < places
      → device_calls call (entries_at file (place_for call file places slot)) ≡ device_calls call (entries_at told (place_for call told places slot))

-- A token that is true of a file tells of each call on it what is true.
abbrev pub FileTokensTellCalls : Type 0
FileTokensTellCalls = (many_places many_slots slot : ℕ) (call : Call) (entries : List Entry) (file_token : FileToken) (file : File) → TellsFile many_places many_slots file_token file → slot < many_slots
    → TellsCall many_places slot call entries (file_told file_token) file

-- The token after a prepare with this place, which went well.
abbrev pub file_token_prepared : FileToken → ℕ → ℕ → List Entry → FileToken
file_token_prepared file_token slot place entries = record file_token { places = slice_set file_token.places place (KeptPrepared entries); place_of = slice_set file_token.place_of slot place }

-- after a seal of the change in this place
abbrev pub file_token_sealed : FileToken → ℕ → FileToken
file_token_sealed file_token place = record file_token {
  contents = put file_token.contents (entries_at (file_told file_token) place);
  places = slice_set file_token.places place (KeptSealed (entries_at (file_told file_token) place));
}

-- after a settle or a cancel of the change in this place
abbrev pub file_token_emptied : FileToken → ℕ → FileToken
file_token_emptied file_token place = record file_token { places = slice_set file_token.places place KeptEmpty }

-- after a call in which the device failed; this change is in doubt then
abbrev pub file_token_broken : FileToken → List Entry → FileToken
file_token_broken file_token doubt = record file_token { has_failed = true; doubt = doubt }

-- after a call of any kind that went well, with this place
abbrev pub file_token_filed : Call → FileToken → ℕ → ℕ → List Entry → FileToken
file_token_filed PrepareCall file_token slot place entries = file_token_prepared file_token slot place entries
file_token_filed SealCall file_token slot place entries = file_token_sealed file_token place
file_token_filed SettleCall file_token slot place entries = file_token_emptied file_token place
file_token_filed CancelCall file_token slot place entries = file_token_emptied file_token place

-- The token after a call that went well is true of the file after it.
abbrev pub FileTokensFollowCalls : Type 0
FileTokensFollowCalls = (many_places many_slots slot place : ℕ) (call : Call) (entries : List Entry) (file_token : FileToken) (file : File) → TellsFile many_places many_slots file_token file → place < many_places
    → TellsFile many_places many_slots (file_token_filed call file_token slot place entries) (filed call file slot place entries)

-- The token after a call in which the device failed is true of the file after it.
abbrev pub FileTokensFollowFaults : Type 0
FileTokensFollowFaults = (many_places many_slots place : ℕ) (call : Call) (file_token : FileToken) (file : File) → TellsFile many_places many_slots file_token file → place < many_places
    → TellsFile many_places many_slots (file_token_broken file_token (doubt_of call (entries_at (file_told file_token) place))) (broken file (doubt_of call (entries_at file place)))

-- a place, as the token keeps it
abbrev pub place_kept : Place → PlaceKept
place_kept Empty = KeptEmpty
place_kept (Prepared entries) = KeptPrepared entries
place_kept (Sealed entries) = KeptSealed entries

-- what a map gives for so many numbers, from a first one on
abbrev pub listed : {A : Type 0} → (ℕ → A) → ℕ → ℕ → List A
listed f first zero = []
listed f first (suc left) = f first ∷ listed f (first + 1) left

-- the token that is true of a tenant's file, for so many places and so many slots
abbrev pub file_token_of : ℕ → ℕ → ℕ → File → FileToken
file_token_of tenant many_places many_slots file = record {
  tenant = tenant;
  contents = file.contents;
  places = listed (λ place. place_kept (file.places place)) 0 many_places;
  place_of = listed file.place_of 0 many_slots;
  has_failed = file.has_failed;
  doubt = file.doubt;
}

-- It is true of the file.
abbrev pub FileTokensTellFiles : Type 0
FileTokensTellFiles = (tenant many_places many_slots : ℕ) (file : File) → TellsFile many_places many_slots (file_token_of tenant many_places many_slots file) file

-- the token of a file of these words that was just opened, or failed when it was opened
abbrev pub file_token_opened : ℕ → ℕ → ℕ → List ℕ → Bool → FileToken
file_token_opened tenant many_places many_slots words has_failed = record {
  tenant = tenant;
  contents = words;
  places = replicate many_places KeptEmpty;
  place_of = replicate many_slots 0;
  has_failed = has_failed;
  doubt = [];
}

-- It is true of a file that was opened so.
abbrev pub FileTokensTellOpenedFiles : Type 0
FileTokensTellOpenedFiles = (tenant many_places many_slots : ℕ) (words : List ℕ) (fails_at : Option ℕ)
    → TellsFile many_places many_slots (file_token_opened tenant many_places many_slots words (is_some fails_at)) (opened_file words fails_at)
