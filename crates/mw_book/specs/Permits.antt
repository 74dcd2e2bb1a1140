-- Defines when each call may be made on a book. Prepare needs a vacant place and a well-formed change. Seal needs a change
-- that its own slot prepared and the file may seal, settle one that is sealed or settled ahead, cancel one that its own slot
-- prepared.
-- Used by: mw_core, book.rt, laws.rt, place_table.rt, waiting.rt.
use Rattle.std.specs.Prelude.{◌≡◌, ◌<◌, ◌+◌, ◌&&◌, not, if◌then◌else◌, ℕ, zero, suc, Bool, true, false, List, IsTrue}
use Rattle.mw_words.specs.declared.limits.TheConstants.{MAX_POOL}
use Rattle.mw_words.specs.declared.jobs.Entry.{Entry}
use Rattle.mw_words.specs.Change.{is_change}
use Rattle.mw_look.specs.declared.steps.Call.{Call}
use Rattle.mw_look.specs.declared.steps.Call.TheVariants.{Prepare as PrepareCall, Seal as SealCall, Settle as SettleCall, Cancel as CancelCall}
use Rattle.mw_disk.specs.Facts.{Facts}
use Rattle.mw_file.specs.declared.place_states.PlaceState.{PlaceState}
use Rattle.mw_file.specs.declared.place_states.Stage.{Stage}
use Rattle.mw_file.specs.declared.place_states.Stage.TheVariants.{Free, Prepared, Sealed}
use Rattle.mw_file.specs.PlaceStates.{is_free_stage, MaySeal}
use Rattle.mw_world.specs.Files.Calls.{fails_on, place_for, can_be_made}
use Rattle.mw_world.specs.Files.State.{File}
use Rattle.mw_book.specs.declared.book.Book.{Book}
use Rattle.mw_book.specs.declared.place_table.PlaceTable.{PlaceTable}
use Rattle.mw_book.specs.OpenFile.{states_in}
use Rattle.mw_book.specs.Representation.{Represents, is_prepared_ahead, is_settled, place_at, place_in_file, stage_in_file}

-- the stage is prepared
abbrev pub is_prepared_stage : Stage → Bool
is_prepared_stage Free = false
is_prepared_stage Prepared = true
is_prepared_stage Sealed = false

-- the stage in the file of a place that may be vacant: prepared if a change is prepared ahead in it, else free
abbrev pub is_left : (ahead : Bool) → Stage → Bool
is_left true stage = is_prepared_stage stage
is_left false stage = is_free_stage stage

-- A place is vacant if it is free in the file, or has a change that is prepared ahead, and has none that is settled ahead.
abbrev pub is_vacant : List PlaceState → PlaceTable → ℕ → Bool
is_vacant states table place = is_left (is_prepared_ahead table place) (stage_in_file states table place) && not (is_settled table place)

-- the lowest vacant place among the `left` places from `first` on; if none is vacant, the place after the last of them
abbrev pub vacant_from : List PlaceState → PlaceTable → ℕ → ℕ → ℕ
vacant_from states table first zero = first
vacant_from states table first (suc left) = if is_vacant states table first then first else vacant_from states table (first + 1) left

-- the lowest vacant place among the first `places` places, or `places`
abbrev pub vacant_place : List PlaceState → PlaceTable → ℕ → ℕ
vacant_place states table places = vacant_from states table 0 places

-- one of the first `places` places is vacant
abbrev pub HasPlace : List PlaceState → PlaceTable → ℕ → Type 0
HasPlace states table places = vacant_place states table places < places

-- one of the first places is vacant, and these entries are a well-formed change of so many words
pub record HasRoom (states : List PlaceState) (table : PlaceTable) (places words : ℕ) (entries : List Entry) : Type 0 where
  pub room : HasPlace states table places
  pub formed : IsTrue (is_change words entries)

-- The change in a place may be sealed: it was prepared for its own slot, and the file may seal it.
pub record MaySealOwn (states : List PlaceState) (table : PlaceTable) (place : ℕ) : Type 0 where
  pub sealable : MaySeal states (place_in_file table place)
  pub own : is_prepared_ahead table place ≡ false

-- The change in a place may be settled: it is settled ahead, or it is sealed in the file.
abbrev pub MaySettle : List PlaceState → PlaceTable → ℕ → Type 0
MaySettle states table place = is_settled table place ≡ false → stage_in_file states table place ≡ Sealed

-- The change in a place may be cancelled: it was prepared for its own slot.
pub record MayCancel (states : List PlaceState) (table : PlaceTable) (place : ℕ) : Type 0 where
  pub prepared : stage_in_file states table place ≡ Prepared
  pub own : is_prepared_ahead table place ≡ false

module _ {D : Type 0} where
  -- A call may be made for the change of a slot. A prepare needs a vacant place and a well-formed change. A seal needs a change
  -- that the file may seal, a settle one that may be settled, a cancel a prepared one. On a book that has failed every call but a
  -- cancel may be made, because it does nothing.
  abbrev pub MayCall : Book D → Call → ℕ → List Entry → Type 0
  MayCall book PrepareCall slot entries = book.has_failed ≡ false → HasRoom (states_in book.held) book.table book.places book.words entries
  MayCall book SealCall slot entries = book.has_failed ≡ false → MaySealOwn (states_in book.held) book.table (place_at book slot)
  MayCall book SettleCall slot entries = book.has_failed ≡ false → MaySettle (states_in book.held) book.table (place_at book slot)
  MayCall book CancelCall slot entries = MayCancel (states_in book.held) book.table (place_at book slot)

-- If a call can be made on a file, it may be made on each book that represents the file.
abbrev pub PermitsCalls : {D : Type 0} → (D → Facts) → Type 0
PermitsCalls {D} facts = (book : Book D) (file : File) (call : Call) (slot : ℕ) (entries : List Entry) → slot < MAX_POOL → Represents facts book file
    → (fails_on call file ≡ false → can_be_made call file book.places (place_for call file book.places slot) entries ≡ true) → MayCall book call slot entries
