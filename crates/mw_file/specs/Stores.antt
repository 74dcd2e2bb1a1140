-- Defines when the bytes of a file match the states of its places in memory.
-- Used by: mw_engine, opening.rt. A new field of PlaceState needs a clause here if the bytes have it.
use Rattle.std.specs.Prelude.{◌≡◌, ◌<◌, ℕ, true, Some, None, List, length, drop}
use Rattle.mw_disk.specs.Facts.{Facts, MayLeave, IsSynced}
use Rattle.mw_record.specs.declared.layout.Layout.TheVariants.{Second}
use Rattle.mw_record.specs.Layout.{place_at}
use Rattle.mw_record.specs.Records.{Pairs, record_at, body_at, is_record, has_values}
use Rattle.mw_record.specs.Contents.{HasSecond}
use Rattle.mw_file.specs.declared.place_states.PlaceState.{PlaceState}
use Rattle.mw_file.specs.declared.place_states.Stage.{Stage}
use Rattle.mw_file.specs.declared.place_states.Stage.TheVariants.{Free, Prepared, Sealed}
use Rattle.mw_file.specs.PlaceStates.{stage_of, writes_of_place}

-- In the bytes of a second layout, the commit byte of a place is clear, and the record after it is this change, well formed for so
-- many words.
pub record IsWritten (part : List ℕ) (words place : ℕ) (writes : Pairs) : Type 0 where
  pub shut : record_at Second part words place ≡ None
  pub behind : body_at part (place_at Second words place) ≡ writes
  pub formed : is_record Second words writes ≡ true
  pub values : has_values writes ≡ true

-- The bytes of a place of a second layout match its stage. Free: it is closed. Prepared: it is closed, with the change's record
-- after the clear commit byte. Sealed: it is open, with that record.
abbrev pub PlacedAs : List ℕ → ℕ → ℕ → Stage → Pairs → Type 0
PlacedAs part words place Free writes = record_at Second part words place ≡ None
PlacedAs part words place Prepared writes = IsWritten part words place writes
PlacedAs part words place Sealed writes = record_at Second part words place ≡ Some writes

-- These bytes are a file with a second layout at this offset and these words, and the bytes of each place match its state.
pub record Stores (image : List ℕ) (at words : ℕ) (contents : List ℕ) (states : List PlaceState) : Type 0 where
  pub has : HasSecond at words (length states) contents image
  pub placed : (place : ℕ) → place < length states → PlacedAs (drop at image) words place (stage_of states place) (writes_of_place states place)

-- The disk is synced: a crash now leaves what a read gives. A read gives such a file.
pub record IsDurable (f : Facts) (at words : ℕ) (contents : List ℕ) (states : List PlaceState) : Type 0 where
  pub rest : IsSynced f
  pub stores : Stores f.reads at words contents states

-- A read gives such a file, and so does whatever a crash leaves now. The disk may have writes that are not synced.
pub record IsStored (f : Facts) (at words : ℕ) (contents : List ℕ) (states : List PlaceState) : Type 0 where
  pub stores : Stores f.reads at words contents states
  pub left : (image : List ℕ) → MayLeave f image → Stores image at words contents states
