-- Defines the changes that one call prepares together: when it may, and what it leaves of the places and of the bytes.
-- Used by: mw_book, mw_file_tests, laws.rt, new_changes.rt, tenant_file.rt. Of MayPrepare depends which calls may be made,
-- of ArePreparedBeside what they promise.
use Rattle.std.specs.Prelude.{◌≡◌, ◌≢◌, ◌<◌, ◌≤◌, ◌==◌, ℕ, List, length, drop, All, if◌then◌else◌, IsTrue}
use Rattle.std.specs.List.{AllPairs}
use Rattle.mw_words.specs.Change.{is_change}
use Rattle.mw_disk.specs.Facts.{Facts}
use Rattle.mw_disk.specs.Runs.{Touched, LeavesOnly}
use Rattle.mw_record.specs.Layout.{pairs_of}
use Rattle.mw_file.specs.declared.new_changes.NewChange.{NewChange}
use Rattle.mw_file.specs.declared.place_states.PlaceState.{PlaceState}
use Rattle.mw_file.specs.declared.place_states.Stage.{Stage}
use Rattle.mw_file.specs.declared.place_states.Stage.TheVariants.{Free, Prepared, Sealed}
use Rattle.mw_file.specs.PlaceStates.{stage_of, writes_of_place, freed}
use Rattle.mw_file.specs.Stores.{IsWritten, Stores, IsStored, IsDurable}

-- These changes may be prepared in a file of so many words with these places. The place of each is one of the file's and free, no two
-- have the same place, and each is well formed.
pub record MayPrepare (words : ℕ) (states : List PlaceState) (changes : List NewChange) : Type 0 where
  pub there : All (λ c. c.place.0 < length states) changes
  pub free : All (λ c. stage_of states c.place.0 ≡ Free) changes
  pub apart : AllPairs (λ c d. c.place.0 ≢ d.place.0) changes
  pub formed : All (λ c. IsTrue (is_change words c.entries.items)) changes

-- none of these changes has this place
abbrev pub IsNoPlaceOf : List NewChange → ℕ → Type 0
IsNoPlaceOf changes place = All (λ c. c.place.0 ≢ place) changes

-- Each of these changes is prepared in its place. Any other place has the stage that `stage` gives for it, and writes what it wrote.
pub record ArePreparedBeside (stage : ℕ → Stage) (old new : List PlaceState) (changes : List NewChange) : Type 0 where
  pub count : length new ≡ length old
  pub stage_here : All (λ c. stage_of new c.place.0 ≡ Prepared) changes
  pub writes_here : All (λ c. writes_of_place new c.place.0 ≡ pairs_of c.entries.items) changes
  pub stage_there : (place : ℕ) → IsNoPlaceOf changes place → stage_of new place ≡ stage place
  pub writes_there : (place : ℕ) → IsNoPlaceOf changes place → writes_of_place new place ≡ writes_of_place old place

-- Each of these changes is prepared in its place. All other places are as they were.
abbrev pub ArePrepared : List PlaceState → List PlaceState → List NewChange → Type 0
ArePrepared old new changes = ArePreparedBeside (stage_of old) old new changes

-- This place is sealed, and each of these changes is prepared in its place. All other places are as they were.
abbrev pub IsSealedWith : List PlaceState → List PlaceState → ℕ → List NewChange → Type 0
IsSealedWith old new place ahead = ArePreparedBeside (λ other. if other == place then Sealed else stage_of old other) old new ahead

-- All places that were sealed are free, and each of these changes is prepared in its place. All other places are as they were.
abbrev pub AreSettledWith : List PlaceState → List PlaceState → List NewChange → Type 0
AreSettledWith old new ahead = ArePreparedBeside (λ place. freed (stage_of old place)) old new ahead

-- In the bytes of a second layout, the commit byte of each change's place is clear, and the record after it is this change.
abbrev pub AreWritten : List ℕ → ℕ → List NewChange → Type 0
AreWritten part words changes = All (λ c. IsWritten part words c.place.0 (pairs_of c.entries.items)) changes

-- The records of these changes may be written. The disk is honest, and has such a file whatever a crash leaves now.
pub record CanPrepare (f : Facts) (at words : ℕ) (contents : List ℕ) (states : List PlaceState) (changes : List NewChange) : Type 0 where
  pub honest : IsTrue f.honest
  pub stored : IsStored f at words contents states
  pub may : MayPrepare words states changes

-- Some records were written into free places, in whole or in part. A crash at any moment since has left such a file, and no byte
-- before the second layout has changed.
pub record AreRecorded (at words : ℕ) (contents : List ℕ) (states : List PlaceState) (old new : Facts) : Type 0 where
  pub stored : IsStored new at words contents states
  pub moments : LeavesOnly old new (λ image. Stores image at words contents states)
  pub alone : Touched (λ k. at ≤ k) old new

-- The disk is synced, a read gives such a file, and the records of these changes are in their places, which are free.
pub record IsDurableWith (f : Facts) (at words : ℕ) (contents : List ℕ) (states : List PlaceState) (changes : List NewChange) : Type 0 where
  pub durable : IsDurable f at words contents states
  pub written : AreWritten (drop at f.reads) words changes
