-- Defines which bytes a roll forward (redo) of sealed changes writes, and what it leaves.
-- Used by: migration.rt, opening.rt, roll.rt, tenant_file.rt. Callers do not see it: it may change with roll.rt and the
-- writes of tenant_file.rt.
use Rattle.std.specs.Prelude.{◌≡◌, ◌⊎◌, ◌<◌, ◌≤◌, ℕ, ◌+◌, ◌-◌, true, Option, Some, None, List, length, drop, slice_index, IsTrue}
use Rattle.mw_disk.specs.Facts.{Facts, MayLeave, IsSynced}
use Rattle.mw_disk.specs.Runs.{Fits, SameBut}
use Rattle.mw_record.specs.declared.layout.TheConstants.{WORD_SIZE}
use Rattle.mw_record.specs.declared.layout.Layout.TheVariants.{Second}
use Rattle.mw_record.specs.Layout.{home_at, place_at}
use Rattle.mw_record.specs.Records.{Pairs, RecordsByPlace, holds, record_at}
use Rattle.mw_record.specs.Damages.{at_of, words_of, found_places, records_of}
use Rattle.mw_record.specs.Contents.{HasSecond}
use Rattle.mw_file.specs.declared.place_states.PlaceState.{PlaceState}
use Rattle.mw_file.specs.declared.place_states.Stage.{Stage}
use Rattle.mw_file.specs.declared.place_states.Stage.TheVariants.{Free, Prepared, Sealed}
use Rattle.mw_file.specs.PlaceStates.{stage_of, writes_of_place}

-- no byte
abbrev pub Nowhere : ℕ → Type 0
Nowhere k = ⊥

-- one of the n bytes from an offset on
pub record InRange (at n k : ℕ) : Type 0 where
  pub from : at ≤ k
  pub to : k < at + n

-- Byte k of a file is in a second layout that begins at this offset, and S holds of its offset in that layout.
pub record Behind (at : ℕ) (S : ℕ → Type 0) (k : ℕ) : Type 0 where
  pub from : at ≤ k
  pub inside : S (k - at)

-- what a place writes, if its change is sealed
abbrev pub if_open : Stage → Pairs → Option Pairs
if_open Free writes = None
if_open Prepared writes = None
if_open Sealed writes = Some writes

-- the same, of a place's state
abbrev pub record_of : PlaceState → Option Pairs
record_of s = if_open s.stage s.writes.items

-- the same, of each place by its number
abbrev pub kept_of : List PlaceState → RecordsByPlace
kept_of states place = if_open (stage_of states place) (writes_of_place states place)

-- In a second layout, a byte of a home word for which a record has a value.
pub record InRecord (r : Option Pairs) (k : ℕ) : Type 0 where
  pub writes : Pairs
  pub is : r ≡ Some writes
  pub addr : ℕ
  pub held : holds writes addr ≡ true
  pub in_word : InRange (home_at addr) WORD_SIZE k

-- a byte of a home word for which a sealed place has a value
pub record InHomes (states : List PlaceState) (k : ℕ) : Type 0 where
  pub place : ℕ
  pub within : place < length states
  pub in_record : InRecord (kept_of states place) k

-- in a second layout, the commit byte of a sealed place; state i is that of place first + i
pub record AtCommits (words first : ℕ) (states : List PlaceState) (k : ℕ) : Type 0 where
  pub place : ℕ
  pub within : place < length states
  pub sealed : stage_of states place ≡ Sealed
  pub at : k ≡ place_at Second words (first + place)

-- this commit byte, if the place is sealed
pub record AtCommit (commit : ℕ) (s : PlaceState) (k : ℕ) : Type 0 where
  pub at : k ≡ commit
  pub sealed : s.stage ≡ Sealed

-- each address of a record is below this number of words
abbrev pub IsBelow : ℕ → Option Pairs → Type 0
IsBelow words r = (writes : Pairs) (addr : ℕ) → r ≡ Some writes → holds writes addr ≡ true → addr < words

-- The disk is honest. It has all home words of a second layout with so many words at this offset, whatever a crash leaves.
pub record HasHomes (f : Facts) (at words : ℕ) : Type 0 where
  pub honest : IsTrue f.honest
  pub fits : Fits f (at + home_at words)

-- each address of a sealed place is below this number of words
abbrev pub AreBelow : ℕ → List PlaceState → Type 0
AreBelow words states = (place : ℕ) → place < length states → IsBelow words (kept_of states place)

-- These bytes are a file with a second layout at this offset and these words. The record of each sealed place is open there; state i
-- is that of place first + i.
pub record HasSealed (at words places first : ℕ) (states : List PlaceState) (contents image : List ℕ) : Type 0 where
  pub has : HasSecond at words places contents image
  pub recorded : (place : ℕ) → place < length states → stage_of states place ≡ Sealed → record_at Second (drop at image) words (first + place) ≡ Some (writes_of_place states place)

-- These places may be rolled forward. The disk is honest. A read gives such a file, and so does whatever a crash leaves now.
pub record CanRoll (f : Facts) (at words places first : ℕ) (states : List PlaceState) (contents : List ℕ) : Type 0 where
  pub honest : IsTrue f.honest
  pub within : first + length states ≤ places
  pub read : HasSealed at words places first states contents f.reads
  pub left : (image : List ℕ) → MayLeave f image → HasSealed at words places first states contents image

-- An opening may roll these places forward: the disk is synced too.
pub record CanRepair (f : Facts) (at words places : ℕ) (states : List PlaceState) (contents : List ℕ) : Type 0 where
  pub rest : IsSynced f
  pub roll : CanRoll f at words places 0 states contents

-- These places were rolled forward. The disk is synced. Only bytes of the sealed places' home words and commit bytes may have
-- changed, in the second layout at this offset, and those commit bytes are 0.
pub record IsRolled (at words first : ℕ) (states : List PlaceState) (old new : Facts) : Type 0 where
  pub rest : IsSynced new
  pub same : SameBut (Behind at (λ k. InHomes states k ⊎ AtCommits words first states k)) old.reads new.reads
  pub shut : (place : ℕ) → place < length states → stage_of states place ≡ Sealed → slice_index (drop at new.reads) (place_at Second words (first + place)) ≡ 0

-- These are the states of the places of a file that was read: sealed if the place's record is open, with that record, else free.
pub record IsRecalled (image : List ℕ) (states : List PlaceState) : Type 0 where
  pub count : length states ≡ found_places image
  pub each : (place : ℕ) → place < found_places image → kept_of states place ≡ records_of image place
  pub none_prepared : (place : ℕ) → place < found_places image → stage_of states place ≡ Prepared → ⊥
  pub some_entries : (place : ℕ) → place < found_places image → stage_of states place ≡ Sealed → 1 ≤ length (writes_of_place states place)

-- The changes of a file that was read may be finished. The disk is honest and synced. A read gives a file with a second layout and
-- these words. The layout has the offset, the sizes and the records of the bytes that were read.
pub record CanFinish (f : Facts) (image contents : List ℕ) : Type 0 where
  pub honest : IsTrue f.honest
  pub rest : IsSynced f
  pub has : HasSecond (at_of image) (words_of image) (found_places image) contents f.reads
  pub same : (place : ℕ) → place < found_places image → record_at Second (drop (at_of image) f.reads) (words_of image) place ≡ records_of image place
