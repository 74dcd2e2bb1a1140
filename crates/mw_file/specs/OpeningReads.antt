-- Defines how an opening reads the bytes of a file, which it does before all else, and which memory it takes for that.
-- Used by: opening.rt.
use Rattle.std.specs.Prelude.{◌≡◌, ℕ, true, List, length, Bool, Result, Ok, Err, IsTrue, vec_len}
use Rattle.mw_words.specs.declared.limits.TheConstants.{MAX_PLACES, MAX_WORDS}
use Rattle.mw_disk.specs.DeviceCalls.{DeviceCall, Makes}
use Rattle.mw_disk.specs.Facts.{Facts}
use Rattle.mw_disk.specs.Runs.{Good, Later, Touched}
use Rattle.mw_record.specs.declared.layout.TheConstants.{MAX_SECOND}
use Rattle.mw_file.specs.declared.opening.Room.{Room}
use Rattle.mw_file.specs.declared.opening.OpenFault.{OpenFault}
use Rattle.mw_file.specs.Run.{IsUntouched}
use Rattle.mw_file.specs.RollForward.{Nowhere}
use Rattle.mw_file.specs.PlaceStates.{all_free}
use Rattle.mw_file.specs.OpeningCalls.{read_list, FailsBy}
use Rattle.mw_file.specs.OpeningEnds.{WasRead, read_calls, Fails}

-- There is room for the most words, places and bytes of a second layout, and the states are free.
pub record HasRoom (room : Room) : Type 0 where
  pub words : vec_len room.words ≡ MAX_WORDS
  pub states : vec_len room.states ≡ MAX_PLACES
  pub free : IsTrue (all_free room.states.items)
  pub second : vec_len room.second ≡ MAX_SECOND

-- These bytes were read. All device calls for that went well, and none of them wrote.
pub record IsRead (old new : Facts) (image : List ℕ) : Type 0 where
  pub later : Later old new
  pub untouched : IsUntouched old new
  pub quiet : IsTrue old.honest → Touched Nowhere old new
  pub seen : WasRead old image
  pub made : Good (read_calls image) old new

-- how the reading ended, by its answer: it failed as an opening does that ends there
abbrev pub Reads : {D : Type 0} → (D → Facts) → D → D → Result Room OpenFault → Type 0
Reads facts disk after (Ok room) = IsRead (facts disk) (facts after) room.bytes.items
Reads facts disk after (Err fault) = Fails facts disk fault after

module _ {D : Type 0} (facts : D → Facts) (made : DeviceCall → Bool → D → D → Type 0) where
  -- These bytes were read by the device calls for as many bytes.
  pub record IsReadBy (disk after : D) (image : List ℕ) : Type 0 where
    pub seen : WasRead (facts disk) image
    pub calls : Makes made (read_list (length image)) true disk after

  -- which calls the reading has made, by its answer
  abbrev pub ReadsBy : D → D → Result Room OpenFault → Type 0
  ReadsBy disk after (Ok room) = IsReadBy disk after room.bytes.items
  ReadsBy disk after (Err fault) = FailsBy facts made disk fault after
