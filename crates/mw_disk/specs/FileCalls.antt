-- Defines how a call on a file went, and which calls a disk over a file makes on that file for each of its own.
-- Used by: src/disk_file.rt, src/file.rt; mw_opening.
use Rattle.std.specs.Prelude.{◌≡◌, ◌+◌, ◌<◌, ◌≤◌, ◌^◌, ℕ, zero, suc, Bool, true, false, length, Result, Ok, Err}
use Rattle.std.specs.IoError.{error_kind}
use Rattle.std.specs.declared.io.Error.{Error}
use Rattle.std.specs.declared.io.ErrorKind.{ErrorKind}
use Rattle.std.specs.declared.io.ErrorKind.TheVariants as kind
use Rattle.mw_disk.specs.DeviceCalls.{DeviceCall, ReadAt, WriteAt, Sync, Length}

-- How a call on a file went: well; or it was interrupted, so that it may be made again; or it failed in another way.
pub data Went : Type 0 where
  Well : Went
  Interrupted : Went
  Failed : Went

abbrev pub is_well : Went → Bool
is_well Well = true
is_well Interrupted = false
is_well Failed = false

-- how a call went that failed with an error of this kind
abbrev pub went_by : ErrorKind → Went
went_by kind.Interrupted = Interrupted
went_by _ = Failed

-- how a call with this outcome went
abbrev pub went_of : {T : Type 0} → Result T Error → Went
went_of (Ok value) = Well
went_of (Err error) = went_by (error_kind error)

module _ {F : Type 0} (made : DeviceCall → Went → F → F → Type 0) where
  -- The call was interrupted so many times, and was made once more. The last one went so.
  abbrev pub MadeAfter : ℕ → DeviceCall → Went → F → F → Type 0
  MadeAfter zero call went old new = made call went old new
  MadeAfter (suc times) call went old new = (mid : F) × made call Interrupted old mid × MadeAfter times call went mid new

  -- The call was made, and again only where it was interrupted. The last one went so.
  abbrev pub IsRepeated : DeviceCall → Went → F → F → Type 0
  IsRepeated call went old new = (times : ℕ) × MadeAfter times call went old new

  -- A call on a range that ends here was made once, and went so. If the range is past the greatest size of a file, it failed, and none was
  -- made.
  abbrev pub IsRanged : ℕ → DeviceCall → Went → F → F → Type 0
  IsRanged end call went old new = (end < 2 ^ 63 → made call went old new) × (2 ^ 63 ≤ end → (went ≡ Failed) × (new ≡ old))

  -- The calls on the file that this call of the disk made. The last one went so, or there was none.
  abbrev pub IsMadeOnFile : DeviceCall → Went → F → F → Type 0
  IsMadeOnFile (ReadAt at count) = IsRanged (at + count) (ReadAt at count)
  IsMadeOnFile (WriteAt at bytes) = IsRanged (at + length bytes) (WriteAt at bytes)
  IsMadeOnFile Sync = IsRepeated Sync
  IsMadeOnFile Length = IsRepeated Length

  -- The same of a call that went well or failed.
  abbrev pub IsMadeFor : DeviceCall → Bool → F → F → Type 0
  IsMadeFor call well old new = (went : Went) × (is_well went ≡ well) × IsMadeOnFile call went old new
