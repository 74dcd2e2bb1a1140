-- Defines which calls a watched file makes on the file below it for each of its own.
-- Used by: watched_file.rt.
use Rattle.std.specs.Prelude.{◌≡◌, ◌≢◌}
use Rattle.mw_disk.specs.DeviceCalls.{DeviceCall, ReadAt, WriteAt, Sync, Length}
use Rattle.mw_disk.specs.FileCalls.{Went, Failed, Well}

-- How what went so below is shown: as it went. Or it went well, and is shown as failed.
pub data IsShown (went told : Went) : Type 0 where
  AsItWent : told ≡ went → IsShown went told
  AsFailed : went ≡ Well → told ≡ Failed → IsShown went told

-- How a call that went so below is told. A write or a sync is told as it went. A read or a question of the length that went well may be
-- told as failed, as it may show that others have replaced, cut or overwritten the file.
abbrev pub IsTold : DeviceCall → Went → Went → Type 0
IsTold (ReadAt at count) went told = IsShown went told
IsTold (WriteAt at bytes) went told = told ≡ went
IsTold Sync went told = told ≡ went
IsTold Length went told = IsShown went told

-- the call is a write
abbrev pub IsWrite : DeviceCall → Type 0
IsWrite (ReadAt at count) = ⊥
IsWrite (WriteAt at bytes) = Unit {0}
IsWrite Sync = ⊥
IsWrite Length = ⊥

module _ {F : Type 0} (made : DeviceCall → Went → F → F → Type 0) where
  -- The call was made once on the file below, and told as `IsTold` says.
  abbrev pub IsOnce : DeviceCall → Went → F → F → Type 0
  IsOnce call told old new = (went : Went) × IsTold call went told × made call went old new

  -- the calls on the file below for a call of a watched file that was told so
  pub data IsWatched (call : DeviceCall) (told : Went) (old new : F) : Type 0 where
    -- none was made, and it failed
    NotMade : told ≡ Failed → new ≡ old → IsWatched call told old new
    -- the call was made
    Once : IsOnce call told old new → IsWatched call told old new
    -- before a write the length was asked for, and then the write was made
    OnceAsked : (mid : F) → IsWrite call → IsOnce Length Well old mid → IsOnce call told mid new → IsWatched call told old new
    -- before a write the length was asked for, which was told as failed, and no write was made
    AskedInVain : IsWrite call → told ≢ Well → IsOnce Length told old new → IsWatched call told old new
