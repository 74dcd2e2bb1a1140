-- Defines the calls of a device, and what it means that a list of them was made of a disk.
-- Used by: mw_file, mw_memory_disk, mw_world_file, mw_simulator, mw_opening, device.rt, disk_file.rt, file.rt. A new call of
-- `Disk` needs a case here.
use Rattle.std.specs.Prelude.{◌≡◌, ◌⊎◌, ℕ, Bool, true, false, List, [], ◌∷◌}

-- One call of a device.
pub data DeviceCall : Type 0 where
  -- so many bytes are read from an offset on
  ReadAt : ℕ → ℕ → DeviceCall
  -- these bytes are written from an offset on
  WriteAt : ℕ → List ℕ → DeviceCall
  -- what was written is made durable
  Sync : DeviceCall
  -- the number of bytes is asked
  Length : DeviceCall

-- These calls were made in order, and led from one disk to another. True: all of them were made and went well. False: one
-- failed, those before it went well, and none was made after it. `made` says of one call what `Disk::made` says.
abbrev pub Makes : {D : Type 0} → (DeviceCall → Bool → D → D → Type 0) → List DeviceCall → Bool → D → D → Type 0
Makes made [] well old new = (well ≡ true) × (new ≡ old)
Makes {D} made (call ∷ rest) well old new =
    ((well ≡ false) × made call false old new) ⊎ ((mid : D) × made call true old mid × Makes made rest well mid new)
