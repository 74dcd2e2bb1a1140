-- Defines which device calls an opening makes, in order, and with which bytes.
-- Used by: migration.rt, opening.rt; mw_opening. docs/FILES has the same under "Opening": change them together. docs/PROMISES cites
-- `OpensBy`.
use Rattle.std.specs.Prelude.{◌≡◌, ◌==◌, ◌+◌, ◌*◌, ℕ, zero, suc, Bool, true, false, Some, None, is_none, List, [], ◌∷◌, ◌++◌, length, map, if◌then◌else◌, Vec, Result, Ok, Err}
use Rattle.std.specs.declared.alloc.Global.{Global}
use Rattle.mw_disk.specs.DeviceCalls.{DeviceCall, ReadAt, WriteAt, Sync, Length, Makes}
use Rattle.mw_disk.specs.Facts.{Facts}
use Rattle.mw_record.specs.declared.layout.TheConstants.{WORD_SIZE, COMMITTED, SWITCH_AT, SECOND_AT}
use Rattle.mw_record.specs.declared.damages.Damage.{Damage as DamageKind}
use Rattle.mw_record.specs.Layout.{number_bytes, second_part}
use Rattle.mw_record.specs.Damages.{damage_of, is_switched, at_of, words_of, found_places, words_in, places_of, pairs_in}
use Rattle.mw_file.specs.declared.tenant_file.TenantFile.{TenantFile}
use Rattle.mw_file.specs.declared.opening.OpenFault.{OpenFault}
use Rattle.mw_file.specs.declared.opening.OpenFault.TheVariants.{Damage, Disk, Memory}
use Rattle.mw_file.specs.File.{disk_of}
use Rattle.mw_file.specs.DeviceCalls.{commit_at, home_call, clear_call}
use Rattle.mw_file.specs.OpeningEnds.{WasRead, entries_in, open_records, begins_at}

-- so many bytes are read from the front, unless there are none
abbrev pub front_list : ℕ → List DeviceCall
front_list count = if count == 0 then [] else ReadAt 0 count ∷ []

-- the length is asked, then so many bytes are read
abbrev pub read_list : ℕ → List DeviceCall
read_list count = Length ∷ front_list count

-- a second layout is written at this offset, then the offset into the head, then a sync
abbrev pub lay_list : ℕ → List ℕ → List DeviceCall
lay_list at second = WriteAt at second ∷ WriteAt SECOND_AT (number_bytes WORD_SIZE at) ∷ Sync ∷ []

-- the switch byte is set, then a sync
abbrev pub switch_list : List DeviceCall
switch_list = WriteAt SWITCH_AT (COMMITTED ∷ []) ∷ Sync ∷ []

-- the migration, of a file that has its first layout alone
abbrev pub migration_list : ℕ → List ℕ → List DeviceCall
migration_list at second = lay_list at second ++ switch_list

-- the home words of the open records of the first places are written, place by place and entry by entry
abbrev pub home_list : List ℕ → ℕ → List DeviceCall
home_list image zero = []
home_list image (suc place) = home_list image place ++ map (home_call (at_of image)) (pairs_in image place)

-- the commit bytes of the open records of the first places are cleared, place by place
abbrev pub clear_list : List ℕ → ℕ → List DeviceCall
clear_list image zero = []
clear_list image (suc place) =
    clear_list image place ++ (if entries_in image place == 0 then [] else clear_call (commit_at (at_of image) (words_of image) place) ∷ [])

-- the home words of all open records, a sync, their commit bytes, a sync
abbrev pub roll_list : List ℕ → List DeviceCall
roll_list image = (home_list image (found_places image) ++ Sync ∷ []) ++ (clear_list image (found_places image) ++ Sync ∷ [])

-- the changes of a file that has its second layout are finished, if a record is open
abbrev pub repair_list : List ℕ → List DeviceCall
repair_list image = if open_records image == 0 then [] else roll_list image

-- A file without damage, with these words, is made ready for calls. If it has its second layout its changes are finished, else it is
-- given the second layout.
abbrev pub ready_list : List ℕ → List ℕ → List DeviceCall
ready_list image words = if is_switched image then repair_list image else migration_list (begins_at image) (second_part (places_of image) words)

-- an opening that reads these bytes: of a file with damage they are only read
abbrev pub open_list : List ℕ → List DeviceCall
open_list image = read_list (length image) ++ (if is_none (damage_of image) then ready_list image (words_in image) else [])

module _ {D : Type 0} (facts : D → Facts) (made : DeviceCall → Bool → D → D → Type 0) where
  -- An opening that went well has read bytes without damage, which have the words that it gave. It made the calls that these bytes ask
  -- for, and all went well.
  pub record WasOpenedBy (disk : D) (file : TenantFile D) (words : List ℕ) : Type 0 where
    pub image : List ℕ
    pub seen : WasRead (facts disk) image
    pub undamaged : damage_of image ≡ None
    pub has : words ≡ words_in image
    pub calls : Makes made (open_list image) true disk (disk_of file)

  -- An opening that found damage has read bytes with this damage. It made no other calls.
  pub record WasDamagedBy (disk after : D) (damage : DamageKind) : Type 0 where
    pub image : List ℕ
    pub seen : WasRead (facts disk) image
    pub found : damage_of image ≡ Some damage
    pub calls : Makes made (open_list image) true disk after

  -- One of the calls of an opening failed, and none was made after it. An honest disk's bytes ask for these calls.
  pub record HasFailedBy (disk after : D) : Type 0 where
    pub image : List ℕ
    pub seen : WasRead (facts disk) image
    pub calls : Makes made (open_list image) false disk after

  -- which calls an opening that failed has made, by its fault: without memory it has only asked for the length
  abbrev pub FailsBy : D → OpenFault → D → Type 0
  FailsBy disk (Damage damage) after = WasDamagedBy disk after damage
  FailsBy disk Disk after = HasFailedBy disk after
  FailsBy disk Memory after = Makes made (Length ∷ []) true disk after

  -- which calls an opening has made, by its answer
  abbrev pub OpensBy : D → Result (TenantFile D × Vec ℕ Global) (OpenFault × D) → Type 0
  OpensBy disk (Ok opened) = WasOpenedBy disk opened.0 opened.1.items
  OpensBy disk (Err failed) = FailsBy disk failed.0 failed.1
