-- Defines how the opening of a file ends, and what each ending says of the file and the disk.
-- Used by: many crates from mw_plain on, laws.rt, opening.rt. docs/PROMISES cites `IsOpened`, docs/THEOREM `Opens`.
use Rattle.std.specs.Prelude.{◌≡◌, ◌≤◌, ◌<◌, ◌==◌, ℕ, zero, suc, ◌+◌, Bool, true, false, Some, None, is_none, List, [], length, take, min, if◌then◌else◌, Vec, Result, Ok, Err, IsTrue}
use Rattle.std.specs.declared.alloc.Global.{Global}
use Rattle.mw_disk.specs.Facts.{Facts, IsSynced}
use Rattle.mw_disk.specs.Runs.{Good, Bad, Later, Touched, LeavesOnly}
use Rattle.mw_record.specs.declared.damages.Damage.{Damage as DamageKind}
use Rattle.mw_record.specs.declared.layout.Layout.TheVariants.{First}
use Rattle.mw_record.specs.declared.layout.TheConstants.{MAX_FILE}
use Rattle.mw_record.specs.Layout.{size, second_part}
use Rattle.mw_record.specs.Damages.{damage_of, file_words, is_switched, second_at, at_of, words_of as told_words, found_places, words_in, places_of, pairs_in}
use Rattle.mw_record.specs.Contents.{IsSwitched}
use Rattle.mw_file.specs.declared.tenant_file.TenantFile.{TenantFile}
use Rattle.mw_file.specs.declared.opening.OpenFault.{OpenFault}
use Rattle.mw_file.specs.declared.opening.OpenFault.TheVariants.{Damage, Disk, Memory}
use Rattle.mw_file.specs.Run.{IsUntouched}
use Rattle.mw_file.specs.PlaceStates.{all_free}
use Rattle.mw_file.specs.File.{disk_of, words_of, states_of, has_failed}
use Rattle.mw_file.specs.RecoveryInvariant.{RecoversTo}
use Rattle.mw_file.specs.Migration.{migration_calls, InSwitch, Grown, given_second, CanGrow}
use Rattle.mw_file.specs.RollForward.{CanFinish}

-- the bytes of a disk that can belong to a file: its first ones, up to the largest file
abbrev pub front : Facts → List ℕ
front f = take MAX_FILE f.reads

-- An opening has read these bytes. If the disk is honest, they are the bytes that can belong to a file.
abbrev pub WasRead : Facts → List ℕ → Type 0
WasRead f image = IsTrue f.honest → image ≡ front f

-- how many device calls it takes to read these bytes: the length, and one read unless there are no bytes
abbrev pub read_calls : List ℕ → ℕ
read_calls image = 1 + min 1 (length image)

-- how many entries the open record of a place has; 0 if the place is closed
abbrev pub entries_in : List ℕ → ℕ → ℕ
entries_in image place = length (pairs_in image place)

-- how many entries the open records of the first places have
abbrev pub entries_below : List ℕ → ℕ → ℕ
entries_below image zero = 0
entries_below image (suc place) = entries_below image place + entries_in image place

-- how many of the first places have an open record with entries; in a file without damage each open record has entries
abbrev pub records_below : List ℕ → ℕ → ℕ
records_below image zero = 0
records_below image (suc place) = records_below image place + min 1 (entries_in image place)

-- how many entries the open records of the file have, and how many open records with entries it has
abbrev pub open_entries : List ℕ → ℕ
open_entries image = entries_below image (found_places image)

abbrev pub open_records : List ℕ → ℕ
open_records image = records_below image (found_places image)

-- How many device calls finish the changes whose records are open: one for each home word, a sync, one for each commit byte,
-- a sync. It is 0 if no record is open.
abbrev pub repair_calls : List ℕ → ℕ
repair_calls image = if open_records image == 0 then 0 else (open_entries image + 1) + (open_records image + 1)

-- How many device calls make a file without damage ready for calls. If it has its second layout they finish its changes, else they
-- give it the second layout.
abbrev pub ready_calls : List ℕ → ℕ
ready_calls image = if is_switched image then repair_calls image else migration_calls

-- how many device calls an opening of these bytes makes
abbrev pub open_calls : List ℕ → ℕ
open_calls image = read_calls image + (if is_none (damage_of image) then ready_calls image else 0)

-- where the second layout of a file without damage begins after the opening: where it began before, else after the first
abbrev pub begins_at : List ℕ → ℕ
begins_at image = if is_switched image then at_of image else size First (told_words image) (found_places image)

-- The disk is honest and synced, and a read gives a file of these words that has what the bytes tell that were read. The file has a
-- second layout if the switch byte is set in those bytes, else it is in its first.
abbrev pub OpensAs : Bool → Facts → List ℕ → List ℕ → Type 0
OpensAs true f image contents = CanFinish f image contents
OpensAs false f image contents = CanGrow f image contents

-- the same, by the switch byte of the bytes that were read
abbrev pub CanOpen : Facts → List ℕ → List ℕ → Type 0
CanOpen f image contents = OpensAs (is_switched image) f image contents

-- These bytes have the same words as those, or neither has any, and both have as many places after an opening.
pub record SameFile (before image : List ℕ) : Type 0 where
  pub words : file_words image ≡ file_words before
  pub places : places_of image ≡ places_of before

-- The file is unchanged: its words and places are the same in what a read gives, and in what a crash at any moment since may have left.
pub record Unchanged (old new : Facts) : Type 0 where
  pub read : SameFile old.reads new.reads
  pub left : LeavesOnly old new (SameFile old.reads)

-- an opening on an honest and synced disk leaves the file unchanged
abbrev pub OpensSafely : Facts → Facts → Type 0
OpensSafely old new = IsTrue old.honest → IsSynced old → Unchanged old new

-- An opening on an honest and synced disk does not write to the first layout of a file that has its second one. In what a read
-- gives, and in what a crash at any moment leaves, only bytes from where the second layout begins may have changed.
abbrev pub SparesFirst : Facts → Facts → Type 0
SparesFirst old new = IsTrue old.honest → IsSynced old → is_switched old.reads ≡ true → Touched (λ k. second_at old.reads ≤ k) old new

-- An opening on an honest and synced disk keeps the first layout of a file that has no second one. In what a read gives, and in what
-- a crash at any moment leaves, no byte is gone. Before the offset at which the second layout will begin, only the bytes of the head
-- that tell of it may have changed.
abbrev pub KeepsFirst : Facts → Facts → Type 0
KeepsFirst old new = IsTrue old.honest → IsSynced old → is_switched old.reads ≡ false → Grown InSwitch (begins_at old.reads) old new

-- After an opening that went well, on an honest and synced disk, the switch byte is set, and the head tells where the second layout
-- begins: where it began before, else after the first.
abbrev pub TellsSecond : Facts → Facts → Type 0
TellsSecond old new = IsTrue old.honest → IsSynced old → IsSwitched (begins_at old.reads) new.reads

-- An opening that went well, on an honest and synced disk, gives a file in its first layout the second one and does nothing else to
-- it. A read gives what it gave, with three things written over it: a second layout after the first, of the file's words and with
-- zeros for all its places; the offset of that layout, in the head; and the switch byte.
abbrev pub GivesSecond : Facts → Facts → Type 0
GivesSecond old new = IsTrue old.honest → IsSynced old → is_switched old.reads ≡ false
    → new.reads ≡ given_second (begins_at old.reads) (second_part (places_of old.reads) (words_in old.reads)) old.reads

-- the disk after an opening
abbrev pub disk_after : {D : Type 0} → Result (TenantFile D × Vec ℕ Global) (OpenFault × D) → D
disk_after (Ok opened) = disk_of opened.0
disk_after (Err failed) = failed.1

module _ {D : Type 0} (facts : D → Facts) where
  -- The file is open: every place is free, no device call failed, and it has the words and places of the bytes that were read.
  pub record IsOpened (disk : D) (file : TenantFile D) (words : List ℕ) : Type 0 where
    pub later : Later (facts disk) (facts (disk_of file))
    pub unchanged : OpensSafely (facts disk) (facts (disk_of file))
    pub first_stays : SparesFirst (facts disk) (facts (disk_of file))
    pub first_kept : KeepsFirst (facts disk) (facts (disk_of file))
    pub begins : TellsSecond (facts disk) (facts (disk_of file))
    pub given : GivesSecond (facts disk) (facts (disk_of file))
    pub image : List ℕ
    pub seen : WasRead (facts disk) image
    pub undamaged : damage_of image ≡ None
    pub made : Good (open_calls image) (facts disk) (facts (disk_of file))
    pub read : words ≡ words_in image
    pub count : words_of file ≡ length words
    pub places : length (states_of file) ≡ places_of image
    pub some_place : 0 < length (states_of file)
    pub free : IsTrue (all_free (states_of file))
    pub sound : has_failed file ≡ false
    -- if the disk is honest these are the words of all its bytes, and if it was synced too the file recovers to them
    pub whole : IsTrue (facts disk).honest → file_words (facts disk).reads ≡ Some words
    pub keeps : IsTrue (facts disk).honest → IsSynced (facts disk) → RecoversTo facts file words []

  -- The file is damaged. The opening only read it, and no device call failed.
  pub record IsDamaged (disk after : D) (damage : DamageKind) : Type 0 where
    pub later : Later (facts disk) (facts after)
    pub unchanged : OpensSafely (facts disk) (facts after)
    pub untouched : IsUntouched (facts disk) (facts after)
    pub image : List ℕ
    pub seen : WasRead (facts disk) image
    pub found : damage_of image ≡ Some damage
    pub whole : IsTrue (facts disk).honest → damage_of (facts disk).reads ≡ Some damage
    pub made : Good (open_calls image) (facts disk) (facts after)

  -- A device call failed, and it was the last one.
  pub record DiskFailed (disk after : D) : Type 0 where
    pub later : Later (facts disk) (facts after)
    pub unchanged : OpensSafely (facts disk) (facts after)
    pub first_stays : SparesFirst (facts disk) (facts after)
    pub first_kept : KeepsFirst (facts disk) (facts after)
    pub calls : ℕ
    pub made : Bad calls (facts disk) (facts after)
    pub within : IsTrue (facts disk).honest → calls ≤ open_calls (front (facts disk))

  -- Memory was refused before the file was read. The opening only asked for its length.
  pub record MemoryRefused (disk after : D) : Type 0 where
    pub later : Later (facts disk) (facts after)
    pub unchanged : OpensSafely (facts disk) (facts after)
    pub untouched : IsUntouched (facts disk) (facts after)
    pub made : Good 1 (facts disk) (facts after)

  -- how an opening that failed left the disk, by its fault
  abbrev pub Fails : D → OpenFault → D → Type 0
  Fails disk (Damage damage) after = IsDamaged disk after damage
  Fails disk Disk after = DiskFailed disk after
  Fails disk Memory after = MemoryRefused disk after

  -- how an opening ended, by its answer
  abbrev pub Opens : D → Result (TenantFile D × Vec ℕ Global) (OpenFault × D) → Type 0
  Opens disk (Ok opened) = IsOpened disk opened.0 opened.1.items
  Opens disk (Err failed) = Fails disk failed.0 failed.1
