-- Defines which device calls prepare, seal, settle and a roll forward make, in order, and with which bytes, also with
-- changes prepared ahead.
-- Used by: mw_world_file, laws.rt, new_changes.rt, opening.rt, roll.rt, tenant_file.rt. Change it with docs/FILES ("How a
-- change goes in", and "Opening" for the roll forward).
use Rattle.std.specs.Prelude.{ℕ, ◌+◌, true, false, List, [], ◌∷◌, ◌++◌, map, flat_map, Result, Ok, Err, ◌≡◌, Bool}
use Rattle.mw_words.specs.declared.jobs.Entry.{Entry}
use Rattle.mw_disk.specs.DeviceCalls.{DeviceCall, WriteAt, Sync, Makes}
use Rattle.mw_record.specs.declared.layout.Layout.TheVariants.{Second}
use Rattle.mw_record.specs.declared.layout.TheConstants.{WORD_SIZE, COMMITTED, NOT_COMMITTED}
use Rattle.mw_record.specs.Layout.{place_at, home_at, number_bytes, body}
use Rattle.mw_record.specs.Records.{Pairs}
use Rattle.mw_file.specs.declared.new_changes.NewChange.{NewChange}
use Rattle.mw_file.specs.declared.place_states.PlaceState.{PlaceState}
use Rattle.mw_file.specs.declared.place_states.Stage.{Stage}
use Rattle.mw_file.specs.declared.place_states.Stage.TheVariants.{Free, Prepared, Sealed}
use Rattle.mw_file.specs.declared.tenant_file.TenantFile.{TenantFile}
use Rattle.mw_file.specs.declared.tenant_file.FileFault.{FileFault}
use Rattle.mw_file.specs.declared.tenant_file.FileFault.TheVariants.{Disk, Failed}
use Rattle.mw_file.specs.File.{disk_of}

-- the offset in the file of a place's commit byte, if the second layout begins at `at` and has so many words
abbrev pub commit_at : ℕ → ℕ → ℕ → ℕ
commit_at at words place = at + place_at Second words place

-- prepare: the bytes of the record after the place's commit byte are written, then a sync
abbrev pub prepare_calls : ℕ → ℕ → ℕ → List Entry → List DeviceCall
prepare_calls at words place entries = WriteAt (commit_at at words place + 1) (body entries) ∷ Sync ∷ []

-- the bytes of a change's record are written, after the commit byte of its place
abbrev pub record_call : ℕ → ℕ → NewChange → DeviceCall
record_call at words change = WriteAt (commit_at at words change.place.0 + 1) (body change.entries.items)

-- the records of these changes are written, in order
abbrev pub record_calls : ℕ → ℕ → List NewChange → List DeviceCall
record_calls at words changes = map (record_call at words) changes

-- seal: the place's commit byte is set, then a sync
abbrev pub seal_calls : ℕ → ℕ → ℕ → List DeviceCall
seal_calls at words place = WriteAt (commit_at at words place) (COMMITTED ∷ []) ∷ Sync ∷ []

-- an address and its value: the home word of this address is written
abbrev pub home_call : ℕ → ℕ × ℕ → DeviceCall
home_call at write = WriteAt (at + home_at write.0) (number_bytes WORD_SIZE write.1)

-- the place's commit byte, which is at this offset, is cleared
abbrev pub clear_call : ℕ → DeviceCall
clear_call commit = WriteAt commit (NOT_COMMITTED ∷ [])

-- settle: the home word of each address is written, in order, then a sync; the place's commit byte is cleared, then a sync
abbrev pub settle_calls : ℕ → ℕ → ℕ → Pairs → List DeviceCall
settle_calls at words place writes =
    map (home_call at) writes ++ Sync ∷ clear_call (commit_at at words place) ∷ Sync ∷ []

-- these calls for a sealed place, none for any other
abbrev pub if_sealed_calls : Stage → List DeviceCall → List DeviceCall
if_sealed_calls Free calls = []
if_sealed_calls Prepared calls = []
if_sealed_calls Sealed calls = calls

-- a roll forward writes the home words of each sealed place, in order
abbrev pub home_calls_of : ℕ → PlaceState → List DeviceCall
home_calls_of at s = if_sealed_calls s.stage (map (home_call at) s.writes.items)

abbrev pub home_calls : ℕ → List PlaceState → List DeviceCall
home_calls at states = flat_map (home_calls_of at) states

-- it clears the commit byte of each sealed place, in order; the first place has this number
abbrev pub clear_calls_of : ℕ → PlaceState → List DeviceCall
clear_calls_of commit s = if_sealed_calls s.stage (clear_call commit ∷ [])

abbrev pub clear_calls : ℕ → ℕ → ℕ → List PlaceState → List DeviceCall
clear_calls at words first [] = []
clear_calls at words first (s ∷ states) = clear_calls_of (commit_at at words first) s ++ clear_calls at words (first + 1) states

-- a roll forward: the home words, a sync, the commit bytes, a sync
abbrev pub roll_device_calls : ℕ → ℕ → ℕ → List PlaceState → List DeviceCall
roll_device_calls at words first states = (home_calls at states ++ Sync ∷ []) ++ (clear_calls at words first states ++ Sync ∷ [])

-- A call on a file made these device calls, as its answer says. Ok: all of them, and they went well. Disk: one failed, and none was
-- made after it. Failed: none was made.
abbrev pub MadeCalls : {D T : Type 0} → (DeviceCall → Bool → D → D → Type 0) → List DeviceCall → TenantFile D → TenantFile D → Result T FileFault → Type 0
MadeCalls made calls old new (Ok x) = Makes made calls true (disk_of old) (disk_of new)
MadeCalls made calls old new (Err Disk) = Makes made calls false (disk_of old) (disk_of new)
MadeCalls made calls old new (Err Failed) = disk_of new ≡ disk_of old
