-- Defines a tenant's file on a disk in memory, open or shut, and its record places as a book keeps them.
-- Used by: src/calls.rt, src/laws.rt, src/opened.rt, src/opening.rt, src/places.rt, src/simulated_file.rt, src/stops.rt,
-- mw_simulator.
use Rattle.std.specs.Prelude.{◌≡◌, ℕ, Bool, true, false, not, List, [], Option, Some, None, slice_get}
use Rattle.mw_disk.specs.Facts.{MayLeave}
use Rattle.mw_memory_disk.specs.Memory.{Memory, memory_facts}
use Rattle.mw_words.specs.declared.jobs.Entry.{Entry}
use Rattle.mw_record.specs.Layout.{pairs_of}
use Rattle.mw_file.specs.declared.place_states.PlaceState.{PlaceState}
use Rattle.mw_file.specs.declared.place_states.Stage.{Stage}
use Rattle.mw_file.specs.declared.place_states.Stage.TheVariants.{Free as FreeStage, Prepared as PreparedStage, Sealed as SealedStage}
use Rattle.mw_file.specs.File.{disk_of, words_of, states_of, has_failed}
use Rattle.mw_file.specs.RecoveryInvariant.{IsFile, RecoversTo}
use Rattle.mw_file.specs.PlaceStates.{stage_of, writes_of_place}
use Rattle.mw_world.specs.Files.Stages.{stage_told}
use Rattle.mw_world_file.specs.declared.device.Device.{Device}
use Rattle.mw_world_file.specs.declared.device.Device.TheVariants.{Open, Shut}
use Rattle.mw_world_file.specs.declared.places.Place.{Place as KeptPlace}
use Rattle.mw_world_file.specs.declared.places.Place.TheVariants.{Empty as KeptEmpty, Prepared as KeptPrepared, Sealed as KeptSealed}
use Rattle.mw_world.specs.Files.State.{Place, Empty, Prepared, Sealed, entries_in, is_empty, share_a_word}

-- the place that a place in a book represents; past the last one it is empty
abbrev pub told : KeptPlace → Place
told KeptEmpty = Empty
told (KeptPrepared entries) = Prepared entries.items
told (KeptSealed entries) = Sealed entries.items

-- the place that a found place represents; if none was found, an empty one
abbrev pub told_at : Option KeptPlace → Place
told_at None = Empty
told_at (Some place) = told place

-- the place with this number in a book; past the last one it is empty
abbrev pub place_in : List KeptPlace → ℕ → Place
place_in places place = told_at (slice_get places place)

-- the place has no sealed change with an entry for a word of these entries
abbrev pub is_clear : List Entry → Place → Bool
is_clear entries Empty = true
is_clear entries (Prepared others) = true
is_clear entries (Sealed others) = not (share_a_word entries others)

-- the file was opened
abbrev pub is_open : Device → Bool
is_open (Open file) = true
is_open (Shut disk) = false

-- the places of an open file; a shut one has none
abbrev pub states_on : Device → List PlaceState
states_on (Open file) = states_of file
states_on (Shut disk) = []

-- a call on the file has failed; a shut file counts as failed
abbrev pub has_failed_on : Device → Bool
has_failed_on (Open file) = has_failed file
has_failed_on (Shut disk) = true

-- how many words an open file has; 0 for a shut one
abbrev pub words_on : Device → ℕ
words_on (Open file) = words_of file
words_on (Shut disk) = 0

-- the disk that the file is on
abbrev pub disk_under : Device → Memory
disk_under (Open file) = disk_of file
disk_under (Shut disk) = disk

-- No device call to come is scripted to fail, and none so far found memory out.
pub record IsReady (disk : Memory) : Type 0 where
  pub plan : (k : ℕ) → (memory_facts disk).plan k ≡ Some true
  pub granted : disk.refused ≡ 0

-- The file's places are at the stages that these places say, with their entries. The file's further places are free.
pub record AreKept (states : List PlaceState) (places : List KeptPlace) : Type 0 where
  pub stages : (place : ℕ) → stage_of states place ≡ stage_told (place_in places place)
  pub writes : (place : ℕ) → is_empty (place_in places place) ≡ false → writes_of_place states place ≡ pairs_of (entries_in (place_in places place))

-- The file recovers to these words, with this change in doubt. A shut file has no change in doubt, and whatever a crash
-- leaves of it is a file of these words with this number of places.
abbrev pub DeviceRecoversTo : Device → ℕ → List ℕ → List Entry → Type 0
DeviceRecoversTo (Open file) places contents doubt = RecoversTo memory_facts file contents (pairs_of doubt)
DeviceRecoversTo (Shut disk) places contents doubt = (doubt ≡ []) × ((image : List ℕ) → MayLeave (memory_facts disk) image → IsFile places contents image)
