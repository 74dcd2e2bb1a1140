-- Defines which file a book (here a SimulatedFile, the world's file in memory) represents.
-- Used by: src/calls.rt, src/laws.rt, src/new_books.rt, src/opened.rt, src/opening.rt, src/restarts.rt,
-- src/start_values.rt, src/unopened.rt, mw_simulator, mw_table_tests. A new field of SimulatedFile needs a part in
-- HasParts; if the world knows of it, also in PartsRepresent.
use Rattle.std.specs.Prelude.{◌≡◌, ◌<◌, ℕ, Bool, List, length, slice_index}
use Rattle.mw_words.specs.declared.limits.TheConstants.{MAX_POOL}
use Rattle.mw_words.specs.declared.jobs.Entry.{Entry}
use Rattle.mw_world_file.specs.declared.device.Device.{Device}
use Rattle.mw_world_file.specs.declared.places.Place.{Place as KeptPlace}
use Rattle.mw_world_file.specs.declared.simulated_file.SimulatedFile.{SimulatedFile}
use Rattle.mw_world_file.specs.Devices.{place_in, DeviceRecoversTo}
use Rattle.mw_world.specs.Files.State.{File}

-- These parts of a book represent this file. Each is what the file has, and the file in memory recovers to its words,
-- with `file_places` places and its change in doubt.
pub record PartsRepresent (device : Device) (contents : List ℕ) (places : List KeptPlace) (file_places : ℕ) (place_of : List ℕ) (failed : Bool) (doubt : List Entry) (file : File) : Type 0 where
  pub same_contents : file.contents ≡ contents
  pub same_places : (place : ℕ) → place < length places → file.places place ≡ place_in places place
  pub same_place_of : (slot : ℕ) → slot < MAX_POOL → file.place_of slot ≡ slice_index place_of slot
  pub same_failed : file.has_failed ≡ failed
  pub same_doubt : file.doubt ≡ doubt
  pub stands : DeviceRecoversTo device file_places contents doubt

-- the book represents this file
abbrev pub Represents : SimulatedFile → File → Type 0
Represents book file = PartsRepresent book.device book.contents.items book.places.items book.file_places book.place_of book.has_failed book.doubt.items file

-- The tenant's quota: how many places of the file the book uses. They are the first ones; the file may have more.
abbrev pub quota_of : SimulatedFile → ℕ
quota_of book = length book.places.items

-- how many places the file has in its second layout; for a file that no start has opened yet, as many as it gets then
abbrev pub places_of_file : SimulatedFile → ℕ
places_of_file book = book.file_places

-- These are the parts of a book.
pub record HasParts (book : SimulatedFile) (device : Device) (contents : List ℕ) (places : List KeptPlace) (count : ℕ) (place_of : List ℕ) (failed : Bool) (doubt : List Entry) : Type 0 where
  pub is_device : book.device ≡ device
  pub is_contents : book.contents.items ≡ contents
  pub is_places : book.places.items ≡ places
  pub is_file_places : book.file_places ≡ count
  pub is_place_of : book.place_of ≡ place_of
  pub is_failed : book.has_failed ≡ failed
  pub is_doubt : book.doubt.items ≡ doubt
