-- Defines a sound simulated file: one that represents a file with its tenant's number of words. The simulator's files are
-- always sound.
-- Used by: mw_world_memory, mw_simulator.
use Rattle.std.specs.Prelude.{ℕ, ◌≡◌, length, slice_index}
use Rattle.mw_world_file.specs.declared.simulated_file.SimulatedFile.{SimulatedFile}
use Rattle.mw_world_file.specs.Books.{Represents}
use Rattle.mw_world_file.specs.Devices.{place_in}
use Rattle.mw_world.specs.Files.State.{File}

-- the file with the book's own words, places and change in doubt
abbrev pub file_in : SimulatedFile → File
file_in book = record {
  contents = book.contents.items;
  places = place_in book.places.items;
  place_of = slice_index book.place_of;
  has_failed = book.has_failed;
  doubt = book.doubt.items;
}

-- A book represents its file, which has `words` words.
pub record IsSound (words : ℕ) (book : SimulatedFile) : Type 0 where
  pub shows : Represents book (file_in book)
  pub long : length book.contents.items ≡ words

-- the same, as a mere truth: no two proofs of it differ
abbrev pub HasSound : ℕ → SimulatedFile → Type 0
HasSound words book = ∥ IsSound words book ∥₁
