-- Names the parts of a tenant's loaded file (its open file, with its words in memory), also if the file didn't open.
-- Used by: loaded_file.rt, tenant.rt. It may change with LoadedFile, in src/loaded_file.rt.
use Rattle.std.specs.Prelude.{◌≡◌, ℕ, Bool, true, false, List, length, Option, Some, None}
use Rattle.mw_words.specs.declared.jobs.Entry.{Entry}
use Rattle.mw_file.specs.declared.place_states.Stage.TheVariants.{Prepared}
use Rattle.mw_file.specs.File.{words_of, states_of}
use Rattle.mw_file.specs.PlaceStates.{stage_of, writes_of_place}
use Rattle.mw_record.specs.Layout.{pairs_of}
use Rattle.mw_plain.specs.declared.loaded_file.LoadedFile.{LoadedFile}

module _ {D : Type 0} where
  -- how many slots the tenant uses
  abbrev pub used_in : Option (LoadedFile D) → ℕ
  used_in None = 0
  used_in (Some book) = book.used

  -- the tenant has faulted: its file didn't open, or a call on it has failed since
  abbrev pub faulted_in : Option (LoadedFile D) → Bool
  faulted_in None = true
  faulted_in (Some book) = book.faulted

  -- how many words its file has; without a file, `so_many`
  abbrev pub words_in : ℕ → Option (LoadedFile D) → ℕ
  words_in so_many None = so_many
  words_in so_many (Some book) = words_of book.file

  -- how many places its file has; without a file, `so_many`
  abbrev pub places_in : ℕ → Option (LoadedFile D) → ℕ
  places_in so_many None = so_many
  places_in so_many (Some book) = length (states_of book.file)

  -- This change's writes are prepared in this place of the tenant's file, or the tenant has faulted. The expected
  -- values are not in the file.
  abbrev pub IsPrepared : Option (LoadedFile D) → ℕ → List Entry → Type 0
  IsPrepared None place entries = Unit {0}
  IsPrepared (Some book) place entries =
      book.faulted ≡ false → (stage_of (states_of book.file) place ≡ Prepared) × (writes_of_place (states_of book.file) place ≡ pairs_of entries)
