-- Names the parts of a book's open file (words, places, disk), also if the file didn't open.
-- Used by: mw_core, mw_engine, mw_law_threads, book.rt.
use Rattle.std.specs.Prelude.{ℕ, Bool, true, List, [], length, Option, Some, None, IsTrue}
use Rattle.mw_disk.specs.Facts.{Facts}
use Rattle.mw_record.specs.Records.{Pairs}
use Rattle.mw_file.specs.declared.place_states.PlaceState.{PlaceState}
use Rattle.mw_file.specs.declared.tenant_file.TenantFile.{TenantFile}
use Rattle.mw_file.specs.File.{disk_of, words_of, states_of, has_failed}
use Rattle.mw_file.specs.RecoveryInvariant.{RecoversTo}

module _ {D : Type 0} where
  -- the states of its places; no places if there is no file
  abbrev pub states_in : Option (TenantFile D) → List PlaceState
  states_in None = []
  states_in (Some held) = states_of held

  -- how many words it has, and how many places; if there is no file, the number that is given
  abbrev pub words_in : ℕ → Option (TenantFile D) → ℕ
  words_in so_many None = so_many
  words_in so_many (Some held) = words_of held

  abbrev pub places_in : ℕ → Option (TenantFile D) → ℕ
  places_in so_many None = so_many
  places_in so_many (Some held) = length (states_of held)

  -- a device call on it has failed, or there is no file
  abbrev pub has_failed_in : Option (TenantFile D) → Bool
  has_failed_in None = true
  has_failed_in (Some held) = has_failed held

  -- the disk that it is on, if there is a file
  abbrev pub disk_in : Option (TenantFile D) → Option D
  disk_in None = None
  disk_in (Some held) = Some (disk_of held)

module _ {D : Type 0} (facts : D → Facts) where
  -- On an honest disk the file recovers to these words, with this change in doubt. If there is no file this says nothing.
  abbrev pub FileRecoversTo : Option (TenantFile D) → List ℕ → Pairs → Type 0
  FileRecoversTo None contents doubt = Unit {0}
  FileRecoversTo (Some held) contents doubt = IsTrue (facts (disk_of held)).honest → RecoversTo facts held contents doubt

  -- P holds of the facts of the disk before and after. Or there was no disk, and there is none.
  abbrev pub OnDisk : (Facts → Facts → Type 0) → Option D → Option D → Type 0
  OnDisk P None None = Unit {0}
  OnDisk P (Some old) (Some new) = P (facts old) (facts new)
  OnDisk P None (Some new) = ⊥
  OnDisk P (Some old) None = ⊥
