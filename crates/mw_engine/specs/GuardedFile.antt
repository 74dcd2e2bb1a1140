-- Defines that a tenant's book and its file pass agree, as `Agrees` of mw_core does, but with one proof at most, as the
-- invariant of a type must.
-- Used by: src/guarded_file.rt, src/parts.rt, src/start.rt, mw_law_threads.
use Rattle.std.specs.Prelude.{◌≡◌, ◌<◌, ℕ, true, false, is_some, List, [], drop, length, slice_get, slice_index, Option, Some, None, IsTrue}
use Rattle.mw_words.specs.declared.limits.TheConstants.{MAX_POOL}
use Rattle.mw_disk.specs.Facts.{Facts, IsSynced, MayLeave}
use Rattle.mw_record.specs.Layout.{pairs_of}
use Rattle.mw_record.specs.Records.{Pairs, record_at}
use Rattle.mw_record.specs.Contents.{HasSecond}
use Rattle.mw_record.specs.declared.layout.Layout.TheVariants.{Second}
use Rattle.mw_file.specs.declared.place_states.Stage.{Stage}
use Rattle.mw_file.specs.declared.place_states.Stage.TheVariants.{Free, Prepared, Sealed}
use Rattle.mw_file.specs.declared.tenant_file.TenantFile.{TenantFile}
use Rattle.mw_file.specs.File.{at_of, disk_of, words_of, states_of, has_failed}
use Rattle.mw_file.specs.RecoveryInvariant.{IsBeforeOrAfter, IsFile}
use Rattle.mw_file.specs.PlaceStates.{stage_of, writes_of_place}
use Rattle.mw_file.specs.Stores.{IsWritten}
use Rattle.mw_book.specs.declared.book.Book.{Book}
use Rattle.mw_book.specs.OpenFile.{states_in}
use Rattle.mw_book.specs.Representation.{ArePlaced}
use Rattle.mw_core.specs.FromTable.{FilePass, FileToken, file_kept, file_told, opening_at}
use Rattle.mw_engine.specs.Brand.{Identity}
use Rattle.mw_engine.specs.CallsSinceStart.{IsLeftInRun, IsUsedSinceStart}
use Rattle.mw_engine.specs.DisksAtStart.{IsOnItsDisk}

-- the bytes of a place in the second layout, by the stage of its change
pub record IsStoredAs (part : List ℕ) (words place : ℕ) (stage : Stage) (writes : Pairs) : Type 0 where
  pub free : stage ≡ Free → record_at Second part words place ≡ None
  pub prepared : stage ≡ Prepared → IsWritten part words place writes
  pub sealed : stage ≡ Sealed → record_at Second part words place ≡ Some writes

module _ {D : Type 0} (facts : D → Facts) where
  -- the file represents these words, with this change in doubt: what `RecoversTo` says, with at most one proof
  pub record RecoversToOnce (file : TenantFile D) (contents : List ℕ) (doubt : Pairs) : Type 0 where
    pub count : length contents ≡ words_of file
    pub read : has_failed file ≡ false → IsFile (length (states_of file)) contents (facts (disk_of file)).reads
    pub certain : has_failed file ≡ false → doubt ≡ []
    pub left : (image : List ℕ) → MayLeave (facts (disk_of file)) image → ∥ IsBeforeOrAfter (length (states_of file)) contents doubt image ∥₁
    pub rest : has_failed file ≡ false → IsSynced (facts (disk_of file))
    pub has : has_failed file ≡ false → HasSecond (at_of file) (words_of file) (length (states_of file)) contents (facts (disk_of file)).reads
    pub placed : has_failed file ≡ false → (place : ℕ) → place < length (states_of file)
        → IsStoredAs (drop (at_of file) (facts (disk_of file)).reads) (words_of file) place (stage_of (states_of file) place) (writes_of_place (states_of file) place)

  -- The book shows the file that the file token tells. Both have so many places, and the token has a place for the
  -- change of each of so many slots.
  pub record AgreesOnce (book : Book D) (file_passes : FileToken) (places slots : ℕ) : Type 0 where
    pub same_words : length (file_told file_passes).contents ≡ book.words
    pub same_places : ArePlaced (states_in book.held) book.table book.places (file_told file_passes).places
    pub same_place_of : (slot : ℕ) → slot < MAX_POOL → (file_told file_passes).place_of slot ≡ slice_index book.place_of slot
    pub same_failed : (file_told file_passes).has_failed ≡ book.has_failed
    pub stands : (file : TenantFile D) → book.held ≡ Some file → IsTrue (facts (disk_of file)).honest → RecoversToOnce file (file_told file_passes).contents (pairs_of (file_told file_passes).doubt)
    pub as_many : book.places ≡ places
    pub long : length file_passes.places ≡ places
    pub of_slots : length file_passes.place_of ≡ slots

  module _ (identity : Identity) where
    -- The file pass is of the engine's table, and knows the world's configuration and what the latest start gave. The
    -- book agrees with it on one file, which has as many places as its tenant may use slots. The book holds a file if
    -- the tenant's file opened, and its disk has the past of the one that this file opened on. If that one was honest, a
    -- crash at any moment since left the words of the start, or what a call in the run that the file pass knows may
    -- leave. Since the start, calls in this run and copies were made on the book, and nothing else was done to it.
    pub record IsKept (book : Book D) (file_pass : FilePass) : Type 0 where
      pub own : file_pass.seat.table_id ≡ identity.table
      pub config : file_pass.seat.me.0.config ≡ identity.config
      pub openings : file_pass.seat.me.0.openings ≡ identity.openings
      pub opened : is_some book.held ≡ (opening_at identity.openings file_pass.tenant).is_up
      pub its_disk : IsOnItsDisk facts (IsLeftInRun facts identity file_pass.seat.me.0 file_pass.tenant) identity.disks file_pass.tenant book.held
      pub its_uses : ∥ IsUsedSinceStart facts identity file_pass.seat.me.0 file_pass.tenant book (file_kept file_pass) ∥₁
      pub agrees : AgreesOnce book (file_kept file_pass) (opening_at identity.openings file_pass.tenant).quota identity.config.pool

    -- each book is kept with the file pass of the same number, and that is the file pass of the tenant of that number
    abbrev pub AreKept : List (Book D) → List FilePass → Type 0
    AreKept books file_passes = (tenant : ℕ) (book : Book D) (file_pass : FilePass) → slice_get books tenant ≡ Some book → slice_get file_passes tenant ≡ Some file_pass → (file_pass.tenant ≡ tenant) × IsKept book file_pass

    -- A lock keeps this tenant's file pass with its book.
    pub record KeepsFor (book : Book D) (file_pass : Option FilePass) (tenant : ℕ) : Type 0 where
      pub there : is_some file_pass ≡ true
      pub kept : (one : FilePass) → file_pass ≡ Some one → IsKept book one
      pub its : (one : FilePass) → file_pass ≡ Some one → one.tenant ≡ tenant
