-- Defines the words to which a file recovers after a crash: its words, and after a failed seal perhaps one change more. By it
-- a crash leaves a change wholly or not at all.
-- Used by: mw_config, mw_memory_disk, mw_plain, mw_world, mw_world_file, mw_book, mw_engine, mw_law_threads, laws.rt, migration.rt, new_changes.rt,
-- opening.rt, tenant_file.rt.
use Rattle.std.specs.Prelude.{◌≡◌, ◌⊎◌, ◌≤◌, ℕ, false, Some, List, [], length, Result, Ok, Err, IsTrue}
use Rattle.mw_disk.specs.Facts.{Facts, MayLeave}
use Rattle.mw_disk.specs.Runs.{LeavesOnly, Touched}
use Rattle.mw_record.specs.Records.{Pairs, put_pairs}
use Rattle.mw_record.specs.Damages.{file_words, places_of}
use Rattle.mw_file.specs.declared.tenant_file.TenantFile.{TenantFile}
use Rattle.mw_file.specs.declared.tenant_file.FileFault.{FileFault}
use Rattle.mw_file.specs.declared.tenant_file.FileFault.TheVariants.{Disk, Failed}
use Rattle.mw_file.specs.File.{disk_of, at_of, words_of, states_of, has_failed}
use Rattle.mw_file.specs.Stores.{IsDurable}

-- these bytes are a file of so many places and of these words
pub record IsFile (places : ℕ) (contents image : List ℕ) : Type 0 where
  pub words_are : file_words image ≡ Some contents
  pub places_are : places_of image ≡ places

-- these bytes are a file of these words, or of these with this change put over them
abbrev pub IsBeforeOrAfter : ℕ → List ℕ → Pairs → List ℕ → Type 0
IsBeforeOrAfter places contents change image = IsFile places contents image ⊎ IsFile places (put_pairs change contents) image

module _ {D : Type 0} (facts : D → Facts) where
  -- The file recovers to these words, with this change in doubt.
  -- An opening gives the words, with no change in doubt. A seal that answers Ok puts its change over them.
  -- A seal that answers Disk leaves its change in doubt. Every other call leaves the words and the change in doubt.
  pub record RecoversTo (file : TenantFile D) (contents : List ℕ) (doubt : Pairs) : Type 0 where
    -- there are as many words as the file says
    pub count : length contents ≡ words_of file
    -- while the file has not failed, a read gives a file of these words, and no change is in doubt
    pub read : has_failed file ≡ false → IsFile (length (states_of file)) contents (facts (disk_of file)).reads
    pub certain : has_failed file ≡ false → doubt ≡ []
    -- a crash leaves a file of these words, or of these with the change in doubt put over them
    pub left : (image : List ℕ) → MayLeave (facts (disk_of file)) image → IsBeforeOrAfter (length (states_of file)) contents doubt image
    -- only the calls of this crate use this field; whoever calls them passes it on
    pub inside : has_failed file ≡ false → IsDurable (facts (disk_of file)) (at_of file) (words_of file) contents (states_of file)

  -- A crash during the call does no harm. A crash at any moment since the call began leaves a file of the words before, or of
  -- these with this change put over them. After the call the file recovers to the words `now`, with `doubt` in doubt.
  pub record CrashSafe (old new : TenantFile D) (before : List ℕ) (change : Pairs) (now : List ℕ) (doubt : Pairs) : Type 0 where
    pub moments : LeavesOnly (facts (disk_of old)) (facts (disk_of new)) (IsBeforeOrAfter (length (states_of old)) before change)
    pub after : RecoversTo new now doubt

  -- a call on an honest disk leaves the words and the change in doubt, and a crash during it does no harm
  abbrev pub ContentsStay : TenantFile D → TenantFile D → Type 0
  ContentsStay old new = IsTrue (facts (disk_of old)).honest → (contents : List ℕ) (doubt : Pairs) → RecoversTo old contents doubt
      → CrashSafe old new contents doubt contents doubt

  -- How a seal of a change ends, by its answer. After Ok the words have the change put over them. After Disk it is in doubt.
  -- After Failed the words and the change in doubt are what they were.
  abbrev pub SealEnds : Result (Unit {0}) FileFault → TenantFile D → TenantFile D → Pairs → List ℕ → Pairs → Type 0
  SealEnds (Ok x) old new change contents doubt = CrashSafe old new contents change (put_pairs change contents) []
  SealEnds (Err Disk) old new change contents doubt = CrashSafe old new contents change contents change
  SealEnds (Err Failed) old new change contents doubt = CrashSafe old new contents doubt contents doubt

  -- the same, on an honest disk, for whatever words the file recovers to
  abbrev pub ChangeIsSealed : TenantFile D → TenantFile D → Pairs → Result (Unit {0}) FileFault → Type 0
  ChangeIsSealed old new change result = IsTrue (facts (disk_of old)).honest → (contents : List ℕ) (doubt : Pairs) → RecoversTo old contents doubt
      → SealEnds result old new change contents doubt

  -- A call on an honest disk writes no byte of the first layout. In what a read gives, and in what a crash at any moment leaves,
  -- only bytes from the offset of the second layout on may have changed.
  abbrev pub FirstStays : TenantFile D → TenantFile D → Type 0
  FirstStays old new = IsTrue (facts (disk_of old)).honest → (contents : List ℕ) (doubt : Pairs) → RecoversTo old contents doubt
      → Touched (λ k. at_of old ≤ k) (facts (disk_of old)) (facts (disk_of new))
