-- Defines when a store alone (the reference model) represents a tenant's loaded file, and what a crash during a call may
-- leave of that file.
-- Used by: Answers, CallEnds. Every call keeps this relation; a new clause must also hold after a start (`Plain::new`).
use Rattle.std.specs.Prelude.{◌≡◌, ℕ, true, List, length, Option, Some, None, IsTrue}
use Rattle.mw_disk.specs.Facts.{Facts}
use Rattle.mw_disk.specs.Runs.{LeavesOnly}
use Rattle.mw_record.specs.Layout.{pairs_of}
use Rattle.mw_words.specs.declared.jobs.Entry.{Entry}
use Rattle.mw_file.specs.File.{disk_of, states_of}
use Rattle.mw_file.specs.RecoveryInvariant.{RecoversTo, IsBeforeOrAfter}
use Rattle.mw_lone.specs.Store.{Store}
use Rattle.mw_plain.specs.declared.loaded_file.LoadedFile.{LoadedFile}

module _ {D : Type 0} where
  -- The store alone has the loaded file's words, slots in use and fault.
  pub record StandsFor (book : LoadedFile D) (s : Store) : Type 0 where
    pub used : s.used ≡ book.used
    pub faulted : s.faulted ≡ book.faulted
    pub words : s.words ≡ book.words.items

  -- The same for a tenant. If it has no loaded file, the store has faulted and uses no slot.
  abbrev pub Backs : Option (LoadedFile D) → Store → Type 0
  Backs None s = (s.faulted ≡ true) × (s.used ≡ 0)
  Backs (Some book) s = StandsFor book s

module _ {D : Type 0} (facts : D → Facts) where
  -- On an honest disk the tenant's file represents the store's words, with the store's change in doubt. If the tenant
  -- has no loaded file, nothing is said.
  abbrev pub IsKept : Option (LoadedFile D) → Store → Type 0
  IsKept None s = Unit {0}
  IsKept (Some book) s = IsTrue (facts (disk_of book.file)).honest → RecoversTo facts book.file s.words (pairs_of s.in_doubt)

  -- On an honest disk a crash at any moment between these two states of a tenant leaves a file of these words, or of
  -- these words with this change put over them. If there is no file, nothing is touched.
  abbrev pub CrashLeaves : Option (LoadedFile D) → Option (LoadedFile D) → List ℕ → List Entry → Type 0
  CrashLeaves None new words change = new ≡ None
  CrashLeaves (Some old) None words change = ⊥
  CrashLeaves (Some old) (Some new) words change =
      IsTrue (facts (disk_of old.file)).honest
      → LeavesOnly (facts (disk_of old.file)) (facts (disk_of new.file)) (IsBeforeOrAfter (length (states_of old.file)) words (pairs_of change))
