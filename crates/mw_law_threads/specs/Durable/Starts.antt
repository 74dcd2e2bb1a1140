-- Defines what a start finds of what a crash left, also through starts that were cut off, and gives its engine: the words with
-- whole changes.
-- Used by: starts_find_changes, engines_start_with_changes (src/durable_laws.rt).
use Rattle.std.specs.Prelude.{ℕ, true, ◌≡◌, ◌⊎◌, List, [], ◌∷◌, slice_get, Option, Some, Vec, Result, Ok, Err, IsTrue}
use Rattle.std.specs.declared.alloc.Global.{Global}
use Rattle.mw_words.specs.declared.jobs.Entry.{Entry}
use Rattle.mw_words.specs.Change.{put}
use Rattle.mw_disk.specs.Facts.{Facts, IsSynced, MayHaveLeft}
use Rattle.mw_config.specs.declared.lines.TenantLine.{TenantLine}
use Rattle.mw_file.specs.OpeningEnds.{Opens, disk_after}
use Rattle.mw_file.specs.RecoveryInvariant.{RecoversTo}
use Rattle.mw_file.specs.Reopenings.{NotDamaged}
use Rattle.mw_file.specs.declared.opening.OpenFault.{OpenFault}
use Rattle.mw_file.specs.declared.tenant_file.TenantFile.{TenantFile}
use Rattle.mw_world.specs.Definition.State.{TenantStart}
use Rattle.mw_rule.specs.FromLaws.{put_sealed}
use Rattle.mw_rule.specs.Prefixes.{opening_at}
use Rattle.mw_rule.specs.Rule.{words_given}
use Rattle.mw_rule.specs.declared.views.View.{View}
use Rattle.mw_engine.specs.OpenedFiles.{openings_read}
use Rattle.mw_law_threads.specs.Durable.Durable.{LeavesWholeChanges}

-- An opening that goes well found these words, or these with this one change put over them. The open file keeps what was found, and no
-- change is in doubt. An opening that fails found no damage: the device failed, or memory was out.
abbrev pub FindsEither : {E : Type 0} → (E → Facts) → List ℕ → List Entry → Result (TenantFile E × Vec ℕ Global) (OpenFault × E) → Type 0
FindsEither facts words more (Ok opened) = ((opened.1.items ≡ words) ⊎ (opened.1.items ≡ put words more)) × RecoversTo facts opened.0 opened.1.items []
FindsEither facts words more (Err failed) = NotDamaged facts words [] failed.0

module _ {E : Type 0} (again : E → Facts) where
  -- An opening of a file, on a disk that is honest and synced, however it ended.
  pub record Opening : Type 0 where
    pub disk : E
    pub opened : Result (TenantFile E × Vec ℕ Global) (OpenFault × E)
    pub honest : IsTrue (again disk).honest
    pub synced : IsSynced (again disk)
    pub opens : Opens again disk opened

  -- These openings came one after the other, with no other call on the file. The first one opened the first bytes. A crash in each, or
  -- after it, left the bytes that the next one opened. The last crash left the last bytes. Without an opening, both are the same.
  abbrev pub LeftByOpenings : List ℕ → List Opening → List ℕ → Type 0
  LeftByOpenings first [] last = last ≡ first
  LeftByOpenings first (one ∷ later) last = ((again one.disk).reads ≡ first) × (between : List ℕ) × MayHaveLeft (again (disk_after one.opened)) (again one.disk).moment between × LeftByOpenings between later last

-- A crash comes between these two moments of a disk, and leaves whole changes. Starts may have opened the bytes that it left, and were cut
-- off before they served. Then a start opens what these left, on a disk that is honest and synced. It finds the words of the start before
-- with all sealed changes put over them, or these with the one more put over them.
abbrev pub StartsFindChanges : {D E : Type 0} → (D → Facts) → (E → Facts) → Type 0
StartsFindChanges {D} {E} facts again = (view : View) (tenant : ℕ) (more : List Entry) (old new : D) (left : LeavesWholeChanges facts view tenant more (Some old) (Some new)) → IsTrue (facts old).honest
    → (image : List ℕ) → MayHaveLeft (facts new) (facts old).moment image
    → (openings : List (Opening again)) (disk : E) (opened : Result (TenantFile E × Vec ℕ Global) (OpenFault × E)) → LeftByOpenings again image openings (again disk).reads
    → IsTrue (again disk).honest → IsSynced (again disk) → Opens again disk opened
    → FindsEither again (put_sealed (words_given view tenant) left.sealed) more opened

-- A start gives a tenant its file, which opened, and these words or these with this one change put over them.
pub record GivesEither (words : List ℕ) (more : List Entry) (given : TenantStart) : Type 0 where
  pub opened : given.is_up ≡ true
  pub words_are : (given.words ≡ words) ⊎ (given.words ≡ put words more)

-- The crash and the openings are the same, and the last opening goes well. An engine is made of these lines and files; the line of this
-- number has the opened file. The engine's start gives the tenant of that number the words of the start before with all sealed changes put
-- over them, or these with the one more put over them.
abbrev pub EnginesStartWithChanges : {D E : Type 0} → (D → Facts) → (E → Facts) → Type 0
EnginesStartWithChanges {D} {E} facts again = (view : View) (tenant : ℕ) (more : List Entry) (old new : D) (left : LeavesWholeChanges facts view tenant more (Some old) (Some new)) → IsTrue (facts old).honest
    → (image : List ℕ) → MayHaveLeft (facts new) (facts old).moment image
    → (openings : List (Opening again)) (disk : E) (opened : TenantFile E × Vec ℕ Global) → LeftByOpenings again image openings (again disk).reads
    → IsTrue (again disk).honest → IsSynced (again disk) → Opens again disk (Ok opened)
    → (lines : List TenantLine) (files : List (Option (TenantFile E × Vec ℕ Global))) (number : ℕ) (line : TenantLine)
    → slice_get lines number ≡ Some line → slice_get files number ≡ Some (Some opened)
    → GivesEither (put_sealed (words_given view tenant) left.sealed) more (opening_at (openings_read lines files) number)
