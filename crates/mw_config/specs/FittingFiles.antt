-- Defines when the file that was opened for a tenant fits the tenant's line.
-- Used by: mw_opening, which opens such files; mw_engine, which is made of them (`specs/OpenedFiles` passes these on).
use Rattle.std.specs.Prelude.{◌≡◌, ◌≤◌, ℕ, false, List, [], ◌∷◌, length, Option, Some, None, Vec, IsTrue}
use Rattle.std.specs.declared.alloc.Global.{Global}
use Rattle.mw_words.specs.Change.{AreWords}
use Rattle.mw_config.specs.declared.lines.TenantLine.{TenantLine}
use Rattle.mw_disk.specs.Facts.{Facts}
use Rattle.mw_file.specs.declared.tenant_file.TenantFile.{TenantFile}
use Rattle.mw_file.specs.File.{disk_of, words_of, states_of, has_failed}
use Rattle.mw_file.specs.RecoveryInvariant.{RecoversTo}
use Rattle.mw_file.specs.PlaceStates.{all_free}

module _ {D : Type 0} (facts : D → Facts) where
  -- An opened file, with the words that were read, that fits a tenant's line. It has as many words as the line says,
  -- all of them values of words. It has at least as many places as the quota, all of them free. No call on it has
  -- failed. On an honest disk it represents these words, with nothing in doubt.
  pub record IsFresh (line : TenantLine) (opened : TenantFile D × Vec ℕ Global) : Type 0 where
    pub count : words_of opened.0 ≡ line.words
    pub read : length opened.1.items ≡ words_of opened.0
    pub values : AreWords opened.1.items
    pub room : line.quota ≤ length (states_of opened.0)
    pub free : IsTrue (all_free (states_of opened.0))
    pub sound : has_failed opened.0 ≡ false
    pub keeps : IsTrue (facts (disk_of opened.0)).honest → RecoversTo facts opened.0 opened.1.items []

  -- the same if there is a file; nothing is asked if there is none
  abbrev pub FitsLine : TenantLine → Option (TenantFile D × Vec ℕ Global) → Type 0
  FitsLine line None = Unit {0}
  FitsLine line (Some opened) = IsFresh line opened

  -- each line has its file, in the same order
  abbrev pub FitLines : List TenantLine → List (Option (TenantFile D × Vec ℕ Global)) → Type 0
  FitLines [] [] = Unit {0}
  FitLines [] (file ∷ files) = ⊥
  FitLines (line ∷ lines) [] = ⊥
  FitLines (line ∷ lines) (file ∷ files) = FitsLine line file × FitLines lines files
