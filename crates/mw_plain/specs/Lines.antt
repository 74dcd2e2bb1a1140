-- Defines which opened files fit which tenants' lines, and of what parts a new plain store is made.
-- Used by: mw_words_tests, mw_engine_tests, plain.rt, tenant.rt. A change here changes which files a store may be made of.
use Rattle.std.specs.Prelude.{◌≡◌, ◌≤◌, ℕ, true, false, List, [], ◌∷◌, length, sum_by, Option, Some, None, Vec, IsTrue}
use Rattle.std.specs.declared.alloc.Global.{Global}
use Rattle.mw_disk.specs.Facts.{Facts}
use Rattle.mw_config.specs.declared.lines.TenantLine.{TenantLine}
use Rattle.mw_words.specs.declared.limits.TheConstants.{MAX_QUOTA, MAX_WORDS}
use Rattle.mw_file.specs.declared.tenant_file.TenantFile.{TenantFile}
use Rattle.mw_file.specs.File.{disk_of, words_of, states_of, has_failed}
use Rattle.mw_file.specs.RecoveryInvariant.{RecoversTo}
use Rattle.mw_file.specs.PlaceStates.{all_free}
use Rattle.mw_lone.specs.Store.{Store}
use Rattle.mw_plain.specs.declared.loaded_file.LoadedFile.{LoadedFile}
use Rattle.mw_plain.specs.declared.tenant.Part.{Part}

-- a line keeps the limits
pub record IsWithin (line : TenantLine) : Type 0 where
  pub words : line.words ≤ MAX_WORDS
  pub quota : line.quota ≤ MAX_QUOTA

-- the sum of the quotas of these lines
abbrev pub quotas_in : List TenantLine → ℕ
quotas_in lines = sum_by (λ line. line.quota) lines

module _ {D : Type 0} where
  -- An opened file, with the words that were read, that fits a tenant's line: it has as many words as the line says and
  -- at least as many places as the quota, all of them free. No call on it has failed.
  pub record IsFresh (line : TenantLine) (opened : TenantFile D × Vec ℕ Global) : Type 0 where
    pub count : words_of opened.0 ≡ line.words
    pub read : length opened.1.items ≡ words_of opened.0
    pub room : line.quota ≤ length (states_of opened.0)
    pub free : IsTrue (all_free (states_of opened.0))
    pub sound : has_failed opened.0 ≡ false

  -- The same if there is a file. There is none if the tenant's file didn't open, or doesn't fit its line.
  abbrev pub FitsLine : TenantLine → Option (TenantFile D × Vec ℕ Global) → Type 0
  FitsLine line None = Unit {0}
  FitsLine line (Some opened) = IsFresh line opened

  -- each line has its file, in the same order
  abbrev pub FitLines : List TenantLine → List (Option (TenantFile D × Vec ℕ Global)) → Type 0
  FitLines [] [] = Unit {0}
  FitLines [] (file ∷ files) = ⊥
  FitLines (line ∷ lines) [] = ⊥
  FitLines (line ∷ lines) (file ∷ files) = IsWithin line × FitsLine line file × FitLines lines files

  -- the loaded file is this opened file with the words that were read; no slot is in use, and it has not faulted
  pub record IsNewBook (opened : TenantFile D × Vec ℕ Global) (book : LoadedFile D) : Type 0 where
    pub file : book.file ≡ opened.0
    pub words : book.words ≡ opened.1
    pub used : book.used ≡ 0
    pub up : book.faulted ≡ false

  -- the tenant has a new loaded file of the file that opened; without one it has none
  abbrev pub IsServedFrom : Option (TenantFile D × Vec ℕ Global) → Option (LoadedFile D) → Type 0
  IsServedFrom None None = Unit {0}
  IsServedFrom None (Some book) = ⊥
  IsServedFrom (Some opened) None = ⊥
  IsServedFrom (Some opened) (Some book) = IsNewBook opened book

  -- a tenant is made of this line and this file
  pub record IsMadeOf (line : TenantLine) (opened : Option (TenantFile D × Vec ℕ Global)) (part : Part D) : Type 0 where
    pub name : part.name ≡ line.name
    pub words : part.words ≡ line.words
    pub quota : part.quota ≡ line.quota
    pub book : IsServedFrom opened part.book

  -- each tenant is made of its line and its file, in the same order
  abbrev pub AreMadeOf : List TenantLine → List (Option (TenantFile D × Vec ℕ Global)) → List (Part D) → Type 0
  AreMadeOf [] [] [] = Unit {0}
  AreMadeOf (line ∷ lines) (file ∷ files) (part ∷ parts) = IsMadeOf line file part × AreMadeOf lines files parts
  AreMadeOf lines files parts = ⊥

  -- the store's words and fault after a start: if the file opened, the words that were read and no fault; else the
  -- fault
  abbrev pub WordsRead : Option (TenantFile D × Vec ℕ Global) → Store → Type 0
  WordsRead None s = s.faulted ≡ true
  WordsRead (Some opened) s = (s.faulted ≡ false) × (s.words ≡ opened.1.items)

  -- The store alone after a start, for a tenant with this line and this file: it has the line's quota and number of
  -- words. No slot is in use, and no change is in doubt.
  pub record StartsWith (line : TenantLine) (opened : Option (TenantFile D × Vec ℕ Global)) (s : Store) : Type 0 where
    pub quota : s.quota ≡ line.quota
    pub as_many : length s.words ≡ line.words
    pub used : s.used ≡ 0
    pub certain : s.in_doubt ≡ []
    pub read : WordsRead opened s

  -- on an honest disk the opened file represents the words that were read, as an opening promises
  abbrev pub KeepsRead : (D → Facts) → Option (TenantFile D × Vec ℕ Global) → Type 0
  KeepsRead facts None = Unit {0}
  KeepsRead facts (Some opened) = IsTrue (facts (disk_of opened.0)).honest → RecoversTo facts opened.0 opened.1.items []
