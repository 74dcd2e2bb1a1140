-- Files that fit their tenants' lines for an engine also fit them for the plain store (one job at a time).
-- Used by: new_plain.
use Rattle.std.specs.Prelude.{◌≡◌, ◌≤◌, ℕ, All, List, [], ◌∷◌, Option, Some, None, Vec}
use Rattle.std.specs.declared.alloc.Global.{Global}
use Rattle.std.proofs.Common.{sym, subst}
use Rattle.std.proofs.lemmas.List.Elements.{All-head, All-tail}
use Rattle.mw_words.specs.declared.limits.TheConstants.{MAX_QUOTA, MAX_WORDS}
use Rattle.mw_disk.specs.Facts.{Facts}
use Rattle.mw_config.specs.declared.lines.TenantLine.{TenantLine}
use Rattle.mw_config.specs.Limits.{ArePermitted}
use Rattle.mw_file.specs.declared.tenant_file.TenantFile.{TenantFile}
use Rattle.mw_engine.specs.OpenedFiles.{FitsLine, FitLines}
use Rattle.mw_plain.specs.Lines.{FitsLine as FitsOne, FitLines as FitAll}

abbrev HasWords : TenantLine → Type 0
HasWords line = (1 ≤ line.words) × (line.words ≤ MAX_WORDS)

abbrev HasQuota : TenantLine → Type 0
HasQuota line = (1 ≤ line.quota) × (line.quota ≤ MAX_QUOTA)

module _ {D : Type 0} (facts : D → Facts) where
  fits_one : (line : TenantLine) (file : Option (TenantFile D × Vec ℕ Global)) → FitsLine facts line file → FitsOne line file
  fits_one line None fits = tt
  fits_one line (Some opened) fits = record { count = fits.count; read = fits.read; room = fits.room; free = fits.free; sound = fits.sound }

  fit_all : (lines : List TenantLine) (files : List (Option (TenantFile D × Vec ℕ Global))) → All HasWords lines → All HasQuota lines → FitLines facts lines files → FitAll lines files
  fit_all [] [] words quotas fit = tt
  fit_all [] (file ∷ files) words quotas fit = absurd fit
  fit_all (line ∷ lines) [] words quotas fit = absurd fit
  fit_all (line ∷ lines) (file ∷ files) words quotas fit = (
    record { words = (All-head HasWords line lines words).1; quota = (All-head HasQuota line lines quotas).1 },
    fits_one line file fit.0,
    fit_all lines files (All-tail HasWords line lines words) (All-tail HasQuota line lines quotas) fit.1,
  )

  -- the same, if both slices of the lines are named otherwise
  pub fit_plain : (pool : ℕ) (lines told again : List TenantLine) (files : List (Option (TenantFile D × Vec ℕ Global))) → told ≡ lines → again ≡ lines
      → ArePermitted pool lines → FitLines facts told files → FitAll again files
  fit_plain pool lines told again files is is_again permitted fit =
      subst (λ (x : List TenantLine). FitAll x files) (sym is_again)
      (fit_all lines files permitted.words permitted.quotas (subst (λ (x : List TenantLine). FitLines facts x files) is fit))
