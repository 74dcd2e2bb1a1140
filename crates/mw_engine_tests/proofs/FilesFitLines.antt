-- One file that fits its line, after files that fit the lines before, fits as the next. Used by: all_opened.
use Rattle.std.proofs.Common.{◌≡◌, ℕ, zero, suc, ◌+◌, List, [], ◌∷◌, ◌++◌, Option, Some, Vec, take, slice_get, get_or, length, ◌<◌, ◌∙◌, ap, subst, sym, arith}
use Rattle.std.specs.declared.alloc.Global.{Global}
use Rattle.std.proofs.lemmas.Option.{none-some, same_Some, slice_get-get_or}
use Rattle.mw_disk.specs.Facts.{Facts}
use Rattle.mw_config.specs.declared.lines.TenantLine.{TenantLine}
use Rattle.mw_file.specs.declared.tenant_file.TenantFile.{TenantFile}
use Rattle.mw_engine.specs.OpenedFiles.{FitsLine, FitLines}

module _ {D : Type 0} (facts : D → Facts) where
  -- one more file, for the next line
  fit_more : (lines : List TenantLine) (k : ℕ) (line : TenantLine) (files : List (Option (TenantFile D × Vec ℕ Global))) (file : Option (TenantFile D × Vec ℕ Global))
      → slice_get lines k ≡ Some line → FitsLine facts line file → FitLines facts (take k lines) files → FitLines facts (take (suc k) lines) (files ++ file ∷ [])
  fit_more [] k line files file at fits so_far = absurd (none-some line at)
  fit_more (l ∷ lines) zero line [] file at fits so_far = (subst (λ (x : TenantLine). FitsLine facts x file) (sym (same_Some l line at)) fits, tt)
  fit_more (l ∷ lines) zero line (f ∷ files) file at fits so_far = absurd so_far
  fit_more (l ∷ lines) (suc k) line [] file at fits so_far = absurd so_far
  fit_more (l ∷ lines) (suc k) line (f ∷ files) file at fits so_far = (so_far.0, fit_more lines k line files file at fits so_far.1)

  -- the same, if the line is read at an index
  pub fit_next : (lines : List TenantLine) (k : ℕ) (line : TenantLine) (files : List (Option (TenantFile D × Vec ℕ Global))) (file : Option (TenantFile D × Vec ℕ Global))
      → k < length lines → get_or lines k line ≡ line → FitsLine facts line file → FitLines facts (take k lines) files → FitLines facts (take (k + 1) lines) (files ++ file ∷ [])
  fit_next lines k line files file lt is fits so_far =
      let at : slice_get lines k ≡ Some line = slice_get-get_or lines k line lt ∙ ap (λ x. Some x) is in
      let more : FitLines facts (take (suc k) lines) (files ++ file ∷ []) = fit_more lines k line files file at fits so_far in
      let next : suc k ≡ k + 1 = omega arith in
      subst (λ (n : ℕ). FitLines facts (take n lines) (files ++ file ∷ [])) next more
