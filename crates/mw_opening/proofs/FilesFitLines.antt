-- An opened file that has its tenant's words and places fits the tenant's line, and one for each line fit all lines.
-- Used by: open_files, open_synced; mw_programs.
use Rattle.std.proofs.Common.{◌≡◌, ◌≤◌, ℕ, zero, suc, ◌+◌, List, [], ◌∷◌, ◌++◌, Option, Some, Result, Ok, Err, OnOk, is_err, false, Vec, take, slice_get, get_or, length, ◌<◌, ◌∙◌, ap, subst, sym, refl, arith, IsTrue}
use Rattle.std.specs.declared.alloc.Global.{Global}
use Rattle.std.proofs.lemmas.Option.{none-some, same_Some, slice_get-get_or}
use Rattle.std.proofs.lemmas.List.{length-take}
use Rattle.mw_words.specs.Change.{AreWords}
use Rattle.mw_disk.specs.Facts.{Facts, IsSynced}
use Rattle.mw_record.proofs.Sound.{undamaged_words}
use Rattle.mw_config.specs.declared.lines.TenantLine.{TenantLine}
use Rattle.mw_file.specs.declared.tenant_file.TenantFile.{TenantFile}
use Rattle.mw_file.specs.File.{states_of}
use Rattle.mw_file.specs.OpeningEnds.{IsOpened}
use Rattle.mw_config.specs.FittingFiles.{IsFresh, FitsLine, FitLines}

-- if a call went well, the clause for that case holds
pub of_ok : {A E P : Type 0} (r : Result A E) → is_err r ≡ false → OnOk r P → P
of_ok (Ok x) well holds = holds
of_ok (Err e) well holds = absurd (cc)

-- The words of a file without damage are values of words.
pub opened_words : {D : Type 0} (facts : D → Facts) (disk : D) (file : TenantFile D) (words : List ℕ) → IsOpened facts disk file words → AreWords words
opened_words facts disk file words opened =
    subst AreWords (sym opened.read) (undamaged_words opened.image opened.undamaged)

-- A file fits its tenant's line if it was opened on a synced disk and has the words and the places that the line asks
-- for.
pub is_fresh : {D : Type 0} (facts : D → Facts) (line : TenantLine) (disk : D) (file : TenantFile D) (words : Vec ℕ Global) → IsOpened facts disk file words.items
    → (IsTrue (facts disk).honest → IsSynced (facts disk)) → length words.items ≡ line.words → line.quota ≤ length (states_of file) → IsFresh facts line (file, words)
is_fresh facts line disk file words opened rest many room = record {
  count = opened.count ∙ many;
  read = sym opened.count;
  values = opened_words facts disk file words.items opened;
  room = room;
  free = opened.free;
  sound = opened.sound;
  keeps = λ honest.
      let was : IsTrue (facts disk).honest = subst (λ b. IsTrue b) opened.later.honest honest in
      opened.keeps was (rest was);
}

module _ {D : Type 0} (facts : D → Facts) where
  -- one more file, for the next line
  pub fit_more : (lines : List TenantLine) (k : ℕ) (line : TenantLine) (files : List (Option (TenantFile D × Vec ℕ Global))) (file : Option (TenantFile D × Vec ℕ Global))
      → slice_get lines k ≡ Some line → FitsLine facts line file → FitLines facts (take k lines) files → FitLines facts (take (suc k) lines) (files ++ file ∷ [])
  fit_more [] k line files file at fits so_far = absurd (none-some line at)
  fit_more (l ∷ lines) zero line [] file at fits so_far =
      let same : line ≡ l = sym (same_Some l line at) in
      (subst (λ (x : TenantLine). FitsLine facts x file) same fits, tt)
  fit_more (l ∷ lines) zero line (f ∷ files) file at fits so_far = absurd so_far
  fit_more (l ∷ lines) (suc k) line [] file at fits so_far = absurd so_far
  fit_more (l ∷ lines) (suc k) line (f ∷ files) file at fits so_far = (so_far.0, fit_more lines k line files file at fits so_far.1)

  -- the same, if the line is read at an index
  pub fit_next : (lines : List TenantLine) (k : ℕ) (line : TenantLine) (files after : List (Option (TenantFile D × Vec ℕ Global))) (file : Option (TenantFile D × Vec ℕ Global))
      → k < length lines → get_or lines k line ≡ line → FitsLine facts line file → FitLines facts (take k lines) files → after ≡ files ++ file ∷ [] → FitLines facts (take (k + 1) lines) after
  fit_next lines k line files after file lt is fits so_far one_more =
      let at : slice_get lines k ≡ Some line = slice_get-get_or lines k line lt ∙ ap (λ x. Some x) is in
      let more : FitLines facts (take (suc k) lines) (files ++ file ∷ []) = fit_more lines k line files file at fits so_far in
      let next : suc k ≡ k + 1 = omega arith in
      let fit : FitLines facts (take (k + 1) lines) (files ++ file ∷ []) = subst (λ (n : ℕ). FitLines facts (take n lines) (files ++ file ∷ [])) next more in
      subst (λ fs. FitLines facts (take (k + 1) lines) fs) (sym one_more) fit

  -- there are as many files as lines
  pub as_many : (lines : List TenantLine) (files : List (Option (TenantFile D × Vec ℕ Global))) → FitLines facts lines files → length files ≡ length lines
  as_many [] [] fits = refl
  as_many [] (f ∷ files) fits = absurd fits
  as_many (l ∷ lines) [] fits = absurd fits
  as_many (l ∷ lines) (f ∷ files) fits = ap suc (as_many lines files fits.1)

  -- there are k files if they fit the first k lines
  pub so_many : (lines : List TenantLine) (k : ℕ) (files : List (Option (TenantFile D × Vec ℕ Global))) → k < length lines → FitLines facts (take k lines) files → length files ≡ k
  so_many lines k files low fits =
      let many = as_many (take k lines) files fits in
      let long = length-take k lines in
      omega (arith, many, long, low)
