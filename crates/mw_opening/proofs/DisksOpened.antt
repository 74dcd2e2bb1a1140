-- What an opening after a sync gave is of its tenant's line, and one file more is of the next line.
-- Used by: open_synced, open_fitting, open_files.
use Rattle.std.proofs.Common.{◌≡◌, ◌<◌, ℕ, zero, suc, ◌+◌, ◌++◌, ◌∷◌, [], Bool, true, false, IsTrue, List, length, take, slice_get, get_or, Option, Some, Vec, Result, Ok, Err, OnOk, IfOk, is_err, is_ok, ◌∙◌, ap, subst, sym, refl, arith}
use Rattle.std.proofs.lemmas.Option.{none-some, same_Some, slice_get-get_or}
use Rattle.std.specs.declared.alloc.Global.{Global}
use Rattle.mw_config.specs.declared.lines.TenantLine.{TenantLine}
use Rattle.mw_disk.specs.DeviceCalls.{DeviceCall, Sync}
use Rattle.mw_disk.specs.Facts.{Called, Facts, IsSynced}
use Rattle.mw_file.specs.OpeningCalls.{OpensBy}
use Rattle.mw_file.specs.OpeningEnds.{Opens}
use Rattle.mw_file.specs.declared.opening.OpenFault.{OpenFault}
use Rattle.mw_file.specs.declared.tenant_file.TenantFile.{TenantFile}
use Rattle.mw_opening.specs.declared.file_fault.FileFault.{FileFault}
use Rattle.mw_opening.specs.SyncedOpenings.{AreOfLines, IsOfLine, OpensAfterSync}
use Rattle.mw_opening.proofs.FilesFitLines.{of_ok}

-- a call that didn't fail went well
is_ok_of : {A E : Type 0} (r : Result A E) → is_err r ≡ false → is_ok r ≡ true
is_ok_of (Ok x) well = refl
is_ok_of (Err e) well = absurd (cc)

module _ {D : Type 0} (facts : D → Facts) (makes : DeviceCall → Bool → D → D → Type 0) where
  pub opens_after_sync : {A E : Type 0} (disk synced : D) (result : Result A E) (end : Result (TenantFile D × Vec ℕ Global) (OpenFault × D)) → is_err result ≡ false
      → makes Sync (is_ok result) disk synced → Called (facts disk) (facts synced) (is_ok result) → (IsTrue (facts disk).honest → (facts synced).reads ≡ (facts disk).reads)
      → OnOk result (IsTrue (facts disk).honest → IsSynced (facts synced)) → Opens facts synced end → OpensBy facts makes synced end
      → OpensAfterSync facts makes disk end
  opens_after_sync disk synced result end well sync called same rest opens by = record {
    synced = synced;
    sync = subst (λ b. makes Sync b disk synced) (is_ok_of result well) sync;
    called = subst (λ b. Called (facts disk) (facts synced) b) (is_ok_of result well) called;
    same = same;
    rest = λ honest. of_ok result well rest (subst (λ b. IsTrue b) called.honest honest);
    opens = opens;
    by = by;
  }

module _ {D : Type 0} (facts : D → Facts) (makes : DeviceCall → Bool → D → D → Type 0) (is_over : List ℕ → D → Type 0)
    (is_refused : List ℕ → FileFault → Type 0) where
  -- what was opened so on a disk over the line's path is of that line
  pub of_line : {E : Type 0} (line : TenantLine) (disk : D) (result : Result (TenantFile D × Vec ℕ Global) E) → is_over line.path.bytes disk
      → IfOk result (λ opened. OpensAfterSync facts makes disk (Ok opened)) → IfOk result (λ opened. IsOfLine facts makes is_over is_refused line (Some opened))
  of_line line disk (Ok opened) over is = (disk, over, is)
  of_line line disk (Err fault) over is = tt

  -- one more file, for the next line
  of_more : (lines : List TenantLine) (k : ℕ) (line : TenantLine) (files : List (Option (TenantFile D × Vec ℕ Global))) (file : Option (TenantFile D × Vec ℕ Global))
      → slice_get lines k ≡ Some line → IsOfLine facts makes is_over is_refused line file → AreOfLines facts makes is_over is_refused (take k lines) files
      → AreOfLines facts makes is_over is_refused (take (suc k) lines) (files ++ file ∷ [])
  of_more [] k line files file at is so_far = absurd (none-some line at)
  of_more (l ∷ lines) zero line [] file at is so_far =
      (subst (λ (x : TenantLine). IsOfLine facts makes is_over is_refused x file) (sym (same_Some l line at)) is, tt)
  of_more (l ∷ lines) zero line (f ∷ files) file at is so_far = absurd so_far
  of_more (l ∷ lines) (suc k) line [] file at is so_far = absurd so_far
  of_more (l ∷ lines) (suc k) line (f ∷ files) file at is so_far = (so_far.0, of_more lines k line files file at is so_far.1)

  -- the same, if the line is read at an index
  pub of_next : (lines : List TenantLine) (k : ℕ) (line : TenantLine) (files after : List (Option (TenantFile D × Vec ℕ Global))) (file : Option (TenantFile D × Vec ℕ Global))
      → k < length lines → get_or lines k line ≡ line → IsOfLine facts makes is_over is_refused line file → AreOfLines facts makes is_over is_refused (take k lines) files
      → after ≡ files ++ file ∷ [] → AreOfLines facts makes is_over is_refused (take (k + 1) lines) after
  of_next lines k line files after file low is of so_far one_more =
      let at : slice_get lines k ≡ Some line = slice_get-get_or lines k line low ∙ ap (λ x. Some x) is in
      let more : AreOfLines facts makes is_over is_refused (take (suc k) lines) (files ++ file ∷ []) = of_more lines k line files file at of so_far in
      let next : suc k ≡ k + 1 = omega arith in
      let all : AreOfLines facts makes is_over is_refused (take (k + 1) lines) (files ++ file ∷ []) = subst (λ (n : ℕ). AreOfLines facts makes is_over is_refused (take n lines) (files ++ file ∷ [])) next more in
      subst (λ fs. AreOfLines facts makes is_over is_refused (take (k + 1) lines) fs) (sym one_more) all
