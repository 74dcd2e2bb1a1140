-- If a call on a file answers no error, all its device calls went well, and what its `Ok` promises holds.
-- Used by: mw_plain, mw_world_file, mw_book, among others.
use Rattle.std.specs.Prelude.{◌≡◌, ℕ, false, Result, Ok, Err, is_err, OnOk}
use Rattle.mw_disk.specs.Facts.{Facts}
use Rattle.mw_file.specs.declared.tenant_file.TenantFile.{TenantFile}
use Rattle.mw_file.specs.declared.tenant_file.FileFault.{FileFault}
use Rattle.mw_file.specs.File.{Ends, WentWell}

-- The first lemma is of how a call ended, the second of any promise of its Ok.
pub ended_well : {D T : Type 0} (facts : D → Facts) (calls : ℕ) (old new : TenantFile D) (r : Result T FileFault) → is_err r ≡ false → Ends facts calls old new r
    → WentWell facts calls old new
ended_well facts calls old new (Ok x) well ends = ends
ended_well facts calls old new (Err fault) well ends = absurd (cc)

pub went_well : {T E : Type 0} (r : Result T E) (P : Type 0) → is_err r ≡ false → OnOk r P → P
went_well (Ok x) P well holds = holds
went_well (Err e) P well holds = absurd (cc)
