-- Defines which store alone (sequential specification) represents each tenant of a new plain store.
-- Used by: plain.rt. A change here changes what Plain::new promises.
use Rattle.std.specs.Prelude.{◌≡◌, ℕ, List, slice_get, Some, Option, Vec}
use Rattle.std.specs.declared.alloc.Global.{Global}
use Rattle.mw_disk.specs.Facts.{Facts}
use Rattle.mw_config.specs.declared.lines.TenantLine.{TenantLine}
use Rattle.mw_file.specs.declared.tenant_file.TenantFile.{TenantFile}
use Rattle.mw_lone.specs.Store.{Store}
use Rattle.mw_plain.specs.declared.plain.Plain.{Plain}
use Rattle.mw_plain.specs.Lines.{StartsWith, KeepsRead}
use Rattle.mw_plain.specs.Answers.{Stands, FileKeeps}

-- Each tenant's store alone, as a start leaves it, represents the tenant. If the tenant's file represents the words
-- that were read, it represents the store's words.
abbrev pub EachStands : {D : Type 0} → (D → Facts) → List TenantLine → List (Option (TenantFile D × Vec ℕ Global)) → Plain D → Type 0
EachStands {D} facts lines files plain =
    (tenant : ℕ) (line : TenantLine) (opened : Option (TenantFile D × Vec ℕ Global)) (s : Store) → slice_get lines tenant ≡ Some line → slice_get files tenant ≡ Some opened
    → StartsWith line opened s → Stands plain tenant s × (KeepsRead facts opened → FileKeeps facts plain tenant s)
