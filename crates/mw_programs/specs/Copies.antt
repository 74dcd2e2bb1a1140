-- Defines what a copy of a tenant's file is, by the tenant's name, of the files that an engine serves.
-- Used by: src/copies.rt. Change it with docs/HTTP and docs/OPERATING.
use Rattle.std.specs.Prelude.{◌≡◌, ℕ, ◌⊎◌, List, length, Vec, Result, Ok, Err}
use Rattle.std.specs.declared.alloc.Global.{Global}
use Rattle.mw_disk.specs.Facts.{Facts}
use Rattle.mw_file.specs.declared.tenant_file.CopyFault.{CopyFault}
use Rattle.mw_file.specs.declared.tenant_file.CopyFault.TheVariants as fault
use Rattle.mw_engine.specs.Brand.{Identity}
use Rattle.mw_engine.specs.Copies.{CopiesOne}
use Rattle.mw_engine.specs.Identity.{HasNone, IsFirst}
use Rattle.mw_server_pages.specs.declared.file_copies.NoCopy.TheVariants as no_copy
use Rattle.mw_server_pages.specs.Copies.{Copy}

-- the answer is the engine's: the same bytes, or the same reason why there are none
abbrev pub IsTold : Result (Vec ℕ Global) CopyFault → Copy → Type 0
IsTold (Ok bytes) copy = copy ≡ Ok bytes
IsTold (Err fault.Failed) copy = copy ≡ Err no_copy.Failed
IsTold (Err fault.Disk) copy = copy ≡ Err no_copy.Disk
IsTold (Err fault.Memory) copy = copy ≡ Err no_copy.Memory

-- No tenant has this name, and there is no copy.
pub record IsUnknown (identity : Identity) (name : List ℕ) (copy : Copy) : Type 0 where
  pub none : HasNone identity.lines (length identity.lines) name
  pub told : copy ≡ Err no_copy.NoTenant

-- The engine copied the file of the first tenant with this name, under its lock, or tried to, and the answer is its.
pub record IsCopyOfFirst {D : Type 0} (facts : D → Facts) (identity : Identity) (name : List ℕ) (copy : Copy) : Type 0 where
  pub tenant : ℕ × ℕ
  pub first : IsFirst identity.lines name tenant
  pub made : Result (Vec ℕ Global) CopyFault
  pub copies : CopiesOne facts identity tenant.0 made
  pub told : IsTold made copy

-- how a copy of the file of the tenant with this name was answered
abbrev pub IsCopyOf : {D : Type 0} → (D → Facts) → Identity → List ℕ → Copy → Type 0
IsCopyOf facts identity name copy = IsUnknown identity name copy ⊎ IsCopyOfFirst facts identity name copy
