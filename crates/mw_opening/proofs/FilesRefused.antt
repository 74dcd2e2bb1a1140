-- If a disk or its opening gave a tenant no file, there is a cause.
-- Used by: open_synced, open_fitting.
use Rattle.std.proofs.Common.{◌≡◌, ◌≢◌, ℕ, Bool, true, List, Result, Ok, Err, IfErr, is_err, is_ok, refl, subst}
use Rattle.mw_config.specs.declared.lines.TenantLine.{TenantLine}
use Rattle.mw_disk.specs.DeviceCalls.{DeviceCall, Sync}
use Rattle.mw_disk.specs.Facts.{Called, Facts}
use Rattle.mw_file.specs.declared.opening.OpenFault.{OpenFault}
use Rattle.mw_file.specs.declared.opening.OpenFault.TheVariants.{Damage, Disk, Memory as NoMemory}
use Rattle.mw_opening.specs.declared.file_fault.FileFault.{FileFault}
use Rattle.mw_opening.specs.declared.file_fault.FileFault.TheVariants.{Memory}
use Rattle.mw_opening.specs.SyncedOpenings.{DamageFound, DiskRefused, FileRefused, GivesNoFile, HasNoFile, OpeningFailed, OpensAfterSync, SyncFailed}

module _ {D : Type 0} (facts : D → Facts) (makes : DeviceCall → Bool → D → D → Type 0) where
  -- a sync that failed is a cause
  pub of_sync : {A E : Type 0} (line : TenantLine) (disk after : D) (result : Result A E) → is_err result ≡ true
      → makes Sync (is_ok result) disk after → Called (facts disk) (facts after) (is_ok result) → GivesNoFile facts makes line disk
  of_sync line disk after (Ok x) failed sync called = absurd (cc)
  of_sync line disk after (Err e) failed sync called = SyncFailed after sync called

  -- an opening that failed is a cause, unless memory was refused
  pub of_opening : (line : TenantLine) (disk after : D) (fault : OpenFault) (told : FileFault) → OpensAfterSync facts makes disk (Err (fault, after))
      → (fault ≡ NoMemory → told ≡ Memory) → told ≢ Memory → GivesNoFile facts makes line disk
  of_opening line disk after (Damage damage) told opens memory other = DamageFound damage after opens
  of_opening line disk after Disk told opens memory other = OpeningFailed after opens
  of_opening line disk after NoMemory told opens memory other = absurd (other (memory refl))

module _ {D : Type 0} (facts : D → Facts) (makes : DeviceCall → Bool → D → D → Type 0) (is_over : List ℕ → D → Type 0)
    (is_refused : List ℕ → FileFault → Type 0) where
  -- a path that was refused is a cause
  pub of_path : {A : Type 0} (line : TenantLine) (path : List ℕ) (result : Result A FileFault) → path ≡ line.path.bytes
      → IfErr result (λ fault. is_refused path fault) → IfErr result (λ fault. fault ≢ Memory → HasNoFile facts makes is_over is_refused line)
  of_path line path (Ok disk) same refused = tt
  of_path line path (Err fault) same refused = λ other. DiskRefused fault (subst (λ p. is_refused p fault) same refused) other

  -- so is what a disk over the line's path gave in place of a file
  pub of_disk : {A : Type 0} (line : TenantLine) (disk : D) (result : Result A FileFault) → is_over line.path.bytes disk
      → IfErr result (λ fault. fault ≢ Memory → GivesNoFile facts makes line disk)
      → IfErr result (λ fault. fault ≢ Memory → HasNoFile facts makes is_over is_refused line)
  of_disk line disk (Ok file) over gives = tt
  of_disk line disk (Err fault) over gives = λ other. FileRefused disk over (gives other)
