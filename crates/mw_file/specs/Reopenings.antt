-- Defines what an opening of a file finds after a crash.
-- Used by: mw_plain, mw_law_threads, laws.rt. A change here changes the laws of a file that is opened again after a crash.
use Rattle.std.specs.Prelude.{◌⊎◌, ℕ, List, [], Vec, Result, Ok, Err}
use Rattle.std.specs.declared.alloc.Global.{Global}
use Rattle.mw_disk.specs.Facts.{Facts}
use Rattle.mw_record.specs.Records.{Pairs, put_pairs}
use Rattle.mw_file.specs.declared.tenant_file.TenantFile.{TenantFile}
use Rattle.mw_file.specs.declared.opening.OpenFault.{OpenFault}
use Rattle.mw_file.specs.declared.opening.OpenFault.TheVariants.{Damage, Disk, Memory}
use Rattle.mw_file.specs.RecoveryInvariant.{RecoversTo}

module _ {D : Type 0} (facts : D → Facts) (contents : List ℕ) (change : Pairs) where
  -- this fault is not a damage of the file
  abbrev pub NotDamaged : OpenFault → Type 0
  NotDamaged (Damage damage) = ⊥
  NotDamaged Disk = Unit
  NotDamaged Memory = Unit

  -- If the file opens, it recovers to these words, or to these with this change put over them, and no change is in doubt. If it
  -- doesn't open, the reason is the device or memory, and not a damage.
  abbrev pub Holds : Result (TenantFile D × Vec ℕ Global) (OpenFault × D) → Type 0
  Holds (Ok opened) = RecoversTo facts opened.0 contents [] ⊎ RecoversTo facts opened.0 (put_pairs change contents) []
  Holds (Err failed) = NotDamaged failed.0
