-- Defines how a run of device calls ends, and what it means that a disk is known to fail at one call.
-- Used by: laws.rt, migration.rt, new_changes.rt, opening.rt, roll.rt, tenant_file.rt. A change here changes what is
-- promised of that call.
use Rattle.std.specs.Prelude.{◌≡◌, ◌<◌, ℕ, Some, true, false, Result, Ok, Err, IsTrue}
use Rattle.mw_disk.specs.Facts.{Facts, NothingNew}
use Rattle.mw_disk.specs.Runs.{Good, Bad}

-- How a run of so many device calls ended, by its answer: all went well, or one failed and none was made after it.
abbrev pub Ran : {T E : Type 0} → ℕ → Facts → Facts → Result T E → Type 0
Ran calls old new (Ok x) = Good calls old new
Ran calls old new (Err e) = Bad calls old new

-- If the disk is honest, a read gives what it gave before, and a crash leaves nothing that it would not have left before.
pub record IsUntouched (old new : Facts) : Type 0 where
  pub same : IsTrue old.honest → new.reads ≡ old.reads
  pub nothing_new : IsTrue old.honest → NothingNew old new

-- It is known of a disk that its next k calls go well unless memory is refused, and that the call after them fails.
pub record FailsAtCall (f : Facts) (k : ℕ) : Type 0 where
  pub go : (j : ℕ) → j < k → f.plan j ≡ Some true
  pub fails : f.plan k ≡ Some false
