-- Defines what a tenant's opened file was made of: of a disk over the file at the path of the tenant's line, by a sync and
-- then an opening. Defines also why a tenant has no file.
-- Used by: opening.rt, mw_programs. A change here changes which files a server may hand to its engine, and which tenants may be down.
-- docs/PROMISES cites `AreOfLines`, docs/JOINTS `HasNoFile`.
-- `OpensDisks` tells what `is_over` and `is_refused` mean; of a file of the system nothing is told, because the library's
-- contracts tie no file to a path.
use Rattle.std.specs.Prelude.{◌≡◌, ◌≢◌, ◌≤◌, ℕ, Bool, true, false, IsTrue, List, [], ◌∷◌, length, Option, Some, None, Result, Ok, Err, Vec}
use Rattle.std.specs.declared.alloc.Global.{Global}
use Rattle.mw_disk.specs.DeviceCalls.{DeviceCall, Sync}
use Rattle.mw_disk.specs.Facts.{Called, Facts, IsSynced}
use Rattle.mw_record.specs.declared.damages.Damage.{Damage as DamageKind}
use Rattle.mw_config.specs.declared.lines.TenantLine.{TenantLine}
use Rattle.mw_file.specs.File.{states_of}
use Rattle.mw_file.specs.OpeningCalls.{OpensBy}
use Rattle.mw_file.specs.OpeningEnds.{Opens}
use Rattle.mw_file.specs.declared.opening.OpenFault.{OpenFault}
use Rattle.mw_file.specs.declared.opening.OpenFault.TheVariants.{Damage, Disk}
use Rattle.mw_file.specs.declared.tenant_file.TenantFile.{TenantFile}
use Rattle.mw_opening.specs.declared.file_fault.FileFault.{FileFault}
use Rattle.mw_opening.specs.declared.file_fault.FileFault.TheVariants.{Memory}

-- The file has as many words as the line says, and at least as many places as its quota.
abbrev pub HasSizes : {D : Type 0} → TenantLine → TenantFile D × Vec ℕ Global → Type 0
HasSizes line opened = (length opened.1.items ≡ line.words) × (line.quota ≤ length (states_of opened.0))

module _ {D : Type 0} (facts : D → Facts) (makes : DeviceCall → Bool → D → D → Type 0) where
  -- This disk was synced, and the sync went well. Then an opening of the disk ended so: it gave a file with its words, or it
  -- failed. An honest disk had the same bytes before the sync and after it, and a crash before the opening would leave just these.
  pub record OpensAfterSync (disk : D) (end : Result (TenantFile D × Vec ℕ Global) (OpenFault × D)) : Type 0 where
    -- the disk between the sync and the opening
    pub synced : D
    pub sync : makes Sync true disk synced
    pub called : Called (facts disk) (facts synced) true
    pub same : IsTrue (facts disk).honest → (facts synced).reads ≡ (facts disk).reads
    pub rest : IsTrue (facts synced).honest → IsSynced (facts synced)
    pub opens : Opens facts synced end
    -- just the device calls were made that the bytes ask for
    pub by : OpensBy facts makes synced end

  -- Why a tenant with this line has no file, although this disk was given.
  pub data GivesNoFile (line : TenantLine) (disk : D) : Type 0 where
    -- the sync failed
    SyncFailed : (after : D) → makes Sync false disk after → Called (facts disk) (facts after) false → GivesNoFile line disk
    -- the sync went well, and a device call of the opening failed
    OpeningFailed : (after : D) → OpensAfterSync disk (Err (Disk, after)) → GivesNoFile line disk
    -- the sync went well, and the opening found this damage
    DamageFound : (damage : DamageKind) (after : D) → OpensAfterSync disk (Err (Damage damage, after)) → GivesNoFile line disk
    -- the sync and the opening went well, and the file has other words than the line says, or fewer places
    SizesDiffer : (opened : TenantFile D × Vec ℕ Global) → OpensAfterSync disk (Ok opened) → ¬ HasSizes line opened → GivesNoFile line disk

module _ {D : Type 0} (facts : D → Facts) (makes : DeviceCall → Bool → D → D → Type 0) (is_over : List ℕ → D → Type 0)
    (is_refused : List ℕ → FileFault → Type 0) where
  -- Why a tenant with this line has no file. It is never that memory was refused: then the start ends.
  pub data HasNoFile (line : TenantLine) : Type 0 where
    -- no disk was given for the line's path, because of this fault
    DiskRefused : (fault : FileFault) → is_refused line.path.bytes fault → fault ≢ Memory → HasNoFile line
    -- a disk over the file at the line's path was given, and gave no file
    FileRefused : (disk : D) → is_over line.path.bytes disk → GivesNoFile facts makes line disk → HasNoFile line

  -- The tenant's file was opened so on a disk over the file at the path of the tenant's line. If there is no file, there is a cause.
  abbrev pub IsOfLine : TenantLine → Option (TenantFile D × Vec ℕ Global) → Type 0
  IsOfLine line None = HasNoFile line
  IsOfLine line (Some opened) = (disk : D) × is_over line.path.bytes disk × OpensAfterSync facts makes disk (Ok opened)

  -- each line has its file so, in the same order
  abbrev pub AreOfLines : List TenantLine → List (Option (TenantFile D × Vec ℕ Global)) → Type 0
  AreOfLines [] [] = Unit {0}
  AreOfLines [] (file ∷ files) = ⊥
  AreOfLines (line ∷ lines) [] = ⊥
  AreOfLines (line ∷ lines) (file ∷ files) = IsOfLine line file × AreOfLines lines files
