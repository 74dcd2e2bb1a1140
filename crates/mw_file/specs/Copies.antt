-- Defines how a copy of a file's bytes ends, and that it leaves the file as it was.
-- Used by: mw_book, opening.rt, tenant_file.rt. A change here changes what a backup of a served file is.
use Rattle.std.specs.Prelude.{◌≡◌, ℕ, false, List, length, Vec, Result, Ok, Err, IsTrue}
use Rattle.std.specs.declared.alloc.Global.{Global}
use Rattle.mw_disk.specs.Facts.{Facts}
use Rattle.mw_disk.specs.Runs.{Good, Bad, Later, Touched}
use Rattle.mw_record.specs.Records.{Pairs}
use Rattle.mw_file.specs.declared.tenant_file.TenantFile.{TenantFile}
use Rattle.mw_file.specs.declared.tenant_file.CopyFault.{CopyFault}
use Rattle.mw_file.specs.declared.tenant_file.CopyFault.TheVariants.{Failed, Disk, Memory}
use Rattle.mw_file.specs.File.{disk_of, at_of, words_of, states_of, has_failed, HadFailed}
use Rattle.mw_file.specs.OpeningEnds.{front, read_calls}
use Rattle.mw_file.specs.RecoveryInvariant.{IsFile, RecoversTo}
use Rattle.mw_file.specs.RollForward.{Nowhere}

-- The bytes that can belong to a file were read: all device calls went well.
pub record WasReadWhole (old new : Facts) (bytes : List ℕ) : Type 0 where
  pub made : Good (read_calls bytes) old new
  pub bytes_are : IsTrue old.honest → bytes ≡ front old

-- How the reading of these bytes ended, by its answer. Disk: the length or the read failed. Memory: the length was asked, and no more.
abbrev pub FrontEnds : Facts → Facts → Result (Vec ℕ Global) CopyFault → Type 0
FrontEnds old new (Ok bytes) = WasReadWhole old new bytes.items
FrontEnds old new (Err Failed) = ⊥
FrontEnds old new (Err Disk) = Bad 2 old new
FrontEnds old new (Err Memory) = Good 1 old new

module _ {D : Type 0} (facts : D → Facts) where
  -- The file was at most read. It has the same words and places, and has failed if it had before. If its disk is honest, a read gives
  -- what it gave before, and a crash at any moment since leaves nothing that it would not have left before.
  pub record IsOnlyRead (old new : TenantFile D) : Type 0 where
    pub at : at_of new ≡ at_of old
    pub words : words_of new ≡ words_of old
    pub states : states_of new ≡ states_of old
    pub failed : has_failed new ≡ has_failed old
    pub later : Later (facts (disk_of old)) (facts (disk_of new))
    pub touched : IsTrue (facts (disk_of old)).honest → Touched Nowhere (facts (disk_of old)) (facts (disk_of new))

  -- These bytes are a file of just the words to which this one recovers, and of as many places.
  abbrev pub IsBackup : TenantFile D → List ℕ → Type 0
  IsBackup file bytes = (contents : List ℕ) (doubt : Pairs) → RecoversTo facts file contents doubt → IsFile (length (states_of file)) contents bytes

  -- The file, which had not failed, was copied. On an honest disk the copy has all bytes that can belong to a file, and is a backup
  -- of this one.
  pub record WasCopied (old new : TenantFile D) (bytes : List ℕ) : Type 0 where
    pub sound : has_failed old ≡ false
    pub front_read : WasReadWhole (facts (disk_of old)) (facts (disk_of new)) bytes
    pub backup : IsTrue (facts (disk_of old)).honest → IsBackup old bytes

  -- The device failed: at the length, or at the read after it.
  pub record WasUnread (old new : TenantFile D) : Type 0 where
    pub sound : has_failed old ≡ false
    pub made : Bad 2 (facts (disk_of old)) (facts (disk_of new))

  -- Memory was out after the length was asked.
  pub record HadNoMemory (old new : TenantFile D) : Type 0 where
    pub sound : has_failed old ≡ false
    pub made : Good 1 (facts (disk_of old)) (facts (disk_of new))

  -- how a copy ended, by its answer
  abbrev pub CopyEnds : TenantFile D → TenantFile D → Result (Vec ℕ Global) CopyFault → Type 0
  CopyEnds old new (Ok bytes) = WasCopied old new bytes.items
  CopyEnds old new (Err Failed) = HadFailed facts old new
  CopyEnds old new (Err Disk) = WasUnread old new
  CopyEnds old new (Err Memory) = HadNoMemory old new
