-- Defines what a copy of a tenant's file is, as an engine makes it while it serves.
-- Used by: src/copies.rt, src/file_lock.rt, mw_programs. A change here changes what a backup of a served file is.
use Rattle.std.specs.Prelude.{◌≡◌, ℕ, List, length, Some, Vec, Result, Ok, IsTrue}
use Rattle.std.specs.declared.alloc.Global.{Global}
use Rattle.mw_disk.specs.Facts.{Facts}
use Rattle.mw_file.specs.declared.tenant_file.CopyFault.{CopyFault}
use Rattle.mw_file.specs.declared.tenant_file.TenantFile.{TenantFile}
use Rattle.mw_file.specs.File.{disk_of, states_of}
use Rattle.mw_file.specs.RecoveryInvariant.{IsFile}
use Rattle.mw_book.specs.declared.book.Book.{Book}
use Rattle.mw_book.specs.Copies.{CopyEnds, IsOnlyRead}
use Rattle.mw_core.specs.FromTable.{FilePass, file_kept, file_told}
use Rattle.mw_engine.specs.Brand.{Identity}
use Rattle.mw_engine.specs.GuardedFile.{IsKept}

module _ {D : Type 0} (facts : D → Facts) where
  -- These bytes are a backup of the file in this book. If its disk is honest they are a file of just the words that the file pass
  -- tells, and of as many places as the open file has.
  pub record IsBackupAsTold (book : Book D) (file_pass : FilePass) (bytes : List ℕ) : Type 0 where
    pub open_file : TenantFile D
    pub held : book.held ≡ Some open_file
    pub words_are : IsTrue (facts (disk_of open_file)).honest → IsFile (length (states_of open_file)) (file_told (file_kept file_pass)).contents bytes

  module _ (identity : Identity) where
    -- One copy was made, or tried, of the file of this tenant, under its lock. The book was kept with the tenant's file pass, and still
    -- is: with the same one, and it was at most read. How the copy ended is as its answer says. If bytes are given, they are a backup.
    pub record CopiesOne (tenant : ℕ) (result : Result (Vec ℕ Global) CopyFault) : Type 0 where
      pub before : Book D
      pub after : Book D
      pub file_pass : FilePass
      pub its : file_pass.tenant ≡ tenant
      pub kept_before : IsKept facts identity before file_pass
      pub kept_after : IsKept facts identity after file_pass
      pub read : IsOnlyRead facts before after
      pub ends : CopyEnds facts before after result
      pub backup : (bytes : Vec ℕ Global) → result ≡ Ok bytes → IsBackupAsTold before file_pass bytes.items
