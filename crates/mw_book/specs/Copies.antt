-- Defines how a copy of the bytes of a book's file ends, and that it leaves the book as it was.
-- Used by: mw_engine, book.rt. A change here changes what a backup of a served file is.
use Rattle.std.specs.Prelude.{◌≡◌, ℕ, true, false, List, length, Option, Some, None, Vec, Result, Ok, Err, IsTrue}
use Rattle.std.specs.declared.alloc.Global.{Global}
use Rattle.mw_disk.specs.Facts.{Facts}
use Rattle.mw_disk.specs.Runs.{Good, Bad}
use Rattle.mw_file.specs.declared.tenant_file.CopyFault.{CopyFault}
use Rattle.mw_file.specs.declared.tenant_file.CopyFault.TheVariants.{Failed, Disk, Memory}
use Rattle.mw_file.specs.declared.tenant_file.TenantFile.{TenantFile}
use Rattle.mw_file.specs.Copies.{IsOnlyRead as FileIsOnlyRead}
use Rattle.mw_file.specs.File.{disk_of, states_of}
use Rattle.mw_file.specs.OpeningEnds.{read_calls}
use Rattle.mw_file.specs.RecoveryInvariant.{IsFile}
use Rattle.mw_world.specs.Files.State.{File}
use Rattle.mw_book.specs.declared.book.Book.{Book}
use Rattle.mw_book.specs.OpenFile.{disk_in, OnDisk}
use Rattle.mw_book.specs.Representation.{Represents}

module _ {D : Type 0} (facts : D → Facts) where
  -- The open file was at most read. Or there was none, and there is none.
  abbrev pub HeldIsOnlyRead : Option (TenantFile D) → Option (TenantFile D) → Type 0
  HeldIsOnlyRead None None = Unit {0}
  HeldIsOnlyRead (Some old) (Some new) = FileIsOnlyRead facts old new
  HeldIsOnlyRead None (Some new) = ⊥
  HeldIsOnlyRead (Some old) None = ⊥

  -- The book's file was at most read, and all else that the book tells of it is as it was.
  pub record IsOnlyRead (old new : Book D) : Type 0 where
    pub held : HeldIsOnlyRead old.held new.held
    pub words : new.words ≡ old.words
    pub places : new.places ≡ old.places
    pub place_of : new.place_of ≡ old.place_of
    pub table : new.table ≡ old.table
    pub failed : new.has_failed ≡ old.has_failed

  -- The book holds an open file. If its disk is honest, these bytes are a file of just the words of each file that the book
  -- represents, and of as many places as the open file has.
  pub record IsBackup (book : Book D) (bytes : List ℕ) : Type 0 where
    pub open_file : TenantFile D
    pub held : book.held ≡ Some open_file
    pub words_are : IsTrue (facts (disk_of open_file)).honest → (file : File) → Represents facts book file → IsFile (length (states_of open_file)) file.contents bytes

  -- The file, which had not failed, was copied: all device calls went well.
  pub record WasCopied (old new : Book D) (bytes : List ℕ) : Type 0 where
    pub sound : old.has_failed ≡ false
    pub made : OnDisk facts (Good (read_calls bytes)) (disk_in old.held) (disk_in new.held)
    pub backup : IsBackup old bytes

  -- The file, which had not failed, was not copied. This is so of the device calls that were made.
  pub record WasNotCopied (made : Facts → Facts → Type 0) (old new : Book D) : Type 0 where
    pub sound : old.has_failed ≡ false
    pub calls : OnDisk facts made (disk_in old.held) (disk_in new.held)

  -- The file had failed before, or didn't open, and the call did nothing.
  pub record HadFailed (old new : Book D) : Type 0 where
    pub before : old.has_failed ≡ true
    pub same : new ≡ old

  -- How a copy ended, by its answer. Disk: the length or the read after it failed. Memory: the length was asked, and no more.
  abbrev pub CopyEnds : Book D → Book D → Result (Vec ℕ Global) CopyFault → Type 0
  CopyEnds old new (Ok bytes) = WasCopied old new bytes.items
  CopyEnds old new (Err Failed) = HadFailed old new
  CopyEnds old new (Err Disk) = WasNotCopied (Bad 2) old new
  CopyEnds old new (Err Memory) = WasNotCopied (Good 1) old new
