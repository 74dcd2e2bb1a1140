-- Defines what an engine keeps of each tenant's disk from the moment at which its parts were made, and when an open file is still on
-- that disk.
-- Used by: specs/Brand, specs/GuardedFile, specs/Parts, src/new_parts.rt, src/parts.rt, mw_programs, mw_law_threads. A change
-- here changes which disk an engine's lock may keep.
use Rattle.std.specs.Prelude.{◌≡◌, ◌≤◌, ℕ, Bool, true, List, map, is_some, slice_get, Option, Some, None, Vec, IsTrue}
use Rattle.std.specs.declared.alloc.Global.{Global}
use Rattle.mw_disk.specs.Facts.{Facts}
use Rattle.mw_record.specs.Damages.{file_words}
use Rattle.mw_file.specs.declared.tenant_file.TenantFile.{TenantFile}
use Rattle.mw_file.specs.File.{disk_of}
use Rattle.mw_book.specs.declared.book.Book.{Book}
use Rattle.mw_engine.specs.OpenedFiles.{book_file, held_read}

-- A disk at the start, the moment at which the engine's parts were made: whether it was honest, the number of that moment, and the
-- bytes that a read then gave.
pub record DiskAtStart : Type 0 where
  pub honest : Bool
  pub moment : ℕ
  pub reads : List ℕ

-- the disk that has these facts at the start
abbrev pub disk_told : Facts → DiskAtStart
disk_told f = record { honest = f.honest; moment = f.moment; reads = f.reads }

-- A disk with these facts has the past of that one. It is honest. A crash at the start would have left just the bytes that a read
-- then gave, and a crash at any moment since, a file without damage, of which P holds.
pub record HasPastOf (P : List ℕ → Type 0) (start : DiskAtStart) (now : Facts) : Type 0 where
  pub honest : IsTrue now.honest
  pub later : start.moment ≤ now.moment
  pub began : (image : List ℕ) → now.image start.moment image → image ≡ start.reads
  pub whole : (moment : ℕ) (image : List ℕ) → start.moment ≤ moment → moment ≤ now.moment → now.image moment image → is_some (file_words image) ≡ true
  pub left : (moment : ℕ) (image : List ℕ) → start.moment ≤ moment → moment ≤ now.moment → now.image moment image → ∥ P image ∥₁

module _ {D : Type 0} (facts : D → Facts) where
  -- the disk of an open file at the start, if there is a file
  abbrev pub disk_read : Option (TenantFile D) → Option DiskAtStart
  disk_read None = None
  disk_read (Some file) = Some (disk_told (facts (disk_of file)))

  -- the disks of the files that opened, by the tenant's number
  abbrev pub disks_read : List (Option (TenantFile D × Vec ℕ Global)) → List (Option DiskAtStart)
  disks_read files = map disk_read (map held_read files)

  -- the disks of the books' files, by the tenant's number
  abbrev pub disks_in : List (Book D) → List (Option DiskAtStart)
  disks_in books = map disk_read (map book_file books)

  -- If the tenant's file opened on an honest disk, the open file is on a disk with the past of that one, and P holds of what a crash may
  -- have left at any moment since.
  abbrev pub IsOnItsDisk : (List ℕ → Type 0) → List (Option DiskAtStart) → ℕ → Option (TenantFile D) → Type 0
  IsOnItsDisk P disks tenant held = (start : DiskAtStart) (file : TenantFile D) → slice_get disks tenant ≡ Some (Some start) → held ≡ Some file → IsTrue start.honest → HasPastOf P start (facts (disk_of file))
