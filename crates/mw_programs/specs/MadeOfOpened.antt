-- Defines that an engine's parts are made of just the files that were opened, each of its own tenant's line.
-- Used by: src/opened_parts.rt. A change here changes which files a server may serve. docs/PROMISES cites
-- `AreMadeOfOpened`.
use Rattle.std.specs.Prelude.{◌≡◌, ℕ, Bool, List, map, Option, is_some, Result, Ok, Err, IfOk, Vec}
use Rattle.std.specs.declared.alloc.AllocError.{AllocError}
use Rattle.std.specs.declared.alloc.Global.{Global}
use Rattle.mw_config.specs.declared.lines.TenantLine.{TenantLine}
use Rattle.mw_disk.specs.Facts.{Facts}
use Rattle.mw_disk.specs.declared.device.Disk.{Ghosts}
use Rattle.mw_file.specs.declared.tenant_file.TenantFile.{TenantFile}
use Rattle.mw_engine.specs.declared.Pass.{Pass}
use Rattle.mw_engine.specs.declared.parts.EngineParts.{EngineParts}
use Rattle.mw_engine.specs.DisksAtStart.{disks_read}
use Rattle.mw_engine.specs.OpenedFiles.{book_file, held_read, line_read, openings_read}
use Rattle.mw_engine.specs.Parts.{identity_of}
use Rattle.mw_opening.specs.FromBelow.{DeviceCall}
use Rattle.mw_opening.specs.SyncedOpenings.{AreOfLines}
use Rattle.mw_opening.specs.declared.file_fault.FileFault.{FileFault}
use Rattle.mw_programs.specs.declared.opened_parts.OpenedParts.{OpenedParts}

module _ {D H : Type 0} {device : Ghosts D} where
  -- if the parts were made, with their passes, this is true of them
  abbrev pub IfMade : Result (OpenedParts D H device) AllocError → (EngineParts D H device × Vec Pass Global → Type 0) → Type 0
  IfMade (Ok parts) holds = IfOk parts.made holds
  IfMade (Err fault) holds = Unit {0}

  -- There are files, each opened of its own tenant's line; a tenant without one has a cause. It is told right which of them are
  -- there. If the parts were made, their engine has the tenants of these lines. It starts with the words and places of these files, and
  -- its disks at the start are theirs. The parts' books hold these files and no others.
  pub record AreMadeOfOpened (facts : D → Facts) (makes : DeviceCall → Bool → D → D → Type 0) (is_over : List ℕ → D → Type 0)
      (is_refused : List ℕ → FileFault → Type 0) (lines : List TenantLine) (are_open : List Bool) (made : Result (EngineParts D H device × Vec Pass Global) AllocError) : Type 0 where
    pub files : List (Option (TenantFile D × Vec ℕ Global))
    pub opened : AreOfLines facts makes is_over is_refused lines files
    pub told : are_open ≡ map (λ file. is_some file) files
    pub named : IfOk made (λ both. (identity_of both.0).lines ≡ map line_read lines)
    pub start : IfOk made (λ both. (identity_of both.0).openings ≡ openings_read lines files)
    pub held : IfOk made (λ both. map book_file both.0.books.items ≡ map held_read files)
    pub disks : IfOk made (λ both. (identity_of both.0).disks ≡ disks_read facts files)
