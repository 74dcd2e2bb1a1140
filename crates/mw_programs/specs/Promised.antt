-- Defines what the clients of a server are promised: an engine answers them that was made of the files which a start opened.
-- Used by: src/scripts.rt, src/services.rt, src/serving.rt, mwserve. A change here changes what mwserve may serve its clients with.
use Rattle.std.specs.Prelude.{◌≡◌, ℕ, Bool, List, map, Option, String, Vec, string_bytes}
use Rattle.std.specs.declared.alloc.Global.{Global}
use Rattle.mw_config.specs.CommandLine.{AreAsked}
use Rattle.mw_config.specs.declared.command_line.Args.{Args}
use Rattle.mw_config.specs.declared.command_line.Mode.TheVariants.{Script}
use Rattle.mw_config.specs.declared.lines.TenantLine.{TenantLine}
use Rattle.mw_disk.specs.Facts.{Facts}
use Rattle.mw_file.specs.declared.tenant_file.TenantFile.{TenantFile}
use Rattle.mw_session.specs.Talk.{Call}
use Rattle.mw_engine.specs.Brand.{Identity}
use Rattle.mw_engine.specs.DisksAtStart.{disks_read}
use Rattle.mw_engine.specs.OpenedFiles.{line_read, openings_read}
use Rattle.mw_engine.specs.Parts.{world_read}
use Rattle.mw_engine.specs.Passes.{IsPassOf}
use Rattle.mw_opening.specs.FromBelow.{DeviceCall}
use Rattle.mw_opening.specs.SyncedOpenings.{AreOfLines}
use Rattle.mw_opening.specs.TenantsAtPath.{AreReadAt}
use Rattle.mw_opening.specs.declared.file_fault.FileFault.{FileFault}
use Rattle.mw_server.specs.WorkerCount.{worker_count}
use Rattle.mw_server_pages.specs.FromHttp as page
use Rattle.mw_server_pages.specs.Shown.{Gives}
use Rattle.mw_service.specs.EngineAnswers.{Answers, ByBorrower, ByWorker, Pass}
use Rattle.mw_programs.specs.Copies.{IsCopyOf}
use Rattle.mw_programs.specs.ScriptSession.{RunsScript}

-- One call of the pages was answered by an engine: by its figures, or by a copy of the file of the first tenant of that name.
abbrev pub ShowsOne : {D : Type 0} → (D → Facts) → Identity → Pass → page.Call → Pass → Type 0
ShowsOne facts identity old call new = (version : List ℕ) × Gives (Answers identity) (λ files name copy left. (left ≡ files) × IsCopyOf facts identity name copy) version old (tt {0}) call new (tt {0})

module _ {D : Type 0} (facts : D → Facts) (makes : DeviceCall → Bool → D → D → Type 0) (is_over : List ℕ → D → Type 0) (is_refused : List ℕ → FileFault → Type 0)
    (is_text : List ℕ → List ℕ → Type 0) where
  -- The engine of this identity has the tenants of these lines, and begins with the words and places of files that were opened, each of
  -- its own tenant's line. It has as many slots and workers as these arguments give (`worker_count`). Its disks at the start are those of these files.
  -- The lines are those of the text that was read at the path that the arguments name.
  pub record IsStartOf (args : Args) (identity : Identity) : Type 0 where
    pub lines : List TenantLine
    pub read : AreReadAt is_text (string_bytes args.tenants) args.pool lines
    pub files : List (Option (TenantFile D × Vec ℕ Global))
    pub opened : AreOfLines facts makes is_over is_refused lines files
    pub named : identity.lines ≡ map line_read lines
    pub configured : identity.config ≡ world_read args.pool (worker_count args) lines
    pub begins : identity.openings ≡ openings_read lines files
    pub disks : identity.disks ≡ disks_read facts files

  -- The same for the arguments that these words of a command line ask for.
  pub record IsOfStart (words : List (List ℕ)) (identity : Identity) : Type 0 where
    pub args : Args
    pub asked : AreAsked words args
    pub start : IsStartOf args identity

  -- The calls of the pages, in order, were answered with one pass of the engine of this identity, which begins with the files that a
  -- start for some words opened.
  pub record AreShown (identity : Identity) (calls : List page.Call) : Type 0 where
    pub words : List (List ℕ)
    pub start : IsOfStart words identity
    pub old : Pass
    pub new : Pass
    pub own : IsPassOf identity old
    pub answered : page.AreAnswered (ShowsOne facts identity) old new calls

  -- An engine that begins with the files which a start with these arguments opened ran the script at this path.
  pub record ServesScript {S : Type 0} (is_plain : List ℕ → S → Type 0) (remaining : S → Option (List ℕ)) (args : Args) (path : List ℕ) (printed now_printed : Option (List ℕ)) : Type 0 where
    pub identity : Identity
    pub start : IsStartOf args identity
    pub run : RunsScript is_plain remaining path printed now_printed identity

  -- The words of a command line ask for these arguments. If they have a script, a server ran it.
  pub record HasServed {S : Type 0} (is_plain : List ℕ → S → Type 0) (remaining : S → Option (List ℕ)) (words : List (List ℕ)) (printed now_printed : Option (List ℕ)) : Type 0 where
    pub args : Args
    pub asked : AreAsked words args
    pub script : (path : String Global) → args.mode ≡ Script path → ServesScript is_plain remaining args (string_bytes path) printed now_printed

-- What was promised of sessions and pages is kept if the engine of this identity answers, with passes of workers or with borrowed ones.
pub record Promises {D : Type 0} (facts : D → Facts) (identity : Identity) (kept : List Call → Type 0) (shown : List page.Call → Type 0) : Type 0 where
  pub workers : (calls : List Call) → ByWorker identity calls → kept calls
  pub borrowers : (calls : List Call) → ByBorrower identity calls → kept calls
  pub pages : (old new : Pass) (calls : List page.Call) → IsPassOf identity old → page.AreAnswered (ShowsOne facts identity) old new calls → shown calls

-- The same of each engine that begins with the files which a start for these words opened: what is promised of its own answers.
abbrev pub PromisesOfStart : {D : Type 0} → (D → Facts) → (DeviceCall → Bool → D → D → Type 0) → (List ℕ → D → Type 0) → (List ℕ → FileFault → Type 0)
    → (List ℕ → List ℕ → Type 0) → List (List ℕ) → (Identity → List Call → Type 0) → (Identity → List page.Call → Type 0) → Type 0
PromisesOfStart facts makes is_over is_refused is_text words kept_by shown_by = (identity : Identity) → IsOfStart facts makes is_over is_refused is_text words identity
    → Promises facts identity (kept_by identity) (shown_by identity)

-- The same of a start with these arguments.
abbrev pub PromisesOfArgs : {D : Type 0} → (D → Facts) → (DeviceCall → Bool → D → D → Type 0) → (List ℕ → D → Type 0) → (List ℕ → FileFault → Type 0)
    → (List ℕ → List ℕ → Type 0) → Args → (Identity → List Call → Type 0) → (Identity → List page.Call → Type 0) → Type 0
PromisesOfArgs facts makes is_over is_refused is_text args kept_by shown_by = (identity : Identity) → IsStartOf facts makes is_over is_refused is_text args identity
    → Promises facts identity (kept_by identity) (shown_by identity)
