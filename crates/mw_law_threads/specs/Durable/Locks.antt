-- Defines what the lock of a tenant's file says of each crash since the start: it left the words of the start with whole changes put over
-- them.
-- Used by: locks_leave_whole_changes (src/durable_laws.rt).
use Rattle.std.specs.Prelude.{ℕ, ◌≡◌, ◌⊎◌, ◌≤◌, List, [], slice_get, Option, Some, None, IsTrue}
use Rattle.mw_words.specs.declared.jobs.Entry.{Entry}
use Rattle.mw_words.specs.Change.{put}
use Rattle.mw_disk.specs.Facts.{Facts}
use Rattle.mw_record.specs.Damages.{file_words}
use Rattle.mw_file.specs.declared.tenant_file.TenantFile.{TenantFile}
use Rattle.mw_file.specs.File.{disk_of}
use Rattle.mw_world.specs.declared.config.Config.{Config}
use Rattle.mw_world.specs.Definition.State.{TenantStart}
use Rattle.mw_rule.specs.FromLaws.{SealedChange, put_sealed}
use Rattle.mw_rule.specs.KnownRuns.{ExtendsKnownRun, KnownRun, known_run_of}
use Rattle.mw_rule.specs.Prefixes.{opening_at}
use Rattle.mw_book.specs.declared.book.Book.{Book}
use Rattle.mw_core.specs.FromTable.{FilePass}
use Rattle.mw_engine.specs.Brand.{Identity}
use Rattle.mw_engine.specs.DisksAtStart.{DiskAtStart}
use Rattle.mw_engine.specs.GuardedFile.{IsKept}
use Rattle.mw_law_threads.specs.Durable.Durable.{AreSealedIn}

-- These bytes are a file of the words that the start gave the tenant, with these sealed changes put over them, or of these with one more
-- put over them. The changes are those that were sealed in a beginning of the known run. So they are the first of all that it sealed. The
-- one more is just what one request asked for, or empty.
pub record HasChangesOfRun (config : Config) (given : List TenantStart) (known : Option KnownRun) (tenant : ℕ) (image : List ℕ) : Type 0 where
  pub sealed : List SealedChange
  pub more : List Entry
  pub are : AreSealedIn config given None [] tenant more sealed
  pub began : ExtendsKnownRun (Some (known_run_of config are.openings are.before are.events)) known
  pub words_are : (file_words image ≡ Some (put_sealed (opening_at given tenant).words sealed)) ⊎ (file_words image ≡ Some (put (put_sealed (opening_at given tenant).words sealed) more))

-- The lock of a tenant's file keeps this book and this file pass, and its file opened on an honest disk. A crash at any moment since the
-- start left the words of the start, or these with changes of the run that the file pass knows.
abbrev pub LocksLeaveWholeChanges : {D : Type 0} → (D → Facts) → Type 0
LocksLeaveWholeChanges {D} facts = (identity : Identity) (book : Book D) (file_pass : FilePass) → IsKept facts identity book file_pass
    → (start : DiskAtStart) (file : TenantFile D) → slice_get identity.disks file_pass.tenant ≡ Some (Some start) → book.held ≡ Some file → IsTrue start.honest
    → (moment : ℕ) (image : List ℕ) → start.moment ≤ moment → moment ≤ (facts (disk_of file)).moment → (facts (disk_of file)).image moment image
    → ∥ (file_words image ≡ Some (opening_at identity.openings file_pass.tenant).words) ⊎ HasChangesOfRun identity.config identity.openings file_pass.seat.me.0.known_run file_pass.tenant image ∥₁
