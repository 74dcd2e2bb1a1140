-- Defines which disks an engine gives back when it ends, and which words are on them. Used by: src/end.rt.
use Rattle.std.specs.Prelude.{◌≡◌, ℕ, false, List, length, slice_get, Option, Some, None, IsTrue}
use Rattle.mw_disk.specs.Facts.{Facts}
use Rattle.mw_record.specs.Layout.{pairs_of}
use Rattle.mw_file.specs.declared.tenant_file.TenantFile.{TenantFile}
use Rattle.mw_file.specs.File.{disk_of}
use Rattle.mw_file.specs.RecoveryInvariant.{RecoversTo}
use Rattle.mw_book.specs.declared.book.Book.{Book}
use Rattle.mw_core.specs.FromTable.{ExtendsView, FilePass, IsSoOfWorld, SeesFile, View, file_kept, opening_at, put_sealed, seen_at, words_given}
use Rattle.mw_engine.specs.Brand.{Identity}
use Rattle.mw_engine.specs.GuardedFile.{IsKept}

-- What a thread knows has only grown, and its finished requests stay.
pub record SeesMore (first last : View) : Type 0 where
  pub keeps : ExtendsView first last
  pub same_mine : last.mine ≡ first.mine

module _ {D : Type 0} (facts : D → Facts) (identity : Identity) where
  -- This is the disk of the book that was kept with this tenant's file pass. What the file pass tells of the file is so
  -- in a world of the engine, after some run that goes on from the one it knew. If the disk is honest, the file
  -- represents the words that it has in that world, with the change in doubt there.
  pub record IsGiven (tenant : ℕ) (disk : D) : Type 0 where
    pub book : Book D
    pub file_pass : FilePass
    pub file : TenantFile D
    pub kept : IsKept facts identity book file_pass
    pub its : file_pass.tenant ≡ tenant
    pub held : book.held ≡ Some file
    pub on : disk_of file ≡ disk
    pub so : IsSoOfWorld identity.config identity.openings file_pass.seat.me.0.known_run tenant (file_kept file_pass)
    pub stands : IsTrue (facts disk).honest → RecoversTo facts file (so.state.tenant_states tenant).file.contents (pairs_of (so.state.tenant_states tenant).file.doubt)

  -- This disk is given, and a thread saw all changes that were sealed in the file. `before` is what it knew just before, and `now` what
  -- it knew just after. If the disk is honest, the file represents the words that the latest start gave the tenant, with the changes
  -- put over them that the thread has seen in `now`, in order. The change in doubt may be there too.
  pub record IsGivenSeen (first last : View) (tenant : ℕ) (disk : D) : Type 0 where
    pub given : IsGiven tenant disk
    pub before : View
    pub now : View
    pub from : SeesMore first before
    pub sees : SeesFile given.file_pass before now
    pub until : SeesMore now last
    pub stands : IsTrue (facts disk).honest → RecoversTo facts given.file (put_sealed (words_given now tenant) (seen_at now.seen tenant)) (pairs_of (file_kept given.file_pass).doubt)

  -- What is given for a tenant: a disk as `IsGivenSeen` says, or none. None is given only if the tenant's file didn't open at the start.
  abbrev pub GivenSeenAs : View → View → ℕ → Option D → Type 0
  GivenSeenAs first last tenant None = (opening_at identity.openings tenant).is_up ≡ false
  GivenSeenAs first last tenant (Some disk) = IsGivenSeen first last tenant disk

  -- each of these is what is given for the tenant of its number
  abbrev pub EachIsGivenSeen : View → View → List (Option D) → Type 0
  EachIsGivenSeen first last disks = (tenant : ℕ) (found : Option D) → slice_get disks tenant ≡ Some found → GivenSeenAs first last tenant found

  -- What is given for all tenants: one entry for each, by number.
  pub record AreGivenSeen (first last : View) (disks : List (Option D)) : Type 0 where
    pub count : length disks ≡ length identity.lines
    pub each : EachIsGivenSeen first last disks
