-- The book that a lock keeps is kept after its file was only read, and the bytes that were read are a backup of it.
-- Used by: GuardedFile::copy_of.
use Rattle.std.specs.Prelude.{◌≡◌, ℕ, true, is_some, Option, Some, None, Vec, Result, Ok}
use Rattle.std.specs.declared.alloc.Global.{Global}
use Rattle.std.proofs.Common.{refl, subst, ◌∙◌, inr}
use Rattle.std.proofs.Math.Logic.{∥∥₁_map}
use Rattle.mw_disk.specs.Facts.{Facts}
use Rattle.mw_file.specs.declared.tenant_file.CopyFault.{CopyFault}
use Rattle.mw_world.specs.Files.State.{File}
use Rattle.mw_book.specs.declared.book.Book.{Book}
use Rattle.mw_book.specs.Copies.{CopyEnds, IsOnlyRead}
use Rattle.mw_book.specs.Representation.{Represents}
use Rattle.mw_book.proofs.CopiedFiles.{still_there}
use Rattle.mw_core.specs.FromTable.{FilePass, FileToken, file_kept, file_told, opening_at}
use Rattle.mw_core.specs.Books.{Agrees}
use Rattle.mw_engine.specs.Brand.{Identity}
use Rattle.mw_engine.specs.CallsSinceStart.{IsLeftInRun}
use Rattle.mw_engine.specs.Copies.{CopiesOne, IsBackupAsTold}
use Rattle.mw_engine.specs.GuardedFile.{AgreesOnce, IsKept, KeepsFor}
use Rattle.mw_engine.proofs.AgreementForms.{agrees_of, agrees_once}
use Rattle.mw_engine.proofs.DisksOfFiles.{copied_on_disk}
use Rattle.mw_engine.proofs.UsesOfFiles.{extends_self, used_again}

-- the file pass that a lock has
some_of : (file_pass : Option FilePass) → is_some file_pass ≡ true → (one : FilePass) × (file_pass ≡ Some one)
some_of None there = absurd (cc)
some_of (Some one) there = (one, refl)

module _ {D : Type 0} (facts : D → Facts) where
  -- a book that was only read agrees with the file token with which it agreed
  still_agrees : (old new : Book D) (token : FileToken) (places slots : ℕ) → IsOnlyRead facts old new
      → ((file : File) → Represents facts old file → Represents facts new file) → AgreesOnce facts old token places slots → AgreesOnce facts new token places slots
  still_agrees old new token places slots read represents was =
      let before : Agrees facts old token places slots = agrees_of facts old token places slots was in
      agrees_once facts new token places slots (record {
        shows = represents (file_told token) before.shows;
        as_many = read.places ∙ before.as_many;
        long = before.long;
        of_slots = before.of_slots;
      })

  -- the bytes of a copy that went well are a backup
  backup_told : (old new : Book D) (file_pass : FilePass) (result : Result (Vec ℕ Global) CopyFault) → CopyEnds facts old new result → Represents facts old (file_told (file_kept file_pass))
      → (bytes : Vec ℕ Global) → result ≡ Ok bytes → IsBackupAsTold facts old file_pass bytes.items
  backup_told old new file_pass result ends shows bytes is =
      let copied = subst (λ (r : Result (Vec ℕ Global) CopyFault). CopyEnds facts old new r) is ends in
      record {
        open_file = copied.backup.open_file;
        held = copied.backup.held;
        words_are = λ honest. copied.backup.words_are honest (file_told (file_kept file_pass)) shows;
      }

  module _ (identity : Identity) where
    still_kept : (old new : Book D) (file_pass : FilePass) (result : Result (Vec ℕ Global) CopyFault) → IsOnlyRead facts old new → ((file : File) → Represents facts old file → Represents facts new file)
        → CopyEnds facts old new result → IsKept facts identity old file_pass → IsKept facts identity new file_pass
    still_kept old new file_pass result read represents ends kept = record {
      own = kept.own;
      config = kept.config;
      openings = kept.openings;
      opened = still_there facts old new read ∙ kept.opened;
      its_disk = copied_on_disk facts identity.disks file_pass.tenant (IsLeftInRun facts identity file_pass.seat.me.0 file_pass.tenant) old.held new.held read.held kept.its_disk;
      its_uses = ∥∥₁_map kept.its_uses (λ was. used_again facts identity file_pass.seat.me.0 file_pass.seat.me.0 file_pass.tenant (extends_self file_pass.seat.me.0.known_run) old (file_kept file_pass) new (file_kept file_pass) was
          (inr (record { result = result; read = read; ends = ends }, refl)));
      agrees = still_agrees old new (file_kept file_pass) (opening_at identity.openings file_pass.tenant).quota identity.config.pool read represents kept.agrees;
    }

    -- the lock keeps the same file pass with it
    pub still_keeps : (old new : Book D) (file_pass : Option FilePass) (tenant : ℕ) (result : Result (Vec ℕ Global) CopyFault) → IsOnlyRead facts old new
        → ((file : File) → Represents facts old file → Represents facts new file) → CopyEnds facts old new result → KeepsFor facts identity old file_pass tenant → KeepsFor facts identity new file_pass tenant
    still_keeps old new file_pass tenant result read represents ends keeps = record {
      there = keeps.there;
      kept = λ one is. still_kept old new one result read represents ends (keeps.kept one is);
      its = keeps.its;
    }

    -- what a copy under the lock is
    pub copies_one : (old new : Book D) (file_pass : Option FilePass) (tenant : ℕ) (result : Result (Vec ℕ Global) CopyFault) → IsOnlyRead facts old new
        → ((file : File) → Represents facts old file → Represents facts new file) → CopyEnds facts old new result → (kept_for : ℕ) → kept_for ≡ tenant → KeepsFor facts identity old file_pass kept_for → CopiesOne facts identity tenant result
    copies_one old new file_pass tenant result read represents ends kept_for same keeps =
        let there = some_of file_pass keeps.there in
        let one : FilePass = there.0 in
        let kept : IsKept facts identity old one = keeps.kept one there.1 in
        record {
          before = old;
          after = new;
          file_pass = one;
          its = keeps.its one there.1 ∙ same;
          kept_before = kept;
          kept_after = still_kept old new one result read represents ends kept;
          read = read;
          ends = ends;
          backup = backup_told old new one result ends
              (agrees_of facts old (file_kept one) (opening_at identity.openings one.tenant).quota identity.config.pool kept.agrees).shows;
        }
