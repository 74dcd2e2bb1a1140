-- A book whose file was only read represents the files that it represented, and the bytes that were read are a backup of
-- them.
-- Used by: Book::copy_bytes, mw_engine.
use Rattle.std.proofs.Common.{◌≡◌, ℕ, true, false, List, Option, Some, None, Vec, Result, Ok, Err, refl, sym, subst, ◌∙◌}
use Rattle.std.specs.declared.alloc.Global.{Global}
use Rattle.std.specs.Option.{is_some}
use Rattle.mw_disk.specs.Facts.{Facts}
use Rattle.mw_disk.specs.Runs.{Good, Bad}
use Rattle.mw_disk.proofs.RunLaws.{was_honest}
use Rattle.mw_record.specs.Layout.{pairs_of}
use Rattle.mw_file.specs.declared.tenant_file.CopyFault.{CopyFault}
use Rattle.mw_file.specs.declared.tenant_file.CopyFault.TheVariants.{Failed, Disk, Memory}
use Rattle.mw_file.specs.declared.place_states.PlaceState.{PlaceState}
use Rattle.mw_file.specs.declared.tenant_file.TenantFile.{TenantFile}
use Rattle.mw_file.specs.Copies.{CopyEnds as FileCopyEnds, IsOnlyRead as FileIsOnlyRead}
use Rattle.mw_file.specs.File.{disk_of}
use Rattle.mw_file.specs.OpeningEnds.{read_calls}
use Rattle.mw_file.proofs.OnlyRead.{not_read, only_read_safe}
use Rattle.mw_world.specs.Files.State.{File}
use Rattle.mw_book.specs.declared.book.Book.{Book}
use Rattle.mw_book.specs.Copies.{CopyEnds, HeldIsOnlyRead, IsOnlyRead}
use Rattle.mw_book.specs.Representation.{ArePlaced, HasParts, PartsRepresent, Represents}
use Rattle.mw_book.proofs.RepresentedFiles.{failed_as, keeps_in, on_disk, placed_in}

module _ {D : Type 0} (facts : D → Facts) where
  -- a file that was not touched was only read
  held_not_read : (held : Option (TenantFile D)) → HeldIsOnlyRead facts held held
  held_not_read None = tt
  held_not_read (Some file) = not_read facts file

  pub book_not_read : (book : Book D) → IsOnlyRead facts book book
  book_not_read book = record { held = held_not_read book.held; words = refl; places = refl; place_of = refl; table = refl; failed = refl }

  -- a file that was only read is still there
  held_still : (old new : Option (TenantFile D)) → HeldIsOnlyRead facts old new → is_some new ≡ is_some old
  held_still None None only = refl
  held_still (Some old) (Some new) only = refl
  held_still None (Some new) only = absurd only
  held_still (Some old) None only = absurd only

  pub still_there : (old new : Book D) → IsOnlyRead facts old new → is_some new.held ≡ is_some old.held
  still_there old new only = held_still old.held new.held only.held

  -- If an open file was read, the parts of the book that held it represent with it what they represented.
  pub still_represent : (old : Book D) (held now : TenantFile D) → old.held ≡ Some held → FileIsOnlyRead facts held now → (file : File) → Represents facts old file
      → PartsRepresent facts (Some now) old.words old.places old.place_of old.table old.has_failed file
  still_represent old held now is_old only file shows = record {
    same_words = shows.same_words;
    same_places = subst (λ (states : List PlaceState). ArePlaced states old.table old.places file.places) (sym only.states) (placed_in facts old held is_old file shows);
    same_place_of = shows.same_place_of;
    same_failed = shows.same_failed;
    stands = λ honest.
        let before = was_honest (facts (disk_of held)) (facts (disk_of now)) only.later honest in
        (only_read_safe facts held now only before file.contents (pairs_of file.doubt) (keeps_in facts old held is_old file shows before)).after;
  }

  -- Of a book whose open file was read.
  module _ (old new : Book D) (held now : TenantFile D) (is_old : old.held ≡ Some held) (parts : HasParts new (Some now) old.words old.places old.place_of old.table old.has_failed)
      (only : FileIsOnlyRead facts held now) where
    pub only_read : IsOnlyRead facts old new
    only_read = record {
      held = subst (λ (h : Option (TenantFile D)). HeldIsOnlyRead facts h new.held) (sym is_old) (subst (λ (h : Option (TenantFile D)). HeldIsOnlyRead facts (Some held) h) (sym parts.is_held) only);
      words = parts.is_words;
      places = parts.is_places;
      place_of = parts.is_place_of;
      table = parts.is_table;
      failed = parts.is_failed;
    }

    -- how the copy ended
    pub copy_ended : (r : Result (Vec ℕ Global) CopyFault) → old.has_failed ≡ false → FileCopyEnds facts held now r → CopyEnds facts old new r
    copy_ended (Ok bytes) sound ended = record {
      sound = sound;
      made = on_disk facts (Good (read_calls bytes.items)) old.held new.held held now is_old parts.is_held ended.front_read.made;
      backup = record {
        open_file = held;
        held = is_old;
        words_are = λ honest file shows. ended.backup honest file.contents (pairs_of file.doubt) (keeps_in facts old held is_old file shows honest);
      };
    }
    copy_ended (Err Failed) sound ended = absurd (let e : true ≡ false = sym ended.before ∙ (failed_as facts old held is_old ∙ sound) in cc)
    copy_ended (Err Disk) sound ended = record { sound = sound; calls = on_disk facts (Bad 2) old.held new.held held now is_old parts.is_held ended.made }
    copy_ended (Err Memory) sound ended = record { sound = sound; calls = on_disk facts (Good 1) old.held new.held held now is_old parts.is_held ended.made }
