-- If a book represents a file, the open file in the book has the same places and the same fault. On an honest disk it
-- recovers to the same words.
-- Used by: mw_core, mw_law_threads.
use Rattle.std.proofs.Common.{◌≡◌, ℕ, ◌<◌, ◌≤◌, Bool, true, false, List, [], length, Option, Some, None, IsTrue, refl, sym, ap, subst, ◌∙◌, inl, inr, arith}
use Rattle.std.proofs.lemmas.Bool.{cases_lt}
use Rattle.std.proofs.lemmas.List.{length-map}
use Rattle.mw_words.specs.declared.limits.TheConstants.{MAX_POOL}
use Rattle.mw_words.specs.declared.jobs.Entry.{Entry}
use Rattle.mw_disk.specs.Facts.{Facts}
use Rattle.mw_disk.specs.Runs.{LeavesOnly}
use Rattle.mw_disk.proofs.RunLaws.{leaves_same, leaves_wider}
use Rattle.mw_record.specs.Layout.{pairs_of}
use Rattle.mw_file.specs.declared.tenant_file.TenantFile.{TenantFile}
use Rattle.mw_file.specs.File.{disk_of, words_of, states_of, has_failed}
use Rattle.mw_file.specs.RecoveryInvariant.{RecoversTo, IsBeforeOrAfter}
use Rattle.mw_file.specs.PlaceStates.{is_free_stage, stage_of}
use Rattle.mw_world.specs.Files.Crashes.{IsFileOfEither}
use Rattle.mw_world.specs.Files.Stages.{stage_told}
use Rattle.mw_world.specs.Files.State.{File, Place, Empty, Prepared, Sealed, is_empty, entries_at}
use Rattle.mw_world.proofs.EitherFile.{of_either}
use Rattle.mw_book.specs.declared.book.Book.{Book}
use Rattle.mw_book.specs.declared.place_table.PlaceTable.{PlaceTable}
use Rattle.mw_book.specs.Crashes.{LeavesEither}
use Rattle.mw_book.specs.OpenFile.{states_in, words_in, places_in, has_failed_in, disk_in, FileRecoversTo, OnDisk}
use Rattle.mw_book.specs.Representation.{ArePlaced, PartsRepresent, Represents, HasParts, is_prepared_ahead, is_settled, place_at, stage_in_file, writes_in_file}
use Rattle.mw_book.proofs.PlacesAhead.{held_plain, plain_busy}

-- if its parts represent a file, the book does
pub shows_parts : {D : Type 0} (facts : D → Facts) (book : Book D) (held : Option (TenantFile D)) (words places : ℕ) (place_of : List ℕ) (table : PlaceTable) (failed : Bool) (file : File)
    → HasParts book held words places place_of table failed → PartsRepresent facts held words places place_of table failed file → Represents facts book file
shows_parts facts book held words places place_of table failed file parts tells =
    subst (λ h. PartsRepresent facts h book.words book.places book.place_of book.table book.has_failed file) (sym parts.is_held)
    (subst (λ n. PartsRepresent facts held n book.places book.place_of book.table book.has_failed file) (sym parts.is_words)
    (subst (λ n. PartsRepresent facts held words n book.place_of book.table book.has_failed file) (sym parts.is_places)
    (subst (λ ns. PartsRepresent facts held words places ns book.table book.has_failed file) (sym parts.is_place_of)
    (subst (λ t. PartsRepresent facts held words places place_of t book.has_failed file) (sym parts.is_table)
    (subst (λ b. PartsRepresent facts held words places place_of table b file) (sym parts.is_failed) tells)))))

module _ {D : Type 0} (facts : D → Facts) (P : Facts → Facts → Type 0) where
  -- a fact of the disks of two files is a fact of the disks that two books hold
  pub on_disk : (old new : Option (TenantFile D)) (held now : TenantFile D) → old ≡ Some held → new ≡ Some now → P (facts (disk_of held)) (facts (disk_of now)) → OnDisk facts P (disk_in old) (disk_in new)
  on_disk old new held now is_old is_new so =
      subst (λ h. OnDisk facts P (disk_in h) (disk_in new)) (sym is_old) (subst (λ h. OnDisk facts P (Some (disk_of held)) (disk_in h)) (sym is_new) so)

  -- a fact of every disk and itself is a fact of the disk that a book holds
  pub on_same : (held : Option (TenantFile D)) → ((f : Facts) → P f f) → OnDisk facts P (disk_in held) (disk_in held)
  on_same None so = tt
  on_same (Some file) so = so (facts (disk_of file))

-- what a crash leaves of an open file, by the entries of the change
pub leaves_either : (old new : Facts) (places : ℕ) (words : List ℕ) (change : List Entry) → LeavesOnly old new (IsBeforeOrAfter places words (pairs_of change)) → LeavesOnly old new (IsFileOfEither words change)
leaves_either old new places words change leaves = leaves_wider old new (of_either places words change) leaves

-- a call that touched nothing
pub untouched : {D : Type 0} (facts : D → Facts) (held : Option (TenantFile D)) (words : List ℕ) (doubt : List Entry) → FileRecoversTo facts held words (pairs_of doubt)
    → OnDisk facts (LeavesEither words doubt) (disk_in held) (disk_in held)
untouched facts None words doubt stands = tt
untouched facts (Some file) words doubt stands =
    λ honest. leaves_same (facts (disk_of file)) (λ image left. of_either (length (states_of file)) words doubt image ((stands honest).left image left))

busy_told : (p : Place) → is_free_stage (stage_told p) ≡ false → is_empty p ≡ false
busy_told Empty busy = absurd (let e : true ≡ false = busy in cc)
busy_told (Prepared entries) busy = refl
busy_told (Sealed entries) busy = refl

-- What a book says of the open file that it holds.
module _ {D : Type 0} (facts : D → Facts) (old : Book D) (held : TenantFile D) (is_old : old.held ≡ Some held) where
  pub there_held : old.places ≤ length (states_of held)
  there_held = let same = ap (places_in old.places) is_old in let le = old.room in omega (arith, same, le)

  pub words_held : words_of held ≡ old.words
  words_held = sym (ap (words_in old.words) is_old) ∙ old.same_words

  pub failed_as : has_failed held ≡ old.has_failed
  failed_as = sym (ap has_failed_in is_old) ∙ old.same_failed

  module _ (file : File) (shows : Represents facts old file) where
    pub placed_in : ArePlaced (states_of held) old.table old.places file.places
    placed_in = subst (λ h. ArePlaced (states_in h) old.table old.places file.places) is_old shows.same_places

    pub keeps_in : IsTrue (facts (disk_of held)).honest → RecoversTo facts held file.contents (pairs_of file.doubt)
    keeps_in = subst (λ h. FileRecoversTo facts h file.contents (pairs_of file.doubt)) is_old shows.stands

    -- a file that hasn't failed has no change in doubt
    pub certain : old.has_failed ≡ false → IsTrue (facts (disk_of held)).honest → pairs_of file.doubt ≡ []
    certain sound honest = (keeps_in honest).certain (failed_as ∙ sound)

    -- The place of a slot's change, if the slot has one that its own slot prepared.
    module _ (slot : ℕ) (within : slot < MAX_POOL) (busy : is_free_stage (stage_in_file (states_of held) old.table (place_at old slot)) ≡ false) where
      pub same_place : file.place_of slot ≡ place_at old slot
      same_place = shows.same_place_of slot within

      pub place_within : place_at old slot < old.places
      place_within = elim (cases_lt (place_at old slot) old.places) [
        | inl lt ↦ lt
        | inr past ↦ absurd (let e : true ≡ false = sym (ap is_free_stage (ap (stage_of (states_of held)) (old.permuted.past (place_at old slot) past) ∙ placed_in.further (place_at old slot) past)) ∙ busy in cc)
      ]

      -- the change of a place that is not free in the file is not settled ahead
      pub plain_at : is_settled old.table (place_at old slot) ≡ false
      plain_at = plain_busy (states_of held) old.table old.places file.places placed_in (place_at old slot) busy

      module _ (own : is_prepared_ahead old.table (place_at old slot) ≡ false) where
        pub stage_as : stage_in_file (states_of held) old.table (place_at old slot) ≡ stage_told (file.places (place_at old slot))
        stage_as =
            placed_in.stages (place_at old slot) place_within
            ∙ held_plain (is_settled old.table (place_at old slot)) (is_prepared_ahead old.table (place_at old slot)) (file.places (place_at old slot)) plain_at own

        -- the writes of the place
        pub writes_as : writes_in_file (states_of held) old.table (place_at old slot) ≡ pairs_of (entries_at file (place_at old slot))
        writes_as = placed_in.writes (place_at old slot) place_within (busy_told (file.places (place_at old slot)) (sym (ap is_free_stage stage_as) ∙ busy))

        pub writes_called : writes_in_file (states_of held) old.table (place_at old slot) ≡ pairs_of (entries_at file (file.place_of slot))
        writes_called = writes_as ∙ ap (λ n. pairs_of (entries_at file n)) (sym same_place)

        pub as_many : length (writes_in_file (states_of held) old.table (place_at old slot)) ≡ length (entries_at file (file.place_of slot))
        as_many = ap length writes_called ∙ length-map (entries_at file (file.place_of slot)) (λ e. (e.addr, e.new))
