-- If room was made for a record first, a prepare ends for the book before that as it ends for the book after it.
-- Used by: Book::prepare.
use Rattle.std.proofs.Common.{◌≡◌, ℕ, ◌+◌, ◌-◌, ◌||◌, not, false, List, [], length, refl, sym, ap, subst, ◌∙◌}
use Rattle.std.proofs.lemmas.Bool.{cond-true}
use Rattle.mw_words.specs.declared.jobs.Entry.{Entry}
use Rattle.mw_look.specs.declared.steps.Call.TheVariants.{Prepare as PrepareCall}
use Rattle.mw_disk.specs.Facts.{Facts}
use Rattle.mw_disk.specs.Runs.{Bad, Good, Later}
use Rattle.mw_world.specs.Files.Calls.{filed, place_for}
use Rattle.mw_world.specs.Files.State.{File, entries_at}
use Rattle.mw_book.specs.declared.answers.Filed.{Filed}
use Rattle.mw_book.specs.declared.answers.Filed.TheVariants.{Made, Broken, Untouched}
use Rattle.mw_book.specs.declared.book.Book.{Book}
use Rattle.mw_book.specs.declared.waiting.Waiting.{Waiting}
use Rattle.mw_book.specs.FilePlaces.{flag_of}
use Rattle.mw_book.specs.Answers.{Answers, NoFault, OneFault}
use Rattle.mw_book.specs.Crashes.{LeavesEither, stake_of}
use Rattle.mw_book.specs.Ends.{CountsCalls, Ends, FailedAt, calls_on, prepare_calls}
use Rattle.mw_book.specs.CallOutcome.{IsFiled}
use Rattle.mw_book.specs.PreparedAhead.{has_written}
use Rattle.mw_book.specs.RecordsAhead.{PreparesAhead, first_ready, free_places, has_but, is_among, makes_calls, place_lost, written_by}
use Rattle.mw_book.specs.SameFiles.{HasMadeRoom, RepresentsSame}
use Rattle.mw_book.specs.OpenFile.{states_in, disk_in, OnDisk}
use Rattle.mw_book.specs.Representation.{Represents}
use Rattle.mw_book.proofs.RecordsAhead.{lost_needed, none_needed, nothing_lost, ready_same}

-- After room was made, a prepare writes the same records of waiting changes.
written_same : {D : Type 0} (facts : D → Facts) (slot : ℕ) (entries : List Entry) (waiting : List Waiting) (old mid : Book D) → RepresentsSame facts old mid → HasMadeRoom old mid → has_written old slot entries ≡ false
    → has_written mid slot entries ≡ false → written_by mid PrepareCall slot entries waiting ≡ written_by old PrepareCall slot entries waiting
written_same facts slot entries waiting old mid same room none still_none =
    cond-true (makes_calls mid PrepareCall slot entries) (first_ready mid.words (states_in mid.held) mid.table mid.places slot (free_places mid - 1) waiting) [] (ap not still_none)
    ∙ ready_same slot entries waiting old mid same.words same.places room.left room.kept
    ∙ sym (cond-true (makes_calls old PrepareCall slot entries) (first_ready old.words (states_in old.held) old.table old.places slot (free_places old - 1) waiting) [] (ap not none))

-- After a change that was prepared ahead was given up, a prepare that was tried ends for the book before that too.
module _ {D : Type 0} (facts : D → Facts) (slot : ℕ) (entries : List Entry) (waiting : List Waiting) (old mid new : Book D) (same : RepresentsSame facts old mid) (room : HasMadeRoom old mid)
    (none : has_written old slot entries ≡ false) (still_none : has_written mid slot entries ≡ false) where
  abbrev written_at : Book D → List Waiting
  written_at book = written_by book PrepareCall slot entries waiting

  still_written : written_at mid ≡ written_at old
  still_written = written_same facts slot entries waiting old mid same room none still_none

  -- it makes as many device calls
  abbrev many_at : Book D → List Entry → ℕ
  many_at book there = length (written_at book) + calls_on book PrepareCall slot entries there

  same_many : (there : List Entry) → many_at mid there ≡ many_at old there
  same_many there = ap (λ ws. length ws + calls_on mid PrepareCall slot entries there) still_written ∙ ap (λ b. length (written_at old) + prepare_calls b there) (still_none ∙ sym none)

  -- a run of as many, from the disk that was there before
  ran_same : (Run : ℕ → Facts → Facts → Type 0) (there : List Entry) → OnDisk facts (Run (many_at mid there)) (disk_in mid.held) (disk_in new.held) → OnDisk facts (Run (many_at old there)) (disk_in old.held) (disk_in new.held)
  ran_same Run there ran =
      subst (λ d. OnDisk facts (Run (many_at old there)) d (disk_in new.held)) same.disk (subst (λ n. OnDisk facts (Run n) (disk_in mid.held) (disk_in new.held)) (same_many there) ran)

  -- the entries of the vacant place
  abbrev there_of : File → ℕ → List Entry
  there_of file places = entries_at file (place_for PrepareCall file places slot)

  tried_same : (result : Filed) → (result ≡ Untouched → ⊥) → (file : File) → Ends facts PrepareCall slot entries waiting file mid new result → Represents facts old file → Ends facts PrepareCall slot entries waiting file old new result
  tried_same Made tried file ends shows = record {
    began = ends.began;
    made = ran_same Good (there_of file old.places) (subst (λ places. OnDisk facts (Good (many_at mid (there_of file places))) (disk_in mid.held) (disk_in new.held)) same.places ends.made);
    shows = subst (λ n. Represents facts new (filed PrepareCall file slot (place_for PrepareCall file n slot) entries)) same.places ends.shows;
  }
  tried_same Broken tried file ends shows = record {
    began = ends.began;
    number = ends.number;
    within = ends.within;
    failed = ran_same Bad (there_of file old.places) (subst (λ places. OnDisk facts (Bad (many_at mid (there_of file places))) (disk_in mid.held) (disk_in new.held)) same.places ends.failed);
    made = λ is.
        subst (λ d. OnDisk facts (FailedAt (length (written_at old)) 2 ends.number) d (disk_in new.held)) same.disk
        (subst (λ ws. OnDisk facts (FailedAt (length ws) 2 ends.number) (disk_in mid.held) (disk_in new.held)) still_written
        (ends.made (ap (λ b. prepare_calls b (there_of file mid.places)) still_none)));
    shows = ends.shows;
  }
  tried_same Untouched tried file ends shows = absurd (tried refl)

  counted_same : (result : Filed) → (result ≡ Untouched → ⊥) → CountsCalls facts PrepareCall slot entries waiting mid new result → CountsCalls facts PrepareCall slot entries waiting old new result
  counted_same Made tried counts = ran_same Good entries counts
  counted_same Broken tried counts = ran_same Bad entries counts
  counted_same Untouched tried counts = absurd (tried refl)

answered_same : {D : Type 0} (facts : D → Facts) (old mid new : Book D) (result : Filed) → RepresentsSame facts old mid → (result ≡ Untouched → ⊥) → Answers facts PrepareCall mid new result → Answers facts PrepareCall old new result
answered_same facts old mid new Made same tried answers = record {
  began = sym same.failed ∙ answers.began;
  same_failed = answers.same_failed ∙ same.failed;
  faults = subst (λ d. OnDisk facts NoFault d (disk_in new.held)) same.disk answers.faults;
}
answered_same facts old mid new Broken same tried answers = record {
  other = answers.other;
  sound = sym same.failed ∙ answers.sound;
  failed = answers.failed;
  faults = subst (λ d. OnDisk facts OneFault d (disk_in new.held)) same.disk answers.faults;
}
answered_same facts old mid new Untouched same tried answers = absurd (tried refl)

stake_prepare : (result : Filed) (file : File) (place other : ℕ) → stake_of result PrepareCall file place ≡ stake_of result PrepareCall file other
stake_prepare Made file place other = refl
stake_prepare Broken file place other = refl
stake_prepare Untouched file place other = refl

-- and it prepares the same changes ahead
records_same : {D : Type 0} (facts : D → Facts) (slot : ℕ) (entries : List Entry) (waiting : List Waiting) (old mid new : Book D) (result : Filed) → RepresentsSame facts old mid → HasMadeRoom old mid
    → (result ≡ Untouched → ⊥) → has_written old slot entries ≡ false → has_written mid slot entries ≡ false → PreparesAhead PrepareCall slot entries waiting mid new result → PreparesAhead PrepareCall slot entries waiting old new result
records_same facts slot entries waiting old mid new result same room tried none still_none is = by result tried is where
  lost : (s : ℕ) (es : List Entry) → has_but mid (place_lost mid PrepareCall slot entries) s es ≡ has_but old (place_lost old PrepareCall slot entries) s es
  lost s es =
      nothing_lost mid (place_lost mid PrepareCall slot entries) s es (lost_needed mid slot entries still_none ∙ none_needed mid room.some) ∙ room.kept s es
      ∙ ap (λ n. has_but old n s es) (sym (lost_needed old slot entries none))

  by : (result : Filed) → (result ≡ Untouched → ⊥) → PreparesAhead PrepareCall slot entries waiting mid new result → PreparesAhead PrepareCall slot entries waiting old new result
  by Made tried is s es = is s es ∙ ap (λ b. b || is_among (written_by mid PrepareCall slot entries waiting) s es) (lost s es) ∙ ap (λ ws. has_but old (place_lost old PrepareCall slot entries) s es || is_among ws s es) (written_same facts slot entries waiting old mid same room none still_none)
  by Broken tried is s es = is s es ∙ lost s es
  by Untouched tried is s es = absurd (tried refl)

pub prepare_after : {D : Type 0} (facts : D → Facts) (slot : ℕ) (entries : List Entry) (waiting : List Waiting) (old mid new : Book D) (result : Filed) → RepresentsSame facts old mid → HasMadeRoom old mid
    → (result ≡ Untouched → ⊥) → has_written old slot entries ≡ false → has_written mid slot entries ≡ false → IsFiled facts PrepareCall slot entries waiting mid new result → IsFiled facts PrepareCall slot entries waiting old new result
prepare_after facts slot entries waiting old mid new result same room tried none still_none is = record {
  records = records_same facts slot entries waiting old mid new result same room tried none still_none is.records;
  counts = counted_same facts slot entries waiting old mid new same room none still_none result tried is.counts;
  ends = λ file shows. tried_same facts slot entries waiting old mid new same room none still_none result tried file (is.ends file (same.shows file shows)) shows;
  answers = answered_same facts old mid new result same tried is.answers;
  moments = λ file shows.
      subst (λ change. OnDisk facts (LeavesEither file.contents change) (disk_in old.held) (disk_in new.held))
      (stake_prepare result file (place_for PrepareCall file mid.places slot) (place_for PrepareCall file old.places slot))
      (subst (λ d. OnDisk facts (LeavesEither file.contents (stake_of result PrepareCall file (place_for PrepareCall file mid.places slot))) d (disk_in new.held)) same.disk (is.moments file (same.shows file shows)));
  later = subst (λ d. OnDisk facts Later d (disk_in new.held)) same.disk is.later;
  quiet = λ cancels. is.quiet cancels ∙ same.disk;
  words = is.words ∙ same.words;
  places = is.places ∙ same.places;
  ahead = λ place. is.ahead place ∙ ap (λ flags. flag_of flags place) same.settled;
}
