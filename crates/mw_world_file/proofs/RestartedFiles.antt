-- A book (a simulated file) after a start represents the file opened from bytes that the start may find.
-- Used by: SimulatedFile::restart.
use Rattle.std.proofs.Common.{◌≡◌, ◌≤◌, ℕ, ◌∙◌, ◌||◌, Bool, true, false, List, [], ◌∷◌, length, Option, Some, None, Result, Ok, Err, IsErrAnd, refl, sym, ap, subst, inl, inr, arith}
use Rattle.std.specs.Str.{bytes_eq}
use Rattle.std.proofs.lemmas.Slice.Eq.{bytes_eq-Decides}
use Rattle.mw_words.specs.declared.jobs.Entry.{Entry}
use Rattle.mw_words.specs.Change.{put}
use Rattle.mw_record.specs.Damages.{file_words, places_of}
use Rattle.mw_lone.proofs.SoundStores.{length-put}
use Rattle.mw_world_file.specs.declared.simulated_file.SimulatedFile.{SimulatedFile}
use Rattle.mw_world_file.specs.declared.cut.Cut.{Cut}
use Rattle.mw_world_file.specs.declared.cut.Left.{Left}
use Rattle.mw_world_file.specs.declared.faults.BookFault.{BookFault}
use Rattle.mw_world_file.specs.declared.faults.BookFault.TheVariants.{NotEnabled, Memory as NoMemory}
use Rattle.mw_world.specs.Files.State.{File}
use Rattle.mw_world.specs.Files.Restarts.{takes, may_find, opened_file}
use Rattle.mw_world_file.specs.Books.{Represents, quota_of, places_of_file}
use Rattle.mw_world_file.specs.Recovery.{doubt_left, is_sealed_left, IsRestarted, Restarts}
use Rattle.mw_world_file.specs.StoppedFiles.{IsStopped, Stops, IsReopened, ReopenEnds}

-- the words of an opened file, whether a device call failed or not
opened_words : (words : List ℕ) (fails_at : Option ℕ) → (opened_file words fails_at).contents ≡ words
opened_words words None = refl
opened_words words (Some number) = refl

-- words that a start may find are as many as before
same_length : (words found : List ℕ) → bytes_eq found words ≡ true → length found ≡ length words
same_length words found same = ap length ((bytes_eq-Decides found words).0 same)

taken_long : (before : List ℕ) (doubt : List Entry) (found : List ℕ) → takes before doubt found ≡ true → length found ≡ length before
taken_long before [] found taken = absurd (cc)
taken_long before (e ∷ doubt) found taken = same_length (put before (e ∷ doubt)) found taken ∙ length-put before (e ∷ doubt)

as_long : (sealed : Bool) (before : List ℕ) (doubt : List Entry) (found : List ℕ) → may_find sealed before doubt found ≡ true → length found ≡ length before
as_long true before doubt found may = same_length (put before doubt) found may ∙ length-put before doubt
as_long false before doubt found may = by (bytes_eq found before) refl where
  by : (b : Bool) → bytes_eq found before ≡ b → length found ≡ length before
  by true same = same_length before found same
  by false differ = taken_long before doubt found (sym (ap (λ b. b || takes before doubt found) differ) ∙ may)

-- bytes that are left can be opened with a quota that fits the places of the book's file
room_left : (old : SimulatedFile) (file : File) (cut : Option Cut) (torn : List ℕ) (left : Left) (quota : ℕ) → IsStopped old file cut torn left → quota ≤ places_of_file old → quota ≤ places_of left.image.items
room_left old file cut torn left quota stopped room = let has = stopped.room in omega (arith, has, room)

-- how an opening of these bytes ends, if the book uses this number of places of the file
abbrev Reopens : List ℕ → ℕ → Option ℕ → Result SimulatedFile BookFault → Type 0
Reopens image quota fails_at r = (words : List ℕ) → file_words image ≡ Some words → quota ≤ places_of image → ReopenEnds image quota words fails_at r

-- the number of used places is the quota
reopened_with : (image : List ℕ) (used quota : ℕ) (fails_at : Option ℕ) (r : Result SimulatedFile BookFault) → used ≡ quota → Reopens image used fails_at r → Reopens image quota fails_at r
reopened_with image used quota fails_at r same ends = subst (λ n. Reopens image n fails_at r) same ends

pub restarted : (old : SimulatedFile) (file : File) → Represents old file → (cut : Option Cut) (torn : List ℕ) (fails_at : Option ℕ) (quota : ℕ) (left : Left) (new : SimulatedFile) (took : Bool) (used : ℕ) → used ≡ quota
    → quota ≤ places_of_file old → IsStopped old file cut torn left
    → ((words : List ℕ) → file_words left.image.items ≡ Some words → used ≤ places_of left.image.items → IsReopened left.image.items used words fails_at new)
    → took ≡ takes old.contents.items left.doubt.items new.contents.items → IsRestarted old file cut torn fails_at quota new took
restarted old file shows cut torn fails_at quota left new took used same room stopped reopens taken = record {
  image = left.image.items;
  words = stopped.words;
  left = stopped.is_left;
  fails = reopened.fails;
  count = reopened.count;
  has = reopened.has ∙ stopped.room;
  long = ap length are ∙ as_long (is_sealed_left file (quota_of old) cut) file.contents (doubt_left file (quota_of old) cut) stopped.words stopped.is_left.found ∙ ap length shows.same_contents;
  shows = reopened.shows;
  came = reopened.came;
  taken = taken ∙ ap (λ ws. takes ws left.doubt.items new.contents.items) (sym shows.same_contents) ∙ ap (λ doubt. takes file.contents doubt new.contents.items) stopped.in_doubt
      ∙ ap (takes file.contents (doubt_left file (quota_of old) cut)) are;
} where
  reopened : IsReopened left.image.items quota stopped.words fails_at new
  reopened = reopened_with left.image.items used quota fails_at (Ok new) same reopens stopped.words stopped.is_left.has (room_left old file cut torn left quota stopped room)

  are : new.contents.items ≡ stopped.words
  are = sym reopened.shows.same_contents ∙ opened_words stopped.words fails_at

-- a file that wasn't opened again
pub not_restarted : (old : SimulatedFile) (cut : Option Cut) (torn : List ℕ) (fails_at : Option ℕ) (quota : ℕ) (left : Left) (fault : BookFault) (r : Result (SimulatedFile × Bool) BookFault) (used : ℕ) → used ≡ quota
    → quota ≤ places_of_file old → IsErrAnd r (λ e. e ≡ fault) → ((file : File) → Represents old file → IsStopped old file cut torn left)
    → ((words : List ℕ) → file_words left.image.items ≡ Some words → used ≤ places_of left.image.items → ReopenEnds left.image.items used words fails_at (Err fault))
    → Restarts old cut torn fails_at quota r
not_restarted old cut torn fails_at quota left fault (Ok started) used same room is lefts ends = absurd is
not_restarted old cut torn fails_at quota left fault (Err NoMemory) used same room is lefts ends = tt
not_restarted old cut torn fails_at quota left fault (Err NotEnabled) used same room is lefts ends = λ file shows.
    let stopped = lefts file shows in
    inr (record {
      image = left.image.items;
      words = stopped.words;
      left = stopped.is_left;
      fails = subst (λ f. ReopenEnds left.image.items quota stopped.words fails_at (Err f)) (sym is)
          (reopened_with left.image.items used quota fails_at (Err fault) same ends stopped.words stopped.is_left.has (room_left old file cut torn left quota stopped room));
    })

-- a file that can't be stopped so
pub not_stopped : (old : SimulatedFile) (cut : Option Cut) (torn : List ℕ) (fails_at : Option ℕ) (quota : ℕ) (fault : BookFault) (r : Result (SimulatedFile × Bool) BookFault) → IsErrAnd r (λ e. e ≡ fault) → Stops old cut torn (Err fault) → Restarts old cut torn fails_at quota r
not_stopped old cut torn fails_at quota fault (Ok started) is ends = absurd is
not_stopped old cut torn fails_at quota fault (Err NoMemory) is ends = tt
not_stopped old cut torn fails_at quota fault (Err NotEnabled) is ends = λ file shows. inl (subst (λ f. Stops old cut torn (Err f)) (sym is) ends file shows)
