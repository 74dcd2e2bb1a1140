-- A tenant's history that is legal stays legal after a legal step, and a place reserved in it for a legal mark stays
-- reserved. Used by: ReservedPlaceLaws, ServiceLaws, Met, among others.
use Rattle.std.specs.Prelude.{ℕ, ◌≡◌, ◌≢◌, ◌++◌, Bool, true, List, [], ◌∷◌, length, slice_get, Option, Some, None}
use Rattle.std.specs.FinMap as map
use Rattle.std.specs.Option.{option_and_then}
use Rattle.std.specs.Ordering.{nat_cmp}
use Rattle.std.proofs.Common.{refl, sym, ap, ◌∙◌}
use Rattle.std.proofs.lemmas.Option.{none-some}
use Rattle.mw_words.specs.declared.jobs.Entry.{Entry}
use Rattle.mw_words.specs.declared.jobs.Job.TheVariants.{Get}
use Rattle.mw_words.specs.declared.replies.Reply.{Reply}
use Rattle.mw_words.specs.declared.replies.Reply.TheVariants.{Val, No as SaysNo}
use Rattle.mw_words.specs.Change.{word_at}
use Rattle.mw_lone.specs.declared.marks.Mark.{Mark}
use Rattle.mw_lone.specs.declared.marks.Mark.TheVariants.{Look, Miss, Restart}
use Rattle.mw_lone.specs.Store.{Store, RequestState, request, entries_of, store_after_start, step, run as run_of_store}
use Rattle.mw_lone.proofs.KeptRuns.{run-extend}
use Rattle.mw_law_store.specs.Late.MarkEffects.{Restarts}
use Rattle.mw_law_store.specs.Late.LateMarks.{marks_in, more, step_line, IsNumbered, IsReservedFor}
use Rattle.mw_law_store.proofs.Late.MarkEffectLaws.{doing-marks}
use Rattle.mw_law_store.proofs.Late.ReservedPlaces.{place-is-reserved, reserved-beside-line, reserved-beside-late}
use Rattle.mw_law_store.proofs.Late.Lines.{lines-extend, empty-place, run-append}
use Rattle.mw_law_store.proofs.Late.LateAnswers.{late-mark}
use Rattle.mw_law_store.specs.RelaxedSteps.{StoreLabel, NoLabel, Says, ReservesPlace, MarksLate, LabelStep, lines_after}

-- a late mark has a place that was reserved for it
abbrev pub LatePlace : Store → List (Option Mark) → StoreLabel → Type 0
LatePlace base lines NoLabel = Unit {0}
LatePlace base lines (Says mark) = Unit {0}
LatePlace base lines ReservesPlace = Unit {0}
LatePlace base lines (MarksLate place mark n reply) = IsReservedFor base lines place mark n reply

-- the label is added at another place than this
abbrev pub IsElse : ℕ → StoreLabel → Type 0
IsElse place NoLabel = Unit {0}
IsElse place (Says mark) = Unit {0}
IsElse place ReservesPlace = Unit {0}
IsElse place (MarksLate other mark n reply) = place ≢ other

pub says_legal : (base s t : Store) (lines : List (Option Mark)) (says : StoreLabel) → IsNumbered base → run_of_store base (marks_in lines) ≡ Some s → LabelStep says s t → LatePlace base lines says
    → run_of_store base (marks_in (lines_after says lines)) ≡ Some t
says_legal base s t lines NoLabel numbered e does late = e ∙ ap Some (sym does)
says_legal base s t lines (Says mark) numbered e does late = lines-extend base lines (Some mark) ∙ ap (option_and_then (λ u. step_line u (Some mark))) e ∙ doing-marks s t mark does
says_legal base s t lines ReservesPlace numbered e does late = ap (run_of_store base) (empty-place lines) ∙ e ∙ ap Some (sym does)
says_legal base s t lines (MarksLate place mark n reply) numbered e does late = late-mark base s lines place mark n does.found reply numbered late e does.is_open ∙ ap Some (sym does.after)

pub legal_stays : (base s t : Store) (lines : List (Option Mark)) (says : StoreLabel) (place : ℕ) (mark : Mark) (n : ℕ) (reply : Reply) → IsNumbered base → run_of_store base (marks_in lines) ≡ Some s → LabelStep says s t
    → LatePlace base lines says → IsElse place says → IsReservedFor base lines place mark n reply → IsReservedFor base (lines_after says lines) place mark n reply
legal_stays base s t lines NoLabel place mark n reply numbered e does late apart kept = kept
legal_stays base s t lines (Says said) place mark n reply numbered e does late apart kept = reserved-beside-line base lines (Some said) place mark n reply kept
legal_stays base s t lines ReservesPlace place mark n reply numbered e does late apart kept = reserved-beside-line base lines None place mark n reply kept
legal_stays base s t lines (MarksLate other said m given) place mark n reply numbered e does late apart kept =
    reserved-beside-late base s lines place other mark said n m reply given does.found numbered apart kept late e does.is_open

-- From the beginning on, with the marks up to the last start.

pub whole_run : (first base : Store) (closed marks : List Mark) → run_of_store first closed ≡ Some base → run_of_store first (closed ++ marks) ≡ run_of_store base marks
whole_run first base closed marks from = run-append first closed marks ∙ ap (option_and_then (λ u. run_of_store u marks)) from

-- a start is added at the end of all marks
pub restart_legal : (first s t : Store) (marks : List Mark) (interrupted : Option ℕ) (found opened : Bool) (quota : ℕ) → run_of_store first marks ≡ Some s → Restarts s interrupted found opened quota t
    → run_of_store first (marks ++ Restart interrupted found opened quota ∷ []) ≡ Some t
restart_legal first s t marks interrupted found opened quota e does =
    run-extend first marks (Restart interrupted found opened quota) ∙ ap (option_and_then (λ u. step u (Restart interrupted found opened quota))) e ∙ doing-marks s t (Restart interrupted found opened quota) does

-- after a start no request has a number
pub start_numbered : (s : Store) (words : List ℕ) (opened : Bool) (quota : ℕ) → IsNumbered (store_after_start s words opened quota)
start_numbered s words opened quota n r at = absurd (none-some r (sym (map.get-empty nat_cmp n) ∙ at))

-- A place that was just reserved.

-- it is reserved for the Look of a request that reads this word
pub look_is_kept : (base s : Store) (lines : List (Option Mark)) (n : ℕ) (r : RequestState) (address value : ℕ) → run_of_store base (marks_in lines) ≡ Some s → request s n ≡ Some r → r.job ≡ Get address
    → word_at s.words address ≡ value → IsReservedFor base (more lines None) (length lines) (Look n) n (Val value)
look_is_kept base s lines n r address value e is_asked reads says =
    place-is-reserved base s lines (Look n) n (Val value) e (refl, record { found = r; is_asked = is_asked; address = address; reads = reads; says = ap Val (sym says) })

-- it is reserved for the Miss of a change that has a slot, at an entry whose word is not as expected
pub miss_is_kept : (base s : Store) (lines : List (Option Mark)) (n index : ℕ) (r : RequestState) (entry : Entry) (address value : ℕ) → run_of_store base (marks_in lines) ≡ Some s → request s n ≡ Some r
    → r.admitted ≡ true → slice_get (entries_of r.job) index ≡ Some entry → address ≡ entry.addr → word_at s.words address ≡ value → value ≢ entry.expected
    → IsReservedFor base (more lines None) (length lines) (Miss n index) n (SaysNo address value)
miss_is_kept base s lines n index r entry address value e is_asked has_slot is_entry same says differs =
    let value_is : word_at s.words entry.addr ≡ value = ap (word_at s.words) (sym same) ∙ says in
    place-is-reserved base s lines (Miss n index) n (SaysNo address value) e (
      refl,
      record {
        found = r;
        is_asked = is_asked;
        has_slot = has_slot;
        entry = entry;
        is_entry = is_entry;
        differs = λ as_expected. differs (sym value_is ∙ as_expected);
        says = ap (λ at. SaysNo at value) same ∙ ap (SaysNo entry.addr) (sym value_is);
      },
    )
