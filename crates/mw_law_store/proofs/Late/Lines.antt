-- Running a list of lines, each one mark or an empty place, is running its marks. Used by: lines_are_run, mw_law_threads.
use Rattle.std.proofs.Common.{◌≡◌, ℕ, List, [], ◌∷◌, ◌++◌, refl, sym, ap, ◌∙◌, append-nil, Option, Some, None}
use Rattle.std.proofs.Math.ListN.{take, drop}
use Rattle.std.specs.Option.{option_and_then, option_to_list}
use Rattle.std.proofs.lemmas.Grind.{flat_map-append}
use Rattle.std.proofs.lemmas.List.{take-append-drop}
use Rattle.mw_lone.specs.declared.marks.Mark.{Mark}
use Rattle.mw_lone.proofs.KeptRuns.{run-extend}
use Rattle.mw_lone.specs.Store.{Store, step, run}
use Rattle.mw_law_store.specs.Late.LateMarks.{marks_in, more, run_lines}
use Rattle.mw_law_store.specs.Late.Laws.{LinesAreRun, LinesExtend, EmptyPlaceAddsNothing}

after_step : (o : Option Store) (lines : List (Option Mark)) → ((t : Store) → run_lines t lines ≡ run t (marks_in lines)) → option_and_then (λ t. run_lines t lines) o ≡ option_and_then (λ t. run t (marks_in lines)) o
after_step None lines h = refl
after_step (Some t) lines h = h t

pub lines-run : LinesAreRun
lines-run s [] = refl
lines-run s (None ∷ lines) = lines-run s lines
lines-run s (Some mark ∷ lines) = after_step (step s mark) lines (λ t. lines-run t lines)

pub empty-place : EmptyPlaceAddsNothing
empty-place lines = flat_map-append option_to_list lines (None ∷ []) ∙ append-nil (marks_in lines)

-- one mark more
pub mark-more : (lines : List (Option Mark)) (mark : Mark) → marks_in (more lines (Some mark)) ≡ marks_in lines ++ mark ∷ []
mark-more lines mark = flat_map-append option_to_list lines (Some mark ∷ [])

as_it_was : (o : Option Store) → o ≡ option_and_then (λ t. Some t) o
as_it_was None = refl
as_it_was (Some t) = refl

pub lines-extend : LinesExtend
lines-extend s lines None = ap (run s) (empty-place lines) ∙ as_it_was (run s (marks_in lines))
lines-extend s lines (Some mark) = ap (run s) (mark-more lines mark) ∙ run-extend s (marks_in lines) mark

-- running two lists of marks is running one after the other
run_on : (o : Option Store) (a b : List Mark) → ((t : Store) → run t (a ++ b) ≡ option_and_then (λ u. run u b) (run t a)) → option_and_then (λ t. run t (a ++ b)) o ≡ option_and_then (λ u. run u b) (option_and_then (λ t. run t a) o)
run_on None a b h = refl
run_on (Some t) a b h = h t

pub run-append : (s : Store) (a b : List Mark) → run s (a ++ b) ≡ option_and_then (λ u. run u b) (run s a)
run-append s [] b = refl
run-append s (mark ∷ a) b = run_on (step s mark) a b (λ t. run-append t a b)

-- the rest of a run
pub run-rest : (start store end : Store) (lines : List (Option Mark)) (place : ℕ) → run start (marks_in (take place lines)) ≡ Some store → run start (marks_in lines) ≡ Some end → run store (marks_in (drop place lines)) ≡ Some end
run-rest start store end lines place was e =
    let parted : marks_in lines ≡ marks_in (take place lines) ++ marks_in (drop place lines) = ap marks_in (sym (take-append-drop place lines)) ∙ flat_map-append option_to_list (take place lines) (drop place lines) in
    let whole = run-append start (marks_in (take place lines)) (marks_in (drop place lines)) in
    sym (ap (option_and_then (λ u. run u (marks_in (drop place lines)))) was) ∙ sym whole ∙ sym (ap (run start) parted) ∙ e
