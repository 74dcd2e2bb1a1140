-- A line added at the end of a tenant's history, or a late mark, leaves the abstract states (words and sealed changes) before
-- it.
-- Used by: words_are_of_marks, mw_rule, mw_law_threads.
use Rattle.std.specs.Prelude.{ℕ, zero, suc, ◌≡◌, ◌<◌, ◌≤◌, ◌⊎◌, List, [], ◌∷◌, length, slice_get, slice_set, Option, Some, None}
use Rattle.std.proofs.Common.{refl, sym, ap, ◌∙◌, inl, inr}
use Rattle.std.proofs.Math.ListN.{take}
use Rattle.std.proofs.lemmas.Bool.{cases_eq}
use Rattle.std.proofs.lemmas.List.{take-append-le}
use Rattle.std.proofs.lemmas.Option.{same_Some, none-some, slice_get_within}
use Rattle.mw_lone.specs.declared.marks.Mark.{Mark}
use Rattle.mw_lone.specs.declared.marks.Mark.TheVariants.{Ask, Admit, Busy, Look, Miss, Seal, SealFail, FileFail, GiveUp, Retire, Reply as HandOut, Restart}
use Rattle.mw_world.proofs.MapLaws.{get_written, get_others}
use Rattle.mw_law_store.specs.Late.LateMarks.{more}
use Rattle.mw_law_store.specs.Laws.{LinesAreAbstractStates}
use Rattle.mw_law_store.specs.AbstractStates.{AbstractState, after_mark, after_line, abstract_state_of, abstract_state_at}

pub lines_are_abstract_states : LinesAreAbstractStates
lines_are_abstract_states start [] = refl
lines_are_abstract_states start (None ∷ lines) = lines_are_abstract_states start lines
lines_are_abstract_states start (Some mark ∷ lines) = lines_are_abstract_states (after_mark start mark) lines

pub abstract_state_more : (start : AbstractState) (lines : List (Option Mark)) (line : Option Mark) → abstract_state_of start (more lines line) ≡ after_line (abstract_state_of start lines) line
abstract_state_more start [] line = refl
abstract_state_more start (first ∷ lines) line = abstract_state_more (after_line start first) lines line

-- the abstract state before the place after the last line
pub abstract_state_all : (start : AbstractState) (lines : List (Option Mark)) → abstract_state_at start lines (length lines) ≡ abstract_state_of start lines
abstract_state_all start [] = refl
abstract_state_all start (first ∷ lines) = abstract_state_all (after_line start first) lines

pub abstract_state_before : (start : AbstractState) (lines : List (Option Mark)) (line : Option Mark) (place : ℕ) → place ≤ length lines → abstract_state_at start (more lines line) place ≡ abstract_state_at start lines place
abstract_state_before start lines line place within = ap (abstract_state_of start) (take-append-le place lines (line ∷ []) within)

-- A mark that changes no abstract state, so that it may come late.
abbrev pub IsMild : Mark → Type 0
IsMild (Look n) = Unit {0}
IsMild (Miss n index) = Unit {0}
IsMild mark = ⊥

pub mild_still : (mark : Mark) (now : AbstractState) → IsMild mark → after_mark now mark ≡ now
mild_still (Look n) now mild = refl
mild_still (Miss n index) now mild = refl
mild_still (Ask n job) now mild = absurd mild
mild_still (Admit n) now mild = absurd mild
mild_still (Busy n) now mild = absurd mild
mild_still (Seal n) now mild = absurd mild
mild_still (SealFail n) now mild = absurd mild
mild_still FileFail now mild = absurd mild
mild_still (GiveUp n) now mild = absurd mild
mild_still (Retire n) now mild = absurd mild
mild_still (HandOut n) now mild = absurd mild
mild_still (Restart interrupted found opened quota) now mild = absurd mild

-- a line with a mark is not an empty place
pub not_empty : (mark : Mark) → Some (Some mark) ≡ Some None → ⊥
not_empty mark e = none-some mark (sym (same_Some (Some mark) None e))

pub abstract_state_late : (start : AbstractState) (lines : List (Option Mark)) (kept : ℕ) (mark : Mark) (place : ℕ) → IsMild mark → slice_get lines kept ≡ Some None
    → abstract_state_at start (slice_set lines kept (Some mark)) place ≡ abstract_state_at start lines place
abstract_state_late start [] kept mark place mild free = absurd (none-some None free)
abstract_state_late start (first ∷ lines) zero mark zero mild free = refl
abstract_state_late start (None ∷ lines) zero mark (suc place) mild free = ap (λ (now : AbstractState). abstract_state_of now (take place lines)) (mild_still mark start mild)
abstract_state_late start (Some first ∷ lines) zero mark (suc place) mild free = absurd (not_empty first free)
abstract_state_late start (first ∷ lines) (suc kept) mark zero mild free = refl
abstract_state_late start (first ∷ lines) (suc kept) mark (suc place) mild free = abstract_state_late (after_line start first) lines kept mark place mild free

pub late_all : (start : AbstractState) (lines : List (Option Mark)) (kept : ℕ) (mark : Mark) → IsMild mark → slice_get lines kept ≡ Some None
    → abstract_state_of start (slice_set lines kept (Some mark)) ≡ abstract_state_of start lines
late_all start [] kept mark mild free = absurd (none-some None free)
late_all start (None ∷ lines) zero mark mild free = ap (λ (now : AbstractState). abstract_state_of now lines) (mild_still mark start mild)
late_all start (Some first ∷ lines) zero mark mild free = absurd (not_empty first free)
late_all start (first ∷ lines) (suc kept) mark mild free = late_all (after_line start first) lines kept mark mild free

-- Which line is at a place.

pub got_before : (lines : List (Option Mark)) (line found : Option Mark) (place : ℕ) → slice_get lines place ≡ Some found → slice_get (more lines line) place ≡ Some found
got_before [] line found place e = absurd (none-some found e)
got_before (first ∷ lines) line found zero e = e
got_before (first ∷ lines) line found (suc place) e = got_before lines line found place e

pub got_last : (lines : List (Option Mark)) (line : Option Mark) → slice_get (more lines line) (length lines) ≡ Some line
got_last [] line = refl
got_last (first ∷ lines) line = got_last lines line

pub got_within : (lines : List (Option Mark)) (found : Option Mark) (place : ℕ) → slice_get lines place ≡ Some found → place < length lines
got_within lines found place e = slice_get_within lines place found e

pub got_which : (lines : List (Option Mark)) (line found : Option Mark) (place : ℕ) → slice_get (more lines line) place ≡ Some found
    → (slice_get lines place ≡ Some found) ⊎ ((place ≡ length lines) × (line ≡ found))
got_which [] line found zero e = inr (refl, same_Some line found e)
got_which [] line found (suc place) e = absurd (none-some found e)
got_which (first ∷ lines) line found zero e = inl e
got_which (first ∷ lines) line found (suc place) e = elim (got_which lines line found place e) [
  | inl before ↦ inl before
  | inr last ↦ inr (ap suc last.0, last.1)
]

pub got_late : (lines : List (Option Mark)) (kept : ℕ) (mark other : Mark) (place : ℕ) → slice_get lines kept ≡ Some None → slice_get lines place ≡ Some (Some other)
    → slice_get (slice_set lines kept (Some mark)) place ≡ Some (Some other)
got_late lines kept mark other place free e = get_others lines kept place (Some mark) (λ same. not_empty other (sym e ∙ ap (slice_get lines) same ∙ free)) ∙ e

-- the line at the place is the mark that came late
pub got_there : (lines : List (Option Mark)) (kept : ℕ) (mark : Mark) → slice_get lines kept ≡ Some None → slice_get (slice_set lines kept (Some mark)) kept ≡ Some (Some mark)
got_there lines kept mark free = get_written lines kept (Some mark) (slice_get_within lines kept None free)

pub got_late_which : (lines : List (Option Mark)) (kept : ℕ) (mark other : Mark) (place : ℕ) → slice_get lines kept ≡ Some None → slice_get (slice_set lines kept (Some mark)) place ≡ Some (Some other)
    → (slice_get lines place ≡ Some (Some other)) ⊎ (mark ≡ other)
got_late_which lines kept mark other place free e = elim (cases_eq place kept) [
  | inl same ↦ inr (same_Some mark other (same_Some (Some mark) (Some other) (sym (got_there lines kept mark free) ∙ ap (slice_get (slice_set lines kept (Some mark))) (sym same) ∙ e)))
  | inr apart ↦ inl (sym (get_others lines kept place (Some mark) apart) ∙ e)
]
