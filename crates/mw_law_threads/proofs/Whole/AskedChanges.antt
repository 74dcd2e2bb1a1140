-- After lines without a start, the entries that the abstract state has for a request are those with which it came, and the
-- change in doubt is one of these. Used by: WholeChangeLaws.
use Rattle.std.specs.Prelude.{ℕ, zero, suc, ◌≡◌, ◌≢◌, ◌⊎◌, ◌++◌, List, [], ◌∷◌, length, slice_get, Option, Some, None}
use Rattle.std.proofs.Common.{refl, sym, ap, subst, ◌∙◌, inl, inr, arith, append_assoc, append-nil}
use Rattle.std.proofs.lemmas.Bool.{cases_eq}
use Rattle.std.proofs.lemmas.Bool.Decides.{nat_tests}
use Rattle.std.proofs.lemmas.Option.{same_Some, none-some}
use Rattle.mw_words.specs.declared.jobs.Entry.{Entry}
use Rattle.mw_words.specs.declared.jobs.Job.{Job}
use Rattle.mw_lone.specs.declared.marks.Mark.{Mark}
use Rattle.mw_lone.specs.declared.marks.Mark.TheVariants.{Ask, Admit, Busy, Look, Miss, Seal, SealFail, FileFail, GiveUp, Retire, Reply as HandOut, Restart}
use Rattle.mw_lone.specs.Store.{entries_of}
use Rattle.mw_law_store.specs.Late.LateMarks.{more}
use Rattle.mw_law_store.specs.AbstractStates.{AbstractState, after_line, after_mark, abstract_state_of}
use Rattle.mw_law_store.specs.History.{HasNoStart}
use Rattle.mw_law_store.proofs.AbstractStateLaws.{got_before, got_last, got_which}
use Rattle.mw_law_threads.specs.Whole.WholeChanges.{IsAskedIn}

-- no request came under this number on these lines
abbrev pub NeverCame : List (Option Mark) → ℕ → Type 0
NeverCame lines n = (line : ℕ) (job : Job) → slice_get lines line ≡ Some (Some (Ask n job)) → ⊥

-- the entries of a request: none if it never came, else those with which it came
abbrev pub AreOf : List (Option Mark) → ℕ → List Entry → Type 0
AreOf lines n entries = ((entries ≡ []) × NeverCame lines n) ⊎ IsAskedIn lines n entries

-- no change, or the one of a request
abbrev pub IsOfSome : List (Option Mark) → List Entry → Type 0
IsOfSome lines entries = (entries ≡ []) ⊎ ((n : ℕ) × IsAskedIn lines n entries)

-- the abstract state after these lines has of each request what it asked for, and has such a change in doubt
pub record Knows (lines : List (Option Mark)) (now : AbstractState) : Type 0 where
  pub entries : (n : ℕ) → AreOf lines n (now.entries n)
  pub doubt : IsOfSome lines now.doubt

-- a line with which no request comes
abbrev IsNoAsk : Option Mark → Type 0
IsNoAsk (Some (Ask n job)) = ⊥
IsNoAsk line = Unit {0}

asked_on : (lines : List (Option Mark)) (line : Option Mark) (n : ℕ) (entries : List Entry) → IsAskedIn lines n entries → IsAskedIn (more lines line) n entries
asked_on lines line n entries asked = record { line = asked.line; job = asked.job; came = got_before lines line (Some (Ask n asked.job)) asked.line asked.came; its = asked.its }

never_on : (lines : List (Option Mark)) (line : Option Mark) (n : ℕ) → IsNoAsk line → NeverCame lines n → NeverCame (more lines line) n
never_on lines line n no_ask never at job came = elim (got_which lines line (Some (Ask n job)) at came) [
  | inl before ↦ never at job before
  | inr last ↦ absurd (subst IsNoAsk last.1 no_ask)
]

of_on : (lines : List (Option Mark)) (line : Option Mark) (n : ℕ) (entries : List Entry) → IsNoAsk line → AreOf lines n entries → AreOf (more lines line) n entries
of_on lines line n entries no_ask (inl none) = inl (none.0, never_on lines line n no_ask none.1)
of_on lines line n entries no_ask (inr asked) = inr (asked_on lines line n entries asked)

some_on : (lines : List (Option Mark)) (line : Option Mark) (entries : List Entry) → IsOfSome lines entries → IsOfSome (more lines line) entries
some_on lines line entries (inl none) = inl none
some_on lines line entries (inr asked) = inr (asked.0, asked_on lines line asked.0 entries asked.1)

some_of : (lines : List (Option Mark)) (n : ℕ) (entries : List Entry) → AreOf lines n entries → IsOfSome lines entries
some_of lines n entries (inl none) = inl none.0
some_of lines n entries (inr asked) = inr (n, asked)

-- a line that changes neither the entries nor the doubt
stays : (lines : List (Option Mark)) (line : Option Mark) (now then : AbstractState) → IsNoAsk line → then.entries ≡ now.entries → then.doubt ≡ now.doubt → Knows lines now → Knows (more lines line) then
stays lines line now then no_ask entries doubt knows = record {
  entries = λ n. subst (λ (one : ℕ → List Entry). AreOf (more lines line) n (one n)) (sym entries) (of_on lines line n (now.entries n) no_ask (knows.entries n));
  doubt = subst (IsOfSome (more lines line)) (sym doubt) (some_on lines line now.doubt knows.doubt);
}

came_now : (lines : List (Option Mark)) (k n : ℕ) (job : Job) (now : AbstractState) → AreOf lines n (now.entries n) → AreOf (more lines (Some (Ask k job))) n ((after_mark now (Ask k job)).entries n)
came_now lines k n job now before = elim (cases_eq n k) [
  | inl same ↦ inr (record {
    line = length lines;
    job = job;
    came = got_last lines (Some (Ask k job)) ∙ ap (λ (one : ℕ). Some (Some (Ask one job))) (sym same);
    its = (let its : (after_mark now (Ask k job)).entries n ≡ entries_of job = grind (arith, nat_tests, same) in its);
  })
  | inr apart ↦ subst (AreOf (more lines (Some (Ask k job))) n) (sym (kept apart)) (on apart before)
]
  where
    kept : n ≢ k → (after_mark now (Ask k job)).entries n ≡ now.entries n
    kept apart = grind (arith, nat_tests, apart)

    other : n ≢ k → (another : Job) → Some (Ask k job) ≡ Some (Ask n another) → ⊥
    other apart another same = let is : Ask k job ≡ Ask n another = same_Some (Ask k job) (Ask n another) same in apart (let e : n ≡ k = cc in e)

    on : n ≢ k → AreOf lines n (now.entries n) → AreOf (more lines (Some (Ask k job))) n (now.entries n)
    on apart (inr asked) = inr (asked_on lines (Some (Ask k job)) n (now.entries n) asked)
    on apart (inl none) = inl (
      none.0,
      λ at another came. elim (got_which lines (Some (Ask k job)) (Some (Ask n another)) at came) [
        | inl earlier ↦ none.1 at another earlier
        | inr last ↦ other apart another last.1
      ],
    )

by_line : (lines : List (Option Mark)) (line : Option Mark) (now : AbstractState) → HasNoStart (line ∷ []) → Knows lines now → Knows (more lines line) (after_line now line)
by_line lines None now none knows = stays lines None now now tt refl refl knows
by_line lines (Some (Ask k job)) now none knows = record {
  entries = λ n. came_now lines k n job now (knows.entries n);
  doubt = some_on lines (Some (Ask k job)) now.doubt knows.doubt;
}
by_line lines (Some (Admit k)) now none knows = stays lines (Some (Admit k)) now now tt refl refl knows
by_line lines (Some (Busy k)) now none knows = stays lines (Some (Busy k)) now now tt refl refl knows
by_line lines (Some (Look k)) now none knows = stays lines (Some (Look k)) now now tt refl refl knows
by_line lines (Some (Miss k index)) now none knows = stays lines (Some (Miss k index)) now now tt refl refl knows
by_line lines (Some (Seal k)) now none knows = stays lines (Some (Seal k)) now (after_mark now (Seal k)) tt refl refl knows
by_line lines (Some (SealFail k)) now none knows = record {
  entries = λ n. of_on lines (Some (SealFail k)) n (now.entries n) tt (knows.entries n);
  doubt = some_on lines (Some (SealFail k)) (now.entries k) (some_of lines k (now.entries k) (knows.entries k));
}
by_line lines (Some FileFail) now none knows = stays lines (Some FileFail) now now tt refl refl knows
by_line lines (Some (GiveUp k)) now none knows = stays lines (Some (GiveUp k)) now now tt refl refl knows
by_line lines (Some (Retire k)) now none knows = stays lines (Some (Retire k)) now now tt refl refl knows
by_line lines (Some (HandOut k)) now none knows = stays lines (Some (HandOut k)) now now tt refl refl knows
by_line lines (Some (Restart interrupted found opened quota)) now none knows = absurd (none zero interrupted found opened quota refl)

by_lines : (lines rest : List (Option Mark)) (now : AbstractState) → HasNoStart rest → Knows lines now → Knows (lines ++ rest) (abstract_state_of now rest)
by_lines lines [] now none knows = subst (λ (all : List (Option Mark)). Knows all now) (sym (append-nil lines)) knows
by_lines lines (line ∷ rest) now none knows =
    subst (λ (all : List (Option Mark)). Knows all (abstract_state_of (after_line now line) rest)) (append_assoc lines (line ∷ []) rest)
    (by_lines (more lines line) rest (after_line now line) (λ place interrupted found opened quota at. none (suc place) interrupted found opened quota at) (by_line lines line now first knows))
  where
    first : HasNoStart (line ∷ [])
    first zero interrupted found opened quota is = none zero interrupted found opened quota is
    first (suc other) interrupted found opened quota is = absurd (none-some _ is)

-- a start, before any line
pub record IsFirst (start : AbstractState) : Type 0 where
  pub entries : (n : ℕ) → start.entries n ≡ []
  pub doubt : start.doubt ≡ []

pub knows_lines : (start : AbstractState) (lines : List (Option Mark)) → IsFirst start → HasNoStart lines → Knows lines (abstract_state_of start lines)
knows_lines start lines first none = by_lines [] lines start none (record {
  entries = λ n. inl (first.entries n, λ line job came. none-some (Some (Ask n job)) came);
  doubt = inl first.doubt;
})
