-- Since the last start, each request came at one line of its tenant's history, with a number below the next one. Each new
-- line keeps this. Used by: HistoryMatchLaws, LastLines.
use Rattle.std.specs.Prelude.{ℕ, ◌+◌, ◌≡◌, List, [], slice_get, slice_set, Option, Some, None}
use Rattle.std.proofs.Common.{sym, subst, ◌∙◌, inl, inr, arith}
use Rattle.std.proofs.lemmas.Option.{same_Some, none-some}
use Rattle.mw_words.specs.declared.jobs.Job.{Job}
use Rattle.mw_lone.specs.declared.marks.Mark.{Mark}
use Rattle.mw_lone.specs.declared.marks.Mark.TheVariants.{Ask, Admit, Busy, Look, Miss, Seal, SealFail, FileFail, GiveUp, Retire, Reply as HandOut, Restart}
use Rattle.mw_lone.specs.Store.{Store}
use Rattle.mw_law_store.specs.Late.LateMarks.{more}
use Rattle.mw_law_store.specs.RelaxedSteps.{Says, RelaxedStep}
use Rattle.mw_law_store.specs.AbstractStates.{AbstractState}
use Rattle.mw_law_store.specs.HistoryMatches.{AreSinceStart, MayBeLabeled}
use Rattle.mw_law_store.proofs.AbstractStateLaws.{IsMild, got_which, got_late_which}

pub none_since : (next : ℕ) → AreSinceStart [] next
none_since next = record {
  numbers = λ place n job at. absurd (none-some (Some (Ask n job)) at);
  ask_once = λ place other n job another at there. absurd (none-some (Some (Ask n job)) at);
  no_start = λ place interrupted found opened quota at. absurd (none-some (Some (Restart interrupted found opened quota)) at);
}

-- neither a request that comes nor a start
abbrev pub IsLater : Option Mark → Type 0
IsLater (Some (Ask n job)) = ⊥
IsLater (Some (Restart interrupted found opened quota)) = ⊥
IsLater line = Unit {0}

pub since_more : (lines : List (Option Mark)) (line : Option Mark) (next : ℕ) → IsLater line → AreSinceStart lines next → AreSinceStart (more lines line) next
since_more lines line next later old =
    let back : (place n : ℕ) (job : Job) → slice_get (more lines line) place ≡ Some (Some (Ask n job)) → slice_get lines place ≡ Some (Some (Ask n job)) =
    λ place n job at. elim (got_which lines line (Some (Ask n job)) place at) [
      | inl before ↦ before
      | inr last ↦ absurd (subst IsLater last.1 later)
    ] in
    record {
      numbers = λ place n job at. old.numbers place n job (back place n job at);
      ask_once = λ place other n job another at there. old.ask_once place other n job another (back place n job at) (back other n another there);
      no_start = λ place interrupted found opened quota at. elim (got_which lines line (Some (Restart interrupted found opened quota)) place at) [
        | inl before ↦ old.no_start place interrupted found opened quota before
        | inr last ↦ absurd (subst IsLater last.1 later)
      ];
    }

same_number : (k n : ℕ) (came job : Job) → Some (Ask k came) ≡ Some (Ask n job) → n ≡ k
same_number k n came job e = let same : Ask k came ≡ Ask n job = same_Some (Ask k came) (Ask n job) e in cc

abbrev is_ask : Option Mark → Type 0
is_ask (Some (Ask n job)) = Unit {0}
is_ask line = ⊥

pub since_ask : (lines : List (Option Mark)) (k : ℕ) (came : Job) → AreSinceStart lines k → AreSinceStart (more lines (Some (Ask k came))) (k + 1)
since_ask lines k came old = record {
  numbers = λ place n job at. elim (got_which lines (Some (Ask k came)) (Some (Ask n job)) place at) [
    | inl before ↦ let below = old.numbers place n job before in omega (arith, below)
    | inr last ↦ let is = same_number k n came job last.1 in omega (arith, is)
  ];
  ask_once = λ place other n job another at there. elim (got_which lines (Some (Ask k came)) (Some (Ask n job)) place at) [
    | inl before ↦ elim (got_which lines (Some (Ask k came)) (Some (Ask n another)) other there) [
      | inl too ↦ old.ask_once place other n job another before too
      | inr last ↦ let below = old.numbers place n job before in let is = same_number k n came another last.1 in absurd (omega (arith, below, is))
    ]
    | inr last ↦ elim (got_which lines (Some (Ask k came)) (Some (Ask n another)) other there) [
      | inl before ↦ let below = old.numbers other n another before in let is = same_number k n came job last.1 in absurd (omega (arith, below, is))
      | inr too ↦ last.0 ∙ sym too.0
    ]
  ];
  no_start = λ place interrupted found opened quota at. elim (got_which lines (Some (Ask k came)) (Some (Restart interrupted found opened quota)) place at) [
    | inl before ↦ old.no_start place interrupted found opened quota before
    | inr last ↦ absurd (subst is_ask last.1 tt)
  ];
}

pub since_late : (lines : List (Option Mark)) (kept : ℕ) (mark : Mark) (next : ℕ) → IsMild mark → slice_get lines kept ≡ Some None → AreSinceStart lines next → AreSinceStart (slice_set lines kept (Some mark)) next
since_late lines kept mark next mild free old =
    let back : (place n : ℕ) (job : Job) → slice_get (slice_set lines kept (Some mark)) place ≡ Some (Some (Ask n job)) → slice_get lines place ≡ Some (Some (Ask n job)) =
    λ place n job at. elim (got_late_which lines kept mark (Ask n job) place free at) [
      | inl before ↦ before
      | inr same ↦ absurd (subst IsMild same mild)
    ] in
    record {
      numbers = λ place n job at. old.numbers place n job (back place n job at);
      ask_once = λ place other n job another at there. old.ask_once place other n job another (back place n job at) (back other n another there);
      no_start = λ place interrupted found opened quota at. elim (got_late_which lines kept mark (Restart interrupted found opened quota) place free at) [
        | inl before ↦ old.no_start place interrupted found opened quota before
        | inr same ↦ absurd (subst IsMild same mild)
      ];
    }

next_of : (lines : List (Option Mark)) (t u : Store) → t ≡ u → AreSinceStart lines u.next → AreSinceStart lines t.next
next_of lines t u e = subst (λ (v : Store). AreSinceStart lines v.next) (sym e)

pub goes_since : (start : AbstractState) (lines : List (Option Mark)) (s t : Store) (mark : Mark) → MayBeLabeled start lines (Says mark) s → RelaxedStep s mark t → AreSinceStart lines s.next → AreSinceStart (more lines (Some mark)) t.next
goes_since start lines s t (Ask k job) may d old =
    next_of (more lines (Some (Ask k job))) t _ d.after (subst (λ m. AreSinceStart (more lines (Some (Ask k job))) (m + 1)) d.is_next (since_ask lines k job (subst (AreSinceStart lines) (sym d.is_next) old)))
goes_since start lines s t (Admit k) may d old = next_of _ t _ d.after (since_more lines (Some (Admit k)) s.next tt old)
goes_since start lines s t (Busy k) may d old = next_of _ t _ d.after (since_more lines (Some (Busy k)) s.next tt old)
goes_since start lines s t (Look k) may d old = next_of _ t _ d.after (since_more lines (Some (Look k)) s.next tt old)
goes_since start lines s t (Miss k index) may d old = next_of _ t _ d.after (since_more lines (Some (Miss k index)) s.next tt old)
goes_since start lines s t (Seal k) may d old = next_of _ t _ d.after (since_more lines (Some (Seal k)) s.next tt old)
goes_since start lines s t (SealFail k) may d old = next_of _ t _ d.after (since_more lines (Some (SealFail k)) s.next tt old)
goes_since start lines s t FileFail may d old = next_of _ t _ d.after (since_more lines (Some FileFail) s.next tt old)
goes_since start lines s t (GiveUp k) may d old = next_of _ t _ d.after (since_more lines (Some (GiveUp k)) s.next tt old)
goes_since start lines s t (Retire k) may d old = next_of _ t _ d.after (since_more lines (Some (Retire k)) s.next tt old)
goes_since start lines s t (HandOut k) may d old = next_of _ t _ d.after (since_more lines (Some (HandOut k)) s.next tt old)
goes_since start lines s t (Restart interrupted found opened quota) may d old = absurd may
