-- In each store alone that simulates a tenant, the change in doubt is that of a request which was answered FAULT, and the
-- words are still those that it fits. Used by: RefusedChangeLaws, StoresOfRuns, WholeChangeLaws.
use Rattle.std.specs.Prelude.{ℕ, ◌≡◌, ◌≢◌, ◌⊎◌, true, false, List, [], Option, Some, None}
use Rattle.std.proofs.Common.{refl, sym, ap, subst, ◌∙◌, inl, inr, arith}
use Rattle.std.proofs.lemmas.Option.{same_Some, none-some}
use Rattle.std.proofs.lemmas.Bool.{cases_eq}
use Rattle.mw_words.specs.declared.jobs.Job.{Job}
use Rattle.mw_words.specs.declared.replies.Reply.TheVariants.{Fault as SaysFault}
use Rattle.mw_words.specs.Change.{fits}
use Rattle.mw_lone.specs.declared.marks.Mark.{Mark}
use Rattle.mw_lone.specs.declared.marks.Mark.TheVariants.{Ask, Admit, Busy, Look, Miss, Seal, SealFail, FileFail, GiveUp, Retire, Reply as HandOut, Restart}
use Rattle.mw_lone.proofs.SoundStores.{get-insert_same, get-insert_other}
use Rattle.mw_lone.specs.Store.{Store, RequestState, request, with_request, entries_of, asked}
use Rattle.mw_law_store.specs.Late.LateMarks.{IsNumbered}
use Rattle.mw_law_store.specs.AbstractStates.{AbstractState}
use Rattle.mw_law_store.specs.HistoryMatches.{MayBeLabeled}
use Rattle.mw_law_store.specs.RelaxedSteps.{StoreLabel, NoLabel, Says, ReservesPlace, MarksLate, RelaxedLabelStep}

-- The change in doubt is that of this request, which was answered FAULT.
pub record IsOfFault (s : Store) : Type 0 where
  pub owner : ℕ
  pub found : RequestState
  pub is_asked : request s owner ≡ Some found
  pub says : found.placed ≡ Some SaysFault
  pub its : entries_of found.job ≡ s.in_doubt
  pub failed : s.faulted ≡ true
  pub fit : fits s.words s.in_doubt ≡ true

-- nothing is in doubt, or a change of such a request
abbrev pub HasFault : Store → Type 0
HasFault s = (s.in_doubt ≡ []) ⊎ IsOfFault s

other_request : (s : Store) (k n : ℕ) (x : RequestState) (o : Option RequestState) → k ≢ n → request s k ≡ o → request (with_request s n x) k ≡ o
other_request s k n x o apart at = get-insert_other s.requests n k x apart ∙ at

-- the owner has a reply, and another request has none
apart_from : (s : Store) (n : ℕ) (r : RequestState) (is : IsOfFault s) → request s n ≡ Some r → r.placed ≡ None → is.owner ≢ n
apart_from s n r is at none same =
    let one : r ≡ is.found = same_Some r is.found (sym at ∙ ap (request s) (sym same) ∙ is.is_asked) in
    none-some SaysFault (sym none ∙ ap (λ (it : RequestState). it.placed) one ∙ is.says)

-- a store that differs in a request that had no reply, or had none before
beside : (s t : Store) (n : ℕ) (x : RequestState) (is : IsOfFault s) → is.owner ≢ n → request t is.owner ≡ request (with_request s n x) is.owner → t.words ≡ s.words → t.in_doubt ≡ s.in_doubt → t.faulted ≡ s.faulted → IsOfFault t
beside s t n x is apart same words doubt faulted = record {
  owner = is.owner;
  found = is.found;
  is_asked = same ∙ other_request s is.owner n x (Some is.found) apart is.is_asked;
  says = is.says;
  its = is.its ∙ sym doubt;
  failed = faulted ∙ is.failed;
  fit = (λ i. fits (words i) (doubt i)) ∙ is.fit;
}

-- a store in which a request was written again, with the same job and reply
again : (s t : Store) (n : ℕ) (found x : RequestState) (is : IsOfFault s) → request s n ≡ Some found → x.placed ≡ found.placed → x.job ≡ found.job
    → ((k : ℕ) → request t k ≡ request (with_request s n x) k) → t.words ≡ s.words → t.in_doubt ≡ s.in_doubt → t.faulted ≡ s.faulted → IsOfFault t
again s t n found x is at placed job same words doubt faulted = elim (cases_eq is.owner n) [
  | inl here ↦
      let one : found ≡ is.found = same_Some found is.found (sym at ∙ ap (request s) (sym here) ∙ is.is_asked) in
      record {
        owner = n;
        found = x;
        is_asked = same n ∙ get-insert_same s.requests n n x refl;
        says = placed ∙ ap (λ (it : RequestState). it.placed) one ∙ is.says;
        its = ap entries_of job ∙ ap (λ (it : RequestState). entries_of it.job) one ∙ is.its ∙ sym doubt;
        failed = faulted ∙ is.failed;
        fit = (λ i. fits (words i) (doubt i)) ∙ is.fit;
      }
  | inr apart ↦ beside s t n x is apart (same is.owner) words doubt faulted
]

-- The change in doubt after a step of the store.

module _ (s t : Store) (numbered : IsNumbered s) where
  -- a request that had no reply was written
  written : (n : ℕ) (found x : RequestState) → request s n ≡ Some found → found.placed ≡ None → ((k : ℕ) → request t k ≡ request (with_request s n x) k) → t.words ≡ s.words → t.in_doubt ≡ s.in_doubt
      → t.faulted ≡ s.faulted → HasFault s → HasFault t
  written n found x at none same words doubt faulted (inl nothing) = inl (doubt ∙ nothing)
  written n found x at none same words doubt faulted (inr is) = inr (beside s t n x is (apart_from s n found is at none) (same is.owner) words doubt faulted)

  written_again : (n : ℕ) (found x : RequestState) → request s n ≡ Some found → x.placed ≡ found.placed → x.job ≡ found.job → ((k : ℕ) → request t k ≡ request (with_request s n x) k) → t.words ≡ s.words
      → t.in_doubt ≡ s.in_doubt → t.faulted ≡ s.faulted → HasFault s → HasFault t
  written_again n found x at placed job same words doubt faulted (inl nothing) = inl (doubt ∙ nothing)
  written_again n found x at placed job same words doubt faulted (inr is) = inr (again s t n found x is at placed job same words doubt faulted)

  -- what needs a file that works finds nothing in doubt
  works : s.faulted ≡ false → t.in_doubt ≡ s.in_doubt → HasFault s → HasFault t
  works file_works doubt (inl nothing) = inl (doubt ∙ nothing)
  works file_works doubt (inr is) = absurd (let failed = is.failed in cc)

  unchanged : t ≡ s → HasFault s → HasFault t
  unchanged same has = subst HasFault (sym same) has

  came : (n : ℕ) (job : Job) → n ≡ s.next → ((k : ℕ) → request t k ≡ request (with_request s n (asked job)) k) → t.words ≡ s.words → t.in_doubt ≡ s.in_doubt → t.faulted ≡ s.faulted → HasFault s → HasFault t
  came n job next same words doubt faulted (inl nothing) = inl (doubt ∙ nothing)
  came n job next same words doubt faulted (inr is) =
      inr (beside s t n (asked job) is (λ one. let below = numbered is.owner is.found is.is_asked in absurd (let e : ⊥ = omega (arith, one, next, below) in e)) (same is.owner) words doubt faulted)

  by_mark : (start : AbstractState) (lines : List (Option Mark)) (mark : Mark) → MayBeLabeled start lines (Says mark) s → RelaxedLabelStep (Says mark) s t → HasFault s → HasFault t
  by_mark start lines (Ask n job) may goes has =
      came n job goes.is_next (λ k. ap (λ (u : Store). request u k) goes.after) (ap (λ (u : Store). u.words) goes.after) (ap (λ (u : Store). u.in_doubt) goes.after) (ap (λ (u : Store). u.faulted) goes.after) has
  by_mark start lines (Admit n) may goes has =
      written n goes.found _ goes.waits.is_asked goes.waits.has_no_reply (λ k. ap (λ (u : Store). request u k) goes.after) (ap (λ (u : Store). u.words) goes.after) (ap (λ (u : Store). u.in_doubt) goes.after)
      (ap (λ (u : Store). u.faulted) goes.after) has
  by_mark start lines (Busy n) may goes has =
      written n goes.found _ goes.waits.is_asked goes.waits.has_no_reply (λ k. ap (λ (u : Store). request u k) goes.after) (ap (λ (u : Store). u.words) goes.after) (ap (λ (u : Store). u.in_doubt) goes.after)
      (ap (λ (u : Store). u.faulted) goes.after) has
  by_mark start lines (Look n) may goes has =
      written n goes.found _ goes.is_asked goes.has_no_reply (λ k. ap (λ (u : Store). request u k) goes.after) (ap (λ (u : Store). u.words) goes.after) (ap (λ (u : Store). u.in_doubt) goes.after)
      (ap (λ (u : Store). u.faulted) goes.after) has
  by_mark start lines (Miss n index) may goes has =
      written n goes.found _ goes.is_asked goes.has_no_reply (λ k. ap (λ (u : Store). request u k) goes.after) (ap (λ (u : Store). u.words) goes.after) (ap (λ (u : Store). u.in_doubt) goes.after)
      (ap (λ (u : Store). u.faulted) goes.after) has
  by_mark start lines (Seal n) may goes has = works goes.can_be_written.file_works (ap (λ (u : Store). u.in_doubt) goes.after) has
  by_mark start lines (SealFail n) may goes has =
      let found : RequestState = record goes.found { placed = Some SaysFault } in
      let doubt : t.in_doubt ≡ entries_of goes.found.job = ap (λ (u : Store). u.in_doubt) goes.after in
      let words : t.words ≡ s.words = ap (λ (u : Store). u.words) goes.after in
      inr (record {
        owner = n;
        found = found;
        is_asked = ap (λ (u : Store). request u n) goes.after ∙ get-insert_same s.requests n n found refl;
        says = refl;
        its = sym doubt;
        failed = ap (λ (u : Store). u.faulted) goes.after;
        fit = (λ i. fits (words i) (doubt i)) ∙ goes.can_be_written.as_expected;
      })
  by_mark start lines FileFail may goes has = works goes.file_works (ap (λ (u : Store). u.in_doubt) goes.after) has
  by_mark start lines (GiveUp n) may goes has =
      written n goes.found _ goes.is_asked goes.has_no_reply (λ k. ap (λ (u : Store). request u k) goes.after) (ap (λ (u : Store). u.words) goes.after) (ap (λ (u : Store). u.in_doubt) goes.after)
      (ap (λ (u : Store). u.faulted) goes.after) has
  by_mark start lines (Retire n) may goes has =
      written_again n goes.found (record goes.found { retired = true }) goes.is_asked refl refl (λ k. ap (λ (u : Store). request u k) goes.after) (ap (λ (u : Store). u.words) goes.after)
      (ap (λ (u : Store). u.in_doubt) goes.after) (ap (λ (u : Store). u.faulted) goes.after) has
  by_mark start lines (HandOut n) may goes has =
      written_again n goes.found (record goes.found { handed = true }) goes.is_asked refl refl (λ k. ap (λ (u : Store). request u k) goes.after) (ap (λ (u : Store). u.words) goes.after)
      (ap (λ (u : Store). u.in_doubt) goes.after) (ap (λ (u : Store). u.faulted) goes.after) has
  by_mark start lines (Restart interrupted take opened quota) may goes has = absurd may

  pub fault_stays : (start : AbstractState) (lines : List (Option Mark)) (says : StoreLabel) → MayBeLabeled start lines says s → RelaxedLabelStep says s t → HasFault s → HasFault t
  fault_stays start lines NoLabel may goes has = unchanged goes has
  fault_stays start lines (Says mark) may goes has = by_mark start lines mark may goes has
  fault_stays start lines ReservesPlace may goes has = unchanged goes has
  fault_stays start lines (MarksLate place mark n reply) may goes has =
      written n goes.found _ goes.is_open.is_asked goes.is_open.has_no_reply (λ k. ap (λ (u : Store). request u k) goes.after) (ap (λ (u : Store). u.words) goes.after) (ap (λ (u : Store). u.in_doubt) goes.after)
      (ap (λ (u : Store). u.faulted) goes.after) has
