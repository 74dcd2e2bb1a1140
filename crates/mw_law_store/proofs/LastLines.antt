-- If a line is added to a tenant's history that is about one request or none, the history still matches the store alone.
-- Used by: Histories, HistoryMatchLaws, Started, among others.
use Rattle.std.specs.Prelude.{ℕ, true, ◌+◌, ◌≡◌, List, [], ◌∷◌, length, Option, Some, None}
use Rattle.std.specs.FinMap as map
use Rattle.std.proofs.Common.{refl, sym, ap, subst, ◌∙◌, inl, inr, arith}
use Rattle.std.proofs.lemmas.Bool.{cases_eq}
use Rattle.std.proofs.lemmas.List.{length-append}
use Rattle.std.proofs.lemmas.Option.{same_Some, none-some}
use Rattle.mw_words.specs.declared.replies.Reply.{Reply}
use Rattle.mw_words.specs.declared.replies.Reply.TheVariants.{Yes as SaysYes}
use Rattle.mw_words.specs.Change.{fits, word_at}
use Rattle.mw_lone.specs.declared.marks.Mark.{Mark}
use Rattle.mw_lone.specs.declared.marks.Mark.TheVariants.{Seal}
use Rattle.mw_lone.specs.Store.{Store, RequestState, request}
use Rattle.mw_lone.proofs.SoundStores.{Requests, get-insert_same, get-insert_other}
use Rattle.mw_law_store.specs.Late.LateMarks.{more}
use Rattle.mw_law_store.specs.AbstractStates.{AbstractState, after_mark, after_line, abstract_state_of, abstract_state_at, IsAskedBefore, HasPlace}
use Rattle.mw_law_store.specs.HistoryMatches.{HistoryMatch, AreSinceStart, IsSealedIn}
use Rattle.mw_law_store.proofs.AbstractStateLaws.{abstract_state_more, abstract_state_all, abstract_state_before, got_within, got_which}
use Rattle.mw_law_store.proofs.PlacesAfterLine.{asked_before, asked_on, has_place_before}
use Rattle.mw_law_store.proofs.SinceStart.{since_more}
use Rattle.mw_law_store.proofs.StoresOfStates.{Tells, which_request}

pub length_more : (lines : List (Option Mark)) (line : Option Mark) → length (more lines line) ≡ length lines + 1
length_more lines line = length-append lines (line ∷ [])

-- the line at the end is another one
pub other_line : (mark other : Mark) → (mark ≡ other → ⊥) → Some mark ≡ Some other → ⊥
other_line mark other apart e = apart (same_Some mark other e)

pub history_match_tells : (start : AbstractState) (lines : List (Option Mark)) (s : Store) → HistoryMatch start lines s → Tells (abstract_state_of start lines) s
history_match_tells start lines s r = record { words = r.words; doubt = r.doubt; entries = r.entries }

-- what was asked before the end was asked before the end of more lines
asked_by_end : (lines : List (Option Mark)) (line : Option Mark) (n : ℕ) → IsAskedBefore lines (length lines) n → IsAskedBefore (more lines line) (length (more lines line)) n
asked_by_end lines line n is_asked =
    let longer = length_more lines line in
    asked_on (more lines line) (length lines) (length (more lines line)) n (omega (arith, longer)) (asked_before lines line (length lines) n is_asked)

-- a sealed request stays sealed if another one is written, or if it still has YES
pub sealed_stays : (s : Store) (k n : ℕ) (y : RequestState) → (IsSealedIn s k → y.placed ≡ Some SaysYes) → IsSealedIn s n → (r : RequestState) × (map.get (map.insert s.requests k y) n ≡ Some r) × (r.placed ≡ Some SaysYes)
sealed_stays s k n y stays is = elim (cases_eq n k) [
  | inl same ↦ (y, get-insert_same s.requests k n y same, stays (subst (IsSealedIn s) same is))
  | inr other ↦ (is.found, get-insert_other s.requests k n y other ∙ is.is_asked, is.has_reply)
]

-- A mark that is a seal is of this request, which has YES afterwards, and its entries fit the words.
pub record SealsHere (start : AbstractState) (lines : List (Option Mark)) (k n : ℕ) (y : RequestState) : Type 0 where
  pub same : n ≡ k
  pub has_reply : y.placed ≡ Some SaysYes
  pub as_expected : fits (abstract_state_of start lines).words ((abstract_state_of start lines).entries n) ≡ true

-- A mark at the end writes one request.
pub one_written : (start : AbstractState) (lines : List (Option Mark)) (mark : Mark) (s t : Store) (k : ℕ) (y : RequestState) → HistoryMatch start lines s → t.requests ≡ map.insert s.requests k y
    → Tells (after_mark (abstract_state_of start lines) mark) t → IsAskedBefore (more lines (Some mark)) (length (more lines (Some mark))) k
    → ((reply : Reply) → y.placed ≡ Some reply → HasPlace start (more lines (Some mark)) k y.job reply) → (IsSealedIn s k → y.placed ≡ Some SaysYes)
    → ((n : ℕ) → mark ≡ Seal n → SealsHere start lines k n y) → AreSinceStart (more lines (Some mark)) t.next → HistoryMatch start (more lines (Some mark)) t
one_written start lines mark s t k y history_match after tells its_ask its_place stays seals since =
    let at_end = abstract_state_more start lines (Some mark) in
    record {
      words = ap (λ (now : AbstractState). now.words) at_end ∙ tells.words;
      doubt = ap (λ (now : AbstractState). now.doubt) at_end ∙ tells.doubt;
      entries = λ n r at. ap (λ (now : AbstractState). now.entries n) at_end ∙ tells.entries n r at;
      asked = λ n r at. elim (which_request s.requests k n y r (sym (ap (λ (m : Requests). map.get m n) after) ∙ at)) [
        | inl it ↦ subst (IsAskedBefore (more lines (Some mark)) (length (more lines (Some mark)))) (sym it.0) its_ask
        | inr other ↦ asked_by_end lines (Some mark) n (history_match.asked n r other.1)
      ];
      places = λ n r reply at placed. elim (which_request s.requests k n y r (sym (ap (λ (m : Requests). map.get m n) after) ∙ at)) [
        | inl it ↦
            let mine = its_place reply (ap (λ (x : RequestState). x.placed) it.1 ∙ placed) in
            subst (λ q. HasPlace start (more lines (Some mark)) q r.job reply) (sym it.0) (subst (λ (x : RequestState). HasPlace start (more lines (Some mark)) k x.job reply) it.1 mine)
        | inr other ↦
            has_place_before start lines (Some mark) n r.job reply (λ m is same. other.0 (sym same ∙ (seals m (same_Some mark (Seal m) is)).same)) (history_match.places n r reply other.1 placed)
      ];
      sealed = λ place n at. elim (got_which lines (Some mark) (Some (Seal n)) place at) [
        | inl before ↦
            let there = sealed_stays s k n y stays (history_match.sealed place n before) in
            record { found = there.0; is_asked = ap (λ (m : Requests). map.get m n) after ∙ there.1; has_reply = there.2 }
        | inr last ↦
            let here = seals n (same_Some mark (Seal n) last.1) in
            record { found = y; is_asked = ap (λ (m : Requests). map.get m n) after ∙ get-insert_same s.requests k n y here.same; has_reply = here.has_reply }
      ];
      fit = λ place n at. elim (got_which lines (Some mark) (Some (Seal n)) place at) [
        | inl before ↦
            let within = got_within lines _ place before in
            ap (λ (now : AbstractState). fits now.words (now.entries n)) (abstract_state_before start lines (Some mark) place (omega (arith, within))) ∙ history_match.fit place n before
        | inr last ↦
            let here = seals n (same_Some mark (Seal n) last.1) in
            ap (λ (now : AbstractState). fits now.words (now.entries n))
            (ap (abstract_state_at start (more lines (Some mark))) last.0 ∙ abstract_state_before start lines (Some mark) (length lines) (omega arith) ∙ abstract_state_all start lines)
            ∙ here.as_expected
      ];
      since = since;
    }

-- the mark is not a seal
pub no_seal : (start : AbstractState) (lines : List (Option Mark)) (mark : Mark) (k : ℕ) (y : RequestState) → ((n : ℕ) → mark ≡ Seal n → ⊥) → (n : ℕ) → mark ≡ Seal n → SealsHere start lines k n y
no_seal start lines mark k y apart n e = absurd (apart n e)

-- A line at the end changes neither the abstract state nor a request.
pub quiet : (start : AbstractState) (lines : List (Option Mark)) (line : Option Mark) (s t : Store) → after_line (abstract_state_of start lines) line ≡ abstract_state_of start lines → ((n : ℕ) → line ≡ Some (Seal n) → ⊥)
    → t.words ≡ s.words → t.in_doubt ≡ s.in_doubt → t.requests ≡ s.requests → AreSinceStart (more lines line) t.next → HistoryMatch start lines s → HistoryMatch start (more lines line) t
quiet start lines line s t still apart words doubt requests since history_match =
    let at_end : abstract_state_of start (more lines line) ≡ abstract_state_of start lines = abstract_state_more start lines line ∙ still in
    let back = λ (n : ℕ). ap (λ (m : Requests). map.get m n) requests in
    record {
      words = ap (λ (now : AbstractState). now.words) at_end ∙ history_match.words ∙ sym words;
      doubt = ap (λ (now : AbstractState). now.doubt) at_end ∙ history_match.doubt ∙ sym doubt;
      entries = λ n r at. ap (λ (now : AbstractState). now.entries n) at_end ∙ history_match.entries n r (sym (back n) ∙ at);
      asked = λ n r at. asked_by_end lines line n (history_match.asked n r (sym (back n) ∙ at));
      places = λ n r reply at placed. has_place_before start lines line n r.job reply (λ m is same. apart m is) (history_match.places n r reply (sym (back n) ∙ at) placed);
      sealed = λ place n at. elim (got_which lines line (Some (Seal n)) place at) [
        | inl before ↦ let there = history_match.sealed place n before in record { found = there.found; is_asked = back n ∙ there.is_asked; has_reply = there.has_reply }
        | inr last ↦ absurd (apart n last.1)
      ];
      fit = λ place n at. elim (got_which lines line (Some (Seal n)) place at) [
        | inl before ↦
            let within = got_within lines _ place before in
            ap (λ (now : AbstractState). fits now.words (now.entries n)) (abstract_state_before start lines line place (omega (arith, within))) ∙ history_match.fit place n before
        | inr last ↦ absurd (apart n last.1)
      ];
      since = since;
    }

pub keeps_history_match : (start : AbstractState) (lines : List (Option Mark)) (s : Store) → HistoryMatch start lines s → HistoryMatch start (more lines None) s
keeps_history_match start lines s history_match = quiet start lines None s s refl (λ n e. none-some (Seal n) e) refl refl refl (since_more lines None s.next tt history_match.since) history_match

-- A request that was asked is written.

-- its reply stays
pub restated : (start : AbstractState) (lines : List (Option Mark)) (mark : Mark) (s t : Store) (k : ℕ) (found y : RequestState) → HistoryMatch start lines s → request s k ≡ Some found → t.requests ≡ map.insert s.requests k y
    → y.job ≡ found.job → y.placed ≡ found.placed → ((n : ℕ) → mark ≡ Seal n → ⊥) → Tells (after_mark (abstract_state_of start lines) mark) t → AreSinceStart (more lines (Some mark)) t.next → HistoryMatch start (more lines (Some mark)) t
restated start lines mark s t k found y history_match is_asked after same_job same_reply apart tells since =
    one_written start lines mark s t k y history_match after tells (asked_by_end lines (Some mark) k (history_match.asked k found is_asked))
    (λ reply placed. subst (λ job. HasPlace start (more lines (Some mark)) k job reply) (sym same_job)
    (has_place_before start lines (Some mark) k found.job reply (λ m is same. apart m (same_Some mark (Seal m) is)) (history_match.places k found reply is_asked (sym same_reply ∙ placed))))
    (λ is. same_reply ∙ ap (λ (x : RequestState). x.placed) (same_Some found is.found (sym is_asked ∙ is.is_asked)) ∙ is.has_reply)
    (no_seal start lines mark k y apart) since

-- a request without a reply was not sealed
pub not_sealed : (s : Store) (k : ℕ) (found : RequestState) → request s k ≡ Some found → found.placed ≡ None → IsSealedIn s k → ⊥
not_sealed s k found is_asked none is = none-some SaysYes (sym none ∙ ap (λ (x : RequestState). x.placed) (same_Some found is.found (sym is_asked ∙ is.is_asked)) ∙ is.has_reply)

-- it gets its reply, which has its place
pub answered : (start : AbstractState) (lines : List (Option Mark)) (mark : Mark) (s t : Store) (k : ℕ) (found : RequestState) (reply : Reply) → HistoryMatch start lines s → request s k ≡ Some found → found.placed ≡ None
    → t.requests ≡ map.insert s.requests k (record found { placed = Some reply }) → Tells (after_mark (abstract_state_of start lines) mark) t → HasPlace start (more lines (Some mark)) k found.job reply
    → ((n : ℕ) → mark ≡ Seal n → SealsHere start lines k n (record found { placed = Some reply })) → AreSinceStart (more lines (Some mark)) t.next → HistoryMatch start (more lines (Some mark)) t
answered start lines mark s t k found reply history_match is_asked none after tells place seals since =
    one_written start lines mark s t k (record found { placed = Some reply }) history_match after tells (asked_by_end lines (Some mark) k (history_match.asked k found is_asked))
    (λ said placed. subst (λ is. HasPlace start (more lines (Some mark)) k found.job is) (same_Some reply said placed) place)
    (λ is. absurd (not_sealed s k found is_asked none is))
    seals since

-- the abstract state before the last line
pub last_abstract_state : (start : AbstractState) (lines : List (Option Mark)) (line : Option Mark) → abstract_state_at start (more lines line) (length lines) ≡ abstract_state_of start lines
last_abstract_state start lines line = abstract_state_before start lines line (length lines) (omega arith) ∙ abstract_state_all start lines

pub word_at_end : (start : AbstractState) (lines : List (Option Mark)) (line : Option Mark) (s : Store) (address : ℕ) → HistoryMatch start lines s → word_at (abstract_state_at start (more lines line) (length lines)).words address ≡ word_at s.words address
word_at_end start lines line s address history_match = ap (λ (now : AbstractState). word_at now.words address) (last_abstract_state start lines line) ∙ ap (λ words. word_at words address) history_match.words
