-- If a tenant's history matches a store alone (`HistoryMatches`), it still does after both take the next step, for each kind
-- of step.
-- Used by: labels_keep_history_match.
use Rattle.std.specs.Prelude.{ℕ, ◌≡◌, List, [], length, slice_get, slice_set, Option, Some, None}
use Rattle.std.proofs.Common.{refl, sym, ap, subst, ◌∙◌, inl, inr, arith}
use Rattle.std.proofs.lemmas.List.{length-set}
use Rattle.std.proofs.lemmas.Option.{same_Some, none-some}
use Rattle.mw_words.specs.declared.jobs.Job.{Job}
use Rattle.mw_words.specs.declared.replies.Reply.{Reply}
use Rattle.mw_words.specs.declared.replies.Reply.TheVariants.{Val, Yes as SaysYes, No as SaysNo, Busy as SaysBusy, Fault as SaysFault}
use Rattle.mw_words.specs.Change.{fits, word_at}
use Rattle.mw_lone.specs.declared.marks.Mark.{Mark}
use Rattle.mw_lone.specs.declared.marks.Mark.TheVariants.{Ask, Admit, Busy, Look, Miss, Seal, SealFail, FileFail, GiveUp, Retire, Reply as HandOut, Restart}
use Rattle.mw_lone.specs.Store.{Store, RequestState, request, asked, with_reply, entries_of}
use Rattle.mw_law_store.specs.Late.MarkEffects.{Looks, Misses, Writes}
use Rattle.mw_law_store.specs.Late.LateMarks.{more, IsNumbered}
use Rattle.mw_law_store.specs.RelaxedSteps.{NoLabel, Says, ReservesPlace, MarksLate, RelaxedStep, Decides}
use Rattle.mw_law_store.specs.Laws.{LabelsKeepHistoryMatch}
use Rattle.mw_law_store.specs.AbstractStates.{AbstractState, after_mark, abstract_state_of, IsAskedBefore, CouldCome, HasPlace}
use Rattle.mw_law_store.specs.HistoryMatches.{HistoryMatch, AreSinceStart, MayBeLabeled}
use Rattle.mw_law_store.proofs.AbstractStateLaws.{abstract_state_late, late_all, IsMild, got_last, got_which, got_there, got_late_which}
use Rattle.mw_law_store.proofs.PlacesAfterLine.{asked_before, asked_late, by_coming, coming_is_mild, look_late, miss_late, has_place_late}
use Rattle.mw_law_store.proofs.SinceStart.{none_since, since_late, goes_since}
use Rattle.mw_law_store.proofs.StoresOfStates.{Tells, which_request, goes_tells, written_tells}
use Rattle.mw_law_store.proofs.LastLines.{length_more, other_line, history_match_tells, sealed_stays, SealsHere, one_written, no_seal, quiet, keeps_history_match, restated, not_sealed, answered, last_abstract_state, word_at_end}

look_place : (start : AbstractState) (lines : List (Option Mark)) (s t : Store) (k : ℕ) (d : Looks s k t) → HistoryMatch start lines s → HasPlace start (more lines (Some (Look k))) k d.found.job (Val (word_at s.words d.address))
look_place start lines s t k d history_match = record {
  place = length lines;
  is = got_last lines (Some (Look k));
  could = record {
    asked = asked_before lines (Some (Look k)) (length lines) k (history_match.asked k d.found d.is_asked);
    address = d.address;
    reads = d.reads;
    says = word_at_end start lines (Some (Look k)) s d.address history_match;
  };
}

miss_place : (start : AbstractState) (lines : List (Option Mark)) (s t : Store) (k index : ℕ) (d : Misses s k index t) → HistoryMatch start lines s
    → HasPlace start (more lines (Some (Miss k index))) k d.found.job (SaysNo d.entry.addr (word_at s.words d.entry.addr))
miss_place start lines s t k index d history_match = record {
  place = length lines;
  index = index;
  is = got_last lines (Some (Miss k index));
  could = record {
    asked = asked_before lines (Some (Miss k index)) (length lines) k (history_match.asked k d.found d.is_asked);
    entry = d.entry;
    is_entry = d.is_entry;
    same_address = refl;
    says = word_at_end start lines (Some (Miss k index)) s d.entry.addr history_match;
    differs = d.differs;
  };
}

seal_place : (start : AbstractState) (lines : List (Option Mark)) (s t : Store) (k : ℕ) (d : Writes s k t) → HistoryMatch start lines s → HasPlace start (more lines (Some (Seal k))) k d.found.job SaysYes
seal_place start lines s t k d history_match = record {
  place = length lines;
  is = got_last lines (Some (Seal k));
  asked = asked_before lines (Some (Seal k)) (length lines) k (history_match.asked k d.found d.can_be_written.is_asked);
  its_entries = ap (λ (now : AbstractState). now.entries k) (last_abstract_state start lines (Some (Seal k))) ∙ history_match.entries k d.found d.can_be_written.is_asked;
  once = λ other at. elim (got_which lines (Some (Seal k)) (Some (Seal k)) other at) [
    | inl before ↦ absurd (not_sealed s k d.found d.can_be_written.is_asked d.can_be_written.has_no_reply (history_match.sealed other k before))
    | inr last ↦ last.0
  ];
}

same_request : (k n : ℕ) → Seal k ≡ Seal n → n ≡ k
same_request k n e = cc

seals_here : (start : AbstractState) (lines : List (Option Mark)) (s t : Store) (k : ℕ) (d : Writes s k t) → HistoryMatch start lines s → (n : ℕ) → Seal k ≡ Seal n → SealsHere start lines k n (record d.found { placed = Some SaysYes })
seals_here start lines s t k d history_match n e = record {
  same = same_request k n e;
  has_reply = refl;
  as_expected =
      ap (λ m. fits (abstract_state_of start lines).words ((abstract_state_of start lines).entries m)) (same_request k n e)
      ∙ ap (λ words. fits words ((abstract_state_of start lines).entries k)) history_match.words
      ∙ ap (fits s.words) (history_match.entries k d.found d.can_be_written.is_asked)
      ∙ d.can_be_written.as_expected;
}

requests_of : (t u : Store) → t ≡ u → t.requests ≡ u.requests
requests_of t u e = ap (λ (v : Store). v.requests) e

-- a request that comes gets a number that no request has
asks_history_match : (start : AbstractState) (lines : List (Option Mark)) (k : ℕ) (job : Job) (s t : Store) → IsNumbered s → HistoryMatch start lines s → RelaxedStep s (Ask k job) t → HistoryMatch start (more lines (Some (Ask k job))) t
asks_history_match start lines k job s t numbered history_match d =
    let tells = goes_tells (abstract_state_of start lines) s t (Ask k job) d (history_match_tells start lines s history_match) in
    let longer = length_more lines (Some (Ask k job)) in
    let is_next = d.is_next in
    one_written start lines (Ask k job) s t k (asked job) history_match (requests_of t _ d.after) tells
    (record { ask = length lines; job = job; is_asked = got_last lines (Some (Ask k job)); before = omega (arith, longer) })
    (λ reply placed. absurd (none-some reply placed))
    (λ is. let below = numbered k is.found is.is_asked in absurd (omega (arith, below, is_next)))
    (no_seal start lines (Ask k job) k (asked job) (λ n e. cc))
    (goes_since start lines s t (Ask k job) tt d history_match.since)

pub says_history_match : (start : AbstractState) (lines : List (Option Mark)) (mark : Mark) (s t : Store) → IsNumbered s → HistoryMatch start lines s → MayBeLabeled start lines (Says mark) s → RelaxedStep s mark t → HistoryMatch start (more lines (Some mark)) t
says_history_match start lines mark s t numbered history_match may d = by mark may d (goes_tells (abstract_state_of start lines) s t mark d (history_match_tells start lines s history_match)) (goes_since start lines s t mark may d history_match.since) where
  by : (mark : Mark) → MayBeLabeled start lines (Says mark) s → RelaxedStep s mark t → Tells (after_mark (abstract_state_of start lines) mark) t → AreSinceStart (more lines (Some mark)) t.next → HistoryMatch start (more lines (Some mark)) t
  by (Ask k job) may d tells since = asks_history_match start lines k job s t numbered history_match d
  by (Admit k) may d tells since = restated start lines (Admit k) s t k d.found _ history_match d.waits.is_asked (requests_of t _ d.after) refl refl (λ n e. cc) tells since
  by (Busy k) may d tells since = answered start lines (Busy k) s t k d.found SaysBusy history_match d.waits.is_asked d.waits.has_no_reply (requests_of t _ d.after) tells tt (no_seal start lines (Busy k) k _ (λ n e. cc)) since
  by (Look k) may d tells since = answered start lines (Look k) s t k d.found _ history_match d.is_asked d.has_no_reply (requests_of t _ d.after) tells (look_place start lines s t k d history_match) (no_seal start lines (Look k) k _ (λ n e. cc)) since
  by (Miss k index) may d tells since =
      answered start lines (Miss k index) s t k d.found _ history_match d.is_asked d.has_no_reply (requests_of t _ d.after) tells (miss_place start lines s t k index d history_match) (no_seal start lines (Miss k index) k _ (λ n e. cc)) since
  by (Seal k) may d tells since =
      answered start lines (Seal k) s t k d.found SaysYes history_match d.can_be_written.is_asked d.can_be_written.has_no_reply (requests_of t _ d.after) tells (seal_place start lines s t k d history_match) (seals_here start lines s t k d history_match) since
  by (SealFail k) may d tells since =
      answered start lines (SealFail k) s t k d.found SaysFault history_match d.can_be_written.is_asked d.can_be_written.has_no_reply (requests_of t _ d.after) tells tt (no_seal start lines (SealFail k) k _ (λ n e. cc)) since
  by FileFail may d tells since =
      quiet start lines (Some FileFail) s t refl (λ n e. other_line FileFail (Seal n) (λ f. cc) e) (ap (λ (v : Store). v.words) d.after) (ap (λ (v : Store). v.in_doubt) d.after) (requests_of t _ d.after) since history_match
  by (GiveUp k) may d tells since = answered start lines (GiveUp k) s t k d.found SaysFault history_match d.is_asked d.has_no_reply (requests_of t _ d.after) tells tt (no_seal start lines (GiveUp k) k _ (λ n e. cc)) since
  by (Retire k) may d tells since = restated start lines (Retire k) s t k d.found _ history_match d.is_asked (requests_of t _ d.after) refl refl (λ n e. cc) tells since
  by (HandOut k) may d tells since = restated start lines (HandOut k) s t k d.found _ history_match d.is_asked (requests_of t _ d.after) refl refl (λ n e. cc) tells since
  by (Restart interrupted found opened quota) may d tells since = absurd may

-- A mark that comes late.

length_late : (lines : List (Option Mark)) (kept : ℕ) (line : Option Mark) → length (slice_set lines kept line) ≡ length lines
length_late lines kept line = length-set lines kept line

place_there : (start : AbstractState) (lines : List (Option Mark)) (place : ℕ) (mark : Mark) (n : ℕ) (job : Job) (reply : Reply) → slice_get lines place ≡ Some None → CouldCome start lines place mark n job reply
    → HasPlace start (slice_set lines place (Some mark)) n job reply
place_there start lines place mark n job reply free could = by_coming start lines place mark n job reply (λ came says. HasPlace start (slice_set lines place (Some came)) n job says)
    (λ k value is looks. record {
      place = place;
      is = got_there lines place (Look k) free ∙ ap (λ m. Some (Some (Look m))) is;
      could = look_late start lines place (Look k) place n job value tt free looks;
    })
    (λ k index address value is misses. record {
      place = place;
      index = index;
      is = got_there lines place (Miss k index) free ∙ ap (λ m. Some (Some (Miss m index))) is;
      could = miss_late start lines place (Miss k index) place n (entries_of job) index address value tt free misses;
    })
    could

-- a late mark is not a seal
seal_was_there : (lines : List (Option Mark)) (place : ℕ) (mark : Mark) (other n : ℕ) → IsMild mark → slice_get lines place ≡ Some None → slice_get (slice_set lines place (Some mark)) other ≡ Some (Some (Seal n))
    → slice_get lines other ≡ Some (Some (Seal n))
seal_was_there lines place mark other n mild free at = elim (got_late_which lines place mark (Seal n) other free at) [
  | inl before ↦ before
  | inr same ↦ absurd (subst IsMild same mild)
]

decided_history_match : (start : AbstractState) (lines : List (Option Mark)) (place : ℕ) (mark : Mark) (k : ℕ) (found : RequestState) (reply : Reply) (s : Store) → HistoryMatch start lines s → slice_get lines place ≡ Some None → request s k ≡ Some found
    → found.placed ≡ None → CouldCome start lines place mark k found.job reply → HistoryMatch start (slice_set lines place (Some mark)) (with_reply s k found reply)
decided_history_match start lines place mark k found reply s history_match free is_asked none could =
    let mild = coming_is_mild start lines place mark k found.job reply could in
    let at_end = late_all start lines place mark mild free in
    let y : RequestState = record found { placed = Some reply } in
    let as_long = sym (length_late lines place (Some mark)) in
    let tells = written_tells (abstract_state_of start lines) s (with_reply s k found reply) (with_reply s k found reply) k found y refl refl refl refl is_asked refl (history_match_tells start lines s history_match) in
    record {
      words = ap (λ (now : AbstractState). now.words) at_end ∙ tells.words;
      doubt = ap (λ (now : AbstractState). now.doubt) at_end ∙ tells.doubt;
      entries = λ n r at. ap (λ (now : AbstractState). now.entries n) at_end ∙ tells.entries n r at;
      asked = λ n r at.
          let was : IsAskedBefore lines (length lines) n = elim (which_request s.requests k n y r at) [
            | inl it ↦ subst (IsAskedBefore lines (length lines)) (sym it.0) (history_match.asked k found is_asked)
            | inr other ↦ history_match.asked n r other.1
          ] in
          subst (λ last. IsAskedBefore (slice_set lines place (Some mark)) last n) as_long (asked_late lines place (length lines) n mark free was);
      places = λ n r said at placed. elim (which_request s.requests k n y r at) [
        | inl it ↦
            let same : reply ≡ said = same_Some reply said (ap (λ (x : RequestState). x.placed) it.1 ∙ placed) in
            let mine = place_there start lines place mark k found.job reply free could in
            subst (λ q. HasPlace start (slice_set lines place (Some mark)) q r.job said) (sym it.0)
            (subst (λ is. HasPlace start (slice_set lines place (Some mark)) k r.job is) same
            (subst (λ (x : RequestState). HasPlace start (slice_set lines place (Some mark)) k x.job reply) it.1 mine))
        | inr other ↦ has_place_late start lines place mark n r.job said mild free (history_match.places n r said other.1 placed)
      ];
      sealed = λ other n at.
          let there = sealed_stays s k n y (λ is. absurd (not_sealed s k found is_asked none is)) (history_match.sealed other n (seal_was_there lines place mark other n mild free at)) in
          record { found = there.0; is_asked = there.1; has_reply = there.2 };
      fit = λ other n at.
          ap (λ (now : AbstractState). fits now.words (now.entries n)) (abstract_state_late start lines place mark other mild free) ∙ history_match.fit other n (seal_was_there lines place mark other n mild free at);
      since = since_late lines place mark s.next mild free history_match.since;
    }

pub late_history_match : (start : AbstractState) (lines : List (Option Mark)) (place : ℕ) (mark : Mark) (n : ℕ) (reply : Reply) (s t : Store) → HistoryMatch start lines s
    → MayBeLabeled start lines (MarksLate place mark n reply) s → Decides s n reply t → HistoryMatch start (slice_set lines place (Some mark)) t
late_history_match start lines place mark n reply s t history_match may d =
    subst (HistoryMatch start (slice_set lines place (Some mark))) (sym d.after)
    (decided_history_match start lines place mark n d.found reply s history_match may.0 d.is_open.is_asked d.is_open.has_no_reply (may.1 d.found d.is_open.is_asked))

pub labels_keep_history_match : LabelsKeepHistoryMatch
labels_keep_history_match start lines NoLabel s t numbered history_match may goes = subst (HistoryMatch start lines) (sym goes) history_match
labels_keep_history_match start lines (Says mark) s t numbered history_match may goes = says_history_match start lines mark s t numbered history_match may goes
labels_keep_history_match start lines ReservesPlace s t numbered history_match may goes = subst (HistoryMatch start (more lines None)) (sym goes) (keeps_history_match start lines s history_match)
labels_keep_history_match start lines (MarksLate place mark n reply) s t numbered history_match may goes = late_history_match start lines place mark n reply s t history_match may goes

-- an empty list of lines matches a store without requests, if it starts from the store's words
pub nothing_history_match : (start : AbstractState) (store : Store) → start.words ≡ store.words → start.doubt ≡ store.in_doubt → ((n : ℕ) (r : RequestState) → request store n ≡ Some r → ⊥) → HistoryMatch start [] store
nothing_history_match start store words doubt none = record {
  words = words;
  doubt = doubt;
  entries = λ n r at. absurd (none n r at);
  asked = λ n r at. absurd (none n r at);
  places = λ n r reply at placed. absurd (none n r at);
  sealed = λ place n at. absurd (none-some (Some (Seal n)) at);
  fit = λ place n at. absurd (none-some (Some (Seal n)) at);
  since = none_since store.next;
}
