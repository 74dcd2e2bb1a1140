-- A place reserved in a history for a late mark stays reserved when a line is added or another late mark is put in.
-- Used by: places_stay_reserved.
use Rattle.std.proofs.Common.{◌≡◌, ◌≢◌, ℕ, zero, suc, List, [], ◌∷◌, ◌++◌, length, take, drop, refl, sym, ap, subst, ◌∙◌, arith, Option, Some, None, inl, inr}
use Rattle.std.specs.Prelude.{slice_set}
use Rattle.std.proofs.Math.Seq.{take-append_seam}
use Rattle.std.proofs.lemmas.Bool.{cases_eq}
use Rattle.std.proofs.lemmas.List.{take-append-le}
use Rattle.std.proofs.lemmas.Option.{same_Some, none-some, option_and_then_some, slice_get_within}
use Rattle.std.specs.List.{slice_get}
use Rattle.std.specs.Option.{option_and_then}
use Rattle.mw_words.specs.declared.replies.Reply.{Reply}
use Rattle.mw_lone.specs.declared.marks.Mark.{Mark}
use Rattle.mw_lone.specs.declared.marks.Mark.TheVariants.{Ask, Admit, Busy, Look, Miss, Seal, SealFail, FileFail, GiveUp, Retire, Reply as HandOut, Restart}
use Rattle.mw_lone.proofs.SoundStores.{get-insert_same, get-insert_other}
use Rattle.mw_lone.specs.Store.{Store, RequestState, request, with_reply, entries_of, step, run}
use Rattle.mw_law_store.specs.Late.LateMarks.{marks_in, IsNumbered, Reads, Differs, WouldAnswer}
use Rattle.mw_law_store.specs.Late.Laws.{PlaceIsReserved, ReservedBesideALine, ReservedBesideALateMark}
use Rattle.mw_law_store.proofs.Late.Lines.{run-rest}
use Rattle.mw_law_store.proofs.Late.RequestNumbers.{number-step}
use Rattle.mw_law_store.proofs.Late.LateAnswers.{IsDone, done-run, not-done, answers, decided}

-- Lists.

get_last : {A : Type 0} (xs : List A) (x : A) → slice_get (xs ++ x ∷ []) (length xs) ≡ Some x
get_last [] x = refl
get_last (y ∷ xs) x = get_last xs x

get_more : {A : Type 0} (xs ys : List A) (i : ℕ) (x : A) → slice_get xs i ≡ Some x → slice_get (xs ++ ys) i ≡ Some x
get_more [] ys i x e = absurd (none-some x e)
get_more (y ∷ xs) ys zero x e = e
get_more (y ∷ xs) ys (suc i) x e = get_more xs ys i x e

get_set_other : {A : Type 0} (xs : List A) (i j : ℕ) (y : A) → i ≢ j → slice_get (slice_set xs j y) i ≡ slice_get xs i
get_set_other [] i j y apart = refl
get_set_other (x ∷ xs) zero zero y apart = absurd (apart refl)
get_set_other (x ∷ xs) zero (suc j) y apart = refl
get_set_other (x ∷ xs) (suc i) zero y apart = refl
get_set_other (x ∷ xs) (suc i) (suc j) y apart = get_set_other xs i j y (λ e. apart (ap suc e))

-- A new place, and a line at the end.

pub place-is-reserved : PlaceIsReserved
place-is-reserved start end lines mark n reply e d = record {
  is_empty = get_last lines None;
  store = end;
  was = ap (λ (ls : List (Option Mark)). run start (marks_in ls)) (take-append_seam lines (None ∷ [])) ∙ e;
  would_answer = d;
}

pub reserved-beside-line : ReservedBesideALine
reserved-beside-line start lines line place mark n reply k =
    let within = slice_get_within lines place None k.is_empty in
    record {
      is_empty = get_more lines (line ∷ []) place None k.is_empty;
      store = k.store;
      was = ap (λ (ls : List (Option Mark)). run start (marks_in ls)) (take-append-le place lines (line ∷ []) (omega (arith, within))) ∙ k.was;
      would_answer = k.would_answer;
    }

-- Another late mark.

-- a request after another one, or the same one, got a reply
found_beside : (s : Store) (n m : ℕ) (r x : RequestState) (said : Reply) → request s n ≡ Some r → request s m ≡ Some x → (y : RequestState) × (request (with_reply s m x said) n ≡ Some y) × (y.job ≡ r.job) × (y.admitted ≡ r.admitted)
found_beside s n m r x said at there = elim (cases_eq n m) [
  | inl e ↦
      let same : x ≡ r = same_Some x r (sym there ∙ ap (request s) (sym e) ∙ at) in
      (record x { placed = Some said }, get-insert_same s.requests m n (record x { placed = Some said }) e, ap (λ (z : RequestState). z.job) same, ap (λ (z : RequestState). z.admitted) same)
  | inr other ↦ (r, get-insert_other s.requests m n (record x { placed = Some said }) other ∙ at, refl, refl)
]

reads_beside : (s : Store) (n m : ℕ) (x : RequestState) (reply said : Reply) → request s m ≡ Some x → Reads s n reply → Reads (with_reply s m x said) n reply
reads_beside s n m x reply said there d =
    let f = found_beside s n m d.found x said d.is_asked there in
    record { found = f.0; is_asked = f.1; address = d.address; reads = f.2 ∙ d.reads; says = d.says }

differs_beside : (s : Store) (n i m : ℕ) (x : RequestState) (reply said : Reply) → request s m ≡ Some x → Differs s n i reply → Differs (with_reply s m x said) n i reply
differs_beside s n i m x reply said there d =
    let f = found_beside s n m d.found x said d.is_asked there in
    record {
      found = f.0;
      is_asked = f.1;
      has_slot = f.3 ∙ d.has_slot;
      entry = d.entry;
      is_entry = ap (λ job. slice_get (entries_of job) i) f.2 ∙ d.is_entry;
      differs = d.differs;
      says = d.says;
    }

would_beside : (s : Store) (mark : Mark) (n m : ℕ) (x : RequestState) (reply said : Reply) → request s m ≡ Some x → WouldAnswer s mark n reply → WouldAnswer (with_reply s m x said) mark n reply
would_beside s (Look k) n m x reply said there d = (d.0, reads_beside s n m x reply said there d.1)
would_beside s (Miss k i) n m x reply said there d = (d.0, differs_beside s n i m x reply said there d.1)
would_beside s (Ask k job) n m x reply said there d = absurd d
would_beside s (Admit k) n m x reply said there d = absurd d
would_beside s (Busy k) n m x reply said there d = absurd d
would_beside s (Seal k) n m x reply said there d = absurd d
would_beside s (SealFail k) n m x reply said there d = absurd d
would_beside s FileFail n m x reply said there d = absurd d
would_beside s (GiveUp k) n m x reply said there d = absurd d
would_beside s (Retire k) n m x reply said there d = absurd d
would_beside s (HandOut k) n m x reply said there d = absurd d
would_beside s (Restart interrupted take opened quota) n m x reply said there d = absurd d

-- the store at a place, and what a mark would do there
record At (start : Store) (lines : List (Option Mark)) (mark : Mark) (n : ℕ) (reply : Reply) : Type 0 where
  store : Store
  was : run start (marks_in lines) ≡ Some store
  would_answer : WouldAnswer store mark n reply

-- the other place is the first line
beside_first : (start store end : Store) (lines : List (Option Mark)) (place : ℕ) (mark late : Mark) (n m : ℕ) (reply said : Reply) → IsNumbered start → run start (marks_in (take place lines)) ≡ Some store → WouldAnswer store mark n reply → WouldAnswer start late m said → run start (marks_in lines) ≡ Some end → (IsDone end m → ⊥) → At start (Some late ∷ take place lines) mark n reply
beside_first start store end lines place mark late n m reply said i was d l e never =
    let here = decided start end late m said (marks_in lines) i l e never in
    let rest = run-rest start store end lines place was e in
    let there = answers start store m here.found said (marks_in (take place lines)) here.stands was (λ done. never (done-run store end m (marks_in (drop place lines)) rest done)) in
    record {
      store = with_reply store m here.found said;
      was = ap (option_and_then (λ v. run v (marks_in (take place lines)))) here.does ∙ there.runs;
      would_answer = would_beside store mark n m here.found reply said there.stands.is_asked d;
    }

beside : (start store moment end : Store) (lines : List (Option Mark)) (place other : ℕ) (mark late : Mark) (n m : ℕ) (reply said : Reply) → IsNumbered start → place ≢ other → slice_get lines other ≡ Some None → run start (marks_in (take place lines)) ≡ Some store → WouldAnswer store mark n reply → run start (marks_in (take other lines)) ≡ Some moment → WouldAnswer moment late m said → run start (marks_in lines) ≡ Some end → (IsDone end m → ⊥) → At start (take place (slice_set lines other (Some late))) mark n reply
beside start store moment end [] place other mark late n m reply said i apart free was d was_late l e never = absurd (none-some None free)
beside start store moment end (line ∷ lines) zero zero mark late n m reply said i apart free was d was_late l e never = absurd (apart refl)
beside start store moment end (line ∷ lines) zero (suc other) mark late n m reply said i apart free was d was_late l e never = record { store = store; was = was; would_answer = d }
beside start store moment end (Some first ∷ lines) (suc place) zero mark late n m reply said i apart free was d was_late l e never = absurd (none-some first (sym (same_Some (Some first) None free)))
beside start store moment end (None ∷ lines) (suc place) zero mark late n m reply said i apart free was d was_late l e never =
    beside_first start store end lines place mark late n m reply said i was d (subst (λ s. WouldAnswer s late m said) (sym (same_Some start moment was_late)) l) e never
beside start store moment end (None ∷ lines) (suc place) (suc other) mark late n m reply said i apart free was d was_late l e never =
    let there = beside start store moment end lines place other mark late n m reply said i (λ f. apart (ap suc f)) free was d was_late l e never in
    record { store = there.store; was = there.was; would_answer = there.would_answer }
beside start store moment end (Some first ∷ lines) (suc place) (suc other) mark late n m reply said i apart free was d was_late l e never =
    option_and_then_some (λ u. run u (marks_in lines)) (step start first) end e (λ u at on.
    let before : run u (marks_in (take place lines)) ≡ Some store = sym (ap (option_and_then (λ v. run v (marks_in (take place lines)))) at) ∙ was in
    let before_late : run u (marks_in (take other lines)) ≡ Some moment = sym (ap (option_and_then (λ v. run v (marks_in (take other lines)))) at) ∙ was_late in
    let there = beside u store moment end lines place other mark late n m reply said (number-step start u first at i) (λ f. apart (ap suc f)) free before d before_late l on never in
    record {
      store = there.store;
      was = ap (option_and_then (λ v. run v (marks_in (take place (slice_set lines other (Some late)))))) at ∙ there.was;
      would_answer = there.would_answer;
    })

pub reserved-beside-late : ReservedBesideALateMark
reserved-beside-late start end lines place other mark late n m reply said r i apart k l e o =
    let there = beside start k.store l.store end lines place other mark late n m reply said i apart l.is_empty k.was k.would_answer l.was l.would_answer e (not-done end m r o) in
    record {
      is_empty = get_set_other lines place other (Some late) apart ∙ k.is_empty;
      store = there.store;
      was = there.was;
      would_answer = there.would_answer;
    }
