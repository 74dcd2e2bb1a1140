-- A mark (event of a tenant's history) may be put in late at its reserved place, if its request has no reply at the end.
-- Used by: late_marks_are_legal.
use Rattle.std.proofs.Common.{◌≡◌, ◌≢◌, ℕ, zero, suc, ◌<◌, ◌≤◌, Bool, true, false, List, [], ◌∷◌, take, drop, refl, sym, ap, subst, ◌∙◌, arith, Option, Some, None, is_none, inl, inr}
use Rattle.std.specs.Prelude.{◌&&◌, ◌==◌, not, slice_set}
use Rattle.std.proofs.lemmas.Bool.{cases_eq}
use Rattle.std.proofs.lemmas.Option.{same_Some, none-some, option_and_then_some}
use Rattle.std.specs.FinMap as map
use Rattle.std.specs.Ordering.{nat_cmp}
use Rattle.std.specs.List.{slice_get, list_all}
use Rattle.std.specs.Option.{option_and_then, option_map_or}
use Rattle.mw_words.specs.declared.jobs.Job.{Job}
use Rattle.mw_words.specs.declared.jobs.Job.TheVariants.{Get}
use Rattle.mw_words.specs.declared.replies.Reply.{Reply}
use Rattle.mw_lone.specs.declared.marks.Mark.{Mark}
use Rattle.mw_lone.specs.declared.marks.Mark.TheVariants.{Ask, Admit, Busy, Look, Miss, Seal, SealFail, FileFail, GiveUp, Retire, Reply as HandOut, Restart}
use Rattle.mw_lone.proofs.SoundStores.{Requests, get-insert_same, get-insert_other}
use Rattle.mw_lone.specs.Store.{Store, RequestState, new_store, request, with_reply, asked, is_cas, is_waiting, step, run}
use Rattle.mw_law_store.specs.Late.MarkEffects.{Waits, Does}
use Rattle.mw_law_store.specs.Late.LateMarks.{marks_in, names, IsNumbered, IsOpen, Reads, Differs, WouldAnswer}
use Rattle.mw_law_store.specs.Late.Laws.{LateMark, LateMarkOfAll, NothingBetween}
use Rattle.mw_law_store.proofs.Late.MarkEffectLaws.{marks-do, doing-marks, all_three}
use Rattle.mw_law_store.proofs.Late.Lines.{run-append, run-rest}
use Rattle.mw_law_store.proofs.Late.RequestsOfMarks.{replies-commute, others-left, same_as, requests_of}
use Rattle.mw_law_store.proofs.Late.RequestNumbers.{Touches, comes, written, stay, gone, mark-touches, next_of, number-run, number-step, runs-number}

-- the request has no reply and waits for no slot
pub record Stands (s : Store) (n : ℕ) (r : RequestState) : Type 0 where
  pub is_asked : request s n ≡ Some r
  pub has_no_reply : r.placed ≡ None
  pub waits_not : is_waiting r ≡ false
  pub below : n < s.next

-- the request was asked and has no reply
abbrev pub is_open : Store → ℕ → Bool
is_open s n = option_map_or (λ r. is_none r.placed) (request s n) false

-- the request has its reply, or is gone after a start
pub record IsDone (s : Store) (n : ℕ) : Type 0 where
  pub below : n < s.next
  pub closed : is_open s n ≡ false

-- A request that is done stays done.

open_of : (s : Store) (n : ℕ) (o : Option RequestState) → request s n ≡ o → is_open s n ≡ option_map_or (λ r. is_none r.placed) o false
open_of s n o e = ap (λ p. option_map_or (λ r. is_none r.placed) p false) e

same_open : (s t : Store) (n : ℕ) → request t n ≡ request s n → is_open t n ≡ is_open s n
same_open s t n e = open_of t n (request s n) e

true_false : true ≡ false → ⊥
true_false e = absurd (cc)

neither : (b c : Bool) → (b ≡ true → c ≡ true) → c ≡ false → b ≡ false
neither true c h f = absurd (true_false (sym (h refl) ∙ f))
neither false c h f = refl

got : (s t : Store) (n : ℕ) (m : Requests) → t.requests ≡ m → request t n ≡ map.get m n
got s t n m e = ap (λ (q : Requests). map.get q n) e

done_other : (s t : Store) (k n : ℕ) (y : RequestState) → s.next ≤ t.next → n ≢ k → t.requests ≡ map.insert s.requests k y → IsDone s n → IsDone t n
done_other s t k n y on apart after d =
    let below = d.below in
    record { below = omega arith; closed = same_open s t n (got s t n _ after ∙ get-insert_other s.requests k n y apart) ∙ d.closed }

done_same : (s t : Store) (k n : ℕ) (r y : RequestState) → request s k ≡ Some r → (is_none y.placed ≡ true → is_none r.placed ≡ true) → t.next ≡ s.next → t.requests ≡ map.insert s.requests k y → IsDone s n → n ≡ k → IsDone t n
done_same s t k n r y at keeps more after d e =
    let was : is_none r.placed ≡ false = sym (open_of s n (Some r) (ap (request s) e ∙ at)) ∙ d.closed in
    record {
      below = subst (λ q. n < q) (sym more) d.below;
      closed = open_of t n (Some y) (got s t n _ after ∙ get-insert_same s.requests k n y e) ∙ neither (is_none y.placed) (is_none r.placed) keeps was;
    }

done_written : (s t : Store) (k n : ℕ) (r y : RequestState) → request s k ≡ Some r → (is_none y.placed ≡ true → is_none r.placed ≡ true) → t.next ≡ s.next → t.requests ≡ map.insert s.requests k y → IsDone s n → IsDone t n
done_written s t k n r y at keeps more after d = elim (cases_eq n k) [
  | inl e ↦ done_same s t k n r y at keeps more after d e
  | inr other ↦ done_other s t k n y (omega arith) other after d
]

done_touched : (s t : Store) (n : ℕ) → Touches s t → IsDone s n → IsDone t n
done_touched s t n (comes k job is more after) d = let below = d.below in done_other s t k n (asked job) (omega arith) (omega arith) after d
done_touched s t n (written k r y at keeps more after) d = done_written s t k n r y at keeps more after d
done_touched s t n (stay more after) d = record { below = subst (λ q. n < q) (sym more) d.below; closed = same_open s t n (got s t n _ after) ∙ d.closed }
done_touched s t n (gone more after) d = record { below = subst (λ q. n < q) (sym more) d.below; closed = open_of t n None (got s t n _ after ∙ map.get-empty nat_cmp n) }

pub done-run : (s t : Store) (n : ℕ) (marks : List Mark) → run s marks ≡ Some t → IsDone s n → IsDone t n
done-run s t n [] e d = subst (λ u. IsDone u n) (same_Some s t e) d
done-run s t n (mark ∷ marks) e d =
    option_and_then_some (λ u. run u marks) (step s mark) t e (λ u at on. done-run u t n marks on (done_touched s u n (mark-touches s u mark at) d))

-- A mark about an open request that waits for no slot leaves the request done.

-- a mark that gives a reply
answered : (s t : Store) (k n : ℕ) (y : RequestState) → (k == n) ≡ true → is_none y.placed ≡ false → n < s.next → t.next ≡ s.next → t.requests ≡ map.insert s.requests k y → IsDone t n
answered s t k n y h said below more after =
    record { below = subst (λ q. n < q) (sym more) below; closed = open_of t n (Some y) (got s t n _ after ∙ get-insert_same s.requests k n y (sym (same_as k n h))) ∙ said }

is_same : (s : Store) (k n : ℕ) (r a : RequestState) → (k == n) ≡ true → request s k ≡ Some a → request s n ≡ Some r → a ≡ r
is_same s k n r a h there at = same_Some a r (sym there ∙ ap (request s) (same_as k n h) ∙ at)

-- a mark that asks a new request
too_late : (next k n : ℕ) → k ≡ next → k ≡ n → n < next → ⊥
too_late next k n e f below = omega arith

-- a mark that admits the request
no_wait : (s : Store) (k n : ℕ) (r a : RequestState) → (k == n) ≡ true → Waits s k a → Stands s n r → ⊥
no_wait s k n r a h w f =
    let same = is_same s k n r a h w.is_asked f.is_asked in
    let waits : is_waiting a ≡ true = all_three (is_cas a.job) (not a.admitted) (is_none a.placed) w.is_change (ap not w.has_no_slot) (ap is_none w.has_no_reply) in
    true_false (sym waits ∙ ap (λ (x : RequestState). is_waiting x) same ∙ f.waits_not)

-- a mark that needs a reply
no_reply : (s : Store) (k n : ℕ) (r a : RequestState) (reply : Reply) → (k == n) ≡ true → request s k ≡ Some a → a.placed ≡ Some reply → Stands s n r → ⊥
no_reply s k n r a reply h there has f =
    let same = is_same s k n r a h there f.is_asked in
    none-some reply (sym f.has_no_reply ∙ sym (ap (λ (x : RequestState). x.placed) same) ∙ has)

named_done : (s t : Store) (n : ℕ) (r : RequestState) (mark : Mark) → names mark n ≡ true → Stands s n r → Does s mark t → IsDone t n
named_done s t n r (Ask k job) h f d = absurd (too_late s.next k n d.is_next (same_as k n h) f.below)
named_done s t n r (Admit k) h f d = absurd (no_wait s k n r d.found h d.waits f)
named_done s t n r (Busy k) h f d = absurd (no_wait s k n r d.found h d.waits f)
named_done s t n r (Look k) h f d = answered s t k n _ h refl f.below (next_of t _ d.after) (requests_of t _ d.after)
named_done s t n r (Miss k i) h f d = answered s t k n _ h refl f.below (next_of t _ d.after) (requests_of t _ d.after)
named_done s t n r (Seal k) h f d = answered s t k n _ h refl f.below (next_of t _ d.after) (requests_of t _ d.after)
named_done s t n r (SealFail k) h f d = answered s t k n _ h refl f.below (next_of t _ d.after) (requests_of t _ d.after)
named_done s t n r FileFail h f d = absurd (true_false (sym h))
named_done s t n r (GiveUp k) h f d = answered s t k n _ h refl f.below (next_of t _ d.after) (requests_of t _ d.after)
named_done s t n r (Retire k) h f d = absurd (no_reply s k n r d.found d.reply h d.is_asked d.has_reply f)
named_done s t n r (HandOut k) h f d = absurd (no_reply s k n r d.found d.reply h d.is_asked d.has_reply f)
named_done s t n r (Restart interrupted take opened quota) h f d = record {
  below = subst (λ q. n < q) (sym (next_of t _ d.after)) f.below;
  closed = open_of t n None (got s t n _ (requests_of t _ d.after) ∙ map.get-empty nat_cmp n);
}

-- Between the place and the end no mark is about the request.

next_grows : (s t : Store) → Touches s t → s.next ≤ t.next
next_grows s t (comes k job is more after) = omega arith
next_grows s t (written k r y at keeps more after) = omega arith
next_grows s t (stay more after) = omega arith
next_grows s t (gone more after) = omega arith

stands_on : (s t : Store) (n : ℕ) (r : RequestState) (mark : Mark) → names mark n ≡ false → step s mark ≡ Some t → Stands s n r → Stands t n r
stands_on s t n r mark h e f =
    let below = f.below in
    let on = next_grows s t (mark-touches s t mark e) in
    record { is_asked = others-left s t n mark h e ∙ f.is_asked; has_no_reply = f.has_no_reply; waits_not = f.waits_not; below = omega arith }

-- a request that is open gets its reply before these marks: it is still open at the end without the reply, and with it the marks do the same
pub record Answers (s t : Store) (n : ℕ) (r : RequestState) (reply : Reply) (marks : List Mark) : Type 0 where
  pub stands : Stands t n r
  pub unnamed : list_all (λ later. not (names later n)) marks ≡ true
  pub runs : run (with_reply s n r reply) marks ≡ Some (with_reply t n r reply)

none_named : (mark : Mark) (marks : List Mark) (n : ℕ) → names mark n ≡ false → list_all (λ later. not (names later n)) marks ≡ true → list_all (λ later. not (names later n)) (mark ∷ marks) ≡ true
none_named mark marks n h rest = ap (λ b. not b && list_all (λ later. not (names later n)) marks) h ∙ rest

answers_by : (s u t : Store) (n : ℕ) (r : RequestState) (reply : Reply) (mark : Mark) (marks : List Mark) (b : Bool) → names mark n ≡ b → Stands s n r → step s mark ≡ Some u → run u marks ≡ Some t → (IsDone t n → ⊥) → (Stands u n r → Answers u t n r reply marks) → Answers s t n r reply (mark ∷ marks)
answers_by s u t n r reply mark marks true h f at on never rest = absurd (never (done-run u t n marks on (named_done s u n r mark h f (marks-do s u mark at))))
answers_by s u t n r reply mark marks false h f at on never rest =
    let later = rest (stands_on s u n r mark h at f) in
    record { stands = later.stands; unnamed = none_named mark marks n h later.unnamed; runs = ap (option_and_then (λ v. run v marks)) (replies-commute s u n r reply mark h at) ∙ later.runs }

pub answers : (s t : Store) (n : ℕ) (r : RequestState) (reply : Reply) (marks : List Mark) → Stands s n r → run s marks ≡ Some t → (IsDone t n → ⊥) → Answers s t n r reply marks
answers s t n r reply [] f e never =
    let same = same_Some s t e in
    record { stands = subst (λ u. Stands u n r) same f; unnamed = refl; runs = ap Some (ap (λ u. with_reply u n r reply) same) }
answers s t n r reply (mark ∷ marks) f e never =
    option_and_then_some (λ u. run u marks) (step s mark) t e (λ u at on.
    answers_by s u t n r reply mark marks (names mark n) refl f at on never (λ g. answers u t n r reply marks g on never))

-- What is known of the request at the place.

pub not-done : (t : Store) (n : ℕ) (r : RequestState) → IsOpen t n r → IsDone t n → ⊥
not-done t n r o d = true_false (sym (open_of t n (Some r) o.is_asked ∙ ap is_none o.has_no_reply) ∙ d.closed)

-- it has no reply there, if it is not done later
free_by : (s t : Store) (n : ℕ) (r : RequestState) (marks : List Mark) (o : Option Reply) → r.placed ≡ o → n < s.next → request s n ≡ Some r → run s marks ≡ Some t → (IsDone t n → ⊥) → r.placed ≡ None
free_by s t n r marks None p below at e never = p
free_by s t n r marks (Some reply) p below at e never = absurd (never (done-run s t n marks e (record { below = below; closed = open_of s n (Some r) at ∙ ap is_none p })))

reads_not : (r : RequestState) (job : Job) (address : ℕ) → r.job ≡ job → job ≡ Get address → is_waiting r ≡ false
reads_not r job address e f = ap (λ j. is_cas j && not r.admitted && is_none r.placed) (e ∙ f)

has_slot_not : (a : Bool) (r : RequestState) → r.admitted ≡ true → is_cas r.job ≡ a → is_waiting r ≡ false
has_slot_not true r e f = ap (λ b. b && not r.admitted && is_none r.placed) f ∙ ap (λ b. not b && is_none r.placed) e
has_slot_not false r e f = ap (λ b. b && not r.admitted && is_none r.placed) f

-- if a mark would decide a reply, and the request isn't done later, the request is open, and the mark is legal and gives it that reply
pub record Decided (s : Store) (mark : Mark) (n : ℕ) (reply : Reply) : Type 0 where
  pub found : RequestState
  pub stands : Stands s n found
  pub does : step s mark ≡ Some (with_reply s n found reply)

look_decides : (s t : Store) (n : ℕ) (reply : Reply) (marks : List Mark) → IsNumbered s → Reads s n reply → run s marks ≡ Some t → (IsDone t n → ⊥) → Decided s (Look n) n reply
look_decides s t n reply marks i d e never =
    let below = i n d.found d.is_asked in
    let free = free_by s t n d.found marks d.found.placed refl below d.is_asked e never in
    record {
      found = d.found;
      stands = record { is_asked = d.is_asked; has_no_reply = free; waits_not = reads_not d.found d.found.job d.address refl d.reads; below = below };
      does = doing-marks s (with_reply s n d.found reply) (Look n) (record { found = d.found; is_asked = d.is_asked; address = d.address; reads = d.reads; has_no_reply = free; after = ap (with_reply s n d.found) d.says });
    }

miss_decides : (s t : Store) (n i : ℕ) (reply : Reply) (marks : List Mark) → IsNumbered s → Differs s n i reply → run s marks ≡ Some t → (IsDone t n → ⊥) → Decided s (Miss n i) n reply
miss_decides s t n i reply marks numbered d e never =
    let below = numbered n d.found d.is_asked in
    let free = free_by s t n d.found marks d.found.placed refl below d.is_asked e never in
    record {
      found = d.found;
      stands = record { is_asked = d.is_asked; has_no_reply = free; waits_not = has_slot_not (is_cas d.found.job) d.found d.has_slot refl; below = below };
      does = doing-marks s (with_reply s n d.found reply) (Miss n i) (record { found = d.found; is_asked = d.is_asked; has_slot = d.has_slot; has_no_reply = free; entry = d.entry; is_entry = d.is_entry; differs = d.differs; after = ap (with_reply s n d.found) d.says });
    }

pub decided : (s t : Store) (mark : Mark) (n : ℕ) (reply : Reply) (marks : List Mark) → IsNumbered s → WouldAnswer s mark n reply → run s marks ≡ Some t → (IsDone t n → ⊥) → Decided s mark n reply
decided s t (Look k) n reply marks i d e never = subst (λ q. Decided s (Look q) n reply) (sym d.0) (look_decides s t n reply marks i d.1 e never)
decided s t (Miss k j) n reply marks i d e never = subst (λ q. Decided s (Miss q j) n reply) (sym d.0) (miss_decides s t n j reply marks i d.1 e never)
decided s t (Ask k job) n reply marks i d e never = absurd d
decided s t (Admit k) n reply marks i d e never = absurd d
decided s t (Busy k) n reply marks i d e never = absurd d
decided s t (Seal k) n reply marks i d e never = absurd d
decided s t (SealFail k) n reply marks i d e never = absurd d
decided s t FileFail n reply marks i d e never = absurd d
decided s t (GiveUp k) n reply marks i d e never = absurd d
decided s t (Retire k) n reply marks i d e never = absurd d
decided s t (HandOut k) n reply marks i d e never = absurd d
decided s t (Restart interrupted take opened quota) n reply marks i d e never = absurd d

-- A mark put in late.

-- at the first line
late_first : (start end : Store) (mark : Mark) (n : ℕ) (r : RequestState) (reply : Reply) (marks : List Mark) → IsNumbered start → WouldAnswer start mark n reply → run start marks ≡ Some end → IsOpen end n r → run start (mark ∷ marks) ≡ Some (with_reply end n r reply)
late_first start end mark n r reply marks i d e o =
    let never = not-done end n r o in
    let here = decided start end mark n reply marks i d e never in
    let rest = answers start end n here.found reply marks here.stands e never in
    let same : here.found ≡ r = same_Some here.found r (sym rest.stands.is_asked ∙ o.is_asked) in
    ap (option_and_then (λ v. run v marks)) here.does ∙ rest.runs ∙ ap (λ x. Some (with_reply end n x reply)) same

late_at : (start store end : Store) (lines : List (Option Mark)) (place : ℕ) (mark : Mark) (n : ℕ) (r : RequestState) (reply : Reply) → IsNumbered start → slice_get lines place ≡ Some None → run start (marks_in (take place lines)) ≡ Some store → WouldAnswer store mark n reply → run start (marks_in lines) ≡ Some end → IsOpen end n r → run start (marks_in (slice_set lines place (Some mark))) ≡ Some (with_reply end n r reply)
late_at start store end [] place mark n r reply i free was d e o = absurd (none-some None free)
late_at start store end (None ∷ lines) zero mark n r reply i free was d e o =
    late_first start end mark n r reply (marks_in lines) i (subst (λ s. WouldAnswer s mark n reply) (sym (same_Some start store was)) d) e o
late_at start store end (Some first ∷ lines) zero mark n r reply i free was d e o = absurd (none-some first (sym (same_Some (Some first) None free)))
late_at start store end (None ∷ lines) (suc place) mark n r reply i free was d e o = late_at start store end lines place mark n r reply i free was d e o
late_at start store end (Some first ∷ lines) (suc place) mark n r reply i free was d e o =
    option_and_then_some (λ u. run u (marks_in lines)) (step start first) end e (λ u at on.
    let before : run u (marks_in (take place lines)) ≡ Some store = sym (ap (option_and_then (λ v. run v (marks_in (take place lines)))) at) ∙ was in
    ap (option_and_then (λ v. run v (marks_in (slice_set lines place (Some mark))))) at
    ∙ late_at u store end lines place mark n r reply (number-step start u first at i) free before d on o)

pub late-mark : LateMark
late-mark start end lines place mark n r reply i k e o = late_at start k.store end lines place mark n r reply i k.is_empty k.was k.would_answer e o

pub late-mark-of-all : LateMarkOfAll
late-mark-of-all words quota closed start end lines place mark n r reply from k e o =
    let on = λ (marks : List Mark). run-append (new_store words quota) closed marks ∙ ap (option_and_then (λ u. run u marks)) from in
    on _ ∙ late-mark start end lines place mark n r reply (runs-number words quota closed start from) k (sym (on (marks_in lines)) ∙ e) o

pub nothing-between : NothingBetween
nothing-between start end lines place mark n r reply k i e o =
    let never = not-done end n r o in
    let rest = run-rest start k.store end lines place k.was e in
    let here = decided k.store end mark n reply (marks_in (drop place lines)) (number-run start k.store (marks_in (take place lines)) k.was i) k.would_answer rest never in
    let later = answers k.store end n here.found reply (marks_in (drop place lines)) here.stands rest never in
    let same : here.found ≡ r = same_Some here.found r (sym later.stands.is_asked ∙ o.is_asked) in
    (here.stands.is_asked ∙ ap Some same, later.unnamed)
