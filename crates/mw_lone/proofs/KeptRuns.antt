-- In every run of the store alone (the sequential specification), its words and jobs stay well formed, and no more slots are
-- used than the quota.
-- Used by: words_stay_words, used_stays_within, mw_world, mw_law_store, among others.
use Rattle.std.specs.Prelude.{ℕ, ◌≡◌, ◌≤◌, ◌+◌, ◌-◌, ◌&&◌, not, Bool, true, false, List, [], ◌∷◌, ◌++◌, length, Option, Some, None, IsTrue, nat_lt, if◌then◌else◌}
use Rattle.std.specs.Option.{option_and_then, option_map, option_map_or, option_to_list, unwrap_or}
use Rattle.std.proofs.Common.{refl, sym, ap, subst, ◌∙◌, arith, append_assoc, append-nil}
use Rattle.std.proofs.Math.ListN.{set}
use Rattle.std.proofs.lemmas.Option.{option_and_then_some, none-some, same_Some}
use Rattle.std.proofs.lemmas.Bool.Decides.{nat_tests}
use Rattle.std.proofs.lemmas.List.Elements.{All-set}
use Rattle.std.specs.List.{list_all, slice_get}
use Rattle.mw_words.specs.declared.jobs.Entry.{Entry}
use Rattle.mw_words.specs.declared.jobs.Job.{Job}
use Rattle.mw_words.specs.declared.jobs.Job.TheVariants.{Get, Cas}
use Rattle.mw_words.specs.declared.limits.TheConstants.{MAX_VALUE}
use Rattle.mw_words.specs.Change.{AreWords, is_in_range, is_well_formed, put}
use Rattle.mw_lone.specs.Sound.{IsSound}
use Rattle.mw_lone.proofs.SoundStores.{sound-insert, sound-words, sound-new_store, entries-fit, length-put, new_fits}
use Rattle.mw_lone.specs.declared.marks.Mark.{Mark}
use Rattle.mw_lone.specs.Store.{Store, RequestState, first_store, step, run, outgoing, replies_from, request, with_request, with_reply, is_waiting, entries_of, ask, asked, admit, refuse_busy, look_at, miss_at, seal, fail_seal, give_up, retire, hand_out, restart, store_after_start, entries_in_doubt}
use Rattle.mw_words.specs.declared.replies.Reply.{Reply}
use Rattle.mw_words.specs.declared.replies.Reply.TheVariants.{Yes, Fault}
use Rattle.mw_lone.specs.declared.marks.Mark.TheVariants.{Ask, Admit, Busy, Look, Miss, Seal, SealFail, FileFail, GiveUp, Retire, Reply as HandOut, Restart}
use Rattle.mw_lone.specs.Laws.{RunExtends, RepliesExtend, WordsStayWords, UsedStaysWithin}

run_last : (o : Option Store) → option_and_then (λ t. Some t) o ≡ o
run_last None = refl
run_last (Some t) = refl

run_on : (o : Option Store) (marks : List Mark) (mark : Mark) → ((t : Store) → run t (marks ++ mark ∷ []) ≡ option_and_then (λ u. step u mark) (run t marks)) → option_and_then (λ t. run t (marks ++ mark ∷ [])) o ≡ option_and_then (λ u. step u mark) (option_and_then (λ t. run t marks) o)
run_on None marks mark h = refl
run_on (Some t) marks mark h = h t

pub run-extend : RunExtends
run-extend s [] mark = run_last (step s mark)
run-extend s (m ∷ marks) mark = run_on (step s m) marks mark (λ t. run-extend t marks mark)

nothing_more : (o : Option Store) → unwrap_or (option_map (λ t. replies_from t []) o) [] ≡ []
nothing_more None = refl
nothing_more (Some t) = refl

replies_on : (o : Option Store) (t : Store) (marks : List Mark) (mark : Mark) → option_and_then (λ u. run u marks) o ≡ Some t → ((u : Store) → run u marks ≡ Some t → replies_from u (marks ++ mark ∷ []) ≡ replies_from u marks ++ option_to_list (outgoing t mark)) → unwrap_or (option_map (λ u. replies_from u (marks ++ mark ∷ [])) o) [] ≡ unwrap_or (option_map (λ u. replies_from u marks) o) [] ++ option_to_list (outgoing t mark)
replies_on None t marks mark e h = absurd (none-some t e)
replies_on (Some u) t marks mark e h = h u e

pub replies-extend : RepliesExtend
replies-extend s t [] mark h =
    let said = option_to_list (outgoing s mark) in
    ap (λ xs. said ++ xs) (nothing_more (step s mark)) ∙ append-nil said ∙ ap (λ u. option_to_list (outgoing u mark)) (same_Some s t h)
replies-extend s t (m ∷ marks) mark h =
    let said = option_to_list (outgoing s m) in
    ap (λ xs. said ++ xs) (replies_on (step s m) t marks mark h (λ u e. replies-extend u t marks mark e)) ∙ sym (append_assoc said _ _)

-- what every store keeps that came from these words
pub record IsKept (first : List ℕ) (s : Store) : Type 0 where
  pub are_words : AreWords first → AreWords s.words
  pub as_many : length s.words ≡ length first
  pub sound : IsSound s.words s.requests s.in_doubt
  pub within : s.used ≤ s.quota

and_last : (a b : Bool) → a && b ≡ true → b ≡ true
and_last true b h = h
and_last false b h = absurd (cc)

pub put_words : (count : ℕ) (words : List ℕ) (es : List Entry) → IsTrue (list_all (is_in_range count) es) → AreWords words → AreWords (put words es)
put_words count words [] h a = a
put_words count words (e ∷ es) h a =
    let fits : is_in_range count e ≡ true = grind arith in
    let rest : list_all (is_in_range count) es ≡ true = grind arith in
    put_words count (set words e.addr e.new) es rest (All-set (λ v. v ≤ MAX_VALUE) words e.addr e.new (new_fits count e fits) a)

kept_if : (first : List ℕ) (b : Bool) (s t : Store) → (if b then Some s else None) ≡ Some t → (b ≡ true → IsKept first s) → IsKept first t
kept_if first true s t e h = subst (IsKept first) (same_Some s t e) (h refl)
kept_if first false s t e h = absurd (none-some t e)

-- a request changes, but not its job
kept_request : (first : List ℕ) (s : Store) (n : ℕ) (r after : RequestState) → request s n ≡ Some r → after.job ≡ r.job → IsKept first s → IsKept first (with_request s n after)
kept_request first s n r after at job k =
    let fine = subst (λ j. IsTrue (is_well_formed (length s.words) j)) (sym job) (k.sound.jobs n r at) in
    record { are_words = k.are_words; as_many = k.as_many; sound = sound-insert s.words s.requests s.in_doubt n after fine k.sound; within = k.within }

-- another number of slots is used
kept_used : (first : List ℕ) (s : Store) (used : ℕ) → used ≤ s.quota → IsKept first s → IsKept first (record s { used = used })
kept_used first s used h k = record { are_words = k.are_words; as_many = k.as_many; sound = k.sound; within = h }

-- entries are put over the words
kept_put : (first : List ℕ) (s : Store) (es : List Entry) → IsTrue (list_all (is_in_range (length s.words)) es) → IsKept first s → IsKept first (record s { words = put s.words es })
kept_put first s es h k = record {
  are_words = λ a. put_words (length s.words) s.words es h (k.are_words a);
  as_many = length-put s.words es ∙ k.as_many;
  sound = sound-words s.words (put s.words es) s.requests s.in_doubt (length-put s.words es) k.sound;
  within = k.within;
}

-- the entries of a request that was asked are of words that are there
kept_fits : (first : List ℕ) (s : Store) (n : ℕ) (r : RequestState) → request s n ≡ Some r → IsKept first s → IsTrue (list_all (is_in_range (length s.words)) (entries_of r.job))
kept_fits first s n r at k = entries-fit (length s.words) r.job (k.sound.jobs n r at)

kept_ask : (first : List ℕ) (s t : Store) (n : ℕ) (job : Job) → ask s n job ≡ Some t → IsKept first s → IsKept first t
kept_ask first s t n job e k =
    kept_if first _ _ t e (λ b. record {
      are_words = k.are_words;
      as_many = k.as_many;
      sound = sound-insert s.words s.requests s.in_doubt n (asked job) (and_last _ _ b) k.sound;
      within = k.within;
    })

kept_admit : (first : List ℕ) (s t : Store) (n : ℕ) (r : RequestState) → request s n ≡ Some r → admit s n r ≡ Some t → IsKept first s → IsKept first t
kept_admit first s t n r at e k =
    kept_if first _ _ t e (λ b.
    let room : nat_lt s.used s.quota ≡ true = and_last (is_waiting r && not s.faulted) (nat_lt s.used s.quota) b in
    kept_used first _ (s.used + 1) (grind (arith, nat_tests)) (kept_request first s n r (record r { admitted = true }) at refl k))

-- a mark that gives a request its reply
kept_placed : (first : List ℕ) (b : Bool) (s t : Store) (n : ℕ) (r : RequestState) (reply : Reply) → request s n ≡ Some r → (if b then Some (with_reply s n r reply) else None) ≡ Some t → IsKept first s → IsKept first t
kept_placed first b s t n r reply at e k = kept_if first b _ t e (λ _. kept_request first s n r (record r { placed = Some reply }) at refl k)

kept_look : (first : List ℕ) (s t : Store) (n : ℕ) (r : RequestState) (job : Job) → request s n ≡ Some r → look_at s n r job ≡ Some t → IsKept first s → IsKept first t
kept_look first s t n r (Get addr) at e k = kept_placed first _ s t n r _ at e k
kept_look first s t n r (Cas entries) at e k = absurd (none-some t e)

kept_miss : (first : List ℕ) (s t : Store) (n : ℕ) (r : RequestState) (o : Option Entry) → request s n ≡ Some r → miss_at s n r o ≡ Some t → IsKept first s → IsKept first t
kept_miss first s t n r None at e k = absurd (none-some t e)
kept_miss first s t n r (Some entry) at e k = kept_placed first _ s t n r _ at e k

kept_seal : (first : List ℕ) (s t : Store) (n : ℕ) (r : RequestState) → request s n ≡ Some r → seal s n r ≡ Some t → IsKept first s → IsKept first t
kept_seal first s t n r at e k =
    kept_if first _ _ t e (λ _. kept_put first _ (entries_of r.job) (kept_fits first s n r at k) (kept_request first s n r (record r { placed = Some Yes }) at refl k))

kept_fail_seal : (first : List ℕ) (s t : Store) (n : ℕ) (r : RequestState) → request s n ≡ Some r → fail_seal s n r ≡ Some t → IsKept first s → IsKept first t
kept_fail_seal first s t n r at e k =
    kept_if first _ _ t e (λ _.
    let after = kept_request first s n r (record r { placed = Some Fault }) at refl k in
    record {
      are_words = after.are_words;
      as_many = after.as_many;
      sound = record { jobs = after.sound.jobs; doubts = kept_fits first s n r at k };
      within = after.within;
    })

kept_retire : (first : List ℕ) (s t : Store) (n : ℕ) (r : RequestState) → request s n ≡ Some r → retire s n r ≡ Some t → IsKept first s → IsKept first t
kept_retire first s t n r at e k =
    kept_if first _ _ t e (λ _. let within = k.within in kept_used first _ (s.used - 1) (omega arith) (kept_request first s n r (record r { retired = true }) at refl k))

kept_hand_out : (first : List ℕ) (s t : Store) (n : ℕ) (r : RequestState) → request s n ≡ Some r → hand_out s n r ≡ Some t → IsKept first s → IsKept first t
kept_hand_out first s t n r at e k = kept_if first _ _ t e (λ _. kept_request first s n r (record r { handed = true }) at refl k)

kept_started : (first : List ℕ) (s : Store) (opened : Bool) (quota : ℕ) → IsKept first s → IsKept first (store_after_start s s.words opened quota)
kept_started first s opened quota k = record {
  are_words = k.are_words;
  as_many = k.as_many;
  sound = sound-new_store s.words [] refl;
  within = omega arith;
}

in_doubt_of : (first : List ℕ) (s : Store) (n : ℕ) → IsKept first s → (o : Option RequestState) → request s n ≡ o → IsTrue (list_all (is_in_range (length s.words)) (option_map_or (λ r. entries_of r.job) o []))
in_doubt_of first s n k None at = refl
in_doubt_of first s n k (Some r) at = kept_fits first s n r at k

-- the change in doubt is of words that are there
doubt_fits : (first : List ℕ) (s : Store) (interrupted : Option ℕ) → IsKept first s → IsTrue (list_all (is_in_range (length s.words)) (entries_in_doubt s interrupted))
doubt_fits first s None k = k.sound.doubts
doubt_fits first s (Some n) k = in_doubt_of first s n k (request s n) refl

taken : (first : List ℕ) (s : Store) (take opened : Bool) (quota : ℕ) (es : List Entry) → IsTrue (list_all (is_in_range (length s.words)) es) → IsKept first s → IsKept first (store_after_start s (if take then put s.words es else s.words) opened quota)
taken first s true opened quota es h k = kept_started first (record s { words = put s.words es }) opened quota (kept_put first s es h k)
taken first s false opened quota es h k = kept_started first s opened quota k

kept_restart : (first : List ℕ) (s t : Store) (interrupted : Option ℕ) (take opened : Bool) (quota : ℕ) → restart s interrupted take opened quota ≡ Some t → IsKept first s → IsKept first t
kept_restart first s t interrupted take opened quota e k =
    kept_if first _ _ t e (λ _. taken first s take opened quota (entries_in_doubt s interrupted) (doubt_fits first s interrupted k) k)

kept_fail_file : (first : List ℕ) (s t : Store) (b : Bool) → (if b then None else Some (record s { faulted = true })) ≡ Some t → IsKept first s → IsKept first t
kept_fail_file first s t true e k = absurd (none-some t e)
kept_fail_file first s t false e k = subst (IsKept first) (same_Some _ t e) (record { are_words = k.are_words; as_many = k.as_many; sound = k.sound; within = k.within })

of_request : (first : List ℕ) (s t : Store) (n : ℕ) (f : RequestState → Option Store) → option_and_then f (request s n) ≡ Some t → ((r : RequestState) → request s n ≡ Some r → f r ≡ Some t → IsKept first t) → IsKept first t
of_request first s t n f e h = option_and_then_some f (request s n) t e h

-- each mark keeps it
pub kept-step : (first : List ℕ) (s t : Store) (mark : Mark) → step s mark ≡ Some t → IsKept first s → IsKept first t
kept-step first s t (Ask n job) e k = kept_ask first s t n job e k
kept-step first s t (Admit n) e k = of_request first s t n (admit s n) e (λ r at f. kept_admit first s t n r at f k)
kept-step first s t (Busy n) e k = of_request first s t n (refuse_busy s n) e (λ r at f. kept_placed first _ s t n r _ at f k)
kept-step first s t (Look n) e k = of_request first s t n (λ r. look_at s n r r.job) e (λ r at f. kept_look first s t n r r.job at f k)
kept-step first s t (Miss n i) e k = of_request first s t n (λ r. miss_at s n r (slice_get (entries_of r.job) i)) e (λ r at f. kept_miss first s t n r (slice_get (entries_of r.job) i) at f k)
kept-step first s t (Seal n) e k = of_request first s t n (seal s n) e (λ r at f. kept_seal first s t n r at f k)
kept-step first s t (SealFail n) e k = of_request first s t n (fail_seal s n) e (λ r at f. kept_fail_seal first s t n r at f k)
kept-step first s t FileFail e k = kept_fail_file first s t s.faulted e k
kept-step first s t (GiveUp n) e k = of_request first s t n (give_up s n) e (λ r at f. kept_placed first _ s t n r _ at f k)
kept-step first s t (Retire n) e k = of_request first s t n (retire s n) e (λ r at f. kept_retire first s t n r at f k)
kept-step first s t (HandOut n) e k = of_request first s t n (hand_out s n) e (λ r at f. kept_hand_out first s t n r at f k)
kept-step first s t (Restart interrupted take opened quota) e k = kept_restart first s t interrupted take opened quota e k

-- and so does each list of marks
pub kept-run : (first : List ℕ) (s t : Store) (marks : List Mark) → run s marks ≡ Some t → IsKept first s → IsKept first t
kept-run first s t [] e k = subst (IsKept first) (same_Some s t e) k
kept-run first s t (mark ∷ marks) e k =
    option_and_then_some (λ u. run u marks) (step s mark) t e (λ u at f. kept-run first u t marks f (kept-step first s u mark at k))

kept_fresh : (words : List ℕ) (quota : ℕ) (faulted : Bool) → IsKept words (first_store words quota faulted)
kept_fresh words quota faulted = record { are_words = λ a. a; as_many = refl; sound = sound-new_store words [] refl; within = omega arith }

pub words-stay-words : WordsStayWords
words-stay-words words quota faulted marks t a e =
    let k = kept-run words (first_store words quota faulted) t marks e (kept_fresh words quota faulted) in
    (k.are_words a, k.as_many)

pub used-stays-within : UsedStaysWithin
used-stays-within words quota faulted marks t e =
    let k = kept-run words (first_store words quota faulted) t marks e (kept_fresh words quota faulted) in
    k.within
