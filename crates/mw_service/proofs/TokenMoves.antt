-- Each step, split and join at the table of request tokens keeps its rule, and the rule holds of a new table.
-- Used by: src/request_tokens.rt, mw_law_threads.
use Rattle.std.specs.Prelude.{ℕ, zero, suc, ◌+◌, ◌≡◌, ◌≢◌, ◌≤◌, ◌<◌, ◌==◌, ◌&&◌, ◌⊎◌, Bool, true, false, not, nat_lt, List, [], ◌∷◌, ◌++◌, length, slice_index, slice_set, Option, Some, None}
use Rattle.std.proofs.Common.{refl, sym, ap, subst, ◌∙◌, inl, inr, arith}
use Rattle.std.proofs.lemmas.Bool.Decides.{nat_tests}
use Rattle.std.proofs.lemmas.List.{get_or-set_same, get_or-set_other, length-set}
use mathlib.Core.Option.{some, none, some-injective, some-ne-none}
use lib.ListN.{get_elem?}
use Rattle.atomic_table.specs.Table.{Allows, Arrives, Enters, Joins, Me, Splits, State, keeps, opening, step}
use Rattle.mw_rule.specs.Rule.{weight}
use Rattle.mw_rule.proofs.FromLaws.{same_or_other}
use Rattle.mw_service.specs.declared.request_tokens.TheConstants.{WORKERS}
use Rattle.mw_service.specs.declared.token_views.RequestToken.{RequestToken}
use Rattle.mw_service.specs.declared.token_views.WorkerSource.{WorkerSource}
use Rattle.mw_service.specs.declared.token_views.TokenView.{TokenView}
use Rattle.mw_service.specs.RequestTokens.{AreOwn, after_next, came, no_tokens, source_of, times_had, times_in, to_come, took_source, total_of, with_more, with_next}

-- Sums over all threads.

total_set : (count : TokenView → ℕ) (views : List TokenView) (id : ℕ) (old new : TokenView) → get_elem? views id ≡ some old → total_of count (slice_set views id new) + count old ≡ total_of count views + count new
total_set count [] id old new is = absurd (some-ne-none old (sym is))
total_set count (one ∷ views) zero old new is = let same = ap count (some-injective one old is) in omega (arith, same)
total_set count (one ∷ views) (suc id) old new is = let rest = total_set count views id old new is in omega (arith, rest)

total_one : (count : TokenView → ℕ) (views : List TokenView) (id : ℕ) (one : TokenView) → get_elem? views id ≡ some one → count one ≤ total_of count views
total_one count [] id one is = absurd (some-ne-none one (sym is))
total_one count (first ∷ views) zero one is = let same = ap count (some-injective first one is) in omega (arith, same)
total_one count (first ∷ views) (suc id) one is = let rest = total_one count views id one is in omega (arith, rest)

-- what two threads have is no more than what all have
pub total_two : (count : TokenView → ℕ) (views : List TokenView) (id other : ℕ) (one two : TokenView) → other ≢ id → get_elem? views id ≡ some one → get_elem? views other ≡ some two → count one + count two ≤ total_of count views
total_two count [] id other one two apart is its = absurd (some-ne-none one (sym is))
total_two count (first ∷ views) zero zero one two apart is its = absurd (apart refl)
total_two count (first ∷ views) zero (suc other) one two apart is its =
    let same = ap count (some-injective first one is) in let rest = total_one count views other two its in omega (arith, same, rest)
total_two count (first ∷ views) (suc id) zero one two apart is its =
    let same = ap count (some-injective first two its) in let rest = total_one count views id one is in omega (arith, same, rest)
total_two count (first ∷ views) (suc id) (suc other) one two apart is its =
    let rest = total_two count views id other one two (λ e. apart (ap suc e)) is its in omega (arith, rest)

total_more : (count : TokenView → ℕ) (views : List TokenView) (last : TokenView) → total_of count (views ++ last ∷ []) ≡ total_of count views + count last
total_more count [] last = omega arith
total_more count (one ∷ views) last = let rest = total_more count views last in omega (arith, rest)

-- how often a token is in two lists
pub times_both : (worker number : ℕ) (first more : List RequestToken) → times_in worker number (first ++ more) ≡ times_in worker number first + times_in worker number more
times_both worker number [] more = omega arith
times_both worker number (one ∷ rest) more = let both = times_both worker number rest more in omega (arith, both)

-- a source gives out the token of its next number, and has yet to give out the later ones
gives : (own : Bool) (number next : ℕ) → weight (own && not (nat_lt number (next + 1))) + weight (own && (next == number)) ≡ weight (own && not (nat_lt number next))
gives false number next = refl
gives true number next = grind (arith, nat_tests)

parted : (worker number : ℕ) (source : Option WorkerSource) (tokens : List RequestToken)
    → times_had worker number (after_next (record { source = source; tokens = tokens })) + times_had worker number (with_next (record { source = source; tokens = tokens })) ≡ times_had worker number (record { source = source; tokens = tokens })
parted worker number None tokens = omega arith
parted worker number (Some source) tokens = let one = gives (source.worker == worker) number source.next in omega (arith, one)

-- the source of another worker has no token of this one
none_of_other : (worker number word next : ℕ) → worker ≢ word → times_had worker number (source_of word next) ≡ 0
none_of_other worker number word next apart = none_at (word == worker) (not_same word worker (λ e. apart (sym e)))
  where
    not_same : (one other : ℕ) → one ≢ other → (one == other) ≡ false
    not_same one other apart = grind (arith, nat_tests, apart)

    none_at : (own : Bool) → own ≡ false → weight (own && not (nat_lt number next)) + 0 ≡ 0
    none_at false is = refl
    none_at true is = absurd (cc)

one_of_source : (worker number word next : ℕ) → times_had worker number (source_of word next) ≤ 1
one_of_source worker number word next = at_most (word == worker && not (nat_lt number next))
  where
    at_most : (own : Bool) → weight own + 0 ≤ 1
    at_most true = omega arith
    at_most false = omega arith

-- a new table
pub begins : (words : List ℕ) → length words ≡ WORKERS → AreOwn (opening words [] no_tokens)
begins words long = record { long = long; none = λ worker number empty. refl; once = λ worker number. omega arith }

-- a thread comes
pub comes : (slots : ℕ) → Enters AreOwn slots 0 (λ n w. came (step slots 0 0 0 none) (no_tokens, []) n (w, []))
comes slots s own sized bound = (
  no_tokens,
  record {
    long = own.long;
    none = λ worker number empty. let more = total_more (times_had worker number) s.views no_tokens in let was = own.none worker number empty in omega (arith, more, was);
    once = λ worker number. let more = total_more (times_had worker number) s.views no_tokens in let was = own.once worker number in omega (arith, more, was);
  },
  refl,
)

-- a thread takes a source
pub takes_source : (slots word first : ℕ) → word < WORKERS → Arrives AreOwn slots word (λ _. 1) (took_source first (step slots word 1 0 none) (no_tokens, []))
takes_source slots word first low s own sized bound = elim (same_or_other (slice_index s.words word) 0) [
  | inl empty ↦ (
    source_of word first,
    keeps,
    tt,
    record {
      long = length-set s.words word 1 ∙ own.long;
      none = λ worker number is. elim (same_or_other worker word) [
        | inl same ↦ absurd (taken worker same is)
        | inr apart ↦
            let more = total_more (times_had worker number) s.views (source_of word first) in
            let was = own.none worker number (sym (get_or-set_other s.words word worker 1 0 apart) ∙ is) in
            let its = none_of_other worker number word first apart in omega (arith, more, was, its)
      ];
      once = λ worker number. elim (same_or_other worker word) [
        | inl same ↦
            let more = total_more (times_had worker number) s.views (source_of word first) in
            let was = own.none worker number (ap (slice_index s.words) same ∙ empty) in
            let its = one_of_source worker number word first in omega (arith, more, was, its)
        | inr apart ↦
            let more = total_more (times_had worker number) s.views (source_of word first) in
            let was = own.once worker number in
            let its = none_of_other worker number word first apart in omega (arith, more, was, its)
      ];
    },
    λ found. refl,
  )
  | inr full ↦ (
    no_tokens,
    keeps,
    tt,
    record {
      long = length-set s.words word 1 ∙ own.long;
      none = λ worker number is. elim (same_or_other worker word) [
        | inl same ↦ absurd (taken worker same is)
        | inr apart ↦
            let more = total_more (times_had worker number) s.views no_tokens in
            let was = own.none worker number (sym (get_or-set_other s.words word worker 1 0 apart) ∙ is) in omega (arith, more, was)
      ];
      once = λ worker number. let more = total_more (times_had worker number) s.views no_tokens in let was = own.once worker number in omega (arith, more, was);
    },
    λ found. absurd (full found),
  )
]
  where
    here : slice_index (slice_set s.words word 1) word ≡ 1
    here = get_or-set_same s.words word 1 0 (let long = own.long in omega (arith, long, low))

    taken : (worker : ℕ) → worker ≡ word → slice_index (slice_set s.words word 1) worker ≡ 0 → ⊥
    taken worker same is = let at = ap (slice_index (slice_set s.words word 1)) same in let one = here in absurd (omega (arith, at, one, is))

-- a source gives a token out
pub gives_token : (id : ℕ) (view : TokenView) → Splits AreOwn id view (after_next view) (with_next view)
gives_token id view s own at = record {
  long = own.long;
  none = λ worker number empty. let same = kept worker number in let was = own.none worker number empty in omega (arith, same, was);
  once = λ worker number. let same = kept worker number in let was = own.once worker number in omega (arith, same, was);
}
  where
    kept : (worker number : ℕ) → total_of (times_had worker number) (slice_set s.views id (after_next view) ++ with_next view ∷ []) ≡ total_of (times_had worker number) s.views
    kept worker number =
        let more = total_more (times_had worker number) (slice_set s.views id (after_next view)) (with_next view) in
        let set = total_set (times_had worker number) s.views id view (after_next view) at in
        let parts = parted worker number view.source view.tokens in omega (arith, more, set, parts)

-- a thread adds tokens to its own
pub adds_tokens : (id : ℕ) (view : TokenView) (other : ℕ) (its : TokenView) → Joins AreOwn id view other its (with_more view its) no_tokens
adds_tokens id view other its s own at apart its_at = record {
  long = own.long;
  none = λ worker number empty. let fewer = no_more worker number in let was = own.none worker number empty in omega (arith, fewer, was);
  once = λ worker number. let fewer = no_more worker number in let was = own.once worker number in omega (arith, fewer, was);
}
  where
    no_more : (worker number : ℕ) → total_of (times_had worker number) (slice_set (slice_set s.views id (with_more view its)) other no_tokens) ≤ total_of (times_had worker number) s.views
    no_more worker number =
        let first = total_set (times_had worker number) s.views id view (with_more view its) at in
        let second = total_set (times_had worker number) (slice_set s.views id (with_more view its)) other its no_tokens its_at in
        let both = times_both worker number view.tokens its.tokens in omega (arith, first, second, both)
