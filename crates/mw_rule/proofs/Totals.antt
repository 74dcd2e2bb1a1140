-- Lemmas about sums of counts over all threads' views (ghost knowledge), and about properties of each element of a list.
-- Used by: mw_table, mw_service, mw_law_threads.
use Rattle.std.specs.Prelude.{ℕ, zero, suc, ◌+◌, ◌≡◌, ◌≢◌, ◌≤◌, ◌==◌, ◌&&◌, Bool, true, false, List, [], ◌∷◌, ◌++◌, slice_set}
use Rattle.std.proofs.Common.{refl, sym, ap, inl, inr, arith}
use Rattle.std.proofs.lemmas.Bool.Decides.{nat_tests}
use mathlib.Core.Option.{some, some-injective, some-ne-none}
use lib.ListN.{get_elem?}
use Rattle.mw_rule.proofs.FromLaws.{same_or_other}
use Rattle.mw_rule.specs.declared.views.Finished.{Finished}
use Rattle.mw_rule.specs.declared.views.WorkerToken.{WorkerToken}
use Rattle.mw_rule.specs.declared.views.View.{View}
use Rattle.mw_rule.specs.Splits.{head_of, rest_of}
use Rattle.mw_rule.specs.Rule.{Each, is_of, times, times_finished, weight, total}

pub total_set : (count : View → ℕ) (views : List View) (id : ℕ) (old new : View) → get_elem? views id ≡ some old → total count (slice_set views id new) + count old ≡ total count views + count new
total_set count [] id old new is = absurd (some-ne-none old (sym is))
total_set count (one ∷ views) zero old new is = let same = ap count (some-injective one old is) in omega (arith, same)
total_set count (one ∷ views) (suc id) old new is = let rest = total_set count views id old new is in omega (arith, rest)

pub total_one : (count : View → ℕ) (views : List View) (id : ℕ) (one : View) → get_elem? views id ≡ some one → count one ≤ total count views
total_one count [] id one is = absurd (some-ne-none one (sym is))
total_one count (first ∷ views) zero one is = let same = ap count (some-injective first one is) in omega (arith, same)
total_one count (first ∷ views) (suc id) one is = let rest = total_one count views id one is in omega (arith, rest)

pub total_two : (count : View → ℕ) (views : List View) (id other : ℕ) (one two : View) → other ≢ id → get_elem? views id ≡ some one → get_elem? views other ≡ some two → count one + count two ≤ total count views
total_two count [] id other one two apart is its = absurd (some-ne-none one (sym is))
total_two count (first ∷ views) zero zero one two apart is its = absurd (apart refl)
total_two count (first ∷ views) zero (suc other) one two apart is its =
    let same = ap count (some-injective first one is) in let rest = total_one count views other two its in omega (arith, same, rest)
total_two count (first ∷ views) (suc id) zero one two apart is its =
    let same = ap count (some-injective first two its) in let rest = total_one count views id one is in omega (arith, same, rest)
total_two count (first ∷ views) (suc id) (suc other) one two apart is its =
    let rest = total_two count views id other one two (λ e. apart (ap suc e)) is its in omega (arith, rest)

pub total_more : (count : View → ℕ) (views : List View) (last : View) → total count (views ++ last ∷ []) ≡ total count views + count last
total_more count [] last = omega arith
total_more count (one ∷ views) last = let rest = total_more count views last in omega (arith, rest)

pub weight_none : (one other : ℕ) → one ≢ other → weight (one == other) ≡ 0
weight_none one other apart = grind (arith, nat_tests, apart)

pub weight_own : (one other : ℕ) → one ≡ other → weight (one == other) ≡ 1
weight_own one other same = grind (arith, nat_tests, same)

pub own_once : (worker : ℕ) (token : WorkerToken) → token.worker ≡ worker → times worker (token ∷ []) ≡ 1
own_once worker token own = let one = weight_own token.worker worker own in omega (arith, one)

apart_from : (one other : ℕ) → weight (one == other) ≡ 0 → one ≢ other
apart_from one other none same = let is = weight_own one other same in absurd (omega (arith, none, is))

-- a property of each of these tokens, none of which is this worker's
pub each_apart : (P Q : WorkerToken → Type 0) (worker : ℕ) (all : List WorkerToken) → times worker all ≡ 0 → ((one : WorkerToken) → one.worker ≢ worker → P one → Q one) → Each P all → Each Q all
each_apart P Q worker [] none keeps holds = tt
each_apart P Q worker (one ∷ rest) none keeps holds = (
  keeps one (apart_from one.worker worker (omega (arith, none))) holds.0,
  each_apart P Q worker rest (omega (arith, none)) keeps holds.1,
)

pub each_on : {A : Type 0} (P Q : A → Type 0) → ((one : A) → P one → Q one) → (all : List A) → Each P all → Each Q all
each_on P Q goes [] holds = tt
each_on P Q goes (one ∷ rest) holds = (goes one holds.0, each_on P Q goes rest holds.1)

pub each_more : {A : Type 0} (P : A → Type 0) (all more : List A) → Each P all → Each P more → Each P (all ++ more)
each_more P [] more first rest = rest
each_more P (one ∷ all) more first rest = (first.0, each_more P all more first.1 rest)

pub each_head : (P : WorkerToken → Type 0) (all : List WorkerToken) → Each P all → Each P (head_of all)
each_head P [] holds = tt
each_head P (one ∷ rest) holds = (holds.0, tt)

pub each_rest : (P : WorkerToken → Type 0) (all : List WorkerToken) → Each P all → Each P (rest_of all)
each_rest P [] holds = tt
each_rest P (one ∷ rest) holds = holds.1

-- the first token, and the others
pub heads_and_rests : (worker : ℕ) (all : List WorkerToken) → times worker (rest_of all) + times worker (head_of all) ≡ times worker all
heads_and_rests worker [] = refl
heads_and_rests worker (one ∷ rest) = omega arith

pub times_behind : (worker : ℕ) (all more : List WorkerToken) → times worker (all ++ more) ≡ times worker all + times worker more
times_behind worker [] more = omega arith
times_behind worker (one ∷ all) more = let rest = times_behind worker all more in omega (arith, rest)

-- If no view has any, the total is 0.
pub total_none : (count : View → ℕ) (views : List View) → ((id : ℕ) (view : View) → get_elem? views id ≡ some view → count view ≡ 0) → total count views ≡ 0
total_none count [] none = refl
total_none count (one ∷ views) none = let first = none zero one refl in let rest = total_none count views (λ id view is. none (suc id) view is) in omega (arith, first, rest)

-- Requests that are added after others.
pub times_more : (tenant request : ℕ) (mine more : List Finished) → times_finished tenant request (mine ++ more) ≡ times_finished tenant request mine + times_finished tenant request more
times_more tenant request [] more = omega arith
times_more tenant request (one ∷ mine) more = let rest = times_more tenant request mine more in omega (arith, rest)

-- A finished request counts for no other tenant or number.
pub weight_at : (one : Finished) (tenant request : ℕ) → (one.tenant ≡ tenant → one.request ≢ request) → weight (is_of tenant request one) ≡ 0
weight_at one tenant request apart = elim (same_or_other one.tenant tenant) [
  | inl same ↦ let not_it = apart same in both (one.tenant == tenant) (one.request == request) (weight_none one.request request not_it)
  | inr other ↦ first (one.tenant == tenant) (one.request == request) (weight_none one.tenant tenant other)
]
  where
    both : (a b : Bool) → weight b ≡ 0 → weight (a && b) ≡ 0
    both true b none = none
    both false b none = refl

    first : (a b : Bool) → weight a ≡ 0 → weight (a && b) ≡ 0
    first true b none = absurd (omega (arith, none))
    first false b none = refl

pub weight_few : (own : Bool) → weight own ≤ 1
weight_few true = omega arith
weight_few false = omega arith

-- If each of these is another request, it isn't among them.
pub times_none : (tenant request : ℕ) (mine : List Finished) → Each (λ one. one.tenant ≡ tenant → one.request ≢ request) mine → times_finished tenant request mine ≡ 0
times_none tenant request [] apart = refl
times_none tenant request (one ∷ mine) apart = let here = weight_at one tenant request apart.0 in let rest = times_none tenant request mine apart.1 in omega (arith, here, rest)
