-- The list of a thread's finished requests is split by worker without loss, and two merged lists can be split again.
-- Used by: knowledge_stays_right, mw_table.
use Rattle.std.specs.Prelude.{ℕ, ◌+◌, ◌≡◌, ◌≢◌, ◌==◌, Bool, true, false, cond, List, [], ◌∷◌, ◌++◌}
use Rattle.std.proofs.Common.{refl, sym, ap, subst, ◌∙◌, append-nil, inl, inr, arith}
use Rattle.std.proofs.lemmas.Bool.Decides.{nat_tests}
use Rattle.mw_rule.proofs.FromLaws.{same_or_other}
use Rattle.mw_rule.specs.declared.views.Finished.{Finished}
use Rattle.mw_rule.specs.declared.views.WorkerToken.{WorkerToken}
use Rattle.mw_rule.specs.declared.views.View.{View}
use Rattle.mw_rule.specs.Splits.{dealt, head_of, of_head, of_others, of_rest, of_worker, rest_of}
use Rattle.mw_rule.specs.Laws.{MergedPartsAgain, NotesLoseNothing}
use Rattle.mw_rule.specs.Rule.{Each, IsOfThese, IsRight, is_of, times_finished, weight}
use Rattle.mw_rule.proofs.Totals.{each_on, own_once, weight_none}

is_own : (one other : ℕ) → one ≡ other → (one == other) ≡ true
is_own one other same = grind (arith, nat_tests, same)

is_others : (one other : ℕ) → one ≢ other → (one == other) ≡ false
is_others one other apart = grind (arith, nat_tests, apart)

own_so : (one other : ℕ) → (one == other) ≡ true → one ≡ other
own_so one other is = grind (arith, nat_tests, is)

others_so : (one other : ℕ) → (one == other) ≡ false → one ≢ other
others_so one other is same = absurd (grind (arith, nat_tests, is, same))

-- What holds of each request holds of each that a test picks.
picked : (P : Finished → Type 0) (own : Bool) (one : Finished) (rest : List Finished) → (own ≡ true → P one) → Each P rest → Each P (cond own (one ∷ rest) rest)
picked P true one rest here holds = (here refl, holds)
picked P false one rest here holds = holds

left_out : (P : Finished → Type 0) (own : Bool) (one : Finished) (rest : List Finished) → (own ≡ false → P one) → Each P rest → Each P (cond own rest (one ∷ rest))
left_out P true one rest here holds = holds
left_out P false one rest here holds = (here refl, holds)

each_of_worker : (P Q : Finished → Type 0) (worker : ℕ) (mine : List Finished) → ((one : Finished) → one.worker ≡ worker → P one → Q one) → Each P mine → Each Q (of_worker worker mine)
each_of_worker P Q worker [] goes holds = tt
each_of_worker P Q worker (one ∷ mine) goes holds =
    picked Q (one.worker == worker) one (of_worker worker mine) (λ is. goes one (own_so one.worker worker is) holds.0) (each_of_worker P Q worker mine goes holds.1)

each_of_others : (P Q : Finished → Type 0) (worker : ℕ) (mine : List Finished) → ((one : Finished) → one.worker ≢ worker → P one → Q one) → Each P mine → Each Q (of_others worker mine)
each_of_others P Q worker [] goes holds = tt
each_of_others P Q worker (one ∷ mine) goes holds =
    left_out Q (one.worker == worker) one (of_others worker mine) (λ is. goes one (others_so one.worker worker is) holds.0) (each_of_others P Q worker mine goes holds.1)

pub each_of_head : (P : Finished → Type 0) (token : List WorkerToken) (mine : List Finished) → Each P mine → Each P (of_head token mine)
each_of_head P [] mine holds = tt
each_of_head P (one ∷ rest) mine holds = each_of_worker P P one.worker mine (λ other own so. so) holds

pub each_of_rest : (P : Finished → Type 0) (token : List WorkerToken) (mine : List Finished) → Each P mine → Each P (of_rest token mine)
each_of_rest P [] mine holds = holds
each_of_rest P (one ∷ rest) mine holds = each_of_others P P one.worker mine (λ other apart so. so) holds

-- The requests of the first token's worker are that worker's, and the others are the other workers'.
pub head_own : (token : List WorkerToken) (mine : List Finished) → Each (IsOfThese token) mine → Each (IsOfThese (head_of token)) (of_head token mine)
head_own [] mine own = tt
head_own (one ∷ rest) mine own =
    each_of_worker (IsOfThese (one ∷ rest)) (IsOfThese (one ∷ [])) one.worker mine (λ other is so. let once = own_once other.worker one (sym is) in omega (arith, once)) own

pub rest_own : (token : List WorkerToken) (mine : List Finished) → Each (IsOfThese token) mine → Each (IsOfThese (rest_of token)) (of_rest token mine)
rest_own [] mine own = own
rest_own (one ∷ rest) mine own =
    each_of_others (IsOfThese (one ∷ rest)) (IsOfThese rest) one.worker mine (λ other apart so. let none = weight_none one.worker other.worker (λ e. apart (sym e)) in omega (arith, none, so)) own

-- A request is in the two parts together as often as in the whole list.
parted_sum : (tenant request : ℕ) (own : Bool) (one : Finished) (its others : List Finished)
    → times_finished tenant request (cond own others (one ∷ others)) + times_finished tenant request (cond own (one ∷ its) its) ≡ weight (is_of tenant request one) + (times_finished tenant request others + times_finished tenant request its)
parted_sum tenant request true one its others = omega arith
parted_sum tenant request false one its others = omega arith

worker_sum : (tenant request worker : ℕ) (mine : List Finished) → times_finished tenant request (of_others worker mine) + times_finished tenant request (of_worker worker mine) ≡ times_finished tenant request mine
worker_sum tenant request worker [] = refl
worker_sum tenant request worker (one ∷ mine) =
    let here = parted_sum tenant request (one.worker == worker) one (of_worker worker mine) (of_others worker mine) in let rest = worker_sum tenant request worker mine in omega (arith, here, rest)

pub parts_sum : (tenant request : ℕ) (token : List WorkerToken) (mine : List Finished) → times_finished tenant request (of_rest token mine) + times_finished tenant request (of_head token mine) ≡ times_finished tenant request mine
parts_sum tenant request [] mine = omega arith
parts_sum tenant request (one ∷ rest) mine = worker_sum tenant request one.worker mine

-- If all are of one worker, or none is, one part is the whole list and the other is empty.
all_own : (worker : ℕ) (mine : List Finished) → Each (λ one. one.worker ≡ worker) mine → (of_worker worker mine ≡ mine) × (of_others worker mine ≡ [])
all_own worker [] own = (refl, refl)
all_own worker (one ∷ mine) own =
    let rest = all_own worker mine own.1 in
    let test = is_own one.worker worker own.0 in (
      ap (λ own. cond own (one ∷ of_worker worker mine) (of_worker worker mine)) test ∙ ap (λ all. one ∷ all) rest.0,
      ap (λ own. cond own (of_others worker mine) (one ∷ of_others worker mine)) test ∙ rest.1,
    )

none_own : (worker : ℕ) (mine : List Finished) → Each (λ one. one.worker ≢ worker) mine → (of_worker worker mine ≡ []) × (of_others worker mine ≡ mine)
none_own worker [] apart = (refl, refl)
none_own worker (one ∷ mine) apart =
    let rest = none_own worker mine apart.1 in
    let test = is_others one.worker worker apart.0 in (
      ap (λ own. cond own (one ∷ of_worker worker mine) (of_worker worker mine)) test ∙ rest.0,
      ap (λ own. cond own (of_others worker mine) (one ∷ of_others worker mine)) test ∙ ap (λ all. one ∷ all) rest.1,
    )

picked_more : (own : Bool) (one : Finished) (mine more : List Finished) → cond own (one ∷ (mine ++ more)) (mine ++ more) ≡ cond own (one ∷ mine) mine ++ more
picked_more true one mine more = refl
picked_more false one mine more = refl

left_more : (own : Bool) (one : Finished) (mine more : List Finished) → cond own (mine ++ more) (one ∷ (mine ++ more)) ≡ cond own mine (one ∷ mine) ++ more
left_more true one mine more = refl
left_more false one mine more = refl

worker_more : (worker : ℕ) (mine more : List Finished) → of_worker worker (mine ++ more) ≡ of_worker worker mine ++ of_worker worker more
worker_more worker [] more = refl
worker_more worker (one ∷ mine) more =
    ap (λ all. cond (one.worker == worker) (one ∷ all) all) (worker_more worker mine more) ∙ picked_more (one.worker == worker) one (of_worker worker mine) (of_worker worker more)

others_more : (worker : ℕ) (mine more : List Finished) → of_others worker (mine ++ more) ≡ of_others worker mine ++ of_others worker more
others_more worker [] more = refl
others_more worker (one ∷ mine) more =
    ap (λ all. cond (one.worker == worker) all (one ∷ all)) (others_more worker mine more) ∙ left_more (one.worker == worker) one (of_others worker mine) (of_others worker more)

-- a request of the one token's worker
of_one : (token : WorkerToken) (one : Finished) → IsOfThese (token ∷ []) one → one.worker ≡ token.worker
of_one token one own = elim (same_or_other one.worker token.worker) [
  | inl same ↦ same
  | inr apart ↦ let none = weight_none token.worker one.worker (λ e. apart (sym e)) in absurd (omega (arith, none, own))
]

pub notes_lose_nothing : NotesLoseNothing
notes_lose_nothing view right none = no_more view.mine (subst (λ (all : List WorkerToken). Each (IsOfThese all) view.mine) none right.own)
  where
    no_more : (mine : List Finished) → Each (IsOfThese []) mine → mine ≡ []
    no_more [] own = refl
    no_more (one ∷ mine) own = let some = own.0 in absurd (omega (arith, some))

-- if a thread has one token, it gives all its finished requests away with it
pub dealt_alone : (view : View) (one : WorkerToken) → view.tokens ≡ one ∷ [] → IsRight view → ((dealt view).tokens ≡ view.tokens) × ((dealt view).mine ≡ view.mine)
dealt_alone view one only right =
    let own = all_own one.worker view.mine (each_on (IsOfThese (one ∷ [])) (λ f. f.worker ≡ one.worker) (of_one one) view.mine (subst (λ (all : List WorkerToken). Each (IsOfThese all) view.mine) only right.own)) in
    (ap head_of only ∙ sym only, ap (λ all. of_head all view.mine) only ∙ own.0)

pub merged_parts_again : MergedPartsAgain
merged_parts_again view its one other only theirs apart right its_right =
    let both : view.tokens ++ its.tokens ≡ one ∷ other ∷ [] = λ i. only i ++ theirs i in
    let mine = view.mine ++ its.mine in
    let own = all_own one.worker view.mine (each_on (IsOfThese (one ∷ [])) (λ f. f.worker ≡ one.worker) (of_one one) view.mine (subst (λ (all : List WorkerToken). Each (IsOfThese all) view.mine) only right.own)) in
    let none = none_own one.worker its.mine (each_on (IsOfThese (other ∷ [])) (λ f. f.worker ≢ one.worker) (λ f goes. λ same. apart (sym same ∙ of_one other f goes)) its.mine (subst (λ (all : List WorkerToken). Each (IsOfThese all) its.mine) theirs its_right.own)) in (
      ap head_of both ∙ sym only,
      ap (λ all. of_head all mine) both ∙ worker_more one.worker view.mine its.mine ∙ (λ i. own.0 i ++ none.0 i) ∙ append-nil view.mine,
      ap rest_of both ∙ sym theirs,
      ap (λ all. of_rest all mine) both ∙ others_more one.worker view.mine its.mine ∙ (λ i. own.1 i ++ none.1 i),
      λ free its_free. (refl, λ i. free i ++ its_free i),
    )
