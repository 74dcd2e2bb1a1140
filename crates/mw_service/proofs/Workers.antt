-- When a loop makes a worker of each pass, their numbers agree, and what holds of all passes holds of the next.
-- Used by: locked, mw_programs.
use Rattle.std.proofs.Common.{◌≡◌, ℕ, suc, ◌+◌, List, [], ◌∷◌, ◌++◌, length, All, Result, Ok, Err, is_ok, is_err, false, if◌then◌else◌, ap, ◌∙◌, subst, arith, length-append}

-- with one more made and one fewer left, the sum is the same
pub one_more : {A : Type 0} (all so_far now : ℕ) (left rest : List A) (next : A) → left ≡ next ∷ rest → now ≡ so_far + 1 → so_far + length left ≡ all → now + length rest ≡ all
one_more all so_far now left rest next is more was =
    let long : length left ≡ length rest + 1 = ap length is ∙ omega arith in
    omega (arith, long, more, was)

-- what holds of all that are left holds of those after the next one
pub behind : {A : Type 0} (P : A → Type 0) (left rest : List A) (next : A) → left ≡ next ∷ rest → All P left → All P rest
behind P left rest next is each =
    let every : All P (next ∷ rest) = subst (λ xs. All P xs) is each in
    λ k d lt. every (suc k) d (omega (arith, lt))

-- and of the next one
pub of_next : {A : Type 0} (P : A → Type 0) (left rest : List A) (next : A) → left ≡ next ∷ rest → All P left → P next
of_next P left rest next is each =
    let every : All P (next ∷ rest) = subst (λ xs. All P xs) is each in
    every 0 next (omega arith)

-- a push that memory did not refuse makes the list longer by one
pub pushed : {A T E : Type 0} (r : Result T E) (old new : List A) (x : A) → is_err r ≡ false → new ≡ (if is_ok r then old ++ x ∷ [] else old) → length new ≡ length old + 1
pushed (Ok y) old new x well is = ap length is ∙ length-append old (x ∷ [])
pushed (Err e) old new x well is = absurd (cc)
