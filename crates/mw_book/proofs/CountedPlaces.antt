-- How many numbers below a bound pass a test, and whether one does: after one more step, and after one number's test changed.
-- Used by: ChosenChanges, GivenUp, MovedRecords, among others.
use Rattle.std.proofs.Common.{◌≡◌, ◌≢◌, ℕ, zero, suc, ◌+◌, ◌<◌, ◌≤◌, Bool, true, false, if◌then◌else◌, refl, sym, ap, ◌∙◌, inl, inr, arith}
use Rattle.std.proofs.lemmas.Bool.{cases_Bool, cases_eq, cond-true, cond-false, or_cases, or_left, or_right}
use Rattle.mw_book.specs.RecordsAhead.{any_below, count_below}

-- a number below the bound that passes
pub record Passes (p : ℕ → Bool) (n : ℕ) : Type 0 where
  pub number : ℕ
  pub low : number < n
  pub so : p number ≡ true

pub any_there : (p : ℕ → Bool) (n : ℕ) → any_below p n ≡ true → Passes p n
any_there p zero is = absurd (let e : false ≡ true = is in cc)
any_there p (suc n) is = elim (or_cases (p n) (any_below p n) is) [
  | inl here ↦ record { number = n; low = omega arith; so = here }
  | inr rest ↦ let one = any_there p n rest in record { number = one.number; low = (let lt = one.low in omega (arith, lt)); so = one.so }
]

pub any_by : (p : ℕ → Bool) (n k : ℕ) → k < n → p k ≡ true → any_below p n ≡ true
any_by p zero k lt is = absurd (let e : ⊥ = omega (arith, lt) in e)
any_by p (suc n) k lt is = elim (cases_eq k n) [
  | inl here ↦ or_left (p n) (any_below p n) (ap p (sym here) ∙ is)
  | inr apart ↦ or_right (p n) (any_below p n) (any_by p n k (omega (arith, lt, apart)) is)
]

-- tests that agree below the bound
pub count_same : (p q : ℕ → Bool) (n : ℕ) → ((k : ℕ) → k < n → p k ≡ q k) → count_below p n ≡ count_below q n
count_same p q zero same = refl
count_same p q (suc n) same =
    let here = same n (omega arith) in
    let rest = count_same p q n (λ k lt. same k (omega (arith, lt))) in
    λ i. if here i then rest i + 1 else rest i

pub count_yes : (p : ℕ → Bool) (n : ℕ) → p n ≡ true → count_below p (suc n) ≡ count_below p n + 1
count_yes p n is = cond-true (p n) (count_below p n + 1) (count_below p n) is

pub count_no : (p : ℕ → Bool) (n : ℕ) → p n ≡ false → count_below p (suc n) ≡ count_below p n
count_no p n is = cond-false (p n) (count_below p n + 1) (count_below p n) is

-- none passes
pub count_none : (p : ℕ → Bool) (n : ℕ) → ((k : ℕ) → k < n → p k ≡ false) → count_below p n ≡ 0
count_none p zero none = refl
count_none p (suc n) none = count_no p n (none n (omega arith)) ∙ count_none p n (λ k lt. none k (omega (arith, lt)))

-- the highest that passes is this one
pub count_highest : (p : ℕ → Bool) (n k : ℕ) → k < n → p k ≡ true → ((j : ℕ) → k < j → j < n → p j ≡ false) → count_below p n ≡ count_below p k + 1
count_highest p zero k lt is none = absurd (let e : ⊥ = omega (arith, lt) in e)
count_highest p (suc n) k lt is none = elim (cases_eq k n) [
  | inl here ↦ count_yes p n (ap p (sym here) ∙ is) ∙ ap (λ m. count_below p m + 1) (sym here)
  | inr apart ↦ count_no p n (none n (omega (arith, lt, apart)) (omega arith)) ∙ count_highest p n k (omega (arith, lt, apart)) is (λ j less few. none j less (omega (arith, few)))
]

-- one number passes the other test only, and all others agree
pub count_more : (p q : ℕ → Bool) (n k : ℕ) → k < n → p k ≡ false → q k ≡ true → ((j : ℕ) → j < n → j ≢ k → q j ≡ p j) → count_below q n ≡ count_below p n + 1
count_more p q zero k lt off on same = absurd (let e : ⊥ = omega (arith, lt) in e)
count_more p q (suc n) k lt off on same = elim (cases_eq k n) [
  | inl here ↦
      let rest = count_same q p n (λ j less. same j (omega (arith, less)) (λ is. omega (arith, is, here, less))) in
      let more = count_yes q n (ap q (sym here) ∙ on) in
      let less_by = count_no p n (ap p (sym here) ∙ off) in
      omega (arith, rest, more, less_by)
  | inr apart ↦
      let rest = count_more p q n k (omega (arith, lt, apart)) off on (λ j less other. same j (omega (arith, less)) other) in
      let here = same n (omega arith) (λ is. apart (sym is)) in
      elim (cases_Bool (p n)) [
        | inl is ↦ let more = count_yes q n (here ∙ is) in let also = count_yes p n is in omega (arith, rest, more, also)
        | inr isnt ↦ let same_as = count_no q n (here ∙ isnt) in let also = count_no p n isnt in omega (arith, rest, same_as, also)
      ]
]

-- one that passes is counted
pub count_some : (p : ℕ → Bool) (n k : ℕ) → k < n → p k ≡ true → 1 ≤ count_below p n
count_some p zero k lt is = absurd (let e : ⊥ = omega (arith, lt) in e)
count_some p (suc n) k lt is = elim (cases_Bool (p n)) [
  | inl here ↦ let more = count_yes p n here in omega (arith, more)
  | inr isnt ↦ elim (cases_eq k n) [
    | inl here ↦ absurd (let e : true ≡ false = sym (ap p (sym here) ∙ is) ∙ isnt in cc)
    | inr apart ↦ let rest = count_some p n k (omega (arith, lt, apart)) is in let same_as = count_no p n isnt in omega (arith, rest, same_as)
  ]
]
