-- If a list agrees with a map, they still agree after one element of both is set to the same.
-- Used by: CallEndLaws, TakenOverMarks, Unchanged, among others.
use Rattle.std.specs.Prelude.{ℕ, zero, suc, ◌≡◌, ◌≢◌, ◌<◌, List, [], ◌∷◌, length, slice_get, slice_set, Some}
use Rattle.std.proofs.Common.{refl, sym, ap, subst, ◌∙◌, inl, inr, arith}
use Rattle.std.proofs.lemmas.Bool.{cases_eq}
use Rattle.std.proofs.lemmas.Bool.Decides.{nat_tests}
use Rattle.mw_world.specs.Maps.{upd}

-- the element that was set, and the others
pub set_here : {A : Type 0} (xs : List A) (i : ℕ) (x : A) → i < length xs → slice_get (slice_set xs i x) i ≡ Some x
set_here [] i x lt = absurd (omega (arith, lt))
set_here (y ∷ ys) zero x lt = refl
set_here (y ∷ ys) (suc i) x lt = set_here ys i x (omega (arith, lt))

pub set_else : {A : Type 0} (xs : List A) (i k : ℕ) (x : A) → k ≢ i → slice_get (slice_set xs i x) k ≡ slice_get xs k
set_else [] i k x apart = refl
set_else (y ∷ ys) zero zero x apart = absurd (apart refl)
set_else (y ∷ ys) zero (suc k) x apart = refl
set_else (y ∷ ys) (suc i) zero x apart = refl
set_else (y ∷ ys) (suc i) (suc k) x apart = set_else ys i k x (λ e. apart (ap suc e))

upd_here : {A : Type 0} (f : ℕ → A) (i k : ℕ) (x : A) → k ≡ i → upd f i x k ≡ x
upd_here f i k x e = grind (arith, nat_tests, e)

upd_else : {A : Type 0} (f : ℕ → A) (i k : ℕ) (x : A) → k ≢ i → upd f i x k ≡ f k
upd_else f i k x apart = grind (arith, nat_tests, apart)

-- A list and a map that agree, after one element of each was set.
pub set_agrees : {A : Type 0} (xs : List A) (f : ℕ → A) (n i : ℕ) (x : A) → i < length xs
    → ((k : ℕ) → k < n → slice_get xs k ≡ Some (f k)) → (k : ℕ) → k < n → slice_get (slice_set xs i x) k ≡ Some (upd f i x k)
set_agrees xs f n i x there agree k lt = elim (cases_eq k i) [
  | inl e ↦ subst (λ j. slice_get (slice_set xs i x) j ≡ Some (upd f i x j)) (sym e) (set_here xs i x there ∙ ap Some (sym (upd_here f i i x refl)))
  | inr apart ↦ set_else xs i k x apart ∙ agree k lt ∙ ap Some (sym (upd_else f i k x apart))
]

-- The same if each element represents what the map gives.
pub set_stands : {A B : Type 0} (P : A → B → Type 0) (xs : List A) (f : ℕ → B) (i : ℕ) (x : A) (y : B) → i < length xs → P x y
    → ((k : ℕ) (a : A) → slice_get xs k ≡ Some a → P a (f k)) → (k : ℕ) (a : A) → slice_get (slice_set xs i x) k ≡ Some a → P a (upd f i y k)
set_stands P xs f i x y there here stand k a is = elim (cases_eq k i) [
  | inl e ↦
      let same : x ≡ a = same_some x a (sym (set_here xs i x there) ∙ subst (λ j. slice_get (slice_set xs i x) j ≡ Some a) e is) in
      subst (λ b. P a b) (sym (upd_here f i k y e)) (subst (λ b. P b y) same here)
  | inr apart ↦ subst (λ b. P a b) (sym (upd_else f i k y apart)) (stand k a (sym (set_else xs i k x apart) ∙ is))
]
  where
    same_some : {A : Type 0} (x a : A) → Some x ≡ Some a → x ≡ a
    same_some x a e = cc

-- a map of which one element was set twice
pub upd_again : {A : Type 0} (f : ℕ → A) (i : ℕ) (x y : A) → upd (upd f i x) i y ≡ upd f i y
upd_again f i x y = λ q k. again k q
  where
    again : (k : ℕ) → upd (upd f i x) i y k ≡ upd f i y k
    again k = grind (arith, nat_tests)
