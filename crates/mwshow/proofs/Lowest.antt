-- A search from below finds the lowest number for which a test holds. Used by: SizedFile::place_of, SizedFile::home_of.
use Rattle.std.proofs.Common.{◌≡◌, ℕ, zero, suc, ◌+◌, ◌<◌, Bool, true, false, nat_lt, sym, ap, ◌∙◌, inl, inr, arith, add-one}
use Rattle.std.proofs.lemmas.Bool.{cases_eq, lt-ltb, le-ltb, cond-true, cond-false}
use Rattle.mwshow.specs.Places.{first_of}

-- one more number for which the test doesn't hold
pub none_more : (test : ℕ → Bool) (i : ℕ) → first_of test i ≡ i → test i ≡ false → first_of test (i + 1) ≡ i + 1
none_more test i none here =
    let outside : nat_lt (first_of test i) i ≡ false = le-ltb _ _ (omega (arith, none)) in
    ap (first_of test) (add-one i) ∙ cond-false _ _ _ outside ∙ cond-false _ _ _ here ∙ sym (add-one i)

-- the first number for which it holds, among more
pub found : (test : ℕ → Bool) (n i : ℕ) → i < n → first_of test i ≡ i → test i ≡ true → first_of test n ≡ i
found test zero i lt none here = absurd (omega arith)
found test (suc n) i lt none here =
    elim (cases_eq i n) [
      | inl e ↦
          let at : first_of test n ≡ n = sym (ap (first_of test) e) ∙ none ∙ e in
          let outside : nat_lt (first_of test n) n ≡ false = le-ltb _ _ (omega (arith, at)) in
          cond-false _ _ _ outside ∙ cond-true _ _ _ (sym (ap test e) ∙ here) ∙ sym e
      | inr ne ↦
          let below : first_of test n ≡ i = found test n i (omega (arith, ne)) none here in
          let inside : nat_lt (first_of test n) n ≡ true = lt-ltb _ _ (omega (arith, below, ne)) in
          cond-true _ _ _ inside ∙ below
    ]
