-- Two lemmas of arithmetic: two numbers are equal or not, and a number is 0 or at least 1.
-- Used by: mw_law_store, mw_rule, mw_law_threads.
use Rattle.std.specs.Prelude.{ℕ, zero, suc, ◌≡◌, ◌≢◌, ◌≤◌, ◌⊎◌, ◌==◌, Bool, true, false}
use Rattle.std.proofs.Common.{refl, inl, inr, arith}
use Rattle.std.proofs.lemmas.Bool.Decides.{nat_tests}

-- equal or not
pub same_or_other : (one other : ℕ) → (one ≡ other) ⊎ (one ≢ other)
same_or_other one other = by_test (one == other) refl
  where
    by_test : (b : Bool) → (one == other) ≡ b → (one ≡ other) ⊎ (one ≢ other)
    by_test true is = inl (grind (arith, nat_tests, is))
    by_test false is = inr (λ same. absurd (grind (arith, nat_tests, is, same)))

-- 0 or at least 1
pub nothing_or_some : (n : ℕ) → (n ≡ 0) ⊎ (1 ≤ n)
nothing_or_some zero = inl refl
nothing_or_some (suc n) = inr (omega arith)
