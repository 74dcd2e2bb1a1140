-- Two runs of device calls, one after the other, make one run, which went well or ended at its first failed call.
-- Used by: all functions that call the device.
use Rattle.std.proofs.Common.{◌≡◌, ◌⊎◌, ℕ, ◌+◌, ◌<◌, ◌≤◌, min, inl, inr, arith, subst, sym, IsTrue, is_ok, Result, Ok, Err, IsErr, is_err, true, false}
use Rattle.mw_disk.specs.Facts.{Facts, Called, Spares, most_counted}
use Rattle.mw_disk.specs.Runs.{Good, Bad}
use Rattle.mw_disk.proofs.RunLaws.{good_call, bad_call, good_trans, then_bad, bad_wider}
use Rattle.std.proofs.lemmas.Bool.{cases_lt}
use Rattle.mw_file.specs.Run.{Ran, FailsAtCall}

-- calls that went well, and then more that did
pub goes_on : (m n k : ℕ) (a b c : Facts) → m + n ≡ k → Good m a b → Good n b c → Good k a c
goes_on m n k a b c same ab bc = subst (λ (t : ℕ). Good t a c) same (good_trans m n a b c ab bc)

-- calls that went well, then a run that stopped at a fault and answers an error
pub stops : {T E : Type 0} (m n k : ℕ) (a b c : Facts) (r : Result T E) → m + n ≤ k → Good m a b → Bad n b c → IsErr r → Ran k a c r
stops m n k a b c (Ok x) within ab bc err = absurd (cc)
stops m n k a b c (Err e) within ab bc err = bad_wider (m + n) k a c within (then_bad m n a b c ab bc)

-- a run that went well or failed, if its number of calls is known by another name
pub ran_well : {T E : Type 0} (m n : ℕ) (a b : Facts) (r : Result T E) → m ≡ n → is_err r ≡ false → Ran m a b r → Good n a b
ran_well m n a b (Ok x) same well ran = subst (λ (t : ℕ). Good t a b) same ran
ran_well m n a b (Err e) same well ran = absurd (cc)

pub ran_badly : {T E : Type 0} (m n : ℕ) (a b : Facts) (r : Result T E) → m ≡ n → is_err r ≡ true → Ran m a b r → Bad n a b
ran_badly m n a b (Ok x) same badly ran = absurd (cc)
ran_badly m n a b (Err e) same badly ran = subst (λ (t : ℕ). Bad t a b) same ran

-- a run that stopped at a fault, as one of more calls that answers an error
pub ran_err : {T E : Type 0} (m k : ℕ) (a b : Facts) (r : Result T E) → m ≤ k → Bad m a b → IsErr r → Ran k a b r
ran_err m k a b (Ok x) within bad err = absurd (cc)
ran_err m k a b (Err e) within bad err = bad_wider m k a b within bad

-- a run of one call
pub ran_one : {T E : Type 0} (n : ℕ) (a b : Facts) (r : Result T E) → n ≡ 1 → Called a b (is_ok r) → (IsTrue a.honest → Spares a b (is_ok r)) → Ran n a b r
ran_one n a b (Ok x) is call spares = subst (λ (t : ℕ). Good t a b) (sym is) (good_call a b call)
ran_one n a b (Err e) is call spares = subst (λ (t : ℕ). Bad t a b) (sym is) (bad_call a b call spares)

-- a run that went well ended before the call that is known to fail
pub told_well : (calls k : ℕ) (a b : Facts) → FailsAtCall a k → Good calls a b → calls ≤ k
told_well calls k a b doomed good = elim (cases_lt k calls) [
  | inl reached ↦ absurd (good.none_doomed k reached doomed.fails)
  | inr ended ↦ ended
]

-- a run that met a fault met it at that call, or was refused memory before
pub told_badly : (calls k : ℕ) (a b : Facts) → IsTrue a.honest → FailsAtCall a k → (bad : Bad calls a b)
    → ((bad.well ≡ k) × (k < calls)) ⊎ (b.refused ≡ min (a.refused + 1) most_counted)
told_badly calls k a b honest doomed bad = elim (cases_lt bad.well k) [
  | inl before ↦ inr (bad.spared honest (doomed.go bad.well before))
  | inr since ↦ elim (cases_lt k bad.well) [
    | inl past ↦ absurd (bad.none_doomed k past doomed.fails)
    | inr at ↦ inl (omega (arith, since, at), omega (arith, since, at, bad.fewer))
  ]
]
