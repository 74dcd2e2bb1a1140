-- A reader that takes digits one at a time may keep a number of 2^64 or more as 2^64 - 1, and still finds the right bytes
-- after the digits.
-- Used by: digits_at.
use Rattle.std.proofs.Common.{◌≡◌, ℕ, ◌+◌, ◌-◌, ◌*◌, ◌<◌, ◌≤◌, min, true, false, List, [], ◌∷◌, length, get_or, take, drop, take_all, ◌⊎◌, inl, inr, refl, sym, ap, ◌∙◌, arith, le-leb}
use Rattle.std.proofs.lemmas.Bool.Decides.{nat_tests}
use Rattle.mw_words.specs.Name.{is_digit}
use Rattle.mw_line.specs.LineReader.{digits_at, seen, narrow}

pub is_digit_within : (b : ℕ) → 48 ≤ b → b ≤ 57 → is_digit b ≡ true
is_digit_within b low high = rw (le-leb 48 b low, le-leb b 57 high) refl

pub no_digit_below : (b : ℕ) → b < 48 → is_digit b ≡ false
no_digit_below b low = grind (arith, nat_tests)

pub no_digit_above : (b : ℕ) → 57 < b → is_digit b ≡ false
no_digit_above b high = grind (arith, nat_tests)

-- the first byte is no digit, or there is none
abbrev pub Ends : List ℕ → Type 0
Ends rest = (length rest ≡ 0) ⊎ (is_digit (get_or rest 0 0) ≡ false)

pub ended : (n : ℕ) (rest : List ℕ) → Ends rest → digits_at n rest ≡ (n, rest)
ended n [] h = refl
ended n (b ∷ bs) (inl h) = absurd (omega arith)
ended n (b ∷ bs) (inr h) = rw h refl

pub one_digit : (n b : ℕ) (bs : List ℕ) → 48 ≤ b → b ≤ 57 → digits_at n (b ∷ bs) ≡ digits_at (n * 10 + (b - 48)) bs
one_digit n b bs low high = rw (is_digit_within b low high) refl

pub digit_in_front : (n : ℕ) (rest : List ℕ) → 1 ≤ length rest → 48 ≤ get_or rest 0 0 → get_or rest 0 0 ≤ 57 → digits_at n rest ≡ digits_at (n * 10 + (get_or rest 0 0 - 48)) (take (length rest - 1) (drop 1 rest))
digit_in_front n [] long low high = absurd (omega arith)
digit_in_front n (b ∷ bs) long low high = rw (take_all (length (b ∷ bs) - 1) bs (omega arith)) (one_digit n b bs low high)

pub capped_step : (n d : ℕ) → min (min (min n 18446744073709551615 * 10) 18446744073709551615 + d) 18446744073709551615 ≡ min (n * 10 + d) 18446744073709551615
capped_step n d = omega arith

pub seen_narrowly : (number so_far : ℕ) (rest bytes : List ℕ) → number ≡ narrow.value so_far → digits_at so_far rest ≡ digits_at 0 bytes → digits_at so_far rest ≡ (so_far, rest) → (number, rest) ≡ seen narrow.value (digits_at 0 bytes)
seen_narrowly number so_far rest bytes value same end =
    let e : digits_at 0 bytes ≡ (so_far, rest) = sym same ∙ end in
    ap (λ (n : ℕ). (n, rest)) value ∙ sym (ap (seen narrow.value) e)
