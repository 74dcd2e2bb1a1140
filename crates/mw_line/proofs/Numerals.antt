-- A number's digits are read as that number, and what is read as a number is its digits.
-- Used by: number_texts, numbers_as_printed, mw_config, mw_client.
use Rattle.std.proofs.Common.{◌≡◌, ℕ, zero, suc, ◌+◌, ◌-◌, ◌*◌, ◌/◌, ◌%◌, ◌^◌, ◌<◌, ◌≤◌, min, Bool, true, false, cond, eqb, List, [], ◌∷◌, ◌++◌, length, Some, None, ◌&&◌, ◌⊎◌, inl, inr, refl, sym, ap, ◌∙◌, arith, append_assoc, lt-ltb, le-ltb, eqb-true, ne_eqb, decimal, leb, leb-true, not, ap₂, append-nil}
use Rattle.std.specs.Prelude.{OkIff, Result, Ok, Err, IsTrue, ◌↔◌}
use Rattle.std.specs.List.{list_all}
use Rattle.std.proofs.lemmas.List.{nil_from_length}
use Rattle.std.specs.Result.{result_unwrap_or}
use Rattle.std.proofs.lemmas.Bool.{cases_lt, eqb-false}
use Rattle.std.proofs.lemmas.Fmt.{decimal_from_appends, length-decimal-le_succ}
use Rattle.std.proofs.lemmas.Option.{some_pair_parts, none-some}
use Rattle.mw_words.specs.Name.{is_digit}
use Rattle.mw_line.specs.Number.{last_digits, numeral, is_number_text}
use Rattle.mw_line.specs.LineReader.{◌>>=◌, digits_at, seen, number_at, narrow}
use Rattle.mw_line.proofs.Digits.{is_digit_within, no_digit_below, no_digit_above, one_digit, ended, Ends}

-- ---- the digits themselves

one : (k n : ℕ) → n < 10 → last_digits (suc k) n ≡ (48 + n) ∷ []
one k n low = rw (lt-ltb n 10 low) refl

more : (k n : ℕ) → 10 ≤ n → last_digits (suc k) n ≡ last_digits k (n / 10) ++ ((48 + n % 10) ∷ [])
more k n high = rw (le-ltb n 10 high) refl

-- more room than a number needs changes nothing
enough : (k m n : ℕ) → n < k → n < m → last_digits k n ≡ last_digits m n
enough zero m n lk lm = absurd (omega arith)
enough (suc k) zero n lk lm = absurd (omega arith)
enough (suc k) (suc m) n lk lm =
    elim (cases_lt n 10) [
      | inl low ↦ one k n low ∙ sym (one m n low)
      | inr high ↦ more k n high ∙ ap (λ (ds : List ℕ). ds ++ ((48 + n % 10) ∷ [])) (enough k m (n / 10) (omega arith) (omega arith)) ∙ sym (more m n high)
    ]

pub one_numeral : (n : ℕ) → n < 10 → numeral n ≡ (48 + n) ∷ []
unfolding numeral
one_numeral n low = one n n low

pub more_numeral : (n : ℕ) → 10 ≤ n → numeral n ≡ numeral (n / 10) ++ ((48 + n % 10) ∷ [])
unfolding numeral
more_numeral n high = more n n high ∙ ap (λ (ds : List ℕ). ds ++ ((48 + n % 10) ∷ [])) (enough n (suc (n / 10)) (n / 10) (omega arith) (omega arith))

-- one more digit after those of a number
pub numeral_push : (n d : ℕ) → 0 < n → d < 10 → numeral (n * 10 + d) ≡ numeral n ++ ((48 + d) ∷ [])
numeral_push n d some low =
    let q : (n * 10 + d) / 10 ≡ n = omega arith in
    let r : (n * 10 + d) % 10 ≡ d = omega arith in
    more_numeral (n * 10 + d) (omega arith) ∙ rw (q, r) refl

pub as_printed : (n : ℕ) → n < 2 ^ 64 → numeral n ≡ decimal n
unfolding numeral
as_printed n fits = decimal_from_appends last_digits (record { one = one; more = more }) (suc n) n fits (omega (arith, length-decimal-le_succ n fits))

-- ---- what is read is the digits of a number

cases_digit : (b : ℕ) → ((48 ≤ b) × (b ≤ 57)) ⊎ (is_digit b ≡ false)
cases_digit b =
    elim (cases_lt b 48) [
      | inl low ↦ inr (no_digit_below b low)
      | inr high ↦ elim (cases_lt 57 b) [ inl above ↦ inr (no_digit_above b above) | inr within ↦ inl (high, within) ]
    ]

pub digits_found : (n : ℕ) (bytes : List ℕ) → 0 < n → numeral n ++ bytes ≡ numeral (digits_at n bytes).0 ++ (digits_at n bytes).1
digits_found n [] some = refl
digits_found n (b ∷ bs) some =
    elim (cases_digit b) [
      | inl h ↦
          let step = one_digit n b bs h.0 h.1 in
          let byte : 48 + (b - 48) ≡ b = omega arith in
          let pushed : numeral (n * 10 + (b - 48)) ≡ numeral n ++ (b ∷ []) = numeral_push n (b - 48) some (omega arith) ∙ ap (λ (x : ℕ). numeral n ++ (x ∷ [])) byte in
          let others = digits_found (n * 10 + (b - 48)) bs (omega arith) in
          sym (append_assoc (numeral n) (b ∷ []) bs) ∙ ap (λ (ds : List ℕ). ds ++ bs) (sym pushed) ∙ others ∙ rw step refl
      | inr h ↦ rw (ended n (b ∷ bs) (inr h)) refl
    ]

-- ---- the digits of a number are read

one_again : (see : ℕ → ℕ) (n : ℕ) (rest : List ℕ) → n < 10 → 0 < n → number_at see (numeral n ++ rest) ≡ Some (seen see (digits_at n rest))
unfolding number_at
one_again see n rest low some =
    let digit : is_digit (48 + n) ≡ true = is_digit_within (48 + n) (omega arith) (omega arith) in
    let whole : 0 + (48 + n - 48) ≡ n = omega arith in
    ap (λ (ds : List ℕ). number_at see (ds ++ rest)) (one_numeral n low) ∙ rw (ne_eqb (48 + n) 48 (omega arith), digit) (ap (λ (m : ℕ). Some (seen see (digits_at m rest))) whole)

digits_again : (see : ℕ → ℕ) (k n : ℕ) (rest : List ℕ) → n < k → 0 < n → number_at see (numeral n ++ rest) ≡ Some (seen see (digits_at n rest))
digits_again see zero n rest lk some = absurd (omega arith)
digits_again see (suc k) n rest lk some =
    elim (cases_lt n 10) [
      | inl low ↦ one_again see n rest low some
      | inr high ↦
          let whole : (n / 10) * 10 + (48 + n % 10 - 48) ≡ n = omega arith in
          let step : digits_at (n / 10) ((48 + n % 10) ∷ rest) ≡ digits_at n rest = one_digit (n / 10) (48 + n % 10) rest (omega arith) (omega arith) ∙ ap (λ (m : ℕ). digits_at m rest) whole in
          ap (λ (ds : List ℕ). number_at see (ds ++ rest)) (more_numeral n high)
          ∙ ap (number_at see) (append_assoc (numeral (n / 10)) ((48 + n % 10) ∷ []) rest)
          ∙ digits_again see k (n / 10) ((48 + n % 10) ∷ rest) (omega arith) (omega arith)
          ∙ ap (λ (r : ℕ × List ℕ). Some (seen see r)) step
    ]

-- if no digit follows, a number is read as itself
pub number_again : (see : ℕ → ℕ) (n : ℕ) (rest : List ℕ) → Ends rest → number_at see (numeral n ++ rest) ≡ Some (see n, rest)
unfolding number_at
number_again see zero rest end = ap (λ (ds : List ℕ). number_at see (ds ++ rest)) (one_numeral 0 (omega arith))
number_again see (suc n) rest end = digits_again see (suc (suc n)) (suc n) rest (omega arith) (omega arith) ∙ ap (λ (r : ℕ × List ℕ). Some (seen see r)) (ended (suc n) rest end)

-- what is read as a number is its digits
pub record IsNumberRead (see : ℕ → ℕ) (bytes : List ℕ) (m : ℕ) (rest : List ℕ) : Type 0 where
  pub number : ℕ
  pub value : m ≡ see number
  pub text : bytes ≡ numeral number ++ rest

chosen : {A : Type 0} (b : Bool) (x y z : A) → cond b x y ≡ z → ((b ≡ true) × (x ≡ z)) ⊎ ((b ≡ false) × (y ≡ z))
chosen true x y z e = inl (refl, e)
chosen false x y z e = inr (refl, e)

pub number_found : (see : ℕ → ℕ) (bytes : List ℕ) (m : ℕ) (rest : List ℕ) → number_at see bytes ≡ Some (m, rest) → IsNumberRead see bytes m rest
unfolding number_at
number_found see [] m rest e = absurd cc
number_found see (b ∷ bs) m rest e =
    elim (chosen (eqb b 48) _ _ _ e) [
      | inl zero_in_front ↦
          let byte : b ≡ 48 = eqb-true b 48 zero_in_front.0 in
          let parts = some_pair_parts (see 0) m bs rest zero_in_front.1 in
          record { number = 0; value = sym parts.0; text = rw (one_numeral 0 (omega arith)) cc }
      | inr other ↦
          elim (cases_digit b) [
            | inl digit ↦
                let d : ℕ = 0 + (b - 48) in
                let first : numeral d ≡ b ∷ [] = one_numeral d (omega arith) ∙ ap (λ (x : ℕ). x ∷ []) (omega arith) in
                let r : ℕ × List ℕ = digits_at d bs in
                let e2 : Some (seen see r) ≡ Some (m, rest) = rw (is_digit_within b digit.0 digit.1) at other.1 in
                let parts = some_pair_parts (see r.0) m r.1 rest e2 in
                let found = digits_found d bs (omega (arith, eqb-false b 48 other.0)) in
                record { number = r.0; value = sym parts.0; text = ap (λ (ds : List ℕ). ds ++ bs) (sym first) ∙ found ∙ ap (λ (x : List ℕ). numeral r.0 ++ x) parts.1 }
            | inr none ↦ absurd (none-some (m, rest) (rw none at other.1))
          ]
    ]

-- ---- an address is a value, seen more narrowly

addr_by_value : (n : ℕ) → narrow.addr n ≡ min (narrow.value n) 65535
addr_by_value n = omega arith

narrower : (z d : Bool) (r : ℕ × List ℕ) (rest : List ℕ) → cond z (Some (narrow.addr 0, rest)) (cond d (Some (seen narrow.addr r)) None) ≡ (cond z (Some (narrow.value 0, rest)) (cond d (Some (seen narrow.value r)) None) >>= λ s. Some (min s.0 65535, s.1))
narrower true d r rest = refl
narrower false true r rest = ap (λ (n : ℕ). Some (n, r.1)) (addr_by_value r.0)
narrower false false r rest = refl

pub address_by_value : (bytes : List ℕ) → number_at narrow.addr bytes ≡ (number_at narrow.value bytes >>= λ r. Some (min r.0 65535, r.1))
unfolding number_at
address_by_value [] = refl
address_by_value (b ∷ bs) = narrower (eqb b 48) (is_digit b) (digits_at 0 (b ∷ bs)) bs

pub converted : {E : Type 0} (n : ℕ) (r : Result ℕ E) → OkIff r (n < 65536) n → result_unwrap_or r 65535 ≡ min n 65535
converted n (Ok m) h = omega arith
converted n (Err e) h = elim (cases_lt n 65536) [ inl small ↦ absurd (h small) | inr large ↦ omega arith ]

-- ---- which texts are numbers

both_true : (a b : Bool) → (a && b) ≡ true → (a ≡ true) × (b ≡ true)
both_true true b h = (refl, h)
both_true false b h = absurd cc

not_true : (b : Bool) → not b ≡ true → b ≡ false
not_true true h = absurd cc
not_true false h = refl

within_digit : (b : ℕ) → is_digit b ≡ true → (48 ≤ b) × (b ≤ 57)
within_digit b h =
    let p = both_true (leb 48 b) (leb b 57) h in
    (leb-true 48 b p.0, leb-true b 57 p.1)

all_taken : (n : ℕ) (bytes : List ℕ) → list_all is_digit bytes ≡ true → (digits_at n bytes).1 ≡ []
all_taken n [] h = refl
all_taken n (b ∷ bs) h =
    let p = both_true (is_digit b) (list_all is_digit bs) h in
    rw p.0 (all_taken (n * 10 + (b - 48)) bs p.1)

number_of_text : (text : List ℕ) → is_number_text text ≡ true → (n : ℕ) × (text ≡ numeral n)
number_of_text [] h = absurd cc
number_of_text (b ∷ bs) h =
    elim (chosen (eqb b 48) (eqb (length bs) 0) (is_digit b && list_all is_digit bs) true h) [
      | inl z ↦
          let byte : b ≡ 48 = eqb-true b 48 z.0 in
          let alone : bs ≡ [] = nil_from_length bs (eqb-true (length bs) 0 z.1) in
          (0, ap₂ (λ (x : ℕ) (xs : List ℕ). x ∷ xs) byte alone ∙ sym (one_numeral 0 (omega arith)))
      | inr d ↦
          let p = both_true (is_digit b) (list_all is_digit bs) d.1 in
          let w = within_digit b p.0 in
          let first : numeral (b - 48) ≡ b ∷ [] = one_numeral (b - 48) (omega arith) ∙ ap (λ (x : ℕ). x ∷ []) (omega arith) in
          let found = digits_found (b - 48) bs (omega (arith, eqb-false b 48 d.0)) in
          ((digits_at (b - 48) bs).0, ap (λ (ds : List ℕ). ds ++ bs) (sym first) ∙ found ∙ ap (λ (x : List ℕ). numeral (digits_at (b - 48) bs).0 ++ x) (all_taken (b - 48) bs p.1) ∙ append-nil (numeral (digits_at (b - 48) bs).0))
    ]

-- a text whose first digit is no 0
abbrev is_positive_text : List ℕ → Bool
is_positive_text [] = false
is_positive_text (b ∷ bs) = not (eqb b 48) && (is_digit b && list_all is_digit bs)

all_pushed : (bs : List ℕ) (x : ℕ) → is_digit x ≡ true → list_all is_digit bs ≡ true → list_all is_digit (bs ++ (x ∷ [])) ≡ true
all_pushed [] x d h = rw d refl
all_pushed (b ∷ bs) x d h =
    let p = both_true (is_digit b) (list_all is_digit bs) h in
    rw p.0 (all_pushed bs x d p.1)

positive_pushed : (text : List ℕ) (x : ℕ) → is_digit x ≡ true → is_positive_text text ≡ true → is_positive_text (text ++ (x ∷ [])) ≡ true
positive_pushed [] x d h = absurd cc
positive_pushed (b ∷ bs) x d h =
    let p = both_true (not (eqb b 48)) (is_digit b && list_all is_digit bs) h in
    let q = both_true (is_digit b) (list_all is_digit bs) p.1 in
    rw (p.0, q.0) (all_pushed bs x d q.1)

positive_numeral : (k n : ℕ) → n < k → 0 < n → is_positive_text (numeral n) ≡ true
positive_numeral zero n lk some = absurd (omega arith)
positive_numeral (suc k) n lk some =
    elim (cases_lt n 10) [
      | inl low ↦
          let digit : is_digit (48 + n) ≡ true = is_digit_within (48 + n) (omega arith) (omega arith) in
          rw (one_numeral n low, ne_eqb (48 + n) 48 (omega arith), digit) refl
      | inr high ↦
          let digit : is_digit (48 + n % 10) ≡ true = is_digit_within (48 + n % 10) (omega arith) (omega arith) in
          rw (more_numeral n high) (positive_pushed (numeral (n / 10)) (48 + n % 10) digit (positive_numeral k (n / 10) (omega arith) (omega arith)))
    ]

positive_is_number : (text : List ℕ) → is_positive_text text ≡ true → is_number_text text ≡ true
positive_is_number [] h = absurd cc
positive_is_number (b ∷ bs) h =
    let p = both_true (not (eqb b 48)) (is_digit b && list_all is_digit bs) h in
    rw (not_true (eqb b 48) p.0) p.1

text_of_number : (n : ℕ) → is_number_text (numeral n) ≡ true
text_of_number zero = rw (one_numeral 0 (omega arith)) refl
text_of_number (suc n) = positive_is_number (numeral (suc n)) (positive_numeral (suc (suc n)) (suc n) (omega arith) (omega arith))

pub number_texts_are : (text : List ℕ) → IsTrue (is_number_text text) ↔ ((n : ℕ) × (text ≡ numeral n))
number_texts_are text = (number_of_text text, λ h. rw h.1 (text_of_number h.0))
