-- A number of 64 bits is printed with at most 20 digits, one of 16 bits with at most 5. What is before the value in a `NO`
-- has at most 9 bytes.
-- Used by: put_reply.
use Rattle.std.proofs.Common.{◌≡◌, ℕ, ◌^◌, ◌<◌, ◌≤◌, ◌++◌, List, [], ◌∷◌, length, decimal, ap, arith, length-append}
use Rattle.std.proofs.lemmas.Fmt.{length-decimal-le}

pub printed_long : (n : ℕ) → n < 2 ^ 64 → length (decimal n) ≤ 20
printed_long n fits = length-decimal-le 20 n (omega arith) (omega arith) fits

pub printed_short : (n : ℕ) → n < 2 ^ 16 → length (decimal n) ≤ 5
printed_short n fits = length-decimal-le 5 n (omega arith) (omega arith) (omega arith)

-- what is before the value in a NO, which tells the word that differed
pub no_front_short : (t a b c : List ℕ) (addr : ℕ) → addr < 2 ^ 16 → t ≡ [] → a ≡ t ++ 78 ∷ 79 ∷ 32 ∷ [] → b ≡ a ++ decimal addr → c ≡ b ++ 32 ∷ [] → length c ≤ 9
no_front_short t a b c addr fits e1 e2 e3 e4 =
    omega (arith, printed_short addr fits, ap length e1, ap length e2, ap length e3, ap length e4, length-append t (78 ∷ 79 ∷ 32 ∷ []), length-append a (decimal addr), length-append b (32 ∷ []))
