-- A number of 64 bits is printed in 20 digits at most, and one of 8 bits in 3. Used by: put_number, put_small.
use Rattle.std.proofs.Common.{ℕ, ◌≤◌, ◌<◌, ◌^◌, length, decimal, arith}
use Rattle.std.proofs.lemmas.Fmt.{length-decimal-le}

pub number_width : (n : ℕ) → n < 2 ^ 64 → length (decimal n) ≤ 20
number_width n h = length-decimal-le 20 n (omega arith) (omega arith) h

pub small_width : (n : ℕ) → n < 2 ^ 8 → length (decimal n) ≤ 3
small_width n h = length-decimal-le 3 n (omega arith) (omega arith) (omega arith)

pub ruleset widths = (number_width, small_width)
