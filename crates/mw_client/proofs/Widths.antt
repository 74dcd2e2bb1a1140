-- A word's value is printed with at most 15 digits, and an address with at most 5. Used by: requests.rt.
use Rattle.std.proofs.Common.{ℕ, ◌^◌, ◌<◌, ◌≤◌, length, decimal, arith}
use Rattle.std.proofs.lemmas.Fmt.{length-decimal-le}

pub value_width : (n : ℕ) → n ≤ 281474976710655 → length (decimal n) ≤ 15
value_width n h = length-decimal-le 15 n (omega arith) (omega arith) (omega arith)

pub address_width : (n : ℕ) → n < 2 ^ 16 → length (decimal n) ≤ 5
address_width n h = length-decimal-le 5 n (omega arith) (omega arith) (omega arith)

pub ruleset widths = (value_width, address_width)
