-- Numbers are printed in so many digits: three for a status, twenty in 64 bits. Used by: heads.rt.
use Rattle.std.proofs.Common.{ℕ, ◌≤◌, ◌<◌, ◌^◌, length, decimal, arith}
use Rattle.std.proofs.lemmas.Fmt.{length-decimal-le}

pub status_width : (n : ℕ) → n ≤ 999 → length (decimal n) ≤ 3
status_width n h = length-decimal-le 3 n (omega arith) (omega arith) (omega arith)

pub number_width : (n : ℕ) → n < 2 ^ 64 → length (decimal n) ≤ 20
number_width n h = length-decimal-le 20 n (omega arith) (omega arith) h

pub ruleset widths = (status_width, number_width)
