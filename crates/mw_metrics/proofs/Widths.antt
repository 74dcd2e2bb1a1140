-- Numbers are printed in so many digits: nine below a second's nanoseconds, twenty in 64 bits.
-- Used by: histogram_lines.rt, samples.rt, server_lines.rt.
use Rattle.std.proofs.Common.{ℕ, ◌≤◌, ◌<◌, ◌^◌, length, decimal, arith}
use Rattle.std.proofs.lemmas.Fmt.{length-decimal-le}

pub nanos_width : (n : ℕ) → n < 1000000000 → length (decimal n) ≤ 9
nanos_width n h = length-decimal-le 9 n (omega arith) (omega arith) (omega arith)

pub number_width : (n : ℕ) → n < 2 ^ 64 → length (decimal n) ≤ 20
number_width n h = length-decimal-le 20 n (omega arith) (omega arith) h

pub ruleset widths = (nanos_width, number_width)
