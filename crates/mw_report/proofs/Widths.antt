-- A report's figures are printed no wider than their columns: at most 4 digits for words, 2 for slots, 3 for the pool.
-- Used by: report_text, put_tenant.
use Rattle.std.proofs.Common.{ℕ, ◌≤◌, length, decimal, arith}
use Rattle.std.proofs.lemmas.Fmt.{length-decimal-le}

pub words_width : (n : ℕ) → n ≤ 4096 → length (decimal n) ≤ 4
words_width n h = length-decimal-le 4 n (omega arith) (omega arith) (omega arith)

pub slots_width : (n : ℕ) → n ≤ 64 → length (decimal n) ≤ 2
slots_width n h = length-decimal-le 2 n (omega arith) (omega arith) (omega arith)

pub pool_width : (n : ℕ) → n ≤ 256 → length (decimal n) ≤ 3
pool_width n h = length-decimal-le 3 n (omega arith) (omega arith) (omega arith)

pub ruleset widths = (words_width, slots_width, pool_width)
