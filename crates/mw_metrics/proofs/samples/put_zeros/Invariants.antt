-- Loop invariants of `put_zeros` (src/samples.rt).
use Rattle.std.proofs.Common.{◌≡◌, ◌+◌, ◌++◌, length, replicate}
use Rattle.mw_metrics.proofs.samples.put_zeros.Given as goal

-- so many zeros come after what was there
abbrev pub invariant-loop : goal.invariant-loop
invariant-loop l = record {
  put : l.text.items ≡ l.initial.text.items ++ replicate l.counter 48;
  len : length l.text.items ≡ length l.initial.text.items + l.counter;
}
