-- Loop invariants of `put_escaped` (src/samples.rt).
use Rattle.std.proofs.Common.{◌≡◌, ◌+◌, ◌*◌, ◌≤◌, ◌++◌, length, take, flat_map}
use Rattle.mw_metrics.specs.Exposition.{escape}
use Rattle.mw_metrics.proofs.samples.put_escaped.Given as goal

-- the bytes so far are put
abbrev pub invariant-loop-byte : goal.invariant-loop-byte
invariant-loop-byte l = record {
  put : l.labels.items ≡ l.initial.labels.items ++ flat_map escape (take l.byte-index l.value);
  room : length l.labels.items ≤ length l.initial.labels.items + l.byte-index * 2;
}
