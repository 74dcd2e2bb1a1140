-- Loop invariants of `put_buckets` (src/histogram_lines.rt).
use Rattle.std.proofs.Common.{◌≡◌, ◌+◌, ◌*◌, ◌≤◌, ◌++◌, length, drop, codes}
use Rattle.mw_metrics.specs.Exposition.{label}
use Rattle.mw_metrics.specs.Figures.{before, bucket_lines}
use Rattle.mw_metrics.proofs.histogram_lines.put_buckets.Given as goal

-- the buckets so far and those that are left are all buckets
abbrev pub invariant-loop-bucket : goal.invariant-loop-bucket
invariant-loop-bucket l = record {
  lines : l.text.bytes.items ++ bucket_lines l.family (label (codes "tenant") l.tenant) (label l.name l.value) l.counts l.bucket (drop l.bucket l.bounds)
      ≡ l.initial.text.bytes.items ++ bucket_lines l.family (label (codes "tenant") l.tenant) (label l.name l.value) l.counts 0 l.bounds;
  so_far : l.so_far ≡ before l.counts l.bucket;
  room : length l.text.bytes.items ≤ length l.initial.text.bytes.items + l.bucket * 212;
}
