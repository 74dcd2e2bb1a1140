-- Goals of `put_buckets` (src/histogram_lines.rt): the next bucket's line is put, and its number is that of the durations up to
-- its bound.
use Rattle.std.proofs.Common.{◌≡◌, ◌+◌, ◌-◌, ◌^◌, min, ℕ, arith, ap, sym, ◌∙◌, get_or}
use Rattle.mw_metrics.specs.Figures.{before}
use Rattle.mw_metrics.proofs.Buckets.{lines_step, lines_all, before_more}
use Rattle.mw_metrics.proofs.histogram_lines.put_buckets.Goals as goal

pub loop-bucket-preserved : goal.loop-bucket-preserved
loop-bucket-preserved c =
    let so_far : c.saturating_add-so_far.result ≡ before c.args.counts.now (c.loop-bucket.bucket + 1)
    = c.saturating_add-so_far.ensures
    ∙ ap (λ (n : ℕ). min (n + get_or c.args.counts.now c.loop-bucket.bucket 0) (2 ^ 64 - 1)) c.loop-bucket.invariant.so_far
    ∙ sym (before_more c.args.counts.now c.loop-bucket.bucket (omega arith)) in
    record {
      lines = lines_step c.args.family _ _ c.args.counts.now c.args.bounds.now c.loop-bucket.bucket c.loop-bucket.text.bytes.items _ _ c.deref.result.now c.saturating_add-so_far.result
          (omega arith) c.loop-bucket.invariant.lines (c.deref.ensures.0 ∙ c.seconds-bound.ensures.seconds) so_far c.put_bucket.ensures.line;
      so_far = so_far;
      room = omega arith;
    }

pub returns-clause-lines : goal.returns-clause-lines
returns-clause-lines c = lines_all c.args.family _ _ c.args.counts.now c.args.bounds.now c.loop-bucket.bucket c.loop-bucket.text.bytes.items _ (omega arith) c.loop-bucket.invariant.lines
