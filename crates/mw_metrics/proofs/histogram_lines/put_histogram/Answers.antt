-- Goals of `put_histogram` (src/histogram_lines.rt).
use Rattle.mw_metrics.proofs.Buckets.{histogram_put}
use Rattle.mw_metrics.proofs.histogram_lines.put_histogram.Goals as goal

pub returns-clause-lines : goal.returns-clause-lines
returns-clause-lines c = histogram_put c.args.family _ _ c.args.figures.now c.args.text.now.bytes.items _ _ _ c.put_buckets-all.result c.put_buckets-all.ensures.lines c.put_buckets-all.ensures.all c.put_bucket.ensures.line c.put_totals.ensures.lines
