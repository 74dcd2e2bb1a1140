-- Goals of `len_before` (src/texts.rt).
use Rattle.std.proofs.Common.{◌==◌, not, get_or}
use Rattle.mw_http.proofs.Prefixes.{one_more, first, whole, no_end, is_end}
use Rattle.mw_http.proofs.texts.len_before.Goals as goal

pub loop-at-preserved : goal.loop-at-preserved
loop-at-preserved c =
    let text = c.args.text.now in
    let at = c.loop-at.at in
    one_more (λ byte. not (byte == c.args.end)) text at c.loop-at-test.true (no_end (get_or text at 0) c.args.end c.if-text-at.false) c.loop-at.invariant

pub returns-then-text-at-clause-before : goal.returns-then-text-at-clause-before
returns-then-text-at-clause-before c =
    let text = c.args.text.now in
    let at = c.loop-at.at in
    first (λ byte. not (byte == c.args.end)) text at c.loop-at-test.true (is_end (get_or text at 0) c.args.end c.if-text-at.true) c.loop-at.invariant

pub returns-clause-before : goal.returns-clause-before
returns-clause-before c = whole (λ byte. not (byte == c.args.end)) c.args.text.now c.loop-at.at c.loop-at-test.false c.loop-at.invariant
