-- Goals of `put_line` (src/report.rt).
use Rattle.std.specs.Prelude.{◌≡◌, ◌≤◌, ◌+◌, ◌∷◌, [], length}
use Rattle.std.specs.Io.KnownBytes.{Consumes}
use Rattle.std.proofs.Common.{ap, arith, length-append, refl, subst, sym, ◌∙◌}
use Rattle.std.proofs.KnownBytes.{Consumes-trans}
use Rattle.mw_client.proofs.report.put_line.Goals as goal

pub loop-preserved : goal.loop-preserved
loop-preserved g c =
    let left = g.R.Read.remaining in
    let inv = c.loop.invariant in
    let longer = inv.longer in
    let more : length c.push.new.self.items ≡ length c.loop.text.items + 1 = ap length c.push.ensures.items ∙ length-append c.loop.text.items (c.in-Some.byte ∷ []) in
    record {
      read = λ first is so. subst (Consumes first (left c.next_byte.new.reader)) (sym c.push.ensures.items)
          (Consumes-trans first (left c.loop.reader) (left c.next_byte.new.reader) c.loop.text.items (c.in-Some.byte ∷ []) (inv.read first is refl) c.in-Some.ensures);
      longer = omega (arith, longer, more);
    }

pub returns-then-byte-eq-LINE_FEED-clause-read : goal.returns-then-byte-eq-LINE_FEED-clause-read
returns-then-byte-eq-LINE_FEED-clause-read g c = λ first is so. subst (Consumes first (g.R.Read.remaining c.next_byte.new.reader)) (sym c.push.ensures.items)
    (Consumes-trans first (g.R.Read.remaining c.loop.reader) (g.R.Read.remaining c.next_byte.new.reader) c.loop.text.items (c.in-Some.byte ∷ []) (c.loop.invariant.read first is refl) c.in-Some.ensures)
