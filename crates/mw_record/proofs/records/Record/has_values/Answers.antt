-- Goals of `Record::has_values` (src/records.rt).
use Rattle.std.proofs.Common.{◌≡◌, ◌+◌, ◌&&◌, true, false, nat_le, drop, sym, ap, ◌∙◌}
use Rattle.std.proofs.lemmas.Bool.{le-leb, lt-leb}
use Rattle.mw_words.specs.declared.limits.TheConstants.{MAX_VALUE}
use Rattle.mw_record.specs.Records.{has_values}
use Rattle.mw_record.proofs.Turns.{turn}
use Rattle.mw_record.proofs.records.Record.has_values.Goals as goal

pub returns-then-entry-gt-MAX_VALUE : goal.returns-then-entry-gt-MAX_VALUE
returns-then-entry-gt-MAX_VALUE c =
    let t : nat_le c.entry.result.1 MAX_VALUE ≡ false = lt-leb _ _ c.if-entry-gt-MAX_VALUE.true in
    sym (sym c.loop-i.invariant ∙ turn has_values c.args.self.now c.loop-i.i c.entry.result c.entry.ensures ∙ ap (λ b. b && has_values (drop (c.loop-i.i + 1) c.args.self.now)) t)

pub loop-i-preserved : goal.loop-i-preserved
loop-i-preserved c =
    let t : nat_le c.entry.result.1 MAX_VALUE ≡ true = le-leb _ _ c.if-entry-gt-MAX_VALUE.false in
    sym (turn has_values c.args.self.now c.loop-i.i c.entry.result c.entry.ensures ∙ ap (λ b. b && has_values (drop (c.loop-i.i + 1) c.args.self.now)) t) ∙ c.loop-i.invariant
