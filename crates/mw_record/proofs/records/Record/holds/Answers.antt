-- Goals of `Record::holds` (src/records.rt).
use Rattle.std.proofs.Common.{◌≡◌, ◌+◌, ◌==◌, ◌||◌, true, false, drop, sym, ap, ◌∙◌}
use Rattle.std.proofs.lemmas.Bool.{eq-eqb, ne_eqb}
use Rattle.mw_record.specs.Records.{Pairs, holds}
use Rattle.mw_record.proofs.Turns.{turn}
use Rattle.mw_record.proofs.records.Record.holds.Goals as goal

pub returns-then-entry-addr : goal.returns-then-entry-addr
returns-then-entry-addr c =
    let F = λ (xs : Pairs). holds xs c.args.addr in
    let t : (c.entry.result.0 == c.args.addr) ≡ true = eq-eqb _ _ c.if-entry-addr.true in
    sym (sym c.loop-i.invariant ∙ turn F c.args.self.now c.loop-i.i c.entry.result c.entry.ensures ∙ ap (λ b. b || F (drop (c.loop-i.i + 1) c.args.self.now)) t)

pub loop-i-preserved : goal.loop-i-preserved
loop-i-preserved c =
    let F = λ (xs : Pairs). holds xs c.args.addr in
    let t : (c.entry.result.0 == c.args.addr) ≡ false = ne_eqb _ _ c.if-entry-addr.false in
    sym (turn F c.args.self.now c.loop-i.i c.entry.result c.entry.ensures ∙ ap (λ b. b || F (drop (c.loop-i.i + 1) c.args.self.now)) t) ∙ c.loop-i.invariant
