-- Goals of `Record::over` (src/records.rt).
use Rattle.std.proofs.Common.{◌≡◌, ◌+◌, ◌==◌, if◌then◌else◌, drop, sym, ap, ◌∙◌, arith}
use Rattle.std.proofs.lemmas.Bool.{eq-eqb, ne_eqb}
use Rattle.mw_record.specs.Records.{Pairs, over}
use Rattle.mw_record.proofs.Turns.{turn, turns_end}
use Rattle.mw_record.proofs.records.Record.over.Goals as goal
use Rattle.mw_record.proofs.records.Record.over.Goals.{then-entry-addr, else-entry-addr}

pub loop-i-preserved : goal.loop-i-preserved
loop-i-preserved c =
    let F = λ (xs : Pairs). over xs c.args.addr c.loop-i.value in
    let rest = drop (c.loop-i.i + 1) c.args.self.now in
    let e = turn F c.args.self.now c.loop-i.i c.entry-entry.result c.entry-entry.ensures in
    let now : (if c.entry-entry.result.0 == c.args.addr then c.entry-entry.result.1 else c.loop-i.value) ≡ c.if-entry-addr.value =
    elim c.if-entry-addr.branch [
      | then-entry-addr w ↦ ap (λ b. if b then c.entry-entry.result.1 else c.loop-i.value) (eq-eqb _ _ w.if-entry-addr.true) ∙ sym w.value-is
      | else-entry-addr w ↦ ap (λ b. if b then c.entry-entry.result.1 else c.loop-i.value) (ne_eqb _ _ w.if-entry-addr.false) ∙ sym w.value-is
    ] in
    sym (e ∙ ap (λ v. over rest c.args.addr v) now) ∙ c.loop-i.invariant

pub returns : goal.returns
returns c =
    sym (turns_end (λ (xs : Pairs). over xs c.args.addr c.loop-i.value) c.args.self.now c.loop-i.i (omega (arith, c.len-i-end.ensures, c.loop-i-test.false)))
    ∙ c.loop-i.invariant
