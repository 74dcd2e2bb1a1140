-- Goals of `Record::rises_below` (src/records.rt).
use Rattle.std.proofs.Common.{◌≡◌, ◌+◌, ◌&&◌, ℕ, Bool, false, nat_le, nat_lt, drop, sym, ap, ◌∙◌, arith}
use Rattle.std.proofs.lemmas.Bool.{le-leb, lt-leb, lt-ltb, le-ltb}
use Rattle.mw_record.specs.Records.{Pairs, rises_below}
use Rattle.mw_record.proofs.Turns.{turn}
use Rattle.mw_record.proofs.records.Record.rises_below.Goals as goal
use Rattle.mw_record.proofs.records.Record.rises_below.Goals.{then-addr-lowest-via-then-addr-lowest, then-addr-lowest-via-else-addr-lowest+then-addr-from}

pub returns-then-addr-lowest : goal.returns-then-addr-lowest
returns-then-addr-lowest c =
    let F = λ (xs : Pairs). rises_below c.args.words c.loop-i.lowest xs in
    let a : ℕ = c.entry-addr.result.0 in
    let rest : Bool = rises_below c.args.words (a + 1) (drop (c.loop-i.i + 1) c.args.self.now) in
    let fails : (nat_le c.loop-i.lowest a && nat_lt a c.args.words && rest) ≡ false =
    elim c.then-addr-lowest.branch [
      | then-addr-lowest-via-then-addr-lowest w ↦
          ap (λ b. b && nat_lt a c.args.words && rest) (lt-leb c.loop-i.lowest a w.if-addr-lowest.true)
      | then-addr-lowest-via-else-addr-lowest+then-addr-from w ↦
          ap (λ b. b && nat_lt a c.args.words && rest) (le-leb c.loop-i.lowest a w.if-addr-lowest.false)
          ∙ ap (λ b. b && rest) (le-ltb a c.args.words (omega (arith, w.if-addr-from.true, w.from.ensures)))
    ] in
    sym (sym c.loop-i.invariant ∙ turn F c.args.self.now c.loop-i.i c.entry-addr.result c.entry-addr.ensures ∙ fails)

pub loop-i-preserved : goal.loop-i-preserved
loop-i-preserved c =
    let F = λ (xs : Pairs). rises_below c.args.words c.loop-i.lowest xs in
    let a : ℕ = c.entry-addr.result.0 in
    let rest : Bool = rises_below c.args.words (a + 1) (drop (c.loop-i.i + 1) c.args.self.now) in
    let passes : (nat_le c.loop-i.lowest a && nat_lt a c.args.words && rest) ≡ rest =
    ap (λ b. b && nat_lt a c.args.words && rest) (le-leb c.loop-i.lowest a c.if-addr-lowest.false)
    ∙ ap (λ b. b && rest) (lt-ltb a c.args.words (omega (arith, c.if-addr-from.false, c.from.ensures))) in
    sym (turn F c.args.self.now c.loop-i.i c.entry-addr.result c.entry-addr.ensures ∙ passes) ∙ c.loop-i.invariant
