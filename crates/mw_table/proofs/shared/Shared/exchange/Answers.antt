-- Goals of `Shared::exchange` (src/steps.rt).
use Rattle.std.proofs.Common.{◌==◌, cond, ℕ, ap, sym, ◌∙◌}
use prog.Atomic.{either}
use Rattle.mw_look.specs.declared.steps.Op.TheVariants.{Change as ChangeBits}
use Rattle.mw_look.specs.declared.observations.Got.TheVariants.{Won as GotWon, Lost as GotLost}
use Rattle.mw_rule.specs.Ways.{made_by_way, got_by_way}
use Rattle.mw_rule.specs.declared.ways.Way.{Way}
use Rattle.mw_table.proofs.IdlePasses.{busy}
use Rattle.mw_table.proofs.StepsKeepNumbers.{numbers_stay}
use Rattle.mw_table.proofs.StepRequirements.{step_asks}
use Rattle.mw_table.proofs.shared.Shared.exchange.Goals as goal

pub compare_exchange-found-requires : goal.compare_exchange-found-requires
compare_exchange-found-requires c =
    let kind = c.args.kind in let from = c.args.from in let to = c.args.to in
    step_asks c.args.self.now c.args.pass.now (ChangeBits kind c.args.at from to) c.index_of.result (λ (n : ℕ). either (n == from) to n) (λ (n : ℕ). cond (n == from) GotWon GotLost)
    c.requires.own c.requires.next c.index_of.ensures (λ n. ap (λ (way : Way). made_by_way way from to n) (sym c.requires.way)) (λ n. ap (λ (way : Way). got_by_way way from n) (sym c.requires.way))

pub invariant_of-pass : goal.invariant_of-pass
invariant_of-pass c = record {
  numbered =
      numbers_stay (ChangeBits c.args.kind c.args.at c.args.from c.args.to) (cond (c.compare_exchange-found.result == c.args.from) GotWon GotLost) c.args.pass.now.worker
      c.args.pass.now.seat.me.0 c.compare_exchange-found.new.seat.me.0 c.requires.plain c.requires.next c.compare_exchange-found.ensures.2.0
      ∙ c.args.pass.now.numbered;
  rests = λ idle. absurd (busy c.args.pass.now.seat.me.0 c.args.pass.now.worker (ChangeBits c.args.kind c.args.at c.args.from c.args.to) c.requires.next (c.args.pass.now.rests idle));
}
