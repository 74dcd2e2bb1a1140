-- Goals of `Shared::store` (src/steps.rt).
use Rattle.std.proofs.Common.{ℕ, ap, sym, ◌∙◌}
use Rattle.mw_look.specs.declared.steps.Op.TheVariants.{Change as ChangeBits}
use Rattle.mw_look.specs.declared.observations.Got.TheVariants.{Won as GotWon}
use Rattle.mw_rule.specs.Ways.{made_by_way, got_by_way}
use Rattle.mw_rule.specs.declared.ways.Way.{Way}
use Rattle.mw_table.proofs.IdlePasses.{busy}
use Rattle.mw_table.proofs.StepsKeepNumbers.{numbers_stay, plain_store}
use Rattle.mw_table.proofs.StepRequirements.{step_asks}
use Rattle.mw_table.proofs.shared.Shared.store.Goals as goal

pub store-requires : goal.store-requires
store-requires c =
    let kind = c.args.kind in let to = c.args.to in
    step_asks c.args.self.now c.args.pass.now (ChangeBits kind c.args.at 0 to) c.index_of.result (λ (n : ℕ). to) (λ (n : ℕ). GotWon)
    c.requires.own c.requires.next c.index_of.ensures (λ n. ap (λ (way : Way). made_by_way way 0 to n) (sym c.requires.way)) (λ n. ap (λ (way : Way). got_by_way way 0 n) (sym c.requires.way))

pub invariant_of-pass : goal.invariant_of-pass
invariant_of-pass c = record {
  numbered =
      numbers_stay (ChangeBits c.args.kind c.args.at 0 c.args.to) GotWon c.args.pass.now.worker c.args.pass.now.seat.me.0 c.store.new.seat.me.0
      (plain_store c.args.kind c.args.at 0 c.args.to c.requires.way) c.requires.next c.store.ensures.2.0
      ∙ c.args.pass.now.numbered;
  rests = λ idle. absurd (busy c.args.pass.now.seat.me.0 c.args.pass.now.worker (ChangeBits c.args.kind c.args.at 0 c.args.to) c.requires.next (c.args.pass.now.rests idle));
}
