-- Goals of `Shared::subtract` (src/steps.rt).
use Rattle.std.proofs.Common.{◌+◌, ◌-◌, ◌%◌, ◌^◌, ℕ, ap, sym, ◌∙◌}
use Rattle.mw_look.specs.declared.steps.Op.TheVariants.{Change as ChangeBits}
use Rattle.mw_look.specs.declared.observations.Got.TheVariants.{Word as Found}
use Rattle.mw_rule.specs.Ways.{made_by_way, got_by_way}
use Rattle.mw_rule.specs.declared.ways.Way.{Way}
use Rattle.mw_table.proofs.IdlePasses.{busy}
use Rattle.mw_table.proofs.StepsKeepNumbers.{numbers_stay, plain_fetch}
use Rattle.mw_table.proofs.StepRequirements.{step_asks}
use Rattle.mw_table.proofs.shared.Shared.subtract.Goals as goal

pub fetch_sub-requires : goal.fetch_sub-requires
fetch_sub-requires c =
    let kind = c.args.kind in let number = c.args.number in
    step_asks c.args.self.now c.args.pass.now (ChangeBits kind c.args.at 0 0) c.index_of.result (λ (n : ℕ). (n + (2 ^ 64 - number)) % 2 ^ 64) (λ (n : ℕ). Found n)
    c.requires.own c.requires.next c.index_of.ensures (λ n. ap (λ (way : Way). made_by_way way 0 0 n) (sym c.requires.way)) (λ n. ap (λ (way : Way). got_by_way way 0 n) (sym c.requires.way))

pub invariant_of-pass : goal.invariant_of-pass
invariant_of-pass c = record {
  numbered =
      numbers_stay (ChangeBits c.args.kind c.args.at 0 0) (Found c.fetch_sub.result) c.args.pass.now.worker c.args.pass.now.seat.me.0 c.fetch_sub.new.seat.me.0
      (plain_fetch c.args.kind c.args.at 0 0 c.args.number c.requires.way) c.requires.next c.fetch_sub.ensures.2.0
      ∙ c.args.pass.now.numbered;
  rests = λ idle. absurd (busy c.args.pass.now.seat.me.0 c.args.pass.now.worker (ChangeBits c.args.kind c.args.at 0 0) c.requires.next (c.args.pass.now.rests idle));
}
