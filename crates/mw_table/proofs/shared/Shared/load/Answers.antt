-- Goals of `Shared::load` (src/steps.rt).
use Rattle.std.proofs.Common.{ℕ, refl, ◌∙◌}
use Rattle.mw_look.specs.declared.steps.Op.TheVariants.{Load as LoadBits}
use Rattle.mw_look.specs.declared.observations.Got.TheVariants.{Word as Found}
use Rattle.mw_table.proofs.IdlePasses.{busy}
use Rattle.mw_table.proofs.StepsKeepNumbers.{numbers_stay}
use Rattle.mw_table.proofs.StepRequirements.{step_asks}
use Rattle.mw_table.proofs.shared.Shared.load.Goals as goal

pub load-requires : goal.load-requires
load-requires c = step_asks c.args.self.now c.args.pass.now (LoadBits c.args.at) c.index_of.result (λ (n : ℕ). n) (λ (n : ℕ). Found n) c.requires.own c.requires.next c.index_of.ensures (λ n. refl) (λ n. refl)

pub invariant_of-pass : goal.invariant_of-pass
invariant_of-pass c = record {
  numbered =
      numbers_stay (LoadBits c.args.at) (Found c.load.result) c.args.pass.now.worker c.args.pass.now.seat.me.0 c.load.new.seat.me.0 refl c.requires.next c.load.ensures.2.0
      ∙ c.args.pass.now.numbered;
  rests = λ idle. absurd (busy c.args.pass.now.seat.me.0 c.args.pass.now.worker (LoadBits c.args.at) c.requires.next (c.args.pass.now.rests idle));
}
