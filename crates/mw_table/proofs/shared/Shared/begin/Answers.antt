-- Goals of `Shared::begin` (src/first_steps.rt).
use Rattle.std.proofs.Common.{◌==◌, ℕ, ap, ◌∙◌}
use Rattle.mw_words.specs.declared.places.At.TheVariants.{Door as AtDoor}
use Rattle.mw_look.specs.declared.observations.Got.TheVariants.{Word as Found}
use Rattle.mw_rule.specs.Layout.{index_of}
use prog.Atomic.{either}
use Rattle.mw_table.proofs.StepsKeepNumbers.{numbers_begin}
use Rattle.mw_table.proofs.StepRequirements.{first_asks, zero_for_zero}
use Rattle.mw_table.proofs.shared.Shared.begin.Goals as goal

pub compare_exchange_with-requires : goal.compare_exchange_with-requires
compare_exchange_with-requires c =
    first_asks c.args.self.now c.args.pass.now c.args.actor.now c.index_of-door.result (λ (n : ℕ). either (n == 0) 0 n) c.requires.own c.requires.may
    (c.index_of-door.ensures ∙ ap (λ (tenant : ℕ). index_of c.args.self.now.pool (AtDoor tenant)) c.tenant.ensures) zero_for_zero

pub invariant_of-pass : goal.invariant_of-pass
invariant_of-pass c = record {
  numbered =
      numbers_begin c.args.actor.now (Found c.compare_exchange_with.result) c.args.pass.now.worker c.args.pass.now.seat.me.0 c.compare_exchange_with.new.seat.me.0
      c.requires.may c.compare_exchange_with.ensures.2.0
      ∙ c.args.pass.now.numbered;
  rests = λ idle. absurd (cc);
}
