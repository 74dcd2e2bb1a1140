-- Goals of `Shared::attempt` (src/steps.rt).
use Rattle.std.proofs.Common.{◌==◌, cond, ℕ, refl}
use prog.Atomic.{either}
use Rattle.mw_look.specs.declared.steps.Kind.TheVariants.{Plant as PlantKind}
use Rattle.mw_look.specs.declared.steps.Op.TheVariants.{Change as ChangeBits}
use Rattle.mw_look.specs.declared.observations.Got.TheVariants.{Won as GotWon, Lost as GotLost}
use Rattle.mw_table.proofs.AttemptNumbers.{attempt_asks}
use Rattle.mw_table.proofs.shared.Shared.attempt.Goals as goal

pub compare_exchange-stood-requires : goal.compare_exchange-stood-requires
compare_exchange-stood-requires c =
    let from = c.args.from in let to = c.args.to in
    attempt_asks c.args.self.now c.args.pass.now (ChangeBits PlantKind c.args.at from to) c.index_of.result (λ (n : ℕ). either (n == from) to n) (λ (n : ℕ). cond (n == from) GotWon GotLost)
    c.requires.own c.requires.next c.index_of.ensures (λ n. refl) (λ n. refl)
