-- Goals of `Shared::figure` (src/first_steps.rt).
use Rattle.std.proofs.Common.{ap, ◌∙◌}
use Rattle.mw_world.specs.declared.config.Config.{Config}
use Rattle.mw_world.specs.Definition.Extent.{has_place}
use Rattle.std.proofs.Common.{map}
use Rattle.mw_table.specs.Numbers.{number_of}
use Rattle.mw_table.proofs.StepRequirements.{look_asks}
use Rattle.mw_table.proofs.IdlePasses.{rests_on}
use Rattle.mw_table.proofs.shared.Shared.figure.Goals as goal

pub load-requires : goal.load-requires
load-requires c =
    look_asks c.args.self.now c.args.pass.now c.args.at c.index_of.result c.requires.own
    (ap (λ (config : Config). has_place config c.args.at) c.requires.own.config ∙ c.requires.there) c.index_of.ensures

pub invariant_of-pass : goal.invariant_of-pass
invariant_of-pass c = record {
  numbered = ap (map number_of) c.load.ensures.2.0.same_token ∙ c.args.pass.now.numbered;
  rests = λ idle. rests_on c.index_of.result c.load.result c.args.pass.now.seat.me.0 c.load.new.seat.me.0 c.load.ensures.2.0 (c.args.pass.now.rests idle);
}
