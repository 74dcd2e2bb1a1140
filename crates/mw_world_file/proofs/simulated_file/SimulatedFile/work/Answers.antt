-- Goals of `SimulatedFile::work` (src/calls.rt).
use Rattle.mw_look.specs.declared.steps.Call.TheVariants.{Seal, Settle, Cancel}
use Rattle.mw_world_file.proofs.WorkedFiles.{works_as}
use Rattle.mw_world_file.proofs.ExactDisks.{exactly_as}
use Rattle.mw_world_file.proofs.simulated_file.SimulatedFile.work.Goals as goal

pub returns-in-Seal-clause-works : goal.returns-in-Seal-clause-works
returns-in-Seal-clause-works c = works_as c.args.self.now c.args.call Seal c.args.slot c.args.entries.now.items c.args.outcome c.seal.result c.in-Seal.is (c.seal.ensures.works c.args.entries.now.items)

pub returns-in-Settle-clause-works : goal.returns-in-Settle-clause-works
returns-in-Settle-clause-works c = works_as c.args.self.now c.args.call Settle c.args.slot c.args.entries.now.items c.args.outcome c.settle.result c.in-Settle.is (c.settle.ensures.works c.args.entries.now.items)

pub returns-in-Cancel-clause-works : goal.returns-in-Cancel-clause-works
returns-in-Cancel-clause-works c = works_as c.args.self.now c.args.call Cancel c.args.slot c.args.entries.now.items c.args.outcome c.cancel.result c.in-Cancel.is (c.cancel.ensures.works c.args.entries.now.items)

pub returns-in-Seal-clause-exact : goal.returns-in-Seal-clause-exact
returns-in-Seal-clause-exact c =
    exactly_as c.args.self.now c.args.call Seal c.args.slot c.args.entries.now.items c.args.outcome c.seal.result c.in-Seal.is (c.seal.ensures.exact c.args.entries.now.items)

pub returns-in-Settle-clause-exact : goal.returns-in-Settle-clause-exact
returns-in-Settle-clause-exact c =
    exactly_as c.args.self.now c.args.call Settle c.args.slot c.args.entries.now.items c.args.outcome c.settle.result c.in-Settle.is (c.settle.ensures.exact c.args.entries.now.items)

pub returns-in-Cancel-clause-exact : goal.returns-in-Cancel-clause-exact
returns-in-Cancel-clause-exact c =
    exactly_as c.args.self.now c.args.call Cancel c.args.slot c.args.entries.now.items c.args.outcome c.cancel.result c.in-Cancel.is (c.cancel.ensures.exact c.args.entries.now.items)
