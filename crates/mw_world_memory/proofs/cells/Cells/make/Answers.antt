-- Goals of `Cells::make` (src/cells/steps.rt).
use Rattle.mw_world_memory.proofs.MadeSteps.{made_is}
use Rattle.mw_world_memory.proofs.cells.Cells.make.Goals as goal

pub returns : goal.returns
returns c =
    let done = c.load_or_change in
    let facts = made_is c.args.op c.args.self.now done.new.self done.result done.ensures.is done.ensures.after in
    record { is = done.ensures.is; after = done.ensures.after; there = facts.there; makes = facts.makes; places = facts.places; none = facts.none }
