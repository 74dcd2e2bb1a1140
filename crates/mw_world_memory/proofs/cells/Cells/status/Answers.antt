-- Goals of `Cells::status` (src/cells.rt).
use Rattle.std.proofs.Common.{ap, ◌∙◌}
use Rattle.std.specs.Option.{option_and_then}
use Rattle.mw_words.specs.Patterns.{unpacked_status}
use Rattle.mw_world_memory.proofs.MadeSteps.{status_is}
use Rattle.mw_world_memory.proofs.cells.Cells.status.Goals as goal

pub returns-in-Some-clause-tied : goal.returns-in-Some-clause-tied
returns-in-Some-clause-tied c cells tie fits =
    c.unpack.ensures.is ∙ ap (option_and_then unpacked_status) c.in-Some.ensures.is ∙ status_is c.args.self.now cells c.args.slot tie fits
