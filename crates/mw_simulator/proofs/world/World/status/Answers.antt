-- Goals of `World::status` (src/world/calls.rt): the bits of a slot's status are those of the status that the slot has.
use Rattle.std.proofs.Common.{ap, ◌∙◌}
use Rattle.std.specs.Option.{option_and_then}
use Rattle.mw_words.specs.Patterns.{unpacked_status}
use Rattle.mw_simulator.proofs.CallEndLaws.{status_at}
use Rattle.mw_simulator.proofs.world.World.status.Goals as goal

pub returns-in-Some-clause-shown : goal.returns-in-Some-clause-shown
returns-in-Some-clause-shown c state shows =
    c.unpack.ensures.is ∙ ap (option_and_then unpacked_status) c.in-Some.ensures.is ∙ status_at c.args.self.now state c.args.slot shows

pub returns-in-None-clause-shown : goal.returns-in-None-clause-shown
returns-in-None-clause-shown c state shows =
    ap (option_and_then unpacked_status) c.in-None.ensures.is ∙ status_at c.args.self.now state c.args.slot shows
