-- Goals of `World::tell_file` (src/world/calls.rt): the request learns how its call ended, and the call has the given
-- label.
use Rattle.std.proofs.Common.{refl, ◌∙◌, ap}
use Rattle.mw_look.specs.declared.observations.Got.TheVariants.{File as GotFile}
use Rattle.mw_look.specs.declared.observations.Observation.TheVariants.{Filed}
use Rattle.mw_look.specs.Steps.{place}
use Rattle.mw_actor.specs.Asks.{asks}
use Rattle.mw_world.specs.Definition.Turns.{next_attempt}
use Rattle.mw_simulator.proofs.StepPartLaws.{attempt_at, told_copy, told_with}
use Rattle.mw_simulator.proofs.world.World.tell_file.Goals as goal

pub returns-clause-shows : goal.returns-clause-shows
returns-clause-shows c state shows =
    told_with c.enter.new.self state c.args.worker c.args.actor.now c.tell.new.self (Filed c.args.ended.went_well) c.args.ended.label c.args.ended.label c.next_attempt-attempt.result
    (c.next_attempt-attempt.ensures ∙ ap (λ n. next_attempt c.args.actor.now.point n)
    (attempt_at c.args.self.now state c.from.result c.args.worker c.index.result.now shows c.from.ensures c.requires.worker c.index.ensures))
    (told_copy c.args.actor.now c.copy-next.result c.tell.new.self (place (asks c.args.actor.now)) (GotFile c.args.ended.went_well) c.next_attempt-attempt.result c.copy-next.ensures refl c.tell.ensures)
    refl (c.enter.ensures.shows state c.args.actor.now shows)
