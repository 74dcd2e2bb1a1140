-- Goals of `World::go_on` (src/world/turns.rt): the request learns what its step found. The step has the label for the point that
-- the request is then at.
use Rattle.std.proofs.Common.{◌∙◌, ap}
use Rattle.mw_look.specs.Observations.{observation_of}
use Rattle.mw_world.specs.Definition.Turns.{next_attempt}
use Rattle.mw_simulator.proofs.StepPartLaws.{attempt_at, meant, told_copy, told_so}
use Rattle.mw_simulator.proofs.world.World.go_on.Goals as goal

pub returns-clause-shows : goal.returns-clause-shows
returns-clause-shows c state shows at =
    told_so c.enter.new.self state c.args.worker c.args.actor.now c.tell.new.self (observation_of c.args.at c.args.got) c.label_of-label.result c.next_attempt-attempt.result
    (c.next_attempt-attempt.ensures ∙ ap (λ n. next_attempt c.args.actor.now.point n)
    (attempt_at c.args.self.now state c.from.result c.args.worker c.index.result.now shows c.from.ensures c.requires.worker c.index.ensures))
    (told_copy c.args.actor.now c.copy-next.result c.tell.new.self c.args.at c.args.got c.next_attempt-attempt.result c.copy-next.ensures at c.tell.ensures)
    (meant c.args.actor.now (observation_of c.args.at c.args.got) c.of.result c.tell.new.self.point c.point.result c.label_of-label.result c.label_of-label.ensures c.of.ensures.is c.point.ensures.is)
    (c.enter.ensures.shows state c.args.actor.now shows)
