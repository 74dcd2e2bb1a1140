-- Goals of `Plain::run` (src/plain.rt).
use Rattle.std.proofs.Common.{subst, arith}
use Rattle.std.proofs.lemmas.List.{drop_all}
use Rattle.mw_plain.specs.Tasks.{AreTasks, Asked}
use Rattle.mw_plain.proofs.TaskLaws.{next_task, tasks_stay, asked_more, asked_all, serves_all}
use Rattle.std.proofs.lemmas.Grind.{common_steps}
use Rattle.mw_plain.proofs.plain.Plain.run.Goals as goal

pub loop-task-preserved : goal.loop-task-preserved
loop-task-preserved g c =
    let tasks = c.args.tasks.now in
    let task = c.task-item.result in
    let i = c.loop-task.task-index in
    let left = next_task tasks i task c.loop-task-test.true c.task-item.is in
    let formed = subst (AreTasks c.loop-task.self) left c.loop-task.invariant.formed in
    let answers = c.ask-reply.ensures.answers in
    let asked : Asked g.D.Disk.facts c.loop-task.self c.ask-reply.new.self task c.ask-reply.result = record { one = c.ask-reply.ensures.one; case = answers.0; answers = answers.1 } in
    let pushed = c.push_reserved.ensures.items in
    record {
      formed = tasks_stay c.loop-task.self c.ask-reply.new.self task.tenant _ c.ask-reply.ensures.one formed.1;
      asked = asked_more g.D.Disk.facts c.args.self.now c.loop-task.self c.ask-reply.new.self tasks i task c.loop-task.replies.items c.push_reserved.new.self.items c.ask-reply.result left pushed asked c.loop-task.invariant.asked;
      count = omega (arith, c.push_reserved.ensures.len, c.loop-task.invariant.count);
      room = omega (arith, c.loop-task.invariant.room, c.push_reserved.ensures.capacity);
    }

pub returns-clause-done : goal.returns-clause-done
returns-clause-done g c =
    asked_all g.D.Disk.facts c.args.self.now c.loop-task.self c.args.tasks.now c.loop-task.task-index c.loop-task.replies.items
    (drop_all _ c.args.tasks.now c.loop-task-test.false) c.loop-task.invariant.asked

pub returns-clause-serves : goal.returns-clause-serves
returns-clause-serves g c tenant s stands =
    serves_all g.D.Disk.facts c.args.self.now c.loop-task.self c.args.tasks.now c.loop-task.replies.items tenant s c.requires
    (asked_all g.D.Disk.facts c.args.self.now c.loop-task.self c.args.tasks.now c.loop-task.task-index c.loop-task.replies.items
    (drop_all _ c.args.tasks.now c.loop-task-test.false) c.loop-task.invariant.asked) stands

pub ask-reply-requires-clause-tenant : goal.ask-reply-requires-clause-tenant
ask-reply-requires-clause-tenant c = grind (arith, common_steps)

pub ask-reply-requires-clause-formed : goal.ask-reply-requires-clause-formed
ask-reply-requires-clause-formed c = grind (arith, common_steps)
