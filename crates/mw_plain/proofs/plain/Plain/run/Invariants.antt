-- Loop invariants of `Plain::run` (src/plain.rt).
use Rattle.std.proofs.Common.{◌≡◌, ◌≤◌, ◌++◌, List, length, drop, vec_len}
use Rattle.std.specs.Prelude.{vec_capacity}
use Rattle.mw_words.specs.declared.replies.Reply.{Reply}
use Rattle.mw_plain.specs.declared.plain.Plain.{Plain}
use Rattle.mw_plain.specs.Tasks.{AreTasks, AskedAll}
use Rattle.mw_plain.proofs.plain.Plain.run.Given as goal

-- the tasks that are left are well formed; asked after those so far they are all; there is room for their replies
abbrev pub invariant-loop-task : goal.invariant-loop-task
invariant-loop-task g l = record {
  formed : AreTasks l.self (drop l.task-index l.tasks);
  asked : (more : List Reply) (last : Plain g.row.D.Denot) → AskedAll g.D.Disk.facts l.self (drop l.task-index l.tasks) more last → AskedAll g.D.Disk.facts l.fn.self l.tasks (l.replies.items ++ more) last;
  count : vec_len l.replies ≡ l.task-index;
  room : length l.tasks ≤ vec_capacity l.replies;
}
