-- Defines what a request must still give back at each stage: its pins, a slot that it must free, and a slot that the door
-- counts for it.
-- Used by: mw_world (`Definition/Counts`), mw_law_runs, mw_law_store. A new stage needs a case here if the request must give
-- back something there.
use Rattle.std.specs.Prelude.{ℕ, ◌+◌, cond}
use Rattle.mw_look.specs.Runs.{if_same}
use Rattle.mw_actor.specs.declared.points.Task.{Task}
use Rattle.mw_actor.specs.declared.points.After.{After}
use Rattle.mw_actor.specs.declared.points.After.TheVariants.{Work, GiveUp as ThenGiveUp, Reply as ThenReply}
use Rattle.mw_actor.specs.ActorState.{is_alone}
use Rattle.mw_actor.specs.Stages.{Stage, Seeking, Claiming, WritingStatus, WritingCount, WritingAddr, WritingExpected, WritingNew, Preparing, Checking, Inspecting, Holding, Deciding, Working, Nearing, Pinning, Fetching, Leaving, Freeing, Lowering, GivingUp}

-- how many pins of a slot a request holds while it works on a task
abbrev pub task_pins : ℕ → Task → ℕ
task_pins slot task = if_same task.own.slot slot + cond (is_alone task) 0 (if_same task.target.slot slot)

-- how many it holds while this is what follows
abbrev pub pins_after : ℕ → After → ℕ
pins_after slot (Work task) = task_pins slot task
pins_after slot (ThenGiveUp own undecided) = if_same own.slot slot
pins_after slot (ThenReply reply) = 0

-- how many it holds at a stage
abbrev pub pins_at : ℕ → Stage → ℕ
pins_at slot (WritingStatus own) = if_same own.slot slot
pins_at slot (WritingCount own) = if_same own.slot slot
pins_at slot (WritingAddr own entry) = if_same own.slot slot
pins_at slot (WritingExpected own entry) = if_same own.slot slot
pins_at slot (WritingNew own entry) = if_same own.slot slot
pins_at slot (Preparing own) = if_same own.slot slot
pins_at slot (GivingUp own) = if_same own.slot slot
pins_at slot (Checking task) = task_pins slot task
pins_at slot (Inspecting task entry) = task_pins slot task
pins_at slot (Holding task entry) = task_pins slot task
pins_at slot (Deciding task) = task_pins slot task
pins_at slot (Working task) = task_pins slot task
pins_at slot (Nearing task other) = task_pins slot task
pins_at slot (Pinning task other from to) = task_pins slot task
pins_at slot (Fetching task) = task_pins slot task
pins_at slot (Leaving given onward) = if_same given.slot slot + pins_after slot onward
pins_at slot (Freeing given onward) = pins_after slot onward
pins_at slot (Lowering onward) = pins_after slot onward
pins_at slot now = 0

-- 1 if the request must free this slot, else 0
abbrev pub to_free : ℕ → Stage → ℕ
to_free slot (Freeing given onward) = if_same given.slot slot
to_free slot now = 0

-- 1 if the door counts a slot for the request that it hasn't claimed yet or has freed, else 0
abbrev pub to_lower : Stage → ℕ
to_lower Seeking = 1
to_lower (Claiming slot from to) = 1
to_lower (Lowering onward) = 1
to_lower now = 0
