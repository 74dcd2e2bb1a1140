-- Defines how a request gives back a pin when its target (the change that it works on) is done, gives up, and ends.
-- Used by: mw_law_runs, mw_law_store, mw_rule, actor/moves.rt, tasks.rt. It is a part of Program: a change here changes the
-- algorithm and its laws.
use Rattle.std.specs.Prelude.{ℕ, ◌==◌, cond}
use Rattle.mw_words.specs.declared.gates.Gate.{Gate}
use Rattle.mw_words.specs.declared.statuses.Status.{Status}
use Rattle.mw_words.specs.declared.statuses.Status.TheVariants.{Yes, No, DoneYes, DoneNo}
use Rattle.mw_words.specs.declared.replies.Reply.{Reply}
use Rattle.mw_words.specs.declared.replies.Reply.TheVariants.{Yes as SaysYes, No as SaysNo}
use Rattle.mw_actor.specs.declared.points.Slot.{Slot}
use Rattle.mw_actor.specs.declared.points.Task.{Task}
use Rattle.mw_actor.specs.declared.points.After.{After}
use Rattle.mw_actor.specs.declared.points.After.TheVariants.{Work, GiveUp as ThenGiveUp, Reply as ThenReply}
use Rattle.mw_actor.specs.declared.points.Point.{Point}
use Rattle.mw_actor.specs.declared.points.Point.TheVariants.{ReadTargetStatus, ReadCount, Unpin, FreeSlot, GiveUp, Replied}
use Rattle.mw_actor.specs.ActorState.{ActorState, own_entries, is_alone, alone, entry_at}

-- where the work on a change begins: another's change is read first
abbrev pub works : Task → Point
works task = cond (is_alone task) (ReadTargetStatus task) (ReadCount task)

-- where a request goes after it has given back a pin
abbrev pub resumed : After → Point
resumed (Work task) = works task
resumed (ThenGiveUp own undecided) = GiveUp own undecided
resumed (ThenReply reply) = Replied reply

-- where a request goes after it took back its pin: if it was the last one, it frees the slot
abbrev pub unpinned : Slot → After → Gate → Point
unpinned slot after gate = cond (gate.pins == 1) (FreeSlot slot after) (resumed after)

-- where a request goes to give up: it gives back the pin of another's change, and keeps its own pin
abbrev pub gives_up : Task → Reply → Point
gives_up task undecided = cond (is_alone task) (GiveUp task.own undecided) (Unpin task.target (ThenGiveUp task.own undecided))

-- the refusal of the request's own change, given the index of the entry whose word had another value, and that value
abbrev pub refusal : ActorState → ℕ → ℕ → Reply
refusal actor entry value = SaysNo (entry_at (own_entries actor) entry).addr value

-- the reply of a request that gave up, by the status of its own change
abbrev pub gave_up : ActorState → Reply → Status → Reply
gave_up actor undecided Yes = SaysYes
gave_up actor undecided DoneYes = SaysYes
gave_up actor undecided (No entry value) = refusal actor entry value
gave_up actor undecided (DoneNo entry value) = refusal actor entry value
gave_up actor undecided status = undecided

-- Where a request goes when its target is done. If it is another's change, the request gives back its pin and works
-- on its own change again. If it is its own, the request gives back its pin and then replies.
abbrev pub finishes : Task → Reply → Point
finishes task reply = cond (is_alone task) (Unpin task.own (ThenReply reply)) (Unpin task.target (Work (alone task.own)))
