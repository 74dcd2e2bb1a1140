-- Defines how a request acquires the words of a change that is not decided, by an attempt in each.
-- Used by: mw_law_runs, mw_law_store, mw_rule, actor/moves.rt, tasks.rt. It is a part of Program: a change here changes the
-- algorithm and its laws.
use Rattle.std.specs.Prelude.{ℕ, ◌+◌, ◌==◌, ◌&&◌, Bool, true, false, cond, nat_lt, nat_le, length}
use Rattle.mw_words.specs.declared.limits.TheConstants.{WORN_NUMBER}
use Rattle.mw_words.specs.declared.gates.Gate.{Gate}
use Rattle.mw_words.specs.declared.words.Word.{Word}
use Rattle.mw_words.specs.declared.words.Word.TheVariants.{Plain, Planted, Held, Dirty}
use Rattle.mw_words.specs.declared.statuses.Status.{Status}
use Rattle.mw_words.specs.declared.statuses.Status.TheVariants.{Draft, Open, YesDirty, Yes, No, DoneYes, DoneNo}
use Rattle.mw_words.specs.declared.replies.Reply.TheVariants.{Worn as SaysWorn}
use Rattle.mw_look.specs.Program.{same_word}
use Rattle.mw_actor.specs.declared.points.Slot.{Slot}
use Rattle.mw_actor.specs.declared.points.Task.{Task}
use Rattle.mw_actor.specs.declared.points.Attempt.{Attempt}
use Rattle.mw_actor.specs.declared.points.Sweep.TheVariants.{Yes as SweepYes, DoneYes as SweepDoneYes, No as SweepNo, DoneNo as SweepDoneNo}
use Rattle.mw_actor.specs.declared.points.Point.{Point}
use Rattle.mw_actor.specs.declared.points.Point.TheVariants.{ReadTargetStatus, Inspect, AnnounceRow, ReadOtherRow, ReadDirtyGate, ConfirmDirty, DecideYes, DecideNo, CheckThenResolve, Seal}
use Rattle.mw_actor.specs.ActorState.{ActorState, entries_of, entry_of, same_slot, planted}
use Rattle.mw_actor.specs.RequestEnds.{gives_up}
use Rattle.mw_actor.specs.Help.{helps}
use Rattle.mw_actor.specs.ReleasePhase.{sweeps}

-- Where the work on a change goes on, by its status. Only a change's own worker finds a draft; it loads the status
-- again.
abbrev pub status_read : Task → Status → Point
status_read task Draft = ReadTargetStatus task
status_read task Open = Inspect task 0
status_read task YesDirty = Seal task
status_read task Yes = sweeps task SweepYes
status_read task DoneYes = sweeps task SweepDoneYes
status_read task (No entry value) = sweeps task SweepNo
status_read task (DoneNo entry value) = sweeps task (SweepDoneNo entry value)

-- where a request goes from a word held for its target: to the next entry, and after the last to the decision
abbrev pub next_word : ActorState → Task → ℕ → Point
next_word actor task entry = cond (nat_lt (entry + 1) (length (entries_of actor task))) (Inspect task (entry + 1)) (DecideYes task)

-- the request holds a word by an attempt with the worker's next number; if that is worn, it gives up
abbrev pub attempts : Task → ℕ → ℕ → Point
attempts task entry next = cond (nat_lt next WORN_NUMBER) (AnnounceRow task entry next) (gives_up task SaysWorn)

-- Where a request goes from a word that has the expected value, written by a change that is made. If that change has
-- the target's slot, it loads the target's status. If it has the request's own slot, the request works on its own
-- change. Else it loads the gate of the slot, which tells the change's number.
abbrev pub dirty_seen : Task → ℕ → ℕ → ℕ → Point
dirty_seen task entry slot value = cond (slot == task.target.slot) (ReadTargetStatus task) (cond (slot == task.own.slot) (helps task task.own) (ReadDirtyGate task entry slot value))

-- where a request goes from a held word
abbrev pub held_seen : ActorState → Task → ℕ → Slot → Point
held_seen actor task entry other = cond (same_slot other task.target) (next_word actor task entry) (helps task other)

-- Where a request goes from an entry's word. A word with another value than the expected one leads to the decision
-- No.
abbrev pub inspected : ActorState → ℕ → Task → ℕ → Word → Point
inspected actor next task entry (Plain value) = cond (value == (entry_of actor task entry).expected) (attempts task entry next) (DecideNo task entry value)
inspected actor next task entry (Dirty slot value) = cond (value == (entry_of actor task entry).expected) (dirty_seen task entry slot value) (DecideNo task entry value)
inspected actor next task entry (Held slot seq) = held_seen actor task entry (record { slot = slot; seq = seq })
inspected actor next task entry (Planted worker number) = ReadOtherRow task entry (record { worker = worker; number = number })

-- an attempt is for this change: the target's is resolved; another's change is helped
abbrev pub attempt_met : Task → ℕ → Attempt → Slot → Point
attempt_met task entry attempt other = cond (same_slot other task.target) (CheckThenResolve task entry attempt) (helps task other)

-- where a request goes from a word that had an attempt, given the change that the row named; the word must still have
-- it
abbrev pub attempt_confirmed : Task → ℕ → Attempt → Slot → Word → Point
attempt_confirmed task entry attempt other word = cond (same_word word (planted attempt)) (attempt_met task entry attempt other) (ReadTargetStatus task)

-- where a request goes from the gate of a slot that a dirty word named: the slot must be taken and have a pin
abbrev pub dirty_gate_read : Task → ℕ → ℕ → ℕ → Gate → Point
dirty_gate_read task entry slot value gate = cond (gate.taken && nat_le 1 gate.pins) (ConfirmDirty task entry (record { slot = slot; seq = gate.seq }) value) (ReadTargetStatus task)

-- where a request goes from a dirty word that named a slot: the word must still be the same
abbrev pub dirty_confirmed : Task → Slot → ℕ → Word → Point
dirty_confirmed task other value word = cond (same_word word (Dirty other.slot value)) (helps task other) (ReadTargetStatus task)

-- the change is open
abbrev pub is_open : Status → Bool
is_open Open = true
is_open status = false
