-- Defines the release phase: a request visits each word of a decided change, and removes what refers to the change.
-- Used by: mw_law_runs, mw_law_store, mw_rule, actor/moves.rt, tasks.rt. It is a part of Program: a change here changes the
-- algorithm and its laws.
use Rattle.std.specs.Prelude.{ℕ, ◌+◌, ◌==◌, ◌&&◌, Bool, cond, nat_lt, length}
use Rattle.mw_words.specs.declared.words.Word.{Word}
use Rattle.mw_words.specs.declared.words.Word.TheVariants.{Plain, Planted, Held, Dirty}
use Rattle.mw_words.specs.declared.replies.Reply.TheVariants.{Yes as SaysYes, Fault as SaysFault}
use Rattle.mw_look.specs.Program.{same_word}
use Rattle.mw_actor.specs.declared.points.Slot.{Slot}
use Rattle.mw_actor.specs.declared.points.Task.{Task}
use Rattle.mw_actor.specs.declared.points.Attempt.{Attempt}
use Rattle.mw_actor.specs.declared.points.Sweep.{Sweep}
use Rattle.mw_actor.specs.declared.points.Sweep.TheVariants.{Yes as SweepYes, DoneYes as SweepDoneYes, No as SweepNo, DoneNo as SweepDoneNo}
use Rattle.mw_actor.specs.declared.points.Point.{Point}
use Rattle.mw_actor.specs.declared.points.Point.TheVariants.{ReadTargetStatus, SweepWord, Release, Clean, SweepRow, SweepResolve, Settle, Cancel}
use Rattle.mw_actor.specs.ActorState.{ActorState, entries_of, same_slot, planted}
use Rattle.mw_actor.specs.RequestEnds.{gives_up, finishes, refusal}

-- the first point of a sweep over the target's words
abbrev pub sweeps : Task → Sweep → Point
sweeps task sweep = SweepWord task sweep 0

-- where a request goes after the call on its file to seal or settle the target
abbrev pub filed : Task → Bool → Point
filed task went_well = cond went_well (ReadTargetStatus task) (gives_up task SaysFault)

-- Where a request goes after a sweep of a decided change. If the change isn't done, it calls the file. Else it is
-- finished with the change.
abbrev pub sweep_over : ActorState → Task → Sweep → Point
sweep_over actor task SweepYes = Settle task
sweep_over actor task SweepDoneYes = finishes task SaysYes
sweep_over actor task SweepNo = Cancel task
sweep_over actor task (SweepDoneNo entry value) = finishes task (refusal actor entry value)

-- where a request goes after the sweep of a word: to the next entry, and after the last to the end of the sweep
abbrev pub next_sweep : ActorState → Task → Sweep → ℕ → Point
next_sweep actor task sweep entry = cond (nat_lt (entry + 1) (length (entries_of actor task))) (SweepWord task sweep (entry + 1)) (sweep_over actor task sweep)

-- where a request goes from a held word: it releases a word held for the target, unless the target is made and done
abbrev pub held_swept : ActorState → Task → Sweep → ℕ → Slot → Point
held_swept actor task SweepDoneYes entry slot = next_sweep actor task SweepDoneYes entry
held_swept actor task sweep entry slot = cond (same_slot slot task.target) (Release task sweep entry) (next_sweep actor task sweep entry)

-- where a request goes from a dirty word: it cleans a word that names the target's slot, if the target is made and
-- done
abbrev pub dirty_swept : ActorState → Task → Sweep → ℕ → ℕ → ℕ → Point
dirty_swept actor task SweepDoneYes entry slot value = cond (slot == task.target.slot) (Clean task entry value) (next_sweep actor task SweepDoneYes entry)
dirty_swept actor task sweep entry slot value = next_sweep actor task sweep entry

-- Where a request goes from an attempt: it looks into it, unless the target is made and not done. Then each of the
-- target's words is held or dirty.
abbrev pub attempt_swept : ActorState → Task → Sweep → ℕ → Attempt → Point
attempt_swept actor task SweepYes entry attempt = next_sweep actor task SweepYes entry
attempt_swept actor task sweep entry attempt = SweepRow task sweep entry attempt

-- where a request goes from a word of a decided change
abbrev pub swept : ActorState → Task → Sweep → ℕ → Word → Point
swept actor task sweep entry (Plain value) = next_sweep actor task sweep entry
swept actor task sweep entry (Planted worker number) = attempt_swept actor task sweep entry (record { worker = worker; number = number })
swept actor task sweep entry (Held slot seq) = held_swept actor task sweep entry (record { slot = slot; seq = seq })
swept actor task sweep entry (Dirty slot value) = dirty_swept actor task sweep entry slot value

-- Where a request goes from a word of a decided change that had an attempt. It resolves the attempt if the word still
-- has it and the row named the target.
abbrev pub sweep_confirmed : ActorState → Task → Sweep → ℕ → Attempt → Slot → Word → Point
sweep_confirmed actor task sweep entry attempt other word = cond (same_word word (planted attempt) && same_slot other task.target) (SweepResolve task sweep entry attempt) (next_sweep actor task sweep entry)
