-- Defines how a request turns to another's change that is in its way (helping), pins it, and reads it.
-- Used by: mw_law_runs, mw_law_store, mw_rule, actor.rt, actor/moves.rt, tasks.rt. It is a part of Program: a change here
-- changes the algorithm and its laws.
use Rattle.std.specs.Prelude.{ℕ, ◌+◌, ◌&&◌, ◌++◌, cond, nat_lt, nat_le, Some, None, List, [], ◌∷◌, length}
use Rattle.std.specs.declared.option.Option.{Option}
use Rattle.mw_words.specs.declared.limits.TheConstants.{MAX_ENTRIES, MAX_VALUE, MAX_WORDS, WORN_NUMBER}
use Rattle.mw_words.specs.declared.gates.Gate.{Gate}
use Rattle.mw_words.specs.declared.jobs.Entry.{Entry}
use Rattle.mw_pool.specs.Moves.{after_pin}
use Rattle.mw_look.specs.declared.observations.Observation.{Observation}
use Rattle.mw_look.specs.declared.observations.Observation.TheVariants.{SawNumber}
use Rattle.mw_actor.specs.declared.points.Slot.{Slot}
use Rattle.mw_actor.specs.declared.points.Task.{Task}
use Rattle.mw_actor.specs.declared.points.After.TheVariants.{Work}
use Rattle.mw_actor.specs.declared.points.Point.{Point}
use Rattle.mw_actor.specs.declared.points.Point.TheVariants.{ReadTargetStatus, ReadOtherGate, PinOther, ReadCount, ReadAddr, ReadExpected, ReadNew, Unpin}
use Rattle.mw_actor.specs.ActorState.{ActorState, is_alone, same_slot}
use Rattle.mw_actor.specs.RequestEnds.{works}

-- The request turns to a change that is its own or that it has pinned. It first unpins another's change that was its
-- target.
abbrev pub turns_to : Task → Slot → Point
turns_to task other =
    let next : Task = record { own = task.own; target = other } in
    cond (is_alone task) (works next) (Unpin task.target (Work next))

-- where a request goes when a change is in its way: its own is pinned already, and another's must be pinned first
abbrev pub helps : Task → Slot → Point
helps task other = cond (same_slot other task.own) (turns_to task task.own) (ReadOtherGate task other)

-- where a request goes from the gate of another's change, given the gate with one pin more, if there is one
abbrev pub pinned : Task → Slot → Gate → Option Gate → Point
pinned task other from (Some to) = PinOther task other from to
pinned task other from None = ReadTargetStatus task

-- Where a request goes from the gate of another's change. It takes a pin if the gate is taken, has a pin, and has
-- that change's number. Else it looks at its target again. It also does so if the gate has as many pins as it can
-- have, or if the number is worn; the gate of a slot in use has no worn number.
abbrev pub other_gate_read : Task → Slot → Gate → Point
other_gate_read task other gate = cond (nat_lt other.seq WORN_NUMBER) (pinned task other gate (after_pin gate other.seq)) (ReadTargetStatus task)

-- where a request goes from the number of entries; it stays if no change has so many
abbrev pub count_read : Task → ℕ → Point
count_read task count = cond (nat_le 1 count && nat_le count MAX_ENTRIES) (ReadAddr task count) (ReadCount task)

-- where a request goes from an entry's address; it stays if no tenant has such a word
abbrev pub addr_read : Task → ℕ → ℕ → Point
addr_read task count addr = cond (nat_lt addr MAX_WORDS) (ReadExpected task count addr) (ReadAddr task count)

-- where a request goes from an entry's expected value; it stays if no word has such a value
abbrev pub expected_read : Task → ℕ → ℕ → ℕ → Point
expected_read task count addr expected = cond (nat_le expected MAX_VALUE) (ReadNew task count addr expected) (ReadExpected task count addr)

-- where a request goes after it has read all of an entry: to the next entry, and after the last to the status
abbrev pub next_read : ActorState → Task → ℕ → Point
next_read actor task count = cond (nat_lt (length actor.others + 1) count) (ReadAddr task count) (ReadTargetStatus task)

-- where a request goes from an entry's new value; it stays if no word has such a value
abbrev pub new_read : ActorState → Task → ℕ → ℕ → ℕ → ℕ → Point
new_read actor task count addr expected new = cond (nat_le new MAX_VALUE) (next_read actor task count) (ReadNew task count addr expected)

-- The entries of another's change that were read. The load of their number clears them, and each new value adds one.
abbrev pub others_read : List Entry → Point → Observation → List Entry
others_read others (ReadCount task) (SawNumber count) = []
others_read others (ReadNew task count addr expected) (SawNumber new) = cond (nat_le new MAX_VALUE) (others ++ record { addr = addr; expected = expected; new = new } ∷ []) others
others_read others point observation = others
