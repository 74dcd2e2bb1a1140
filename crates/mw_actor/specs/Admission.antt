-- Defines how a change gets a slot: its tenant's door admits it, it claims a free slot's gate, and it is written there.
-- Used by: mw_law_runs, mw_law_store, mw_rule, actor/moves.rt. It is a part of Program: a change here changes the algorithm
-- and its laws.
use Rattle.std.specs.Prelude.{ℕ, ◌+◌, ◌==◌, ◌&&◌, ◌||◌, not, Bool, false, cond, nat_lt, Some, None, length}
use Rattle.std.specs.declared.option.Option.{Option}
use Rattle.mw_words.specs.declared.limits.TheConstants.{WORN_NUMBER}
use Rattle.mw_words.specs.declared.doors.Door.{Door}
use Rattle.mw_words.specs.declared.gates.Gate.{Gate}
use Rattle.mw_words.specs.declared.replies.Reply.TheVariants.{Busy as SaysBusy, Fault as SaysFault, Worn as SaysWorn}
use Rattle.mw_pool.specs.declared.doors.Admission.{Admission}
use Rattle.mw_pool.specs.declared.doors.Admission.TheVariants.{Fault as HasFailed, Busy as IsBusy, To}
use Rattle.mw_pool.specs.Moves.{after_admit, after_claim}
use Rattle.mw_actor.specs.declared.points.Slot.{Slot}
use Rattle.mw_actor.specs.declared.points.After.TheVariants.{Reply as ThenReply}
use Rattle.mw_actor.specs.declared.points.Point.{Point}
use Rattle.mw_actor.specs.declared.points.Point.TheVariants.{Admit, ScanGate, Claim, FillAddr, Prepare, ReadTargetStatus, LowerDoor, GiveUp, Replied}
use Rattle.mw_actor.specs.ActorState.{ActorState, own_entries, alone}

-- Where a change goes by what its tenant's door says about its admission. An admitted change needs an attempt number
-- that isn't worn.
abbrev pub admitted : ℕ → Door → Admission → Point
admitted next door HasFailed = Replied SaysFault
admitted next door IsBusy = Replied SaysBusy
admitted next door (To to) = cond (nat_lt next WORN_NUMBER) (Admit door to) (Replied SaysWorn)

-- where a change goes from its tenant's door
abbrev pub door_read : ActorState → ℕ → Door → Point
door_read actor next door = admitted next door (after_admit door actor.quota)

-- Where a change goes after a round over the gates that claimed none. If the round saw a free gate with a worn
-- number, the request is counted off its tenant's door and ends with WORN. Else it makes another round.
abbrev pub round_over : Bool → Point
round_over saw_worn = cond saw_worn (LowerDoor (ThenReply SaysWorn)) (ScanGate 0 false)

-- where a change goes from a gate that it didn't claim: to the pool's next gate, and after the last to the round's
-- end
abbrev pub next_gate : ActorState → ℕ → Bool → Point
next_gate actor slot saw_worn = cond (nat_lt (slot + 1) actor.pool) (ScanGate (slot + 1) saw_worn) (round_over saw_worn)

-- the gate isn't taken, and its number is worn
abbrev pub is_worn : Gate → Bool
is_worn gate = not gate.taken && (gate.seq == WORN_NUMBER)

-- where a change goes from a gate, given the claimed gate if it can be claimed
abbrev pub claiming : ActorState → ℕ → Bool → Gate → Option Gate → Point
claiming actor slot saw_worn gate (Some to) = Claim slot saw_worn gate to
claiming actor slot saw_worn gate None = next_gate actor slot (saw_worn || is_worn gate)

-- where a change goes from a gate of the pool
abbrev pub gate_scanned : ActorState → ℕ → Bool → Gate → Point
gate_scanned actor slot saw_worn gate = claiming actor slot saw_worn gate (after_claim gate)

-- where a change goes after an entry was written: to the next entry, and after the last to the call on its file
abbrev pub next_fill : ActorState → Slot → ℕ → Point
next_fill actor own entry = cond (nat_lt (entry + 1) (length (own_entries actor))) (FillAddr own (entry + 1)) (Prepare own)

-- where a change goes after the call on its file to prepare it
abbrev pub prepared : Slot → Bool → Point
prepared own went_well = cond went_well (ReadTargetStatus (alone own)) (GiveUp own SaysFault)
