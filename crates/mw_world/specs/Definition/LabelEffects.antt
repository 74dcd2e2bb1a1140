-- Defines what a step's label (what the step means for its tenant's marks) does to the history, the tenant's marks and the
-- worker's state.
-- Used by: many crates from mw_law_runs on.
use Rattle.std.specs.Prelude.{ℕ, Bool, true, false, List, [], ◌∷◌, ◌++◌, length, slice_set, Option, Some, None}
use Rattle.mw_words.specs.declared.jobs.Entry.{Entry}
use Rattle.mw_words.specs.declared.statuses.Status.{Status}
use Rattle.mw_words.specs.declared.statuses.Status.TheVariants.{Yes, No}
use Rattle.mw_lone.specs.declared.marks.Mark.{Mark}
use Rattle.mw_lone.specs.declared.marks.Mark.TheVariants.{Admit as IsAdmitted, Busy as IsBusy, Look as Looks, Miss, Seal as Seals, SealFail, FileFail, GiveUp as GivesUp, Retire}
use Rattle.mw_actor.specs.declared.points.Slot.{Slot}
use Rattle.mw_actor.specs.ActorState.{ActorState, own_entries}
use Rattle.mw_world.specs.Maps.{upd, upd_two, upd_three}
use Rattle.mw_world.specs.Definition.History.{History, standing_at, permission_at}
use Rattle.mw_world.specs.declared.step_labels.StepLabel.{StepLabel}
use Rattle.mw_world.specs.declared.step_labels.StepLabel.TheVariants.{Admitted, FoundBusy, FoundFault, Looked, Reserved, LookedBefore, Claimed, Decided, Refused, Moved, Freed, Lowered, GaveUp, SealedIt, FailedToSeal, FailedFile}
use Rattle.mw_world.specs.Definition.State.{WorkerState}

-- a worker claims the slot for a request of a tenant, with these entries; the change is a draft from the beginning
abbrev pub with_claim : History → ℕ → ℕ → ℕ → ℕ → ℕ → List Entry → History
with_claim past slot seq worker tenant request entries = record past {
  is_claimed = upd_two past.is_claimed slot seq true;
  tenant = upd_two past.tenant slot seq tenant;
  request = upd_two past.request slot seq request;
  owner = upd_two past.owner slot seq worker;
  change = upd_two past.change slot seq entries;
}

-- the change has this status
abbrev pub with_status : History → Slot → Status → History
with_status past target status = record past { fate = upd_two past.fate target.slot target.seq status }

-- FAULT is decided as the reply to the change's request
abbrev pub with_fault_decided : History → Slot → History
with_fault_decided past target = record past { is_fault_decided = upd_two past.is_fault_decided target.slot target.seq true }

-- the change's worker left its pin
abbrev pub left : History → Slot → History
left past own = record past { stays = upd_two past.stays own.slot own.seq true }

-- the history after a step of a worker's request with this label
abbrev pub with_label : StepLabel → ℕ → ActorState → ℕ → History → History
with_label (Claimed own) worker actor request past = with_claim past own.slot own.seq worker actor.tenant request (own_entries actor)
with_label (Decided target status) worker actor request past = with_status past target status
with_label (Refused target entry value) worker actor request past = with_status past target (No entry value)
with_label (Moved target address phase) worker actor request past = record past { phase = upd_three past.phase target.slot target.seq address phase }
with_label (GaveUp own true) worker actor request past = with_fault_decided (left past own) own
with_label (GaveUp own false) worker actor request past = left past own
with_label (SealedIt target) worker actor request past = with_status past target Yes
with_label (FailedToSeal target) worker actor request past = with_fault_decided past target
with_label label worker actor request past = past

-- the history with the worker's attempt and its permission, as its request's present point tells them
abbrev pub with_intent : History → ℕ → ActorState → History
with_intent past worker actor = record past { standing = upd past.standing worker (standing_at actor actor.point); permission = upd past.permission worker (permission_at actor actor.point) }

-- these lines with one line more
abbrev pub more : List (Option Mark) → Option Mark → List (Option Mark)
more lines line = lines ++ line ∷ []

-- these lines with a mark more, unless FAULT was decided for its request before
abbrev pub more_unless : Bool → List (Option Mark) → Mark → List (Option Mark)
more_unless true lines mark = lines
more_unless false lines mark = more lines (Some mark)

-- these lines with a mark at its reserved place, unless FAULT was decided for its request before
abbrev pub late_unless : Bool → List (Option Mark) → ℕ → Mark → List (Option Mark)
late_unless true lines kept mark = lines
late_unless false lines kept mark = slice_set lines kept (Some mark)

-- The tenant's lines after a step of a worker with this label. Most marks are added at the end. The mark of a refusal
-- goes to the place that was reserved at the load of the refusing word. The mark of a read through a held word goes
-- to the place that was reserved at the load of the status.
abbrev pub marked : StepLabel → WorkerState → History → List (Option Mark) → List (Option Mark)
marked Admitted worker_state past lines = more lines (Some (IsAdmitted worker_state.request))
marked FoundBusy worker_state past lines = more lines (Some (IsBusy worker_state.request))
marked FoundFault worker_state past lines = more lines (Some (GivesUp worker_state.request))
marked Looked worker_state past lines = more lines (Some (Looks worker_state.request))
marked Reserved worker_state past lines = more lines None
marked LookedBefore worker_state past lines = late_unless false lines worker_state.kept (Looks worker_state.request)
marked (Refused target entry value) worker_state past lines = late_unless (past.is_fault_decided target.slot target.seq) lines worker_state.kept (Miss (past.request target.slot target.seq) entry)
marked Lowered worker_state past lines = more lines (Some (Retire worker_state.retiring))
marked (GaveUp own true) worker_state past lines = more_unless (past.is_fault_decided own.slot own.seq) lines (GivesUp worker_state.request)
marked (SealedIt target) worker_state past lines = more lines (Some (Seals (past.request target.slot target.seq)))
marked (FailedToSeal target) worker_state past lines = more lines (Some (SealFail (past.request target.slot target.seq)))
marked FailedFile worker_state past lines = more lines (Some FileFail)
marked label worker_state past lines = lines

-- the worker's state after a step with this label, given its tenant's lines before the step
abbrev pub with_labels : StepLabel → History → List (Option Mark) → WorkerState → WorkerState
with_labels Reserved past lines worker_state = record worker_state { kept = length lines }
with_labels (Freed slot) past lines worker_state = record worker_state { retiring = past.request slot.slot slot.seq }
with_labels label past lines worker_state = worker_state
