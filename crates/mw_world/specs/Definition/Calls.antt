-- Defines a call on a tenant's file, with the change of a shared word that ends it.
-- Used by: src/statuses.rt, many crates from mw_law_runs on.
use Rattle.std.specs.Prelude.{ℕ, ◌&&◌, Bool, true, false, not, if◌then◌else◌, Option, Some, None}
use Rattle.mw_words.specs.declared.places.At.TheVariants.{Door as AtDoor, Status as AtStatus}
use Rattle.mw_words.specs.declared.statuses.Status.{Status}
use Rattle.mw_words.specs.declared.statuses.Status.TheVariants.{Draft, Open, YesDirty, Yes, No, DoneYes, DoneNo}
use Rattle.mw_look.specs.declared.steps.Call.{Call}
use Rattle.mw_look.specs.declared.steps.Call.TheVariants.{Prepare as PrepareCall, Seal as SealCall, Settle as SettleCall, Cancel as CancelCall}
use Rattle.mw_look.specs.declared.steps.Kind.TheVariants.{Fault as FaultKind}
use Rattle.mw_look.specs.declared.observations.Observation.TheVariants.{Filed}
use Rattle.mw_actor.specs.declared.points.Slot.{Slot}
use Rattle.mw_actor.specs.declared.points.Point.{Point}
use Rattle.mw_actor.specs.declared.points.Point.TheVariants.{Prepare, Seal, Settle, Cancel}
use Rattle.mw_actor.specs.ActorState.{ActorState, own_entries}
use Rattle.mw_world.specs.declared.outcomes.Outcome.{Outcome}
use Rattle.mw_world.specs.declared.outcomes.Outcome.TheVariants.{Good, Fail}
use Rattle.mw_world.specs.Files.State.{File, entries_at, broken}
use Rattle.mw_world.specs.declared.config.Config.{Config}
use Rattle.mw_world.specs.Definition.Cells.{write}
use Rattle.mw_world.specs.Definition.Changes.{fetched}
use Rattle.mw_world.specs.Definition.Extent.{has_slot}
use Rattle.mw_world.specs.declared.step_labels.StepLabel.{StepLabel}
use Rattle.mw_world.specs.declared.step_labels.StepLabel.TheVariants.{Nothing, Decided, SealedIt, FailedToSeal, FailedFile}
use Rattle.mw_world.specs.Definition.State.{State}
use Rattle.mw_world.specs.Definition.Turns.{Made, moved}
-- what a call does to the file alone
pub use Rattle.mw_world.specs.Files.Calls.{fails_on, place_for, suits, is_formed, can_be_made, device_calls, is_made, filed, doubt_of}

-- A call on a file, and the change that it is for.
pub record Called : Type 0 where
  pub call : Call
  pub change : Slot

-- the call on a file to which a request has come at a point, if it has come to one
abbrev pub called_at : Point → Option Called
called_at (Prepare own) = Some (record { call = PrepareCall; change = own })
called_at (Seal task) = Some (record { call = SealCall; change = task.target })
called_at (Settle task) = Some (record { call = SettleCall; change = task.target })
called_at (Cancel task) = Some (record { call = CancelCall; change = task.target })
called_at point = None

-- The status after a call that went well, given the status from which it started. The call has loaded that status, so
-- its exchange wins.
abbrev pub status_after : Call → Status → Status
status_after PrepareCall status = Open
status_after SealCall status = Yes
status_after SettleCall status = DoneYes
status_after CancelCall (No entry value) = DoneNo entry value
status_after CancelCall status = status

-- the call starts from this status
abbrev pub starts_from : Call → Status → Bool
starts_from PrepareCall Draft = true
starts_from SealCall YesDirty = true
starts_from SettleCall Yes = true
starts_from CancelCall (No entry value) = true
starts_from call status = false

-- how many device calls a call makes, given its change's status and its file
abbrev pub calls_made : Call → Status → File → ℕ → ℕ
calls_made call status file place = if starts_from call status && not (fails_on call file) then device_calls call (entries_at file place) else 0

-- the label of a call that went well and left this status
abbrev pub good_label : Call → Slot → Status → StepLabel
good_label SealCall change status = SealedIt change
good_label call change status = Decided change status

-- the label of a call in which the device failed
abbrev pub fault_label : Call → Slot → StepLabel
fault_label SealCall change = FailedToSeal change
fault_label call change = FailedFile

module _ (state : State) (actor : ActorState) (change : Slot) (file : File) where
  -- The status is another than the call starts from. The call does nothing, and the request goes on as after a call
  -- that went well.
  abbrev pub skips : Made
  skips = record { cells = state.cells; file = file; observation = Filed true; label = Nothing }

  -- the call sets the fault in the door, and leaves this file
  abbrev pub faults : File → StepLabel → Made
  faults after label = record { cells = write state.cells (AtDoor actor.tenant) (fetched FaultKind (AtDoor actor.tenant) (state.cells.doors actor.tenant)); file = after; observation = Filed false; label = label }

  -- no device call fails
  abbrev pub goes_well : Call → Status → ℕ → Made
  goes_well call status place = record {
    cells = write state.cells (AtStatus change.slot) (status_after call status);
    file = filed call file change.slot place (own_entries actor);
    observation = Filed true;
    label = good_label call change (status_after call status);
  }

  -- a device call fails
  abbrev pub breaks : Call → ℕ → Made
  breaks call place = faults (broken file (doubt_of call (entries_at file place))) (fault_label call change)

  -- how a call ends that starts on a file that hasn't failed, and makes so many device calls: it depends on what the
  -- device does
  abbrev pub works : Call → Status → ℕ → ℕ → Outcome → Option Made
  works call status place calls Good = Some (goes_well call status place)
  works call status place calls (Fail number) = if is_made calls number then Some (breaks call place) else None

  -- how a call ends that makes no device call, so that none can fail
  abbrev pub makes_none : Made → Outcome → Option Made
  makes_none made Good = Some made
  makes_none made (Fail number) = None

  -- how a call ends: it depends on whether the call starts, whether the file had failed, and whether the call can be
  -- made
  abbrev pub ends : Bool → Bool → Bool → Call → Status → ℕ → ℕ → Outcome → Option Made
  ends false had_failed can_be call status place calls outcome = makes_none skips outcome
  ends true true can_be call status place calls outcome = makes_none (faults file Nothing) outcome
  ends true false true call status place calls outcome = works call status place calls outcome
  ends true false false call status place calls outcome = None

-- what a call leaves and finds; None: the call can't be made, or the device call that should fail isn't made
abbrev pub calling : Config → State → ActorState → Called → Outcome → Option Made
calling config state actor called outcome =
    let file = (state.tenant_states actor.tenant).file in
    let places = (state.tenant_states actor.tenant).quota in
    let status = state.cells.statuses called.change.slot in
    let place = place_for called.call file places called.change.slot in
    ends state actor called.change file (starts_from called.call status) (fails_on called.call file) (can_be_made called.call file places place (own_entries actor))
    called.call status place (calls_made called.call status file place) outcome

-- the world after a call with this result
abbrev pub moved_if : State → ℕ → ActorState → Option Made → Option State
moved_if state worker actor None = None
moved_if state worker actor (Some made) = Some (moved state worker actor made)

-- the world after the call to which a request has come, if its slot exists
abbrev pub call_if : Config → State → ℕ → ActorState → Option Called → Outcome → Option State
call_if config state worker actor None outcome = None
call_if config state worker actor (Some called) outcome =
    if has_slot config called.change.slot then moved_if state worker actor (calling config state actor called outcome) else None

-- The next step of a worker's request, if it is a call on its tenant's file.
abbrev pub call : Config → State → ℕ → Option ActorState → Outcome → Option State
call config state worker None outcome = None
call config state worker (Some actor) outcome = call_if config state worker actor (called_at actor.point) outcome
