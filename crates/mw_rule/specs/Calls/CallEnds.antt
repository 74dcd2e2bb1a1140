-- Defines how a call on a tenant's file ends: the step on one shared word that is its event, and the world after it.
-- Used by: src/call_laws.rt, mw_table, mw_law_threads. A change here changes these laws; a new Call needs a case in kind_of.
use Rattle.std.specs.Prelude.{ℕ, ◌≡◌, ◌≢◌, Bool, true, false, List, Some, None}
use Rattle.mw_words.specs.declared.places.At.TheVariants.{Door as AtDoor, Status as AtStatus}
use Rattle.mw_words.specs.declared.statuses.Status.{Status}
use Rattle.mw_look.specs.declared.observations.Observation.{Observation}
use Rattle.mw_look.specs.declared.observations.Observation.TheVariants.{Won, Filed}
use Rattle.mw_look.specs.declared.steps.Call.{Call}
use Rattle.mw_look.specs.declared.steps.Call.TheVariants.{Prepare as PrepareCall, Seal as SealCall, Settle as SettleCall, Cancel as CancelCall}
use Rattle.mw_look.specs.declared.steps.Kind.{Kind}
use Rattle.mw_look.specs.declared.steps.Kind.TheVariants.{Ready as ReadyKind, Seal as SealKind, Settle as SettleKind, Cancel as CancelKind, Fault as FaultKind}
use Rattle.mw_look.specs.Observations.{seen}
use Rattle.mw_look.specs.Steps.{Step, Load, Change, File as FileStep, StepFits, fetch}
use Rattle.mw_actor.specs.ActorState.{ActorState}
use Rattle.mw_actor.specs.Asks.{asks}
use Rattle.mw_actor.specs.Program.{replied, tells}
use Rattle.mw_world.specs.declared.outcomes.Outcome.{Outcome}
use Rattle.mw_world.specs.declared.outcomes.Outcome.TheVariants.{Good, Fail}
use Rattle.mw_world.specs.Files.State.{File, entries_at}
use Rattle.mw_world.specs.declared.config.Config.{Config}
use Rattle.mw_world.specs.declared.step_labels.StepLabel.TheVariants.{Nothing}
use Rattle.mw_world.specs.Claim.Headline.{IsExecution}
use Rattle.mw_world.specs.Claim.BitExactness.{IsRightInBits}
use Rattle.mw_world.specs.Definition.Calls.{Called, breaks, called_at, calling, device_calls, fails_on, faults, goes_well, is_made, place_for, skips, starts_from, status_after}
use Rattle.mw_world.specs.Definition.Cells.{Cells}
use Rattle.mw_world.specs.Definition.Changes.{done}
use Rattle.mw_world.specs.Definition.Events.{WorldEvent, File as FileEvent}
use Rattle.mw_world.specs.Definition.LabelEffects.{marked, with_label, with_intent}
use Rattle.mw_world.specs.Definition.State.{State, TenantStart}
use Rattle.mw_world.specs.Definition.Turns.{Made, may_make, moved, next_attempt}
use Rattle.mw_world.specs.Definition.World.{step}
use Rattle.mw_rule.specs.Calls.CallStarts.{IsAtCall}

-- the kind of step by which a call that went well changes the status of its change
abbrev pub kind_of : Call → Kind
kind_of PrepareCall = ReadyKind
kind_of SealCall = SealKind
kind_of SettleCall = SettleKind
kind_of CancelCall = CancelKind

-- The steps with which calls end. This one is a load of the change's status, if the call doesn't start from it.
abbrev pub load_of : Called → Step
load_of called = Load (AtStatus called.change.slot)

-- the exchange of that status, from the one that was found
abbrev pub exchange_of : Called → Status → Step
exchange_of called status = Change (kind_of called.call) (AtStatus called.change.slot) status (status_after called.call status)

-- the fault at the tenant's door
abbrev pub fault_of : ActorState → Step
fault_of actor = fetch FaultKind (AtDoor actor.tenant)

-- The step makes these shared words of those, and finds this. Its place is there, what it expects and puts is in
-- range, and it does to the bits what it does to the word.
pub record IsMadeBy (config : Config) (before after : Cells) (by : Step) (found : Observation) : Type 0 where
  pub there : may_make config by ≡ true
  pub fits : StepFits by
  pub right : IsRightInBits by before
  pub leaves : done by before (λ cells observation. cells) ≡ after
  pub finds : done by before (λ cells observation. observation) ≡ found

-- The worker's call has this event, which leads to the world that `made` gives. The step `by` on one word makes that world's words.
pub record CallEnds (config : Config) (state : State) (worker : ℕ) (actor : ActorState) (outcome : Outcome) (by : Step) (found : Observation) (made : Made) : Type 0 where
  pub happens : step config state (FileEvent worker outcome) ≡ Some (moved state worker actor made)
  pub words : IsMadeBy config state.cells made.cells by found

-- Facts of a call in a world.
module _ (state : State) (actor : ActorState) (called : Called) where
  -- its tenant's file
  abbrev pub file_of_call : File
  file_of_call = (state.tenant_states actor.tenant).file

  -- the status of its change
  abbrev pub status_of_call : Status
  status_of_call = state.cells.statuses called.change.slot

  -- the place of the file that it is about
  abbrev pub place_of_call : ℕ
  place_of_call = place_for called.call (state.tenant_states actor.tenant).file (state.tenant_states actor.tenant).quota called.change.slot

-- A call that doesn't start from its change's status does nothing, and the load of the status is its event. The
-- request is told that it went well, and no shared word and no file changes.
abbrev pub CallsSkip : Type 0
CallsSkip = (config : Config) (openings : ℕ → TenantStart) (events : List WorldEvent) (state : State) (worker : ℕ) (actor : ActorState) (called : Called) → IsExecution config openings events state
    → IsAtCall state worker actor called → starts_from called.call (status_of_call state actor called) ≡ false
    → CallEnds config state worker actor Good (load_of called) (seen (AtStatus called.change.slot) (status_of_call state actor called)) (skips state actor called.change (file_of_call state actor called))

-- A call that starts, and doesn't fail because the file had failed, ends well with the exchange of the status, which wins.
abbrev pub CallsEndWell : Type 0
CallsEndWell = (config : Config) (openings : ℕ → TenantStart) (events : List WorldEvent) (state : State) (worker : ℕ) (actor : ActorState) (called : Called) → IsExecution config openings events state
    → IsAtCall state worker actor called → starts_from called.call (status_of_call state actor called) ≡ true → fails_on called.call (file_of_call state actor called) ≡ false
    → CallEnds config state worker actor Good (exchange_of called (status_of_call state actor called)) Won
    (goes_well state actor called.change (file_of_call state actor called) called.call (status_of_call state actor called) (place_of_call state actor called))

-- If a device call fails in it, of whichever number, the fault at the tenant's door is its event.
abbrev pub CallsMeetFaults : Type 0
CallsMeetFaults = (config : Config) (openings : ℕ → TenantStart) (events : List WorldEvent) (state : State) (worker : ℕ) (actor : ActorState) (called : Called) (number : ℕ) → IsExecution config openings events state
    → IsAtCall state worker actor called → starts_from called.call (status_of_call state actor called) ≡ true → fails_on called.call (file_of_call state actor called) ≡ false
    → is_made (device_calls called.call (entries_at (file_of_call state actor called) (place_of_call state actor called))) number ≡ true
    → CallEnds config state worker actor (Fail number) (fault_of actor) (seen (AtDoor actor.tenant) (state.cells.doors actor.tenant))
    (breaks state actor called.change (file_of_call state actor called) called.call (place_of_call state actor called))

-- If the file had failed before, the same fault is its event, and the file stays as it was.
abbrev pub CallsFindFaults : Type 0
CallsFindFaults = (config : Config) (openings : ℕ → TenantStart) (events : List WorldEvent) (state : State) (worker : ℕ) (actor : ActorState) (called : Called) → IsExecution config openings events state
    → IsAtCall state worker actor called → starts_from called.call (status_of_call state actor called) ≡ true → fails_on called.call (file_of_call state actor called) ≡ true
    → CallEnds config state worker actor Good (fault_of actor) (seen (AtDoor actor.tenant) (state.cells.doors actor.tenant))
    (faults state actor called.change (file_of_call state actor called) (file_of_call state actor called) Nothing)

-- What a call's event changes beside the shared words: the request is told, and its tenant gets the file after it and
-- the mark that it means. Nothing else changes.
pub record IsAfterCall (state : State) (worker : ℕ) (actor : ActorState) (made : Made) (next : State) : Type 0 where
  pub cells : next.cells ≡ made.cells
  pub worker_state : next.worker_states worker ≡ record (state.worker_states worker) { actor = Some (tells actor made.observation (state.worker_states worker).attempt) }
  pub worker_states : (other : ℕ) → other ≢ worker → next.worker_states other ≡ state.worker_states other
  pub tenant_state : next.tenant_states actor.tenant
      ≡ record (state.tenant_states actor.tenant) { file = made.file; lines = marked made.label (state.worker_states worker) state.history (state.tenant_states actor.tenant).lines }
  pub tenant_states : (tenant : ℕ) → tenant ≢ actor.tenant → next.tenant_states tenant ≡ state.tenant_states tenant
  pub history : next.history
      ≡ with_intent (with_label made.label worker actor (state.worker_states worker).request state.history) worker (tells actor made.observation (state.worker_states worker).attempt)

-- The event of each call leaves that.
abbrev pub CallsChangeNoMore : Type 0
CallsChangeNoMore = (config : Config) (state : State) (worker : ℕ) (actor : ActorState) (called : Called) (outcome : Outcome) (made : Made) → called_at actor.point ≡ Some called
    → calling config state actor called outcome ≡ Some made → IsAfterCall state worker actor made (moved state worker actor made)

-- A request at a call asks for this call and has no reply. The number of its next attempt stays over the call, and it
-- has no reply yet after it is told how the call ended.
pub record GoesOnFromCall (actor : ActorState) (called : Called) : Type 0 where
  pub asked : asks actor ≡ FileStep called.call called.change.slot
  pub unreplied : replied actor ≡ None
  pub attempt : (number : ℕ) → next_attempt actor.point number ≡ number
  pub onward : (went_well : Bool) (number : ℕ) → replied (tells actor (Filed went_well) number) ≡ None

-- Each request at a call does so.
abbrev pub RequestsGoOnFromCalls : Type 0
RequestsGoOnFromCalls = (actor : ActorState) (called : Called) → called_at actor.point ≡ Some called → GoesOnFromCall actor called
