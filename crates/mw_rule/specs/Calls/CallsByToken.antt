-- Defines a call by the thread that has the file's token (the ghost capability to call it): what stays while it is under way,
-- and how it may end.
-- Used by: src/call_laws.rt, mw_table, mw_law_threads.
use Rattle.std.specs.Prelude.{ℕ, ◌≡◌, ◌≢◌, Bool, true, false, List, Some}
use Rattle.mw_words.specs.declared.places.At.TheVariants.{Door as AtDoor, Status as AtStatus}
use Rattle.mw_words.specs.declared.statuses.Status.{Status}
use Rattle.mw_look.specs.declared.observations.Observation.{Observation}
use Rattle.mw_look.specs.declared.observations.Observation.TheVariants.{Won, Filed}
use Rattle.mw_look.specs.Observations.{seen}
use Rattle.mw_look.specs.Steps.{Step}
use Rattle.mw_actor.specs.ActorState.{ActorState}
use Rattle.mw_actor.specs.Program.{tells}
use Rattle.mw_world.specs.declared.outcomes.Outcome.{Outcome}
use Rattle.mw_world.specs.declared.outcomes.Outcome.TheVariants.{Good, Fail}
use Rattle.mw_world.specs.Files.State.{entries_at}
use Rattle.mw_world.specs.declared.config.Config.{Config}
use Rattle.mw_world.specs.Claim.Headline.{IsExecution}
use Rattle.mw_world.specs.declared.step_labels.StepLabel.{StepLabel}
use Rattle.mw_world.specs.declared.step_labels.StepLabel.TheVariants.{Nothing}
use Rattle.mw_world.specs.Definition.Calls.{Called, device_calls, fails_on, fault_label, good_label, is_made, starts_from, status_after}
use Rattle.mw_world.specs.Definition.Cells.{Cells}
use Rattle.mw_world.specs.Definition.Events.{WorldEvent, File as FileEvent}
use Rattle.mw_world.specs.Definition.LabelEffects.{marked}
use Rattle.mw_world.specs.Definition.State.{State, TenantState, TenantStart}
use Rattle.mw_world.specs.Definition.World.{run, step}
use Rattle.mw_rule.specs.declared.file_token.FileToken.{FileToken}
use Rattle.mw_rule.specs.Calls.OtherEvents.{AreBesideFile, IsBesideFile}
use Rattle.mw_rule.specs.Calls.CallEnds.{IsMadeBy, exchange_of, fault_of, load_of}
use Rattle.mw_rule.specs.Calls.FileTokens.{file_told}
use Rattle.mw_rule.specs.Calls.CallStarts.{IsAtCall}
use Rattle.mw_rule.specs.Calls.TokensInWorlds.{HasFileToken, place_by, file_token_after, file_token_after_fault}

-- The worker's request is at this call, its change has this status, and the token is true of its tenant's file.
pub record IsCalling (config : Config) (state : State) (worker : ℕ) (actor : ActorState) (called : Called) (status : Status) (file_token : FileToken) : Type 0 where
  pub at_call : IsAtCall state worker actor called
  pub found : state.cells.statuses called.change.slot ≡ status
  pub same_tenant : file_token.tenant ≡ actor.tenant
  pub has : HasFileToken config state file_token

-- While a call that starts from that status is under way, each event but a start and a call on the same file leaves all this.
abbrev pub CallingStays : Type 0
CallingStays = (config : Config) (openings : ℕ → TenantStart) (events : List WorldEvent) (state next : State) (worker : ℕ) (actor : ActorState) (called : Called) (status : Status) (file_token : FileToken) (event : WorldEvent)
    → IsExecution config openings events state → IsCalling config state worker actor called status file_token → starts_from called.call status ≡ true → IsBesideFile state file_token.tenant event
    → step config state event ≡ Some next → IsCalling config next worker actor called status file_token

-- So do any number of such events.
abbrev pub CallingStaysLong : Type 0
CallingStaysLong = (config : Config) (openings : ℕ → TenantStart) (events later : List WorldEvent) (state last : State) (worker : ℕ) (actor : ActorState) (called : Called) (status : Status) (file_token : FileToken)
    → IsExecution config openings events state → IsCalling config state worker actor called status file_token → starts_from called.call status ≡ true → AreBesideFile config file_token.tenant state later
    → run config state later ≡ Some last → IsCalling config last worker actor called status file_token

-- How the maker of a call ends it: it doesn't start; it goes well; its device call of this number fails; or the file
-- had failed before.
pub data End : Type 0 where
  Skips : End
  GoesWell : End
  MeetsFault : (number : ℕ) → End
  FindsFault : End

-- The call may end so, by its status and its token. These know no device: if the call may go well, it may also end
-- with any of its device calls failed.
abbrev pub MayEnd : End → Called → Status → FileToken → Type 0
MayEnd Skips called status file_token = starts_from called.call status ≡ false
MayEnd GoesWell called status file_token = (starts_from called.call status ≡ true) × (fails_on called.call (file_told file_token) ≡ false)
MayEnd (MeetsFault number) called status file_token =
    (starts_from called.call status ≡ true) × (fails_on called.call (file_told file_token) ≡ false)
    × (is_made (device_calls called.call (entries_at (file_told file_token) (place_by file_token called))) number ≡ true)
MayEnd FindsFault called status file_token = (starts_from called.call status ≡ true) × (fails_on called.call (file_told file_token) ≡ true)

-- how the device took it
abbrev pub outcome_of : End → Outcome
outcome_of (MeetsFault number) = Fail number
outcome_of end = Good

-- whether it went well, as the request is told
abbrev pub went_well : End → Bool
went_well Skips = true
went_well GoesWell = true
went_well end = false

-- the step on a shared word that is its event
abbrev pub step_of : End → ActorState → Called → Status → Step
step_of Skips actor called status = load_of called
step_of GoesWell actor called status = exchange_of called status
step_of end actor called status = fault_of actor

-- what that step finds
abbrev pub found_by : End → Cells → ActorState → Called → Status → Observation
found_by Skips cells actor called status = seen (AtStatus called.change.slot) status
found_by GoesWell cells actor called status = Won
found_by end cells actor called status = seen (AtDoor actor.tenant) (cells.doors actor.tenant)

-- what it means to the tenant's store: its change is sealed, or decided; its seal failed; the file failed; or nothing
abbrev pub label_by : End → Called → Status → StepLabel
label_by GoesWell called status = good_label called.call called.change (status_after called.call status)
label_by (MeetsFault number) called status = fault_label called.call called.change
label_by end called status = Nothing

-- the file token after it
abbrev pub file_token_by : End → FileToken → ActorState → Called → FileToken
file_token_by GoesWell file_token actor called = file_token_after file_token actor called
file_token_by (MeetsFault number) file_token actor called = file_token_after_fault file_token called
file_token_by end file_token actor called = file_token

-- The tenant has the same from its latest start, the same number of requests, and the same marks up to that start.
pub record KeepsGifts (old new : TenantState) : Type 0 where
  pub quota : new.quota ≡ old.quota
  pub places : new.places ≡ old.places
  pub is_up : new.is_up ≡ old.is_up
  pub asked : new.asked ≡ old.asked
  pub closed : new.closed ≡ old.closed

-- The call ends so, by one event. In the world after it, its step has made the shared words, and the token after it
-- is true of its tenant's file. Its request was told how it went. The call's own tenant has one mark more if the end
-- means one, and the same from its start. Nothing else of its worker has changed, and no other worker and no other tenant.
pub record EndsBy (config : Config) (state : State) (worker : ℕ) (actor : ActorState) (called : Called) (status : Status) (file_token : FileToken) (end : End) : Type 0 where
  pub next : State
  pub happens : step config state (FileEvent worker (outcome_of end)) ≡ Some next
  pub words : IsMadeBy config state.cells next.cells (step_of end actor called status) (found_by end state.cells actor called status)
  pub worker_state : next.worker_states worker ≡ record (state.worker_states worker) { actor = Some (tells actor (Filed (went_well end)) (state.worker_states worker).attempt) }
  pub worker_states : (other : ℕ) → other ≢ worker → next.worker_states other ≡ state.worker_states other
  pub tenant_states : (tenant : ℕ) → tenant ≢ actor.tenant → next.tenant_states tenant ≡ state.tenant_states tenant
  pub gifts : (tenant : ℕ) → KeepsGifts (state.tenant_states tenant) (next.tenant_states tenant)
  pub marks : (next.tenant_states actor.tenant).lines ≡ marked (label_by end called status) (state.worker_states worker) state.history (state.tenant_states actor.tenant).lines
  pub has : HasFileToken config next (file_token_by end file_token actor called)

-- After every run a call ends in each way in which it may.
abbrev pub CallsEndByFileToken : Type 0
CallsEndByFileToken = (config : Config) (openings : ℕ → TenantStart) (events : List WorldEvent) (state : State) (worker : ℕ) (actor : ActorState) (called : Called) (status : Status) (file_token : FileToken) (end : End)
    → IsExecution config openings events state → IsCalling config state worker actor called status file_token → MayEnd end called status file_token
    → EndsBy config state worker actor called status file_token end
