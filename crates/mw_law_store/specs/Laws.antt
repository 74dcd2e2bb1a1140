-- The main facts that this crate proves of tenants and their stores alone: a store simulates each tenant in every run.
-- Used by: src/laws.rt.
use Rattle.std.specs.Prelude.{ℕ, ◌≡◌, ◌<◌, Bool, true, List, slice_set, Option, Some}
use Rattle.mw_words.specs.Change.{fits}
use Rattle.mw_words.specs.declared.replies.Reply.{Reply}
use Rattle.mw_words.specs.declared.statuses.Status.TheVariants.{YesDirty}
use Rattle.mw_lone.specs.declared.marks.Mark.{Mark}
use Rattle.mw_lone.specs.Store.{Store, RequestState, run as run_of_store, replies_from}
use Rattle.mw_law_store.specs.Late.LateMarks.{marks_in, IsReservedFor, IsNumbered, IsOpen}
use Rattle.mw_actor.specs.declared.points.Slot.{Slot}
use Rattle.mw_world.specs.declared.config.Config.{Config}
use Rattle.mw_world.specs.Claim.Headline.{IsExecution}
use Rattle.mw_world.specs.Definition.Events.{Found, WorldEvent}
use Rattle.mw_world.specs.Definition.Restarts.{restart}
use Rattle.mw_world.specs.Definition.State.{State, IsConfig, IsStart, TenantStart, tenants_of, world_at}
use Rattle.mw_world.specs.Definition.World.{step}
use Rattle.mw_law_runs.specs.Moves.Guards.{IsLive}
use Rattle.mw_law_runs.specs.Files.{FilesFit}
use Rattle.mw_law_runs.specs.RunInvariant.{IsSound}
use Rattle.mw_law_store.specs.Files.Files.{HasFiles}
use Rattle.mw_law_store.specs.Durability.{begun}
use Rattle.mw_law_store.specs.Simulation.{IsSimulated, IsSimulatedBy, SimulatesStep}
use Rattle.mw_law_store.specs.RelaxedSteps.{StoreLabel, lines_after, RelaxedLabelStep}
use Rattle.mw_law_store.specs.WorldFacts.{HasWorldFacts}
use Rattle.mw_law_store.specs.History.{IsNoStart}
use Rattle.mw_law_store.specs.AbstractStates.{AbstractState, first_abstract_state, abstract_state_of, after_marks}
use Rattle.mw_law_store.specs.HistoryMatches.{HistoryMatch, MayBeLabeled}

-- Facts about lines and stores, without a world.

-- After every legal run of the store alone, whether its file opened at first or not, its words are the first ones with changes
-- put over them: the change of each seal, and of each start that took one, in the order of the marks. Its change in doubt is that
-- of the abstract state.
abbrev pub WordsAreOfMarks : Type 0
WordsAreOfMarks = (words : List ℕ) (quota : ℕ) (opened : Bool) (marks : List Mark) (t : Store) → run_of_store (begun words quota opened) marks ≡ Some t
    → (t.words ≡ (after_marks (first_abstract_state words) marks).words) × (t.in_doubt ≡ (after_marks (first_abstract_state words) marks).doubt)

-- The abstract state after lines is the one after the marks among them.
abbrev pub LinesAreAbstractStates : Type 0
LinesAreAbstractStates = (start : AbstractState) (lines : List (Option Mark)) → abstract_state_of start lines ≡ after_marks start (marks_in lines)

-- If lines match a store, they match it after the relaxed step of each label that may be added.
abbrev pub LabelsKeepHistoryMatch : Type 0
LabelsKeepHistoryMatch = (start : AbstractState) (lines : List (Option Mark)) (says : StoreLabel) (s t : Store) → IsNumbered s → HistoryMatch start lines s → MayBeLabeled start lines says s → RelaxedLabelStep says s t
    → HistoryMatch start (lines_after says lines) t

-- A late mark hands out nothing, and leaves what was handed out.
abbrev pub LateMarksLeaveReplies : Type 0
LateMarksLeaveReplies = (start end : Store) (lines : List (Option Mark)) (place : ℕ) (mark : Mark) (n : ℕ) (r : RequestState) (reply : Reply) → IsNumbered start
    → IsReservedFor start lines place mark n reply → run_of_store start (marks_in lines) ≡ Some end → IsOpen end n r
    → replies_from start (marks_in (slice_set lines place (Some mark))) ≡ replies_from start (marks_in lines)

-- Facts about worlds, without a store.

-- Every event of a sound world with right files keeps the world facts.
abbrev pub EventsKeepWorldFacts : Type 0
EventsKeepWorldFacts = (config : Config) (state next : State) (event : WorldEvent) → IsConfig config → IsSound config state → FilesFit state → HasFiles config state → HasWorldFacts state
    → step config state event ≡ Some next → HasWorldFacts next

-- The world facts hold after every run.
abbrev pub RunsHaveWorldFacts : Type 0
RunsHaveWorldFacts = (config : Config) (openings : ℕ → TenantStart) (events : List WorldEvent) (state : State) → IsExecution config openings events state → HasWorldFacts state

-- A change that is decided to be made, and not yet made, fits the words of its tenant's file.
abbrev pub DecidedChangesFit : Type 0
DecidedChangesFit = (config : Config) (state : State) (target : Slot) → IsSound config state → HasFiles config state → HasWorldFacts state → IsLive state target
    → state.history.is_claimed target.slot target.seq ≡ true → state.history.fate target.slot target.seq ≡ YesDirty
    → fits (state.tenant_states (state.history.tenant target.slot target.seq)).file.contents (state.history.change target.slot target.seq) ≡ true

-- Facts about worlds and stores.

-- In every run each event but a start is simulated by a store that simulated the world before it.
abbrev pub EventsAreSimulated : Type 0
EventsAreSimulated = (config : Config) (openings : ℕ → TenantStart) (events : List WorldEvent) (state next : State) (event : WorldEvent) (tenant : ℕ) (store : Store) → IsExecution config openings events state
    → tenant < tenants_of config → IsSimulatedBy openings state tenant store → IsNoStart event → step config state event ≡ Some next → SimulatesStep openings state next event tenant store

-- Some store simulates each tenant at every start with which a run may begin.
abbrev pub StartsAreSimulated : Type 0
StartsAreSimulated = (config : Config) (openings : ℕ → TenantStart) (tenant : ℕ) → IsStart config openings → tenant < tenants_of config → IsSimulated openings (world_at config openings) tenant

-- If a store simulates a tenant of a sound world before a start, some store simulates it after the start.
abbrev pub RestartsAreSimulated : Type 0
RestartsAreSimulated = (config : Config) (openings : ℕ → TenantStart) (state next : State) (founds : List Found) (tenant : ℕ) (store : Store) → IsSound config state
    → HasFiles config state → HasWorldFacts state → tenant < tenants_of config
    → IsSimulatedBy openings state tenant store → restart config state founds ≡ Some next → IsSimulated openings next tenant

-- Some store simulates each tenant after every run.
abbrev pub RunsAreSimulated : Type 0
RunsAreSimulated = (config : Config) (openings : ℕ → TenantStart) (events : List WorldEvent) (state : State) (tenant : ℕ) → IsExecution config openings events state → tenant < tenants_of config
    → IsSimulated openings state tenant
