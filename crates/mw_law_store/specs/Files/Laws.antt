-- States which worlds have `HasFiles` (the shared words agree with the tenants' files), and that every event keeps it.
-- Used by: src/file_laws.rt.
use Rattle.std.specs.Prelude.{ℕ, ◌≡◌, ◌<◌, List, Some}
use Rattle.mw_words.specs.declared.jobs.Job.{Job}
use Rattle.mw_world.specs.declared.outcomes.Outcome.{Outcome}
use Rattle.mw_world.specs.declared.config.Config.{Config}
use Rattle.mw_world.specs.Claim.Headline.{IsExecution}
use Rattle.mw_world.specs.Claim.Invariant.{Invariant}
use Rattle.mw_world.specs.Definition.Calls.{call}
use Rattle.mw_world.specs.Definition.Events.{Found, WorldEvent}
use Rattle.mw_world.specs.Definition.Restarts.{restart}
use Rattle.mw_world.specs.Definition.State.{State, TenantState, IsConfig, IsStart, TenantStart, started, tenants_of, world_at}
use Rattle.mw_world.specs.Definition.Turns.{turn}
use Rattle.mw_world.specs.Definition.World.{come, hand, run, step}
use Rattle.mw_law_runs.specs.Files.{FilesFit}
use Rattle.mw_law_runs.specs.RunInvariant.{IsSound}
use Rattle.mw_law_store.specs.Files.Files.{HasFiles, IsOpened}

-- A step of a request that is not a call on a file keeps the facts about the files of a sound world.
abbrev pub TurnsKeepFiles : Type 0
TurnsKeepFiles = (config : Config) (state next : State) (worker : ℕ) → IsSound config state → HasFiles config state → turn config state worker (state.worker_states worker).actor ≡ Some next
    → HasFiles config next

-- A call on a file keeps them, however it ends.
abbrev pub CallsKeepFiles : Type 0
CallsKeepFiles = (config : Config) (state next : State) (worker : ℕ) (outcome : Outcome) → IsSound config state → HasFiles config state
    → call config state worker (state.worker_states worker).actor outcome ≡ Some next → HasFiles config next

-- A request that comes keeps them.
abbrev pub ComesKeepFiles : Type 0
ComesKeepFiles = (config : Config) (state next : State) (worker tenant : ℕ) (job : Job) → IsSound config state → HasFiles config state → come config state worker tenant job ≡ Some next
    → HasFiles config next

-- A reply that is handed out keeps them.
abbrev pub HandsKeepFiles : Type 0
HandsKeepFiles = (config : Config) (state next : State) (worker : ℕ) → IsSound config state → HasFiles config state → hand state worker (state.worker_states worker).actor ≡ Some next
    → HasFiles config next

-- They hold at each start at which each tenant's file was just opened.
abbrev pub StartsHaveFiles : Type 0
StartsHaveFiles = (config : Config) (tenant_states : ℕ → TenantState) → ((tenant : ℕ) → tenant < tenants_of config → IsOpened config tenant (tenant_states tenant)) → HasFiles config (started config tenant_states)

-- They hold at every start with which a run may begin.
abbrev pub FirstStartsHaveFiles : Type 0
FirstStartsHaveFiles = (config : Config) (openings : ℕ → TenantStart) → IsStart config openings → HasFiles config (world_at config openings)

-- A start of a world in which they hold keeps them.
abbrev pub RestartsKeepFiles : Type 0
RestartsKeepFiles = (config : Config) (state next : State) (founds : List Found) → HasFiles config state → restart config state founds ≡ Some next → HasFiles config next

-- Every event of a sound world keeps them.
abbrev pub EventsKeepFiles : Type 0
EventsKeepFiles = (config : Config) (state next : State) (event : WorldEvent) → IsSound config state → HasFiles config state → step config state event ≡ Some next → HasFiles config next

-- They hold at the end of each list of events that begins in a sound world in which they hold and whose files have words that
-- fit.
abbrev pub RunsGoOn : Type 0
RunsGoOn = (config : Config) (events : List WorldEvent) (state last : State) → IsConfig config → IsSound config state → FilesFit state → HasFiles config state
    → run config state events ≡ Some last → HasFiles config last

-- They hold after every run.
abbrev pub RunsHaveFiles : Type 0
RunsHaveFiles = (config : Config) (openings : ℕ → TenantStart) (events : List WorldEvent) (state : State) → IsExecution config openings events state → HasFiles config state

-- A sound world in which they hold has the whole invariant.
abbrev pub SoundWorldsWithFilesAreRight : Type 0
SoundWorldsWithFilesAreRight = (config : Config) (state : State) → IsSound config state → HasFiles config state → Invariant config state
