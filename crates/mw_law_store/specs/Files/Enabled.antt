-- States that the world's own tests refuse nothing that a request or a start asks for. Used by: src/file_laws.rt.
use Rattle.std.specs.Prelude.{ℕ, ◌≡◌, List, Option, Some}
use Rattle.mw_actor.specs.ActorState.{ActorState}
use Rattle.mw_world.specs.declared.config.Config.{Config}
use Rattle.mw_world.specs.declared.events.Interrupted.{Interrupted}
use Rattle.mw_world.specs.Claim.Headline.{CanBeFound, CanBeMade, IsEnabled, IsExecution}
use Rattle.mw_world.specs.Definition.Calls.{Called, called_at}
use Rattle.mw_world.specs.Definition.Events.{WorldEvent}
use Rattle.mw_world.specs.Definition.State.{State, TenantStart}
use Rattle.mw_law_runs.specs.RunInvariant.{IsSound}
use Rattle.mw_law_store.specs.Files.Files.{HasFiles, places_of}

-- In a sound world in which `HasFiles` holds, the call to which a request has come can be made.
abbrev pub CallsCanBeMade : Type 0
CallsCanBeMade = (config : Config) (state : State) (worker : ℕ) (actor : ActorState) (called : Called) → IsSound config state → HasFiles config state → (state.worker_states worker).actor ≡ Some actor
    → called_at actor.point ≡ Some called → CanBeMade config state actor called (state.tenant_states actor.tenant).file (places_of config state actor.tenant)

-- In every world, whatever call is interrupted, some words may be found in a tenant's file.
abbrev pub StartsFindWords : Type 0
StartsFindWords = (config : Config) (state : State) (tenant : ℕ) (interrupted : Option Interrupted) → CanBeFound config state tenant interrupted (state.tenant_states tenant).file

-- After any run the world's own tests refuse nothing for which a request asks.
abbrev pub RunsAreEnabled : Type 0
RunsAreEnabled = (config : Config) (openings : ℕ → TenantStart) (events : List WorldEvent) (state : State) → IsExecution config openings events state → IsEnabled config state
