-- In every run, a store alone simulates each tenant. If numbers are left, the tenant's replies and words are those of that
-- store.
-- Used by: runs_are_simulated, every_run_is_durably_linearizable, replies_have_places, mw_rule, mw_simulator, mw_law_threads.
use Rattle.std.specs.Prelude.{ℕ, ◌≡◌, ◌<◌, List, Some}
use Rattle.mw_lone.specs.Store.{Store}
use Rattle.mw_world.specs.declared.config.Config.{Config}
use Rattle.mw_world.specs.Claim.Headline.{IsExecution, EveryRunIsDurablyLinearizable}
use Rattle.mw_world.specs.Definition.Events.{WorldEvent, Come, Step, File, Hand, Restart}
use Rattle.mw_world.specs.Definition.State.{State, TenantStart, tenants_of}
use Rattle.mw_world.specs.Definition.World.{step}
use Rattle.mw_law_store.specs.Simulation.{IsSimulated, IsSimulatedBy}
use Rattle.mw_law_store.specs.History.{IsNoStart}
use Rattle.mw_law_store.specs.Laws.{EventsAreSimulated, RunsAreSimulated}
use Rattle.mw_law_store.proofs.Beginnings.{played_by_events}
use Rattle.mw_law_store.proofs.WorldFactLaws.{runs_have_world_facts}
use Rattle.mw_law_store.proofs.SimulationSteps.Called.{call_met}
use Rattle.mw_law_store.proofs.SimulationSteps.Come.{come_met}
use Rattle.mw_law_store.proofs.SimulationSteps.Handed.{hand_met}
use Rattle.mw_law_store.proofs.SimulationSteps.Met.{Met}
use Rattle.mw_law_store.proofs.SimulationSteps.Started.{starts_served, restarts_served, starts_simulated, restarts_simulated, stores_shown, stores_left}
use Rattle.mw_law_store.proofs.SimulationSteps.Turned.{turn_met}
use Rattle.mw_law_store.proofs.Numbers.{runs_are_not_worn}
use Rattle.mw_law_store.proofs.ServiceLaws as serving
use Rattle.mw_law_store.proofs.ServiceLaws.{IsWithFactsWorld, EventsAreServed}

event_met : (config : Config) (openings : ℕ → TenantStart) (state next : State) (event : WorldEvent) (tenant : ℕ) (store : Store) → IsWithFactsWorld config state → tenant < tenants_of config
    → IsSimulatedBy openings state tenant store → IsNoStart event → step config state event ≡ Some next → Met openings state next event tenant store
event_met config openings state next (Come worker asked job) tenant store world low simulated no_start is = come_met config openings state next worker asked job tenant store world low simulated is
event_met config openings state next (Step worker) tenant store world low simulated no_start is = turn_met config openings state next worker tenant store world simulated is
event_met config openings state next (File worker outcome) tenant store world low simulated no_start is = call_met config openings state next worker outcome tenant store world simulated is
event_met config openings state next (Hand worker) tenant store world low simulated no_start is = hand_met config openings state next worker tenant store world simulated is
event_met config openings state next (Restart founds) tenant store world low simulated no_start is = absurd no_start

events_served : EventsAreServed
events_served config openings state next event tenant made world fresh low served no_start is =
    let met = event_met config openings state next event tenant served.store world low served.simulated no_start is in
    record { on = met.on; late = met.late fresh served.legal; legal = met.still fresh served.legal }

with_facts : (config : Config) (openings : ℕ → TenantStart) (events : List WorldEvent) (state : State) → IsExecution config openings events state → IsWithFactsWorld config state
with_facts = serving.with_facts events_served restarts_served starts_served stores_shown stores_left runs_have_world_facts runs_are_not_worn

pub events_are_simulated : EventsAreSimulated
events_are_simulated config openings events state next event tenant store played low simulated no_start is =
    (event_met config openings state next event tenant store (with_facts config openings events state played) low simulated no_start is).on

-- each event keeps a tenant simulated, also a start
goes_on : (config : Config) (openings : ℕ → TenantStart) (events : List WorldEvent) (state next : State) (event : WorldEvent) (tenant : ℕ) → IsExecution config openings events state → tenant < tenants_of config
    → IsSimulated openings state tenant → step config state event ≡ Some next → IsSimulated openings next tenant
goes_on config openings events state next (Restart founds) tenant played low by is =
    let world = with_facts config openings events state played in
    restarts_simulated config openings state next founds tenant by.store world.sound world.files world.world_facts low by.simulated is
goes_on config openings events state next (Come worker asked job) tenant played low by is =
    let on = events_are_simulated config openings events state next (Come worker asked job) tenant by.store played low by.simulated tt is in record { store = on.after; simulated = on.simulated }
goes_on config openings events state next (Step worker) tenant played low by is =
    let on = events_are_simulated config openings events state next (Step worker) tenant by.store played low by.simulated tt is in record { store = on.after; simulated = on.simulated }
goes_on config openings events state next (File worker outcome) tenant played low by is =
    let on = events_are_simulated config openings events state next (File worker outcome) tenant by.store played low by.simulated tt is in record { store = on.after; simulated = on.simulated }
goes_on config openings events state next (Hand worker) tenant played low by is =
    let on = events_are_simulated config openings events state next (Hand worker) tenant by.store played low by.simulated tt is in record { store = on.after; simulated = on.simulated }

pub runs_are_simulated : RunsAreSimulated
runs_are_simulated config openings events state tenant played low =
    played_by_events config openings (λ before now. IsSimulated openings now tenant) (starts_simulated config openings tenant played.starts low)
    (λ before event now next so_far by is. goes_on config openings before now next event tenant so_far low by is) events state played

pub every_run_is_durably_linearizable : EveryRunIsDurablyLinearizable
every_run_is_durably_linearizable = serving.every_run_is_durably_linearizable events_served restarts_served starts_served stores_shown stores_left runs_have_world_facts runs_are_not_worn
