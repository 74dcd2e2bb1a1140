-- States that only starts set a tenant's quota, and that its file keeps its number of record places.
-- Used by: src/laws.rt, mw_rule.
use Rattle.std.specs.Prelude.{ℕ, ◌≡◌, ◌<◌, ◌≤◌, List, Some, None}
use Rattle.mw_words.specs.declared.limits.TheConstants.{MAX_QUOTA}
use Rattle.mw_lone.specs.Laws.{quota_after}
use Rattle.mw_world.specs.declared.config.Config.{Config}
use Rattle.mw_world.specs.Claim.Headline.{IsExecution}
use Rattle.mw_world.specs.Definition.Events.{Found, WorldEvent, Restart}
use Rattle.mw_world.specs.Definition.Restarts.{found_of, quotas_then}
use Rattle.mw_world.specs.Definition.State.{State, TenantStart, QuotasFit, marks_of, places_of, quotas_of, quotas_together, tenants_of}
use Rattle.mw_world.specs.Definition.World.{step}

-- a tenant's quota after an event: the one that a start gives, if it gives one, else the same
abbrev pub quota_next : State → WorldEvent → ℕ → ℕ
quota_next state (Restart founds) tenant = quotas_then state founds tenant
quota_next state event tenant = (state.tenant_states tenant).quota

-- In any world that is a tenant's quota after an event, and no event changes how many places its file has.
abbrev pub EventsTellQuotas : Type 0
EventsTellQuotas = (config : Config) (state next : State) (event : WorldEvent) (tenant : ℕ) → step config state event ≡ Some next
    → ((next.tenant_states tenant).quota ≡ quota_next state event tenant) × ((next.tenant_states tenant).places ≡ (state.tenant_states tenant).places)

-- A tenant's quota is the one that the last start among its marks gives, else the one with which the run began. It is 1 to
-- MAX_QUOTA, and at most the places of its file, which are as many as when the run began.
pub record QuotaIsTold (openings : ℕ → TenantStart) (state : State) (tenant : ℕ) : Type 0 where
  pub told : (state.tenant_states tenant).quota ≡ quota_after (openings tenant).quota (marks_of state tenant)
  pub limits : (1 ≤ (state.tenant_states tenant).quota) × ((state.tenant_states tenant).quota ≤ MAX_QUOTA)
  pub room : (state.tenant_states tenant).quota ≤ (state.tenant_states tenant).places
  pub places : (state.tenant_states tenant).places ≡ (openings tenant).places

-- That is so after every run, also when a number was used up.
abbrev pub QuotasAreTold : Type 0
QuotasAreTold = (config : Config) (openings : ℕ → TenantStart) (events : List WorldEvent) (state : State) (tenant : ℕ) → IsExecution config openings events state → tenant < tenants_of config
    → QuotaIsTold openings state tenant

-- After every run the pool has slots for the quotas of all tenants together.
abbrev pub QuotasStayWithinThePool : Type 0
QuotasStayWithinThePool = (config : Config) (openings : ℕ → TenantStart) (events : List WorldEvent) (state : State) → IsExecution config openings events state
    → quotas_together (quotas_of state) (tenants_of config) ≤ config.pool

-- A start that gives no quota to any tenant leaves quotas that fit. So quotas never prevent it.
abbrev pub QuotasMayStay : Type 0
QuotasMayStay = (config : Config) (openings : ℕ → TenantStart) (events : List WorldEvent) (state : State) (founds : List Found) → IsExecution config openings events state
    → ((tenant : ℕ) → (found_of founds tenant).quota ≡ None) → QuotasFit config (quotas_then state founds) (places_of state)
