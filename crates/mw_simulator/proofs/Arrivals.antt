-- A request that begins in the simulated world is the one that the definition begins: same number, quota and first step.
-- Used by: World::begin, World::request_for.
use Rattle.std.specs.Prelude.{ℕ, ◌≡◌, ◌<◌, ◌&&◌, Bool, true, false, if◌then◌else◌, nat_lt, length, slice_index_or, Some, None}
use Rattle.std.proofs.Common.{refl, sym, ap, subst, ◌∙◌, arith}
use Rattle.std.proofs.lemmas.Bool.Decides.{nat_tests}
use Rattle.mw_words.specs.declared.jobs.Job.{Job}
use Rattle.mw_words.specs.Change.{is_well_formed}
use Rattle.mw_actor.specs.ActorState.{ActorState, first}
use Rattle.mw_world.specs.declared.config.Config.{Config}
use Rattle.mw_world.specs.Definition.State.{State, tenant_at, tenants_of}
use Rattle.mw_world_memory.specs.declared.tenants.TenantState.{TenantState as TenantStateInMemory}
use Rattle.mw_simulator.specs.declared.world.World.{World}
use Rattle.mw_simulator.specs.Representation.{Represents}
use Rattle.mw_simulator.specs.StepParts.{request_for}
use Rattle.mw_simulator.proofs.WorldAfterStep.{element}

-- two tests that both hold
both_agree : (a b : Bool) (x : ℕ) → a ≡ true → b ≡ true → Some x ≡ (if a && b then Some x else None)
both_agree true true x one two = refl
both_agree false b x one two = absurd (cc)
both_agree true false x one two = absurd (cc)

below : (m n : ℕ) → m < n → nat_lt m n ≡ true
below m n lt = grind (arith, nat_tests, lt)

-- the number of the next request, if the tenant exists and may ask
pub formed : (config : Config) (state : State) (tenant : ℕ) (job : Job) (number : ℕ) → number ≡ (state.tenant_states tenant).asked → tenant < tenants_of config
    → is_well_formed (tenant_at config tenant).words job ≡ true → Some number ≡ request_for config state tenant job
formed config state tenant job number same there is =
    ap (λ n. Some n) same ∙ both_agree (nat_lt tenant (tenants_of config)) (is_well_formed (tenant_at config tenant).words job) (state.tenant_states tenant).asked
    (below tenant (tenants_of config) there) is

-- the number of requests that a tenant in memory was asked
pub asked_at : (world : World) (state : State) (place tenant : ℕ) (shown : TenantStateInMemory) → Represents world state → place ≡ tenant → tenant < length world.tenant_states.items
    → shown ≡ slice_index_or world.tenant_states.items place shown → shown.asked ≡ (state.tenant_states tenant).asked
asked_at world state place tenant shown shows at there is =
    (shows.tenant_states tenant shown (element world.tenant_states.items tenant shown there (subst (λ i. shown ≡ slice_index_or world.tenant_states.items i shown) at is))).asked

-- a tenant's quota in memory
pub quota_at : (world : World) (state : State) (place tenant : ℕ) (shown : TenantStateInMemory) → Represents world state → place ≡ tenant → tenant < length world.tenant_states.items
    → shown ≡ slice_index_or world.tenant_states.items place shown → shown.quota ≡ (state.tenant_states tenant).quota
quota_at world state place tenant shown shows at there is =
    (shows.tenant_states tenant shown (element world.tenant_states.items tenant shown there (subst (λ i. shown ≡ slice_index_or world.tenant_states.items i shown) at is))).quota

-- the first step of a request and the test of its job, with the values that were read of the tenant
pub first_so : (actor : ActorState) (worker tenant quota other pool : ℕ) (job same : Job) → actor ≡ first worker tenant quota pool job → quota ≡ other → job ≡ same
    → actor ≡ first worker tenant other pool same
first_so actor worker tenant quota other pool job same is quotas jobs = is ∙ ap (λ q. first worker tenant q pool job) quotas ∙ ap (λ j. first worker tenant other pool j) jobs

pub formed_so : (words other : ℕ) (job : Job) (is : Bool) → words ≡ other → is ≡ is_well_formed words job → is ≡ true → is_well_formed other job ≡ true
formed_so words other job is same tells holds = ap (λ n. is_well_formed n job) (sym same) ∙ sym tells ∙ holds
