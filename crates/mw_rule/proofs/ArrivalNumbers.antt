-- The number of a tenant's next request is how many of its requests came in the run. Used by: mw_law_threads.
use Rattle.std.specs.Prelude.{ℕ, ◌+◌, ◌&&◌, ◌≡◌, ◌==◌, List, [], ◌∷◌, ◌++◌, length, map, Some}
use Rattle.std.proofs.Common.{refl, sym, ap, subst, ◌∙◌, inl, inr, arith}
use Rattle.std.proofs.lemmas.Option.{option_and_then_some, same_Some}
use Rattle.mw_words.specs.declared.jobs.Job.{Job}
use Rattle.mw_world.specs.Maps.{upd}
use Rattle.mw_world.specs.declared.outcomes.Outcome.TheVariants.{Good, Fail}
use Rattle.mw_world.specs.declared.config.Config.{Config}
use Rattle.mw_world.specs.Claim.Headline.{IsExecution}
use Rattle.mw_world.specs.Definition.Events.{WorldEvent, Come, Step, File as FileEvent, Hand, Restart}
use Rattle.mw_world.specs.Definition.Restarts.{may_all_be_found, quotas_then, restarted}
use Rattle.mw_world.specs.Definition.State.{State, TenantStart, TenantState, may_be_quotas, places_of, tenants_of, world_at}
use Rattle.mw_world.specs.Definition.World.{asked, run, step}
use Rattle.mw_rule.proofs.Calls.EventsOfWorkers.{call_leads, come_leads, hand_leads, let_there, turn_leads}
use Rattle.mw_rule.proofs.FromLaws.{same_or_other, upd_else, upd_here}
use Rattle.mw_rule.specs.KnownRuns.{plain}
use Rattle.mw_rule.specs.RunBehind.{arrivals, arrives}
use Rattle.mw_rule.specs.Rule.{weight}
use Rattle.mw_rule.proofs.Totals.{weight_none, weight_own}

-- one tenant's state changes, and the number of its next request stays
same_asked : (tenant_states : ℕ → TenantState) (tenant : ℕ) (now : TenantState) → now.asked ≡ (tenant_states tenant).asked → (other : ℕ) → (upd tenant_states tenant now other).asked ≡ (tenant_states other).asked
same_asked tenant_states tenant now same other = elim (same_or_other other tenant) [
  | inl its ↦ subst (λ (k : ℕ). (upd tenant_states tenant now k).asked ≡ (tenant_states k).asked) (sym its) (ap (λ (one : TenantState). one.asked) (upd_here tenant_states tenant now) ∙ same)
  | inr apart ↦ ap (λ (one : TenantState). one.asked) (upd_else tenant_states tenant other now apart)
]

-- a request of one tenant comes
one_asked : (tenant_states : ℕ → TenantState) (tenant : ℕ) (job : Job) (other : ℕ)
    → (upd tenant_states tenant (asked (tenant_states tenant) job) other).asked ≡ (tenant_states other).asked + weight (tenant == other)
one_asked tenant_states tenant job other = elim (same_or_other other tenant) [
  | inl its ↦
      let here = ap (λ (one : TenantState). one.asked) (ap (upd tenant_states tenant (asked (tenant_states tenant) job)) its ∙ upd_here tenant_states tenant (asked (tenant_states tenant) job)) in
      let was = ap (λ (k : ℕ). (tenant_states k).asked) its in
      let one = weight_own tenant other (sym its) in omega (arith, here, was, one)
  | inr apart ↦
      let else = ap (λ (one : TenantState). one.asked) (upd_else tenant_states tenant other (asked (tenant_states tenant) job) apart) in
      let none = weight_none tenant other (λ same. apart (sym same)) in omega (arith, else, none)
]

asked_on : (config : Config) (state next : State) (event : WorldEvent) (tenant : ℕ) → step config state event ≡ Some next → (next.tenant_states tenant).asked ≡ (state.tenant_states tenant).asked + arrives tenant event
asked_on config state next (Come worker other job) tenant is =
    subst (λ (one : State). (one.tenant_states tenant).asked ≡ (state.tenant_states tenant).asked + weight (other == tenant)) (come_leads config state next worker other job is)
    (one_asked state.tenant_states other job tenant)
asked_on config state next (Step worker) tenant is =
    let same : (next.tenant_states tenant).asked ≡ (state.tenant_states tenant).asked =
    turn_leads config state next worker (λ (one : State). (one.tenant_states tenant).asked ≡ (state.tenant_states tenant).asked)
    (λ actor cells observation sits. same_asked state.tenant_states actor.tenant _ refl tenant) (state.worker_states worker).actor refl is in omega (arith, same)
asked_on config state next (FileEvent worker outcome) tenant is =
    let same : (next.tenant_states tenant).asked ≡ (state.tenant_states tenant).asked =
    call_leads config state next worker (λ (one : State). (one.tenant_states tenant).asked ≡ (state.tenant_states tenant).asked)
    (λ actor made sits. same_asked state.tenant_states actor.tenant _ refl tenant) outcome (state.worker_states worker).actor refl is in omega (arith, same)
asked_on config state next (Hand worker) tenant is =
    let same : (next.tenant_states tenant).asked ≡ (state.tenant_states tenant).asked =
    hand_leads config state next worker (λ (one : State). (one.tenant_states tenant).asked ≡ (state.tenant_states tenant).asked)
    (λ actor sits. same_asked state.tenant_states actor.tenant _ refl tenant) (state.worker_states worker).actor refl is in omega (arith, same)
asked_on config state next (Restart founds) tenant is =
    let same : (next.tenant_states tenant).asked ≡ (state.tenant_states tenant).asked =
    ap (λ (one : State). (one.tenant_states tenant).asked) (sym (let_there ((length founds == tenants_of config) && may_all_be_found config state founds (tenants_of config) && may_be_quotas config (quotas_then state founds) (places_of state)) (restarted config state founds) next is)) in omega (arith, same)

all_asked : (config : Config) (state next : State) (events : List WorldEvent) (tenant : ℕ) → run config state events ≡ Some next → (next.tenant_states tenant).asked ≡ (state.tenant_states tenant).asked + arrivals tenant events
all_asked config state next [] tenant runs = let same = ap (λ (one : State). (one.tenant_states tenant).asked) (sym (same_Some state next runs)) in omega (arith, same)
all_asked config state next (event ∷ events) tenant runs =
    option_and_then_some (λ one. run config one events) (step config state event) next runs (λ after at on.
    let here = asked_on config state after event tenant at in let rest = all_asked config after next events tenant on in omega (arith, here, rest))

pub asked_in_run : (config : Config) (openings : ℕ → TenantStart) (events : List WorldEvent) (state : State) (tenant : ℕ) → IsExecution config openings events state → (state.tenant_states tenant).asked ≡ arrivals tenant events
asked_in_run config openings events state tenant played = let all = all_asked config (world_at config openings) state events tenant played.runs in omega (arith, all)

pub arrivals_more : (tenant : ℕ) (events more : List WorldEvent) → arrivals tenant (events ++ more) ≡ arrivals tenant events + arrivals tenant more
arrivals_more tenant [] more = omega arith
arrivals_more tenant (event ∷ events) more = let rest = arrivals_more tenant events more in omega (arith, rest)

-- a run as a thread knows it has as many
plain_arrives : (tenant : ℕ) (event : WorldEvent) → arrives tenant (plain event) ≡ arrives tenant event
plain_arrives tenant (Come worker other job) = refl
plain_arrives tenant (Step worker) = refl
plain_arrives tenant (FileEvent worker Good) = refl
plain_arrives tenant (FileEvent worker (Fail number)) = refl
plain_arrives tenant (Hand worker) = refl
plain_arrives tenant (Restart founds) = refl

pub plain_arrivals : (tenant : ℕ) (events : List WorldEvent) → arrivals tenant (map plain events) ≡ arrivals tenant events
plain_arrivals tenant [] = refl
plain_arrivals tenant (event ∷ events) = let here = plain_arrives tenant event in let rest = plain_arrivals tenant events in omega (arith, here, rest)
