-- A request may come to an idle pass. Used by: mw_core.
use Rattle.std.specs.Prelude.{ℕ, ◌≡◌, ◌<◌, true, is_none, List, [], ◌∷◌, map, Option, Some, None}
use Rattle.std.proofs.Common.{refl, sym, ap, subst, ◌∙◌}
use Rattle.mw_words.specs.declared.jobs.Job.{Job}
use Rattle.mw_words.specs.Change.{is_well_formed}
use Rattle.mw_actor.specs.ActorState.{ActorState, first}
use Rattle.mw_world.specs.declared.config.Config.{Config}
use Rattle.mw_world.specs.Definition.State.{TenantStart, tenant_at, tenants_of}
use Rattle.mw_rule.specs.declared.views.WorkerToken.{WorkerToken}
use Rattle.mw_rule.specs.Steps.{MayCome}
use Rattle.mw_rule.specs.Prefixes.{opening_at}
use Rattle.mw_table.specs.declared.shared.Pass.{Pass}
use Rattle.mw_table.specs.declared.shared.Shared.{Shared}
use Rattle.mw_table.specs.Numbers.{number_of}
use Rattle.mw_table.specs.Origins.{config_of, openings_of}
use Rattle.mw_table.specs.Passes.{IsOf}
use Rattle.mw_table.specs.Idleness.{has_none}

-- The pass has one token, and its worker has no request.
record IsAlone (pass : Pass) : Type 0 where
  token : WorkerToken
  only : pass.seat.me.0.tokens ≡ token ∷ []
  own : token.worker ≡ pass.worker
  none : token.actor ≡ None

none_so : (found : Option ActorState) → is_none found ∷ [] ≡ true ∷ [] → found ≡ None
none_so None is = refl
none_so (Some actor) is = absurd (cc)

worker_so : (token : WorkerToken) (worker attempt : ℕ) → number_of token ∷ [] ≡ (worker, attempt) ∷ [] → token.worker ≡ worker
worker_so token worker attempt is = ap first_of is
  where
    first_of : List (ℕ × ℕ) → ℕ
    first_of [] = 0
    first_of (one ∷ rest) = one.0

alone : (pass : Pass) → pass.idle ≡ true → IsAlone pass
alone pass idle = by pass.seat.me.0.tokens refl
  where
    by : (all : List WorkerToken) → pass.seat.me.0.tokens ≡ all → IsAlone pass
    by [] is = absurd (never (sym (ap (map has_none) is) ∙ pass.rests idle))
      where
        never : [] ≡ true ∷ [] → ⊥
        never e = cc
    by (one ∷ []) is = record {
      token = one;
      only = is;
      own = worker_so one pass.worker pass.attempt (sym (ap (map number_of) is) ∙ pass.numbered);
      none = none_so one.actor (sym (ap (map has_none) is) ∙ pass.rests idle);
    }
    by (one ∷ two ∷ rest) is = absurd (never one two rest (sym (ap (map has_none) is) ∙ pass.rests idle))
      where
        never : (one two : WorkerToken) (rest : List WorkerToken) → map has_none (one ∷ two ∷ rest) ≡ true ∷ [] → ⊥
        never one two rest e = cc

-- A request may come if its tenant is there, may ask for the job, and has this quota of this pool.
pub request_comes : (shared : Shared) (pass : Pass) (tenant quota pool : ℕ) (job : Job) → IsOf shared pass → pass.idle ≡ true → tenant < tenants_of (config_of shared.table.shared.key)
    → is_well_formed (tenant_at (config_of shared.table.shared.key) tenant).words job ≡ true → (opening_at (openings_of shared.table.shared.key) tenant).quota ≡ quota
    → (config_of shared.table.shared.key).pool ≡ pool → MayCome pass.seat.me.0 pass.worker (first pass.worker tenant quota pool job)
request_comes shared pass tenant quota pool job own idle there may quota_is pool_is =
    let its = alone pass idle in
    let its_quota : quota ≡ (opening_at pass.seat.me.0.openings tenant).quota = sym (ap (λ (all : List TenantStart). (opening_at all tenant).quota) own.openings ∙ quota_is) in
    let its_pool : pool ≡ pass.seat.me.0.config.pool = sym (ap (λ (config : Config). config.pool) own.config ∙ pool_is) in
    record {
      token = its.token;
      has = record { only = its.only; own = its.own };
      idle = its.none;
      tenant = subst (λ (config : Config). tenant < tenants_of config) (sym own.config) there;
      may_ask = subst (λ (config : Config). is_well_formed (tenant_at config tenant).words job ≡ true) (sym own.config) may;
      is = λ i. first pass.worker tenant (its_quota i) (its_pool i) job;
    }
