-- A request that the engine makes for a tenant may come to an idle pass.
-- Used by: Engine::serve, make_step, request, try_look, TenantWords::tenant_figures.
use Rattle.std.specs.Prelude.{ℕ, ◌≡◌, ◌<◌, ◌≤◌, true, List, [], ◌∷◌, length, map, Option}
use Rattle.std.specs.Option.{option_map_or}
use Rattle.std.proofs.Common.{refl, sym, ap, subst, ◌∙◌}
use Rattle.mw_words.specs.declared.jobs.Job.{Job}
use Rattle.mw_words.specs.Change.{is_well_formed}
use Rattle.mw_words.specs.declared.limits.TheConstants.{MAX_WORDS}
use Rattle.mw_actor.specs.ActorState.{ActorState, first}
use Rattle.mw_actor.specs.Ranges.{IsFormed}
use Rattle.mw_actor.proofs.JobLaws.{well_formed_is_formed}
use Rattle.mw_world.specs.declared.config.Config.{Config}
use Rattle.mw_world.specs.Definition.State.{TenantStart, no_tenant, tenant_at, tenants_of}
use Rattle.mw_core.specs.FromTable.{HasToken, MayCome, Pass, WorkerToken, config_of, number_of, opening_at, openings_of}
use Rattle.mw_core.proofs.FromTable.{none_carried}
use Rattle.mw_engine.specs.declared.tenant_words.TenantWords.{TenantWords}
use Rattle.mw_engine.specs.Brand.{Identity, identity_on}
use Rattle.mw_engine.specs.Identity.{IsFor, Line, quota_told, words_told}
use Rattle.mw_engine.specs.Passes.{IsPassOf}
use Rattle.mw_engine.specs.Requests.{IsRequest, request_of}
use Rattle.mw_engine.specs.TenantWords.{lines_told}
use Rattle.mw_engine.proofs.Branded.{formed_there, in_words, same_request}

abbrev first_of : List (ℕ × ℕ) → ℕ
first_of [] = 0
first_of (one ∷ rest) = one.0

-- a pass has the token of its worker
pub has_own : (pass : Pass) → (token : WorkerToken) × HasToken pass.seat.me.0 pass.worker token
has_own pass = by pass.seat.me.0.tokens refl pass.numbered
  where
    by : (all : List WorkerToken) → pass.seat.me.0.tokens ≡ all → map number_of all ≡ (pass.worker, pass.attempt) ∷ [] → (token : WorkerToken) × HasToken pass.seat.me.0 pass.worker token
    by [] is numbered = absurd (cc)
    by (one ∷ []) is numbered = (one, record { only = is; own = ap first_of numbered })
    by (one ∷ other ∷ rest) is numbered = absurd (cc)

module _ (words : TenantWords) (tenant : ℕ) (there : tenant < length (lines_told words)) where
  abbrev pub config : Config
  config = config_of words.core.shared.table.shared.key

  abbrev pub openings : List TenantStart
  openings = openings_of words.core.shared.table.shared.key

  pub words_are : words_told (lines_told words) tenant ≡ (tenant_at config tenant).words
  words_are = ap (λ (o : Option Line). option_map_or (λ l. l.words) o 0) (words.agrees.each tenant there)

  pub quota_is : quota_told (lines_told words) tenant ≡ (opening_at openings tenant).quota
  quota_is = ap (λ (o : Option Line). option_map_or (λ l. l.quota) o 0) (words.agrees.each tenant there)

-- a tenant has at most `MAX_WORDS` words
pub words_few : (words : TenantWords) (tenant : ℕ) → tenant < length (lines_told words) → words_told (lines_told words) tenant ≤ MAX_WORDS
words_few words tenant there =
    let low : tenant < tenants_of (config words tenant there) = subst (λ (n : ℕ). tenant < n) words.agrees.count there in
    subst (λ (n : ℕ). n ≤ MAX_WORDS) (sym (words_are words tenant there)) (words.core.shared.made.words tenant no_tenant low).1

-- its job is one that a request may have
pub formed_so : (words : TenantWords) (tenant : ℕ) (job : Job) → IsFor (lines_told words) tenant job → IsFormed job
formed_so words tenant job asks = well_formed_is_formed (words_told (lines_told words) tenant) job asks.formed (words_few words tenant asks.there)

-- A request that a tenant of the engine may make may come to an idle pass of the engine.
pub may_come : (words : TenantWords) (identity : Identity) → identity_on words.core.shared (lines_told words) identity.disks ≡ identity → (pass : Pass) (actor : ActorState) → IsPassOf identity pass → pass.idle ≡ true
    → IsRequest identity pass.worker actor → MayCome pass.seat.me.0 pass.worker actor
may_come words identity same pass actor engines idle asks =
    let view = pass.seat.me.0 in
    let tenant = actor.tenant in
    let own = in_words words identity same pass engines in
    let formed = formed_there words identity same tenant actor.job asks.formed in
    let there = formed.there in
    let has = has_own pass in
    record {
      token = has.0;
      has = has.1;
      idle = none_carried view pass.worker has.0 has.1 (pass.rests idle);
      tenant = subst (λ (c : Config). tenant < tenants_of c) (sym own.own.config) (subst (λ (n : ℕ). tenant < n) words.agrees.count there);
      may_ask = ap (λ (c : Config). is_well_formed (tenant_at c tenant).words actor.job) own.own.config
          ∙ (ap (λ (n : ℕ). is_well_formed n actor.job) (sym (words_are words tenant there)) ∙ formed.formed);
      is = asks.is ∙ (sym (same_request words identity same pass.worker tenant actor.job) ∙ (λ i. first pass.worker tenant
          ((quota_is words tenant there ∙ ap (λ (o : List TenantStart). (opening_at o tenant).quota) (sym own.own.openings)) i)
          ((words.agrees.slots ∙ ap (λ (c : Config). c.pool) (sym own.own.config)) i) actor.job));
    }

-- The request that an engine makes of a tenant's job may come too.
pub made_may_come : (words : TenantWords) (identity : Identity) → identity_on words.core.shared (lines_told words) identity.disks ≡ identity → (pass : Pass) (tenant : ℕ) (asked job : Job) (actor : ActorState)
    → IsPassOf identity pass → pass.idle ≡ true → IsFor identity.lines tenant asked → job ≡ asked → actor ≡ request_of identity pass.worker tenant job → MayCome pass.seat.me.0 pass.worker actor
made_may_come words identity same pass tenant asked job actor own idle formed copied is =
    subst (λ (one : ActorState). MayCome pass.seat.me.0 pass.worker one) (sym is)
    (may_come words identity same pass (request_of identity pass.worker tenant job) own idle (record { formed = subst (λ (one : Job). IsFor identity.lines tenant one) (sym copied) formed; is = refl }))
