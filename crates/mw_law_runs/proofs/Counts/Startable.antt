-- The test `may_start`, which lets a restart happen, tells this: a crash may leave what was found of each file, and the new
-- quotas fit.
-- Used by: mw_law_store, mw_law_threads.
use Rattle.std.specs.Prelude.{ℕ, zero, suc, ◌≡◌, ◌<◌, ◌≤◌, ◌==◌, ◌&&◌, Bool, true, nat_le, List, length}
use Rattle.std.proofs.Common.{refl, sym, subst, inl, inr, arith}
use Rattle.std.proofs.lemmas.Bool.{and_from, and_parts, cases_eq, eqb-true, le-leb, leb-true}
use Rattle.mw_words.specs.declared.limits.TheConstants.{MAX_QUOTA}
use Rattle.mw_lone.specs.Store.{is_quota}
use Rattle.mw_world.specs.declared.config.Config.{Config}
use Rattle.mw_world.specs.Definition.Events.{Found}
use Rattle.mw_world.specs.Definition.Restarts.{may_all_be_found, quotas_then}
use Rattle.mw_world.specs.Definition.State.{State, QuotasFit, each_fits, may_be_quotas, places_of, quotas_together, tenants_of}

-- a tenant may have this quota, and its file has as many places
abbrev pub IsFitting : (ℕ → ℕ) → (ℕ → ℕ) → ℕ → Type 0
IsFitting quotas places tenant = (1 ≤ quotas tenant) × (quotas tenant ≤ MAX_QUOTA) × (quotas tenant ≤ places tenant)

one_fits : (quotas places : ℕ → ℕ) (many : ℕ) → each_fits quotas places (suc many) ≡ true → IsFitting quotas places many
one_fits quotas places many is =
    let parts = and_parts (each_fits quotas places many && is_quota (quotas many)) (nat_le (quotas many) (places many)) is in
    let quota = and_parts (nat_le 1 (quotas many)) (nat_le (quotas many) MAX_QUOTA) (and_parts (each_fits quotas places many) (is_quota (quotas many)) parts.0).1 in
    (leb-true 1 (quotas many) quota.0, leb-true (quotas many) MAX_QUOTA quota.1, leb-true (quotas many) (places many) parts.1)

-- this holds of each of the tenants that were tested
pub each_is_fitting : (quotas places : ℕ → ℕ) (many : ℕ) → each_fits quotas places many ≡ true → (tenant : ℕ) → tenant < many → IsFitting quotas places tenant
each_is_fitting quotas places zero is tenant low = absurd (omega (arith, low))
each_is_fitting quotas places (suc many) is tenant low = elim (cases_eq tenant many) [
  | inl same ↦ subst (IsFitting quotas places) (sym same) (one_fits quotas places many is)
  | inr apart ↦ each_is_fitting quotas places many
      (and_parts (each_fits quotas places many) (is_quota (quotas many)) (and_parts (each_fits quotas places many && is_quota (quotas many)) (nat_le (quotas many) (places many)) is).0).0
      tenant (omega (arith, low, apart))
]

-- quotas that pass the test fit
pub quotas_fit : (config : Config) (quotas places : ℕ → ℕ) → may_be_quotas config quotas places ≡ true → QuotasFit config quotas places
quotas_fit config quotas places is =
    let parts = and_parts (each_fits quotas places (tenants_of config)) (nat_le (quotas_together quotas (tenants_of config)) config.pool) is in
    let each = each_is_fitting quotas places (tenants_of config) parts.0 in
    record {
      each = λ tenant low. ((each tenant low).0, (each tenant low).1);
      room = λ tenant low. (each tenant low).2;
      together = leb-true (quotas_together quotas (tenants_of config)) config.pool parts.1;
    }

each_passes : (quotas places : ℕ → ℕ) (many : ℕ) → ((tenant : ℕ) → tenant < many → IsFitting quotas places tenant) → each_fits quotas places many ≡ true
each_passes quotas places zero each = refl
each_passes quotas places (suc many) each =
    let here = each many (omega arith) in
    and_from (each_fits quotas places many && is_quota (quotas many)) (nat_le (quotas many) (places many))
    (and_from (each_fits quotas places many) (is_quota (quotas many))
    (each_passes quotas places many (λ tenant low. each tenant (omega (arith, low))))
    (and_from (nat_le 1 (quotas many)) (nat_le (quotas many) MAX_QUOTA) (le-leb 1 (quotas many) here.0) (le-leb (quotas many) MAX_QUOTA here.1)))
    (le-leb (quotas many) (places many) here.2)

-- quotas that fit pass the test
pub quotas_pass : (config : Config) (quotas places : ℕ → ℕ) → QuotasFit config quotas places → may_be_quotas config quotas places ≡ true
quotas_pass config quotas places fit =
    and_from (each_fits quotas places (tenants_of config)) (nat_le (quotas_together quotas (tenants_of config)) config.pool)
    (each_passes quotas places (tenants_of config) (λ tenant low. ((fit.each tenant low).0, (fit.each tenant low).1, fit.room tenant low)))
    (le-leb (quotas_together quotas (tenants_of config)) config.pool fit.together)

-- A restart may happen, and this is found of each tenant's file.
abbrev pub may_start : Config → State → List Found → Bool
may_start config state founds =
    (length founds == tenants_of config) && may_all_be_found config state founds (tenants_of config) && may_be_quotas config (quotas_then state founds) (places_of state)

-- What that test tells.
pub record MayStart (config : Config) (state : State) (founds : List Found) : Type 0 where
  pub each : (length founds == tenants_of config) ≡ true
  pub found : may_all_be_found config state founds (tenants_of config) ≡ true
  pub quotas : QuotasFit config (quotas_then state founds) (places_of state)

pub start_tells : (config : Config) (state : State) (founds : List Found) → may_start config state founds ≡ true → MayStart config state founds
start_tells config state founds may =
    let all = may_all_be_found config state founds (tenants_of config) in
    let parts = and_parts ((length founds == tenants_of config) && all) (may_be_quotas config (quotas_then state founds) (places_of state)) may in
    let files = and_parts (length founds == tenants_of config) all parts.0 in
    record { each = files.0; found = files.1; quotas = quotas_fit config (quotas_then state founds) (places_of state) parts.1 }

-- a start of which this holds passes the test
pub start_passes : (config : Config) (state : State) (founds : List Found) → MayStart config state founds → may_start config state founds ≡ true
start_passes config state founds may =
    let all = may_all_be_found config state founds (tenants_of config) in
    and_from ((length founds == tenants_of config) && all) (may_be_quotas config (quotas_then state founds) (places_of state))
    (and_from (length founds == tenants_of config) all may.each may.found) (quotas_pass config (quotas_then state founds) (places_of state) may.quotas)
