-- Defines what the tenants' files gave at a start, as a world in memory keeps it. Used by: src/cells/start.rt, mw_simulator.
use Rattle.std.specs.Prelude.{ℕ, ◌≡◌, ◌<◌, Bool, true, false, List, [], Vec, length, slice_index_or, MatchOption, IfSome, Some, None}
use Rattle.std.specs.declared.option.Option.{Option}
use Rattle.std.specs.declared.alloc.Global.{Global}
use Rattle.mw_words.specs.Patterns.{packed_door}
use Rattle.mw_world.specs.declared.config.Config.{Config}
use Rattle.mw_world.specs.declared.config.Tenant.{Tenant}
use Rattle.mw_world.specs.Definition.State.{no_tenant, tenant_at, tenants_of, words_given}

-- for each tenant its words, or none if its file didn't open
abbrev pub Openings : Type 0
Openings = List (Option (Vec ℕ Global))

-- what a tenant's file gave; none past the last tenant
abbrev pub opening_at : Openings → ℕ → Option (Vec ℕ Global)
opening_at openings tenant = slice_index_or openings tenant None

-- there is one opening for each tenant of a configuration, and each that gave words gave as many as the tenant has
pub record AreOpenings (config : Config) (openings : Openings) : Type 0 where
  pub one_each : length openings ≡ tenants_of config
  pub as_long : (tenant : ℕ) → IfSome (opening_at openings tenant) (λ words. length words.items ≡ (tenant_at config tenant).words)

-- these are the words that were given, and `is_up` says which tenants' files opened
abbrev pub Gave : Openings → (ℕ → List ℕ) → (ℕ → Bool) → Type 0
Gave openings words is_up =
    (tenant : ℕ) → tenant < length openings → MatchOption (opening_at openings tenant) (is_up tenant ≡ false) (λ given. (is_up tenant ≡ true) × (given.items ≡ words tenant))

-- the bits of the door that a tenant starts with: no slot in use, and the fault if its file didn't open
abbrev pub first_door : Option (Vec ℕ Global) → ℕ
first_door (Some given) = packed_door (record { fault = false; used = 0 })
first_door None = packed_door (record { fault = true; used = 0 })

-- these are the words that the first `count` tenants start with
pub record AreFirstWords (tenants : List Tenant) (openings : Openings) (words : List (List ℕ)) (count : ℕ) : Type 0 where
  pub long : length words ≡ count
  pub each : (tenant : ℕ) → tenant < count → slice_index_or words tenant [] ≡ words_given (slice_index_or tenants tenant no_tenant) (opening_at openings tenant)
