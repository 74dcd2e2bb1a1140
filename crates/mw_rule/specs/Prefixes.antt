-- Defines what a thread has seen of the tenants' sealed changes, and what a start gave them.
-- Used by: mw_table, mw_service, mw_law_threads.
use Rattle.std.specs.Prelude.{ℕ, zero, suc, true, ◌≡◌, ◌≤◌, ◌<◌, List, [], ◌∷◌, ◌++◌, slice_index_or, Option, Some, None}
use Rattle.mw_actor.specs.ActorState.{ActorState}
use Rattle.mw_world.specs.Definition.State.{State, TenantStart}
use Rattle.mw_rule.specs.FromLaws.{HasBegun, IsBeginning, SealedChange, words_at_start}

-- one tenant's changes, from a list with each tenant's; of a tenant past its end none
abbrev pub seen_at : List (List SealedChange) → ℕ → List SealedChange
seen_at seen tenant = slice_index_or seen tenant []

-- the list with the changes of each of the first so many tenants
abbrev pub all_of : (ℕ → List SealedChange) → ℕ → List (List SealedChange)
all_of sealed zero = []
all_of sealed (suc tenants) = all_of sealed tenants ++ sealed tenants ∷ []

-- For each tenant, the changes in the list are a prefix of that tenant's sealed changes.
abbrev pub ArePrefixes : ℕ → List (List SealedChange) → (ℕ → List SealedChange) → Type 0
ArePrefixes tenants seen sealed = (tenant : ℕ) → tenant < tenants → IsBeginning (seen_at seen tenant) (sealed tenant)

-- what a tenant past the last one was given: nothing
abbrev pub no_opening : TenantStart
no_opening = record { quota = 0; places = 0; words = []; is_up = true }

-- what the start gave a tenant, from a list with each tenant's
abbrev pub opening_at : List TenantStart → ℕ → TenantStart
opening_at openings tenant = slice_index_or openings tenant no_opening

-- The latest start gave the tenant this: its quota, the places of its file, its words, and whether its file opened.
pub record Gave (openings : ℕ → TenantStart) (state : State) (tenant : ℕ) (opening : TenantStart) : Type 0 where
  pub quota : (state.tenant_states tenant).quota ≡ opening.quota
  pub places : (state.tenant_states tenant).places ≡ opening.places
  pub words : words_at_start openings state tenant ≡ opening.words
  pub is_up : (state.tenant_states tenant).is_up ≡ opening.is_up

-- The worker's request came when at least so many of its tenant's changes were sealed.
pub record CameAfter (openings : ℕ → TenantStart) (state : State) (worker : ℕ) (actor : ActorState) (begun : ℕ) : Type 0 where
  pub sealed : ℕ
  pub no_fewer : begun ≤ sealed
  pub came : HasBegun openings state worker actor sealed

-- The same of the request that the worker has; if it has none, nothing is required.
abbrev pub HasBegunFor : (ℕ → TenantStart) → State → ℕ → ℕ → Option ActorState → Type 0
HasBegunFor openings state worker begun None = Unit {0}
HasBegunFor openings state worker begun (Some actor) = CameAfter openings state worker actor begun
