-- Defines what a table begins with that is made at a start: what the opening of each tenant's file gave.
-- Used by: src/at_start.rt, src/new_table.rt, mw_core, mw_law_threads.
use Rattle.std.specs.Prelude.{ℕ, zero, suc, ◌+◌, ◌≡◌, Bool, true, not, is_some, List, [], ◌∷◌, Option, Some, None, Vec}
use Rattle.std.specs.declared.alloc.Global.{Global}
use Rattle.mw_words.specs.Change.{word_at}
use Rattle.mw_words.specs.Patterns.{packed_door}
use Rattle.mw_world.specs.declared.config.Config.{Config}
use Rattle.mw_world.specs.declared.config.Tenant.{Tenant}
use Rattle.mw_world.specs.Definition.Events.{WorldEvent}
use Rattle.mw_world.specs.Definition.State.{TenantStart, State, idle_worker_state, tenants_of, words_given, world_at}
use Rattle.mw_rule.specs.KnownRuns.{known_run_of}
use Rattle.mw_rule.specs.Calls.FileTokens.{file_token_opened}
use Rattle.mw_rule.specs.declared.views.HeldFile.{HeldFile}
use Rattle.mw_rule.specs.Prefixes.{opening_at}
use Rattle.mw_table.specs.declared.origin.FileOpening.{FileOpening}
use Rattle.mw_table.specs.Basis.{Basis}

-- What the start gives a tenant. If its file didn't open, its words count as zeros, which no request is told.
abbrev pub opening_given : Tenant → FileOpening → TenantStart
opening_given tenant found = record { quota = found.quota; places = found.places; words = words_given tenant found.words; is_up = is_some found.words }

-- what the start gives each tenant
abbrev pub openings_given : List Tenant → List FileOpening → List TenantStart
openings_given [] found = []
openings_given (tenant ∷ tenants) [] = []
openings_given (tenant ∷ tenants) (one ∷ found) = opening_given tenant one ∷ openings_given tenants found

-- the same by tenant, as a world takes it
abbrev pub start_given : Config → List FileOpening → ℕ → TenantStart
start_given config found = opening_at (openings_given config.tenants.items found)

-- the world at the start
abbrev pub world_given : Config → List FileOpening → State
world_given config found = world_at config (start_given config found)

-- What is known of a tenant's file as the start left it: it has the words that were found, and all its places are
-- empty. If it didn't open, it has failed. No call is under way.
abbrev pub held_given : ℕ → List TenantStart → ℕ → HeldFile
held_given pool given tenant = record {
  file = file_token_opened tenant (opening_at given tenant).quota pool (opening_at given tenant).words (not (opening_at given tenant).is_up);
  found = None;
}

-- the files of so many tenants, from a first one on
abbrev pub held_from : ℕ → List TenantStart → ℕ → ℕ → List HeldFile
held_from pool given first zero = []
held_from pool given first (suc left) = held_given pool given first ∷ held_from pool given (first + 1) left

-- What a table of that world begins with: nothing has happened since the start, no worker has a request, and all
-- tenants' files are there.
abbrev pub basis_of_start : Config → List FileOpening → Basis
basis_of_start config found = record {
  config = config;
  openings = openings_given config.tenants.items found;
  known_run = known_run_of config (start_given config found) [] [];
  worker_states = λ worker. idle_worker_state;
  files = held_from config.pool (openings_given config.tenants.items found) 0 (tenants_of config);
}

-- The start gave this, and nothing has happened since.
pub record StartedWith (config : Config) (found : List FileOpening) (openings : ℕ → TenantStart) (before : List WorldEvent) : Type 0 where
  pub given : openings ≡ start_given config found
  pub nothing : before ≡ []

-- whether a tenant's file opened; past the last tenant, true
abbrev pub is_opened : Option FileOpening → Bool
is_opened None = true
is_opened (Some found) = is_some found.words

-- the bits of a tenant's door at the start
abbrev pub door_given : Option FileOpening → ℕ
door_given found = packed_door (record { fault = not (is_opened found); used = 0 })

-- a word of a file that opened; if it didn't, 0
abbrev pub word_given : Option (Vec ℕ Global) → ℕ → ℕ
word_given None address = 0
word_given (Some words) address = word_at words.items address

-- the bits of a tenant's word at the start
abbrev pub value_given : Option FileOpening → ℕ → ℕ
value_given None address = 0
value_given (Some found) address = word_given found.words address
