-- States durability of a world's runs with numbers left, a part of the theorem (docs/THEOREM.md): the words of a tenant's
-- file hold each change that was answered YES.
-- Used by: src/laws.rt.
use Rattle.std.specs.Prelude.{ℕ, ◌<◌, ◌≡◌, List, slice_get, Some}
use Rattle.mw_words.specs.declared.replies.Reply.TheVariants.{Yes as SaysYes}
use Rattle.mw_world.specs.declared.config.Config.{Config}
use Rattle.mw_world.specs.Claim.Headline.{IsRun}
use Rattle.mw_world.specs.Definition.Events.{WorldEvent}
use Rattle.mw_world.specs.Definition.State.{State, TenantStart, marks_of, tenants_of, world_at}
use Rattle.mw_world.specs.Definition.World.{replies_to}
use Rattle.mw_law_store.specs.Durability.{changes_of, put_all, IsDurableIn}
use Rattle.mw_law_store.specs.AbstractStates.{first_abstract_state}

-- After every run in which there are numbers left, the words of a tenant's file are those with which the run began, with all its
-- changes put over them. Each YES that was handed out to the tenant is durable.
abbrev pub RunsKeepAcknowledged : Type 0
RunsKeepAcknowledged = (config : Config) (openings : ℕ → TenantStart) (events : List WorldEvent) (state : State) (tenant : ℕ) → IsRun config openings events state → tenant < tenants_of config
    → ((state.tenant_states tenant).file.contents ≡ put_all (openings tenant).words (changes_of (first_abstract_state (openings tenant).words) (marks_of state tenant)))
    × ((place n : ℕ) → slice_get (replies_to config tenant (world_at config openings) events) place ≡ Some (n, SaysYes) → IsDurableIn (openings tenant).words (marks_of state tenant) n)
