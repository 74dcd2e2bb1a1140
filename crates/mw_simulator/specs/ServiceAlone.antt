-- States that each tenant of a simulated world is served as its store alone would serve it, in runs that always had numbers
-- left.
-- Used by: src/world/events.rt, src/world/new_worlds.rt.
use Rattle.std.specs.Prelude.{ℕ, ◌≡◌, ◌<◌, ◌++◌, Bool, not, List, slice_get, Some}
use Rattle.mw_words.specs.declared.replies.Reply.TheVariants.{Yes as SaysYes}
use Rattle.mw_lone.specs.declared.marks.Mark.{Mark}
use Rattle.mw_lone.specs.Store.{IsLegalRun, replies as replies_of_store}
use Rattle.mw_world.specs.declared.config.Config.{Config}
use Rattle.mw_world.specs.Claim.Headline.{HasNumbers, IsDurablyLinearizable}
use Rattle.mw_world.specs.Definition.Events.{WorldEvent}
use Rattle.mw_world.specs.Definition.State.{State, first_openings, first_words_of, marks_of, new_world, tenant_at, tenants_of}
use Rattle.mw_world.specs.Definition.World.{replies_to, run}
use Rattle.mw_law_store.specs.Durability.{changes_of, put_all, IsDurableIn}
use Rattle.mw_law_store.specs.AbstractStates.{first_abstract_state}
use Rattle.mw_simulator.specs.declared.world.World.{World}
use Rattle.mw_simulator.specs.Events.{IsAfterRun}

-- there were numbers left at every moment of a run from a new world
abbrev pub HadNumbers : Config → List WorldEvent → Type 0
HadNumbers config happened = (first rest : List WorldEvent) (between : State) → happened ≡ first ++ rest → run config (new_world config) first ≡ Some between → HasNumbers config between

-- a tenant's words at first
abbrev pub first_words : Config → ℕ → List ℕ
first_words config tenant = first_words_of (tenant_at config tenant)

-- a tenant's first file is one that no start has opened yet
abbrev pub begins_faulted : Config → ℕ → Bool
begins_faulted config tenant = not (first_openings config tenant).is_up

-- A tenant is served as its store alone would serve it: the run is durably linearizable for it. The words of its file
-- are its first words with all its changes put over them, in the order of its marks. Each change whose YES was handed
-- out is one of these.
pub record ServesTenant (world : World) (happened : List WorldEvent) (stands : IsAfterRun world happened) (tenant : ℕ) : Type 0 where
  pub alone : IsDurablyLinearizable world.config (first_openings world.config) happened stands.state tenant
  pub words : (stands.state.tenant_states tenant).file.contents
      ≡ put_all (first_words world.config tenant) (changes_of (first_abstract_state (first_words world.config tenant)) (marks_of stands.state tenant))
  pub held : (place n : ℕ) → slice_get (replies_to world.config tenant (new_world world.config) happened) place ≡ Some (n, SaysYes)
      → IsDurableIn (first_words world.config tenant) (marks_of stands.state tenant) n

-- each tenant is served so, after each run that led to a world which this one represents and that always had numbers
-- left
abbrev pub Serves : World → Type 0
Serves world = (happened : List WorldEvent) (stands : IsAfterRun world happened) (tenant : ℕ) → HadNumbers world.config happened → tenant < tenants_of world.config → ServesTenant world happened stands tenant

-- These marks are a legal run of the store alone with the tenant's first words and quota, whose file has failed at
-- first if no start has opened the tenant's file yet. By these marks that store hands out the replies that the tenant
-- was given.
pub record AreOfStore (config : Config) (happened : List WorldEvent) (tenant : ℕ) (marks : List Mark) : Type 0 where
  pub legal : IsLegalRun (first_words config tenant) (tenant_at config tenant).quota (begins_faulted config tenant) marks
  pub replies : replies_to config tenant (new_world config) happened ≡ replies_of_store (first_words config tenant) (tenant_at config tenant).quota (begins_faulted config tenant) marks

-- these marks are such a run, for each run that led to a world which this one represents and that always had numbers left
abbrev pub AreLegal : World → ℕ → List Mark → Type 0
AreLegal world tenant marks = (happened : List WorldEvent) → IsAfterRun world happened → HadNumbers world.config happened → AreOfStore world.config happened tenant marks
