-- Defines the one history in which the replies of all passes are right at a moment of the shared words.
-- Used by: src/history_laws.rt.
use Rattle.std.specs.Prelude.{ℕ, ◌≡◌, ◌≢◌, ◌<◌, ◌≤◌, ◌⊎◌, ◌++◌, List, length, slice_get, Some}
use mathlib.Core.Option.{some}
use lib.ListN.{get_elem?}
use Rattle.atomic_table.specs.Table.{State as Table}
use Rattle.mw_words.specs.declared.replies.Reply.TheVariants.{Yes as SaysYes}
use Rattle.mw_actor.specs.ActorState.{ActorState}
use Rattle.mw_world.specs.declared.config.Config.{Config}
use Rattle.mw_world.specs.Definition.Events.{WorldEvent}
use Rattle.mw_world.specs.Definition.State.{State, TenantStart, tenants_of, world_at}
use Rattle.mw_law_threads.specs.Whole.Refusals.{MakesNoChange, TellsOfNoChange}
use Rattle.mw_rule.specs.FromLaws.{IsBeginning, IsRightAt, sealed_of}
use Rattle.mw_law_store.specs.ReplyPlaces.{words_at_start}
use Rattle.mw_rule.specs.KnownRuns.{ExtendsKnownRun, known_run_of}
use Rattle.mw_rule.specs.Prefixes.{Gave, opening_at, seen_at}
use Rattle.mw_rule.specs.Rule.{IsHandedOut, IsLive, TableInvariant}
use Rattle.mw_rule.specs.declared.views.Finished.{Finished}
use Rattle.mw_rule.specs.declared.views.View.{View}

-- A finished request is right in this run. Its position is within its tenant's sealed changes, and a VAL, a NO or a YES is right there:
-- the words at that position are those of the latest start with all sealed changes before it put over them. The run handed the reply
-- out, whatever it is.
pub record IsRightInRun (config : Config) (openings : ℕ → TenantStart) (before events : List WorldEvent) (state : State) (one : Finished) : Type 0 where
  pub there : one.tenant < tenants_of config
  pub within : one.place ≤ length (sealed_of openings state one.tenant)
  pub right : IsRightAt (words_at_start openings state one.tenant) (sealed_of openings state one.tenant) one.place one.request one.job one.reply
  pub handed : IsHandedOut config (world_at config openings) (before ++ events) one

-- Two finished requests of one tenant have two numbers. If both were answered YES, they have two changes.
pub record AreTwo (one other : Finished) : Type 0 where
  pub numbers : one.request ≢ other.request
  pub changes : one.reply ≡ SaysYes → other.reply ≡ SaysYes → one.place ≢ other.place

-- The run that ties the shared words to the model is behind what all threads know:
--
-- - it extends the run that each thread knows;
-- - its latest start gave the tenants what each live thread knows, and the changes that this thread has seen are the first ones sealed
--   in it;
-- - each request that any thread's workers finished is right in it;
-- - any two of these requests of one tenant, of one thread or of two, are two;
-- - if such a request was answered VAL, NO or BUSY, no change of it is sealed in this run, and the change in doubt is another's.
pub record IsOneHistory (config : Config) (begun : (ℕ → TenantStart) → List WorldEvent → Type 0) (s : Table ActorState View) (tied : TableInvariant config begun s) : Type 0 where
  pub known : (id : ℕ) (view : View) → get_elem? s.views id ≡ some view → ExtendsKnownRun view.known_run (Some (known_run_of config tied.past.openings tied.past.before tied.events))
  pub gave : (id tenant : ℕ) (view : View) → get_elem? s.views id ≡ some view → IsLive view → tenant < tenants_of config → Gave tied.past.openings tied.state tenant (opening_at view.openings tenant)
  pub seen : (id tenant : ℕ) (view : View) → get_elem? s.views id ≡ some view → IsLive view → tenant < tenants_of config → IsBeginning (seen_at view.seen tenant) (sealed_of tied.past.openings tied.state tenant)
  pub right : (id index : ℕ) (view : View) (one : Finished) → get_elem? s.views id ≡ some view → slice_get view.mine index ≡ Some one → IsRightInRun config tied.past.openings tied.past.before tied.events tied.state one
  pub two : (id other index another : ℕ) (view its : View) (one that : Finished) → get_elem? s.views id ≡ some view → get_elem? s.views other ≡ some its
      → slice_get view.mine index ≡ Some one → slice_get its.mine another ≡ Some that → one.tenant ≡ that.tenant → ((id ≡ other) × (index ≡ another)) ⊎ AreTwo one that
  pub refused : (id index : ℕ) (view : View) (one : Finished) → get_elem? s.views id ≡ some view → slice_get view.mine index ≡ Some one → TellsOfNoChange one.reply → MakesNoChange tied.past.openings tied.state one.tenant one.request

-- At each moment at which the table is under the rule, by whatever run, there is this history.
abbrev pub MomentsHaveOneHistory : Config → ((ℕ → TenantStart) → List WorldEvent → Type 0) → Type 0
MomentsHaveOneHistory config begun = (s : Table ActorState View) (tied : TableInvariant config begun s) → IsOneHistory config begun s tied
