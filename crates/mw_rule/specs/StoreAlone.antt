-- States that the requests which a thread's workers finished are answered as each tenant's store alone answers them. It joins
-- the threads with the theorem (docs/THEOREM.md).
-- Used by: src/laws.rt, mw_table.
use Rattle.std.specs.Prelude.{ℕ, ◌≡◌, ◌<◌, List, ◌++◌, slice_get, Some}
use Rattle.mw_words.specs.declared.replies.Reply.TheVariants.{Yes as SaysYes}
use Rattle.mw_lone.specs.Store.{replies_from}
use Rattle.mw_world.specs.declared.config.Config.{Config}
use Rattle.mw_world.specs.Claim.Headline.{HasNumbers, IsDurablyLinearizable}
use Rattle.mw_world.specs.Definition.Events.{WorldEvent}
use Rattle.mw_world.specs.Definition.State.{State, TenantStart, marks_of, store_at, tenants_of, world_at}
use Rattle.mw_world.specs.Definition.World.{run}
use Rattle.mw_rule.specs.FromLaws.{IsDurableIn, changes_of, first_abstract_state, put_all}
use Rattle.mw_rule.specs.declared.views.Finished.{Finished}
use Rattle.mw_rule.specs.declared.views.View.{View}
use Rattle.mw_rule.specs.Rule.{Each, IsRight}
use Rattle.mw_rule.specs.RunBehind.{IsBehind}

-- At every moment of the run behind what the thread knows, there were numbers left.
abbrev pub HadNumbers : (view : View) → IsBehind view → Type 0
HadNumbers view behind = (first rest : List WorldEvent) (between : State) → behind.before ++ behind.events ≡ first ++ rest → run view.config (world_at view.config behind.openings) first ≡ Some between → HasNumbers view.config between

-- After this run the finished request is one of its tenant's store alone. The run serves the tenant as that store would. Given
-- the tenant's marks, the store hands out this reply under this number. The tenant's file has its first words with all changes of
-- the marks put over them, and a YES has its change among these.
pub record IsOfStoreAlone (config : Config) (openings : ℕ → TenantStart) (events : List WorldEvent) (state : State) (one : Finished) : Type 0 where
  pub there : one.tenant < tenants_of config
  pub alone : IsDurablyLinearizable config openings events state one.tenant
  pub index : ℕ
  pub says : slice_get (replies_from (store_at (openings one.tenant)) (marks_of state one.tenant)) index ≡ Some (one.request, one.reply)
  pub words : (state.tenant_states one.tenant).file.contents ≡ put_all (openings one.tenant).words (changes_of (first_abstract_state (openings one.tenant).words) (marks_of state one.tenant))
  pub held : one.reply ≡ SaysYes → IsDurableIn (openings one.tenant).words (marks_of state one.tenant) one.request

-- If numbers were left, this is so of each request that the thread's workers finished.
abbrev pub FinishedAreOfStoreAlone : Type 0
FinishedAreOfStoreAlone = (view : View) (behind : IsBehind view) → IsRight view → HadNumbers view behind
    → Each (IsOfStoreAlone view.config behind.openings (behind.before ++ behind.events) behind.state) view.mine
