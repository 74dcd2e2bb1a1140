-- Defines that the tables of any number of servers, each but the last stopped by a crash, are of one store alone.
-- Used by: tables_in_turn_are_of_one_store (src/next_run_laws.rt).
use Rattle.std.specs.Prelude.{ℕ, ◌≡◌, ◌<◌, ◌++◌, List, [], ◌∷◌, map}
use mathlib.Core.Option.{some}
use lib.ListN.{get_elem?}
use Rattle.atomic_table.specs.Table.{State as Table}
use Rattle.mw_actor.specs.ActorState.{ActorState}
use Rattle.mw_disk.specs.Facts.{Facts}
use Rattle.mw_world.specs.declared.config.Config.{Config}
use Rattle.mw_world.specs.Claim.Headline.{IsRun}
use Rattle.mw_world.specs.Definition.Events.{WorldEvent}
use Rattle.mw_world.specs.Definition.State.{TenantStart, tenants_of}
use Rattle.mw_rule.specs.FromLaws.{put_sealed}
use Rattle.mw_rule.specs.Prefixes.{opening_at}
use Rattle.mw_rule.specs.Rule.{IsLive, TableInvariant, words_given}
use Rattle.mw_rule.specs.declared.views.View.{View}
use Rattle.mw_law_threads.specs.Durable.CrashMoments.{CrashMoment, first_disk, last_disk, stake_at}
use Rattle.mw_law_threads.specs.Durable.Durable.{LeavesChangesOfRun}
use Rattle.mw_law_threads.specs.Durable.Starts.{GivesEither}
use Rattle.mw_law_threads.specs.NextRuns.FoundAfterCrashes.{CameAtDeviceCallsOfSeal}
use Rattle.mw_law_threads.specs.NextRuns.ServersInTurn.{AreOfOneStoreInTurn, ServerRun}

-- At this moment of a table that was made at a start, a live thread knows what that start gave the tenants, as each pass of the engine does.
pub record KnowsTheStart (config : Config) (begun : (ℕ → TenantStart) → List WorldEvent → Type 0) (s : Table ActorState View) (tied : TableInvariant config begun s) : Type 0 where
  pub at_start : tied.past.before ≡ []
  pub id : ℕ
  pub view : View
  pub at : get_elem? s.views id ≡ some view
  pub live : IsLive view

-- each server's table has a key, which tells its configuration, and how it may have begun
module _ {K D : Type 0} (facts : D → Facts) (config : K → Config) (begun : K → (ℕ → TenantStart) → List WorldEvent → Type 0) where
  -- A server's table, which is under its rule at some moment, and which of its tenants is meant. Numbers are left in the table's run.
  pub record ServerTable : Type 0 where
    pub key : K
    pub table : Table ActorState View
    pub tied : TableInvariant (config key) (begun key) table
    pub tenant : ℕ
    pub there : tenant < tenants_of (config key)
    pub numbers : IsRun (config key) tied.past.openings (tied.past.before ++ tied.events) tied.state

  -- A crash came at this moment of the table. It left whole changes of the tenant, those of the table's run, over the words that the
  -- start gave, as a live thread knows.
  pub record StoppedByCrash (one : ServerTable) : Type 0 where
    pub crash : CrashMoment facts one.table one.tenant
    pub came : CameAtDeviceCallsOfSeal facts crash
    pub id : ℕ
    pub view : View
    pub at : get_elem? one.table.views id ≡ some view
    pub live : IsLive view
    pub left : LeavesChangesOfRun facts (config one.key) (begun one.key) one.tied view one.tenant (stake_at facts crash) (first_disk facts crash) (last_disk facts crash)

  -- The next table was made at a start, as a live thread of it knows. Its tenant's file opened, and gave the words with all sealed changes,
  -- or these with the one at stake.
  pub record StartedAfter (one : ServerTable) (stopped : StoppedByCrash one) (next : ServerTable) : Type 0 where
    pub knows : KnowsTheStart (config next.key) (begun next.key) next.table next.tied
    pub gave : GivesEither (put_sealed (words_given stopped.view one.tenant) stopped.left.0.sealed) (stake_at facts stopped.crash) (opening_at knows.view.openings next.tenant)

  -- The servers ran one after the other: a crash stopped each but the last, and the next one started with what it left. The last table is
  -- at any moment.
  abbrev pub TablesInTurn : ServerTable → List ServerTable → Type 0
  TablesInTurn one [] = Unit {0}
  TablesInTurn one (next ∷ later) = (stopped : StoppedByCrash one) × StartedAfter one stopped next × TablesInTurn next later

  -- the run that ties the table's words to the model, and the tenant that is meant
  abbrev pub run_behind : ServerTable → ServerRun
  run_behind one = record { config = config one.key; openings = one.tied.past.openings; events = one.tied.past.before ++ one.tied.events; state = one.tied.state; tenant = one.tenant }

  -- If these tables are in turn, one store alone serves the tenant in all their runs, with a mark for each start between them.
  abbrev pub TablesInTurnAreOfOneStore : Type 0
  TablesInTurnAreOfOneStore = (one : ServerTable) (later : List ServerTable) → TablesInTurn one later → AreOfOneStoreInTurn (run_behind one) (map run_behind later)
