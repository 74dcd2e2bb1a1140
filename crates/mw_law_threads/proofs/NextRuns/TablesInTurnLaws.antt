-- The run of a table that was made at a start begins with what its threads know of the start: no event but a start changes what the
-- latest start gave. So the runs of tables in turn are those of servers in turn.
-- Used by: tables_in_turn_are_of_one_store.
use Rattle.std.specs.Prelude.{ℕ, ◌≡◌, ◌<◌, ◌++◌, List, [], ◌∷◌, map, Some}
use Rattle.std.proofs.Common.{refl, sym, ap, subst, ◌∙◌}
use Rattle.std.proofs.lemmas.Option.{option_and_then_some, same_Some}
use Rattle.atomic_table.specs.Table.{State as Table}
use Rattle.mw_actor.specs.ActorState.{ActorState}
use Rattle.mw_disk.specs.Facts.{Facts}
use Rattle.mw_world.specs.declared.config.Config.{Config}
use Rattle.mw_world.specs.Claim.Headline.{IsExecution}
use Rattle.mw_world.specs.Definition.Events.{WorldEvent}
use Rattle.mw_world.specs.Definition.State.{State, TenantStart, tenants_of, world_at}
use Rattle.mw_world.specs.Definition.World.{run, step}
use Rattle.mw_law_store.proofs.Beginnings.{run_last}
use Rattle.mw_law_store.proofs.ReplyPlaceLaws.{sealed_go_on, seals_begin}
use Rattle.mw_law_store.specs.ReplyPlaces.{words_at_start}
use Rattle.mw_rule.specs.FromLaws.{AreNoStarts}
use Rattle.mw_rule.specs.Prefixes.{opening_at}
use Rattle.mw_rule.specs.Rule.{TableInvariant}
use Rattle.mw_rule.specs.declared.views.View.{View}
use Rattle.mw_law_threads.proofs.History.OneHistoryLaws.{fits_live}
use Rattle.mw_law_threads.proofs.NextRuns.FoundAfterCrashLaws.{crashes_leave_next_runs}
use Rattle.mw_law_threads.proofs.NextRuns.ServersInTurnLaws.{servers_in_turn}
use Rattle.mw_law_threads.specs.NextRuns.FoundAfter.{IsFoundAfter}
use Rattle.mw_law_threads.specs.NextRuns.ServersInTurn.{IsServerRun, RunInTurn, start_of}
use Rattle.mw_law_threads.specs.NextRuns.TablesInTurn.{KnowsTheStart, ServerTable, StartedAfter, StoppedByCrash, TablesInTurn, TablesInTurnAreOfOneStore, run_behind}

module _ (config : Config) (openings : ℕ → TenantStart) (tenant : ℕ) (low : tenant < tenants_of config) where
  words_stay : (events past : List WorldEvent) (state last : State) → IsExecution config openings past state → AreNoStarts events → run config state events ≡ Some last
      → words_at_start openings last tenant ≡ words_at_start openings state tenant
  words_stay [] past state last played none goes = ap (λ (one : State). words_at_start openings one tenant) (sym (same_Some state last goes))
  words_stay (event ∷ events) past state last played none goes =
      option_and_then_some (λ one. run config one events) (step config state event) last goes (λ next at on.
      let then_played : IsExecution config openings (past ++ event ∷ []) next = record { made = played.made; starts = played.starts; runs = run_last config (world_at config openings) state next past event played.runs at } in
      words_stay events (past ++ event ∷ []) next last then_played none.1 on ∙ (sealed_go_on config openings past state next event tenant played low none.0 at).0)

  -- after a start and other events, the start's words are those that it gave
  words_given_at_start : (events : List WorldEvent) (state : State) → IsExecution config openings events state → AreNoStarts events → words_at_start openings state tenant ≡ (openings tenant).words
  words_given_at_start events state played none =
      words_stay events [] (world_at config openings) state (record { made = played.made; starts = played.starts; runs = refl }) none played.runs ∙ (seals_begin config openings tenant).1

-- so a thread of the table knows them
start_known : (config : Config) (begun : (ℕ → TenantStart) → List WorldEvent → Type 0) (s : Table ActorState View) (tied : TableInvariant config begun s) (tenant : ℕ) → tenant < tenants_of config → (knows : KnowsTheStart config begun s tied)
    → (opening_at knows.view.openings tenant).words ≡ (tied.past.openings tenant).words
start_known config begun s tied tenant low knows =
    let fits = fits_live config begun s tied knows.id knows.view knows.at knows.live in
    let played = subst (λ (before : List WorldEvent). IsExecution config tied.past.openings (before ++ tied.events) tied.state) knows.at_start tied.past.played in
    sym (fits.gave tenant low).words ∙ words_given_at_start config tied.past.openings tenant low tied.events tied.state played tied.past.no_starts

module _ {K D : Type 0} (facts : D → Facts) (config : K → Config) (begun : K → (ℕ → TenantStart) → List WorldEvent → Type 0) where
  server_run : (one : ServerTable facts config begun) → IsServerRun (run_behind facts config begun one)
  server_run one = record { is = one.numbers; there = one.there }

  -- the next start found what the stop may have left
  found_after : (one next : ServerTable facts config begun) (stopped : StoppedByCrash facts config begun one) → StartedAfter facts config begun one stopped next
      → IsFoundAfter (config one.key) one.tied.state one.tenant (start_of (run_behind facts config begun next)).words
  found_after one next stopped started =
      subst (IsFoundAfter (config one.key) one.tied.state one.tenant) (start_known (config next.key) (begun next.key) next.table next.tied next.tenant next.there started.knows)
      (crashes_leave_next_runs facts (config one.key) (begun one.key) one.table stopped.id one.tenant stopped.view one.tied stopped.crash (opening_at started.knows.view.openings next.tenant) stopped.at stopped.live stopped.came stopped.left started.gave)

  runs_in_turn : (one : ServerTable facts config begun) (later : List (ServerTable facts config begun)) → TablesInTurn facts config begun one later → RunInTurn (run_behind facts config begun one) (map (run_behind facts config begun) later)
  runs_in_turn one [] turn = server_run one
  runs_in_turn one (next ∷ later) turn = (server_run one, found_after one next turn.0 turn.1, runs_in_turn next later turn.2)

  pub tables_in_turn : TablesInTurnAreOfOneStore facts config begun
  tables_in_turn one later turn = servers_in_turn (run_behind facts config begun one) (map (run_behind facts config begun) later) (runs_in_turn one later turn)
