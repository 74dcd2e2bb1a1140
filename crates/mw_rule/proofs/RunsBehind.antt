-- The run behind what a thread knows (`specs/RunBehind`) comes from the table's run, and stays behind it when its files
-- change or it is split.
-- Used by: mw_table.
use Rattle.std.specs.Prelude.{ℕ, ◌≡◌, ◌<◌, List, ◌++◌, Option, Some}
use Rattle.std.proofs.Common.{sym, ap, subst, ◌∙◌}
use Rattle.mw_world.specs.declared.config.Config.{Config}
use Rattle.mw_world.specs.Claim.Headline.{IsExecution}
use Rattle.mw_world.specs.Definition.Events.{WorldEvent}
use Rattle.mw_world.specs.Definition.State.{State, TenantStart, tenants_of, world_at}
use Rattle.mw_rule.specs.FromLaws.{AreNoStarts, sealed_of}
use Rattle.mw_rule.specs.declared.views.HeldFile.{HeldFile}
use Rattle.mw_rule.specs.declared.views.View.{View}
use Rattle.mw_rule.specs.KnownRuns.{KnownRun, known_run_of}
use Rattle.mw_rule.specs.Prefixes.{ArePrefixes, Gave, opening_at}
use Rattle.mw_rule.specs.Rule.{Each, Fits, Holds, IsHandedOut}
use Rattle.mw_rule.specs.RunBehind.{IsBehind}
use Rattle.mw_rule.specs.Splits.{dealt, left_over}
use Rattle.mw_rule.proofs.FinishedRequests.{each_of_head, each_of_rest}
use Rattle.mw_rule.proofs.Totals.{each_head, each_rest}

-- a run in which all that a thread knows is so, and which the thread knows, is behind it
pub behind_so : (config : Config) (openings : ℕ → TenantStart) (before events : List WorldEvent) (state : State) (view : View) → Fits config openings state events view
    → IsExecution config openings (before ++ events) state → AreNoStarts events → view.known_run ≡ Some (known_run_of config openings before events)
    → Each (IsHandedOut config (world_at config openings) (before ++ events)) view.mine → IsBehind view
behind_so config openings before events state view fits played no_starts known_run handed =
    let same = sym fits.same_config in
    record {
      openings = openings;
      before = before;
      events = events;
      state = state;
      played = subst (λ (c : Config). IsExecution c openings (before ++ events) state) same played;
      no_starts = no_starts;
      known_run = known_run ∙ ap (λ (c : Config). Some (known_run_of c openings before events)) same;
      gave = subst (λ (c : Config). (tenant : ℕ) → tenant < tenants_of c → Gave openings state tenant (opening_at view.openings tenant)) same fits.gave;
      tokens = subst (λ (c : Config). Each (Holds c openings state events) view.tokens) same fits.token;
      seen = subst (λ (c : Config). ArePrefixes (tenants_of c) view.seen (sealed_of openings state)) same fits.seen;
      handed = subst (λ (c : Config). Each (IsHandedOut c (world_at c openings) (before ++ events)) view.mine) same handed;
    }

-- whatever files the thread holds, and whatever it was told
pub behind_files : (view : View) (files : List HeldFile) (told : Option KnownRun) → IsBehind view → IsBehind (record view { files = files; learned_run = told })
behind_files view files told behind = record {
  openings = behind.openings;
  before = behind.before;
  events = behind.events;
  state = behind.state;
  played = behind.played;
  no_starts = behind.no_starts;
  known_run = behind.known_run;
  gave = behind.gave;
  tokens = behind.tokens;
  seen = behind.seen;
  handed = behind.handed;
}

-- behind both parts of a thread that gives a token away
pub behind_dealt : (view : View) → IsBehind view → IsBehind (dealt view)
behind_dealt view behind = record {
  openings = behind.openings;
  before = behind.before;
  events = behind.events;
  state = behind.state;
  played = behind.played;
  no_starts = behind.no_starts;
  known_run = behind.known_run;
  gave = behind.gave;
  tokens = each_head (Holds view.config behind.openings behind.state behind.events) view.tokens behind.tokens;
  seen = behind.seen;
  handed = each_of_head (IsHandedOut view.config (world_at view.config behind.openings) (behind.before ++ behind.events)) view.tokens view.mine behind.handed;
}

pub behind_left : (view : View) → IsBehind view → IsBehind (left_over view)
behind_left view behind = record {
  openings = behind.openings;
  before = behind.before;
  events = behind.events;
  state = behind.state;
  played = behind.played;
  no_starts = behind.no_starts;
  known_run = behind.known_run;
  gave = behind.gave;
  tokens = each_rest (Holds view.config behind.openings behind.state behind.events) view.tokens behind.tokens;
  seen = behind.seen;
  handed = each_of_rest (IsHandedOut view.config (world_at view.config behind.openings) (behind.before ++ behind.events)) view.tokens view.mine behind.handed;
}
