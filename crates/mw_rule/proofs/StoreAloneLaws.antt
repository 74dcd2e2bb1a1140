-- The requests that a thread's workers finished are answered as each tenant's store alone (the reference model) answers them.
-- Used by: finished_are_of_the_store_alone, mw_table.
use Rattle.std.specs.Prelude.{ℕ, ◌<◌, List, [], ◌∷◌, ◌++◌, slice_get, Some}
use Rattle.std.proofs.Common.{sym, ap, ◌∙◌}
use Rattle.mw_words.specs.declared.replies.Reply.{Reply}
use Rattle.mw_world.specs.declared.config.Config.{Config}
use Rattle.mw_world.specs.Claim.Headline.{IsRun}
use Rattle.mw_world.specs.Definition.Events.{WorldEvent}
use Rattle.mw_world.specs.Definition.State.{State, TenantStart, tenants_of, world_at}
use Rattle.mw_rule.proofs.FromLaws.{every_run_is_durably_linearizable, runs_hold_changes}
use Rattle.mw_rule.specs.declared.views.Finished.{Finished}
use Rattle.mw_rule.specs.Rule.{Each, IsFinished, IsHandedOut}
use Rattle.mw_rule.specs.StoreAlone.{FinishedAreOfStoreAlone, IsOfStoreAlone}

-- one request that a run with numbers left hands out
handed_alone : (config : Config) (openings : ℕ → TenantStart) (events : List WorldEvent) (state : State) (one : Finished) → IsRun config openings events state → one.tenant < tenants_of config
    → IsHandedOut config (world_at config openings) events one → IsOfStoreAlone config openings events state one
handed_alone config openings events state one of_run there handed =
    let alone = every_run_is_durably_linearizable config openings events state one.tenant of_run there in
    let holds = runs_hold_changes every_run_is_durably_linearizable config openings events state one.tenant of_run there in
    record {
      there = there;
      alone = alone;
      index = handed.0;
      says = ap (λ (all : List (ℕ × Reply)). slice_get all handed.0) (sym alone.replies) ∙ handed.1;
      words = holds.0;
      held = λ yes. holds.1 handed.0 one.request (handed.1 ∙ ap (λ (reply : Reply). Some (one.request, reply)) yes);
    }

each_two : (P Q R : Finished → Type 0) → ((one : Finished) → P one → Q one → R one) → (all : List Finished) → Each P all → Each Q all → Each R all
each_two P Q R goes [] first second = tt
each_two P Q R goes (one ∷ rest) first second = (goes one first.0 second.0, each_two P Q R goes rest first.1 second.1)

pub finished_are_of_store_alone : FinishedAreOfStoreAlone
finished_are_of_store_alone view behind right numbers =
    let events = behind.before ++ behind.events in
    each_two (IsFinished view) (IsHandedOut view.config (world_at view.config behind.openings) events) (IsOfStoreAlone view.config behind.openings events behind.state)
    (λ one finished handed. handed_alone view.config behind.openings events behind.state one (record { played = behind.played; numbers = numbers }) finished.there handed) view.mine right.mine behind.handed
