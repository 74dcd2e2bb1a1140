-- Every event of a world, and so every run of events, keeps the invariant of counts, if what this invariant rests on
-- (`CountsRestOn`) holds.
-- Used by: events_keep_counts, runs_keep_counts, starts_count_right.
use Rattle.std.specs.Prelude.{◌≡◌, List, [], ◌∷◌, ◌++◌, Option, Some, None}
use Rattle.std.specs.Option.{option_and_then}
use Rattle.std.proofs.Common.{refl, ap, subst, ◌∙◌}
use Rattle.mw_world.specs.declared.config.Config.{Config}
use Rattle.mw_world.specs.Definition.Events.{WorldEvent, Come, Step, File, Hand, Restart}
use Rattle.mw_world.specs.Definition.State.{State, tenant_state_at, world_at}
use Rattle.mw_world.specs.Definition.World.{step, run}
use Rattle.mw_law_runs.specs.Counts.CountInvariant.{CountsStand, CountsRestOn}
use Rattle.mw_law_runs.specs.Counts.Laws.{EventsKeepCounts, RunsKeepCounts, RunsLeaveRoom, StartsStand}
use Rattle.mw_law_runs.proofs.Counts.FileCallsKeepCounts.{call_keeps}
use Rattle.mw_law_runs.proofs.Counts.Room.{doors-count-the-taken, who-waits-has-room}
use Rattle.mw_law_runs.proofs.Counts.RequestsAndStarts.{start_stands, come_keeps, hand_keeps, restart_keeps}
use Rattle.mw_law_runs.proofs.Counts.StepsKeepCounts.{turn_keeps}

pub openings_stand : StartsStand
openings_stand config openings starts = start_stands config (λ tenant. tenant_state_at (openings tenant)) starts.quotas

pub step_keeps : EventsKeepCounts
step_keeps config state (Come worker tenant job) next stand rest e = come_keeps config state worker tenant job next stand e
step_keeps config state (Step worker) next stand rest e = turn_keeps config state worker stand rest (state.worker_states worker).actor next refl e
step_keeps config state (File worker outcome) next stand rest e = call_keeps config state worker stand (state.worker_states worker).actor outcome next refl e
step_keeps config state (Hand worker) next stand rest e = hand_keeps config state worker (state.worker_states worker).actor next stand refl e
step_keeps config state (Restart founds) next stand rest e = restart_keeps config state founds next e

none_some : {A : Type 0} (x : A) → None ≡ Some x → ⊥
none_some x e = cc

same_some : {A : Type 0} (one other : A) → Some one ≡ Some other → one ≡ other
same_some one other is = cc

-- what a run keeps from its first event on, if it keeps it after that event
abbrev Keeps : Config → List WorldEvent → State → State → Type 0
Keeps config events state start = CountsStand config start
    → ((first rest : List WorldEvent) (between : State) → events ≡ first ++ rest → run config start first ≡ Some between → CountsRestOn between)
    → run config start events ≡ Some state → CountsStand config state

one_more : (config : Config) (start : State) (event : WorldEvent) (events : List WorldEvent) (state : State) (stepped : Option State) → ((next : State) → Keeps config events state next)
    → CountsStand config start
    → ((first rest : List WorldEvent) (between : State) → event ∷ events ≡ first ++ rest → run config start first ≡ Some between → CountsRestOn between)
    → step config start event ≡ stepped → option_and_then (λ next. run config next events) stepped ≡ Some state → CountsStand config state
one_more config start event events state None more stand rests steps e = absurd (none_some state e)
one_more config start event events state (Some next) more stand rests steps e =
    more next (step_keeps config start event next stand (rests [] (event ∷ events) start refl refl) steps)
    (λ first rest between splits runs. rests (event ∷ first) rest between (ap (λ l. event ∷ l) splits) (ap (λ o. option_and_then (λ after. run config after first) o) steps ∙ runs))
    e

-- a run from any world in which the invariant of counts holds
from_here : (config : Config) (events : List WorldEvent) (state start : State) → Keeps config events state start
from_here config [] state start stand rests is = subst (CountsStand config) (same_some start state is) stand
from_here config (event ∷ events) state start stand rests is =
    one_more config start event events state (step config start event) (from_here config events state) stand rests refl is

pub run_keeps : RunsKeepCounts
run_keeps config openings events state rests played =
    from_here config events state (world_at config openings) (openings_stand config openings played.starts) rests played.runs

pub run_leaves_room : RunsLeaveRoom
run_leaves_room config openings events state rests played =
    let stand : CountsStand config state = run_keeps config openings events state rests played in
    record {
      room = doors-count-the-taken config state stand;
      free = λ worker actor is waits. who-waits-has-room config state worker actor stand is waits;
    }
