-- Every event keeps the world facts (`specs/WorldFacts`: faults, down tenants, requests that give up, reads), so they hold
-- after every run.
-- Used by: runs_have_world_facts, mw_law_threads.
pub mod Calls
pub mod Histories
pub mod Inside
pub mod Points
pub mod Requests
pub mod Turns
use Rattle.std.specs.Prelude.{ℕ, ◌≡◌, ◌≢◌, ◌⊎◌, true, false, List, [], ◌∷◌, Option, Some, None}
use Rattle.std.specs.Option.{option_and_then}
use Rattle.std.proofs.Common.{refl, sym, ap, subst, ◌∙◌, inl, inr}
use Rattle.mw_words.specs.declared.jobs.Job.{Job}
use Rattle.mw_words.specs.declared.jobs.Job.TheVariants.{Get, Cas}
use Rattle.mw_words.specs.declared.replies.Reply.{Reply}
use Rattle.mw_actor.specs.ActorState.{ActorState, first}
use Rattle.mw_actor.specs.Program.{replied}
use Rattle.mw_world.specs.declared.config.Config.{Config}
use Rattle.mw_world.specs.Definition.Events.{WorldEvent, Come, Step, File, Hand, Restart}
use Rattle.mw_world.specs.Definition.Requests.{came, gave}
use Rattle.mw_world.specs.Definition.Restarts.{restarted}
use Rattle.mw_world.specs.Definition.State.{State, TenantState, IsConfig, WorkerState, started, world_at}
use Rattle.mw_world.specs.Definition.World.{come, hand, handed, may_come, run, step}
use Rattle.mw_world.specs.Maps.{upd}
use Rattle.mw_law_runs.proofs.Counts.Startable.{may_start}
use Rattle.mw_law_runs.proofs.Knowledge.Updates.Preservation.{upd_else, upd_here}
use Rattle.mw_law_runs.specs.Files.{FilesFit}
use Rattle.mw_law_runs.specs.RunInvariant.{IsSound}
use Rattle.mw_law_runs.proofs.Numbers.{same_or_other}
use Rattle.mw_law_runs.proofs.Obligations.Pins.{none_some, some_same}
use Rattle.mw_law_runs.proofs.RunsAreSound.{events_keep_sound, runs_are_sound}
use Rattle.mw_law_runs.proofs.GuardedEvents.{guarded}
use Rattle.mw_law_store.specs.Files.Files.{HasFiles}
use Rattle.mw_law_store.proofs.Files.ArrivalsAndStarts.{first_starts_have_files}
use Rattle.mw_law_store.proofs.Files.RunsKeepFiles.{events_keep_files}
use Rattle.mw_law_store.specs.WorldFacts.{HasWorldFacts, HasSeenAt, HasRequestFacts}
use Rattle.mw_law_store.specs.Laws.{EventsKeepWorldFacts, RunsHaveWorldFacts}
use Rattle.mw_law_store.proofs.WorldFactLaws.Calls.{calls_keep_world_facts}
use Rattle.mw_law_store.proofs.WorldFactLaws.Histories.{FaultFacts, failed_of, more_fail, up_of}
use Rattle.mw_law_store.proofs.WorldFactLaws.Requests.{StaysFailed, failed_set, spoils_of, up_set}
use Rattle.mw_law_store.proofs.WorldFactLaws.Turns.{turns_keep_world_facts}

false_true : false ≡ true → ⊥
false_true e = cc

-- At a start nothing was claimed, and no worker has a request.
pub started_world_facts : (config : Config) (tenant_states : ℕ → TenantState) → HasWorldFacts (started config tenant_states)
started_world_facts config tenant_states = record {
  unclaimed = λ slot seq is. refl;
  fault_decided = λ slot seq is. absurd (false_true is);
  left = λ slot seq is. absurd (false_true is);
  up = λ slot seq is. absurd (false_true is);
  worker_states = λ worker actor sits. absurd (none_some actor sits);
}

-- A request that begins has read nothing, and is not inside.
first_with_facts : (state : State) (worker tenant quota pool : ℕ) (job : Job) → HasRequestFacts state (first worker tenant quota pool job)
first_with_facts state worker tenant quota pool (Get address) = record { fault = λ is. absurd (false_true is); up = λ is. absurd (false_true is); seen = tt }
first_with_facts state worker tenant quota pool (Cas entries) = record { fault = λ is. absurd (false_true is); up = λ is. absurd (false_true is); seen = tt }

-- An event that leaves the history, the files and all requests but one keeps the world facts, if that request has its own.
module _ (state next : State) (worker : ℕ) (world_facts : HasWorldFacts state) (same : next.history ≡ state.history) (stays : StaysFailed state next)
    (others : (other : ℕ) → other ≢ worker → (next.worker_states other).actor ≡ (state.worker_states other).actor) where
  still : (actor : ActorState) → HasRequestFacts state actor → HasRequestFacts next actor
  still actor before = record {
    fault = λ is. stays.failed actor.tenant (before.fault is);
    up = λ is. stays.up actor.tenant ∙ before.up is;
    seen = subst (λ past. HasSeenAt past actor.point) (sym same) before.seen;
  }

  spoils_still : FaultFacts next.history (failed_of next.tenant_states) (up_of next.tenant_states)
  spoils_still =
      more_fail next.history (failed_of state.tenant_states) (up_of state.tenant_states) (subst (λ past. FaultFacts past (failed_of state.tenant_states) (up_of state.tenant_states)) (sym same) (spoils_of state world_facts))
      (failed_of next.tenant_states) (up_of next.tenant_states) stays.failed stays.up

  seated_world_facts : ((actor : ActorState) → (next.worker_states worker).actor ≡ Some actor → HasRequestFacts next actor) → HasWorldFacts next
  seated_world_facts itself = record {
    unclaimed = spoils_still.unclaimed;
    fault_decided = spoils_still.failed;
    left = spoils_still.left_it;
    up = spoils_still.up;
    worker_states = λ other actor sits. by_worker other actor sits (same_or_other other worker);
  }
    where
      by_worker : (other : ℕ) (actor : ActorState) → (next.worker_states other).actor ≡ Some actor → (other ≡ worker) ⊎ (other ≢ worker) → HasRequestFacts next actor
      by_worker other actor sits (inl is) = itself actor (subst (λ (n : ℕ). (next.worker_states n).actor ≡ Some actor) is sits)
      by_worker other actor sits (inr apart) = still actor (world_facts.worker_states other actor (sym (others other apart) ∙ sits))

module _ (config : Config) (state next : State) (world_facts : HasWorldFacts state) where
  -- a tenant's state with other lines
  stays_failed : (one : State) (tenant : ℕ) (tenant_state : TenantState) → tenant_state.file ≡ (state.tenant_states tenant).file → tenant_state.is_up ≡ (state.tenant_states tenant).is_up
      → one.tenant_states ≡ upd state.tenant_states tenant tenant_state → StaysFailed state one
  stays_failed one tenant tenant_state file up is = record {
    failed = λ other failed.
        ap (λ tenant_states. failed_of tenant_states other) is ∙ failed_set state.tenant_states tenant other tenant_state (λ was. ap (λ file. file.has_failed) file ∙ was) failed;
    up = λ other. ap (λ tenant_states. up_of tenant_states other) is ∙ up_set state.tenant_states tenant other tenant_state up;
  }

  comes_keep : (worker tenant : ℕ) (job : Job) → come config state worker tenant job ≡ Some next → HasWorldFacts next
  comes_keep worker tenant job is =
      guarded HasWorldFacts (may_come config state worker tenant job) (came config state worker tenant job) next
      (λ may. seated_world_facts state (came config state worker tenant job) worker world_facts refl (stays_failed (came config state worker tenant job) tenant _ refl refl refl)
      (λ other apart. ap (λ (worker_state : WorkerState). worker_state.actor) (upd_else state.worker_states worker other _ apart))
      (λ actor sits.
      subst (HasRequestFacts (came config state worker tenant job)) (some_same _ actor (sym (ap (λ (worker_state : WorkerState). worker_state.actor) (upd_here state.worker_states worker _)) ∙ sits))
      (first_with_facts (came config state worker tenant job) worker tenant (state.tenant_states tenant).quota config.pool job))) is

  given : (worker tenant : ℕ) (reply : Option Reply) → handed state worker tenant reply ≡ Some next → HasWorldFacts next
  given worker tenant None is = absurd (none_some next is)
  given worker tenant (Some reply) is =
      subst HasWorldFacts (some_same (gave state worker tenant) next is)
      (seated_world_facts state (gave state worker tenant) worker world_facts refl (stays_failed (gave state worker tenant) tenant _ refl refl refl)
      (λ other apart. ap (λ (worker_state : WorkerState). worker_state.actor) (upd_else state.worker_states worker other _ apart))
      (λ actor sits. absurd (none_some actor (sym (ap (λ (worker_state : WorkerState). worker_state.actor) (upd_here state.worker_states worker _)) ∙ sits))))

  hands_keep : (worker : ℕ) (found : Option ActorState) → hand state worker found ≡ Some next → HasWorldFacts next
  hands_keep worker None is = absurd (none_some next is)
  hands_keep worker (Some actor) is = given worker actor.tenant (replied actor) is

pub events_keep_world_facts : EventsKeepWorldFacts
events_keep_world_facts config state next (Come worker tenant job) made sound fit has world_facts is = comes_keep config state next world_facts worker tenant job is
events_keep_world_facts config state next (Step worker) made sound fit has world_facts is = turns_keep_world_facts config state next worker sound has world_facts is
events_keep_world_facts config state next (File worker outcome) made sound fit has world_facts is = calls_keep_world_facts config state next worker outcome sound world_facts is
events_keep_world_facts config state next (Hand worker) made sound fit has world_facts is = hands_keep config state next world_facts worker (state.worker_states worker).actor is
events_keep_world_facts config state next (Restart founds) made sound fit has world_facts is =
    guarded HasWorldFacts (may_start config state founds) (restarted config state founds) next
    (λ may. started_world_facts config _) is

runs_go_on : (config : Config) (events : List WorldEvent) (state last : State) → IsConfig config → IsSound config state → FilesFit state → HasFiles config state → HasWorldFacts state
    → run config state events ≡ Some last → HasWorldFacts last
runs_go_on config [] state last made sound fit has world_facts is = subst HasWorldFacts (some_same state last is) world_facts
runs_go_on config (event ∷ events) state last made sound fit has world_facts is = by_step (step config state event) refl is (λ next. runs_go_on config events next last made)
  where
    by_step : (found : Option State) → step config state event ≡ found → option_and_then (λ next. run config next events) found ≡ Some last
        → ((next : State) → IsSound config next → FilesFit next → HasFiles config next → HasWorldFacts next → run config next events ≡ Some last → HasWorldFacts last) → HasWorldFacts last
    by_step None stepped came goes_on = absurd (none_some last came)
    by_step (Some next) stepped came goes_on =
        let both = events_keep_sound config state next event made sound fit stepped in
        goes_on next both.0 both.1 (events_keep_files config state next event sound has stepped) (events_keep_world_facts config state next event made sound fit has world_facts stepped) came

pub runs_have_world_facts : RunsHaveWorldFacts
runs_have_world_facts config openings events state played =
    let start = world_at config openings in
    let first = runs_are_sound config openings [] start (record { made = played.made; starts = played.starts; runs = refl }) in
    runs_go_on config events start state played.made first.0 first.1 (first_starts_have_files config openings played.starts) (started_world_facts config _) played.runs
