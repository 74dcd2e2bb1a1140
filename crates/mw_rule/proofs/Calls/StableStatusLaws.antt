-- While a call is under way that has found its change's status, the request, that status and the file stay unchanged.
-- Used by: statuses_wait.
use Rattle.std.specs.Prelude.{ℕ, ◌≡◌, ◌≢◌, ◌++◌, true, List, [], ◌∷◌, Some, None}
use Rattle.std.specs.Option.{option_and_then}
use Rattle.std.proofs.Common.{refl, sym, ap, subst, ◌∙◌, inl, inr}
use Rattle.std.proofs.lemmas.Option.{none-some, option_and_then_some, same_Some}
use Rattle.mw_words.specs.declared.jobs.Job.{Job}
use Rattle.mw_world.specs.declared.outcomes.Outcome.{Outcome}
use Rattle.mw_world.specs.declared.outcomes.Outcome.TheVariants.{Good, Fail}
use Rattle.mw_actor.specs.declared.points.Point.{Point}
use Rattle.mw_actor.specs.declared.points.Point.TheVariants.{Prepare, Seal, Settle, Cancel}
use Rattle.mw_actor.specs.ActorState.{ActorState}
use Rattle.mw_actor.specs.Program.{replied, reply_at}
use Rattle.mw_world.specs.declared.config.Config.{Config}
use Rattle.mw_world.specs.Claim.Headline.{IsExecution}
use Rattle.mw_world.specs.Definition.Calls.{Called, called_at, starts_from}
use Rattle.mw_world.specs.Definition.Events.{WorldEvent, Come, Step, File as FileEvent, Hand, Restart}
use Rattle.mw_world.specs.Definition.State.{State, TenantStart, WorkerState, world_at}
use Rattle.mw_world.specs.Definition.World.{run, step}
use Rattle.mw_law_store.specs.Files.Ready.{MayCall}
use Rattle.mw_law_store.proofs.Files.Readiness.{other_events_do_not}
use Rattle.mw_law_runs.proofs.Knowledge.Updates.Preservation.{upd_else}
use Rattle.mw_law_runs.proofs.Statuses.{callers_status_stays}
use Rattle.mw_rule.specs.Calls.OtherEvents.{AreBesideFile, IsBesideFile}
use Rattle.mw_rule.specs.Calls.CallStarts.{IsAtCall}
use Rattle.mw_rule.specs.Calls.StableStatuses.{HasWaited, StatusesWait, StatusesWaitLong}
use Rattle.mw_rule.proofs.Calls.OtherEventLaws.{as_it_was, keeps_on, others_leave_files}
use Rattle.mw_rule.proofs.Calls.EventsOfWorkers.{call_leads, come_leads, hand_leads, turn_leads}

-- a request at a call has no reply
pub none_yet : (point : Point) (called : Called) → called_at point ≡ Some called → reply_at point ≡ None
none_yet (Prepare own) called is = refl
none_yet (Seal task) called is = refl
none_yet (Settle task) called is = refl
none_yet (Cancel task) called is = refl
none_yet point called is = absurd (none-some called is)

module _ (config : Config) (openings : ℕ → TenantStart) (events : List WorldEvent) (state next : State) (worker : ℕ) (actor : ActorState) (called : Called) (played : IsExecution config openings events state)
    (at : IsAtCall state worker actor called) (starts : starts_from called.call (state.cells.statuses called.change.slot) ≡ true) where
  -- the request of another worker is another one
  its_own : (other : ℕ) (another : ActorState) → (state.worker_states other).actor ≡ Some another → other ≡ worker → another ≡ actor
  its_own other another there same = same_Some another actor (sym there ∙ ap (λ (n : ℕ). (state.worker_states n).actor) same ∙ at.sits)

  record Waits (after : State) : Type 0 where
    worker_state : after.worker_states worker ≡ state.worker_states worker
    status : after.cells.statuses called.change.slot ≡ state.cells.statuses called.change.slot

  by_come : (other tenant : ℕ) (job : Job) → step config state (Come other tenant job) ≡ Some next → Waits next
  by_come other tenant job is =
      let may = other_events_do_not config state (Come other tenant job) (record { next = next; is = is }) in
      subst Waits (come_leads config state next other tenant job is)
      (record {
        worker_state = upd_else state.worker_states other worker _ (λ same. none-some actor (sym may.idle ∙ ap (λ (n : ℕ). (state.worker_states n).actor) (sym same) ∙ at.sits));
        status = refl;
      })

  by_hand : (other : ℕ) → step config state (Hand other) ≡ Some next → Waits next
  by_hand other is =
      let may = other_events_do_not config state (Hand other) (record { next = next; is = is }) in
      hand_leads config state next other Waits
      (λ another there. record {
        worker_state = upd_else state.worker_states other worker _
            (λ same. none-some may.reply (sym (none_yet actor.point called at.comes_to) ∙ ap replied (sym (its_own other may.actor may.sits (sym same))) ∙ may.stands));
        status = refl;
      }) (state.worker_states other).actor refl is

  by_step : (other : ℕ) → step config state (Step other) ≡ Some next → Waits next
  by_step other is =
      let may = other_events_do_not config state (Step other) (record { next = next; is = is }) in
      let apart : other ≢ worker = λ same. none-some called (sym may.calm ∙ ap (λ (one : ActorState). called_at one.point) (its_own other may.actor may.sits same) ∙ at.comes_to) in
      record {
        worker_state = turn_leads config state next other (λ after. after.worker_states worker ≡ state.worker_states worker) (λ another cells observation there. upd_else state.worker_states other worker _ (λ same. apart (sym same)))
            (state.worker_states other).actor refl is;
        status = callers_status_stays config openings events state next worker other actor may.actor called (Step other) played at.sits at.comes_to starts apart may.sits (inl refl) is;
      }

  caller : (other : ℕ) (outcome : Outcome) → step config state (FileEvent other outcome) ≡ Some next → MayCall state other
  caller other Good is = other_events_do_not config state (FileEvent other Good) (record { next = next; is = is })
  caller other (Fail number) is = (other_events_do_not config state (FileEvent other (Fail number)) (record { next = next; is = is })).called

  by_call : (other : ℕ) (outcome : Outcome) → IsBesideFile state actor.tenant (FileEvent other outcome) → step config state (FileEvent other outcome) ≡ Some next → Waits next
  by_call other outcome beside is =
      let may = caller other outcome is in
      let elsewhere = beside may.actor may.sits in
      let apart : other ≢ worker = λ same. elsewhere (ap (λ (one : ActorState). one.tenant) (its_own other may.actor may.sits same)) in
      record {
        worker_state = call_leads config state next other (λ after. after.worker_states worker ≡ state.worker_states worker) (λ another made there. upd_else state.worker_states other worker _ (λ same. apart (sym same)))
            outcome (state.worker_states other).actor refl is;
        status = callers_status_stays config openings events state next worker other actor may.actor called (FileEvent other outcome) played at.sits at.comes_to starts apart may.sits
            (inr (outcome, refl, elsewhere)) is;
      }

  by_event : (event : WorldEvent) → IsBesideFile state actor.tenant event → step config state event ≡ Some next → Waits next
  by_event (Come other tenant job) beside is = by_come other tenant job is
  by_event (Step other) beside is = by_step other is
  by_event (FileEvent other outcome) beside is = by_call other outcome beside is
  by_event (Hand other) beside is = by_hand other is
  by_event (Restart founds) beside is = absurd beside

pub statuses_wait : StatusesWait
statuses_wait config openings events state next worker actor called event played at starts beside is =
    let waits = by_event config openings events state next worker actor called played at starts event beside is in
    record { worker_state = waits.worker_state; status = waits.status; tenant_state = others_leave_files config state next event actor.tenant beside is }

-- a run that is extended twice is extended
run_on : (config : Config) (old between new : State) (events more : List WorldEvent) → run config old events ≡ Some between → run config between more ≡ Some new → run config old (events ++ more) ≡ Some new
run_on config old between new [] more first rest = subst (λ (state : State). run config state more ≡ Some new) (sym (same_Some old between first)) rest
run_on config old between new (event ∷ events) more first rest =
    option_and_then_some (λ one. run config one events) (step config old event) between first (λ next at on.
    ap (option_and_then (λ one. run config one (events ++ more))) at ∙ run_on config next between new events more on rest)

-- the request is still there after it has waited
pub still_at : (old new : State) (worker : ℕ) (actor : ActorState) (called : Called) → HasWaited old new worker actor.tenant called.change.slot → IsAtCall old worker actor called → IsAtCall new worker actor called
still_at old new worker actor called waited at = record { sits = ap (λ (worker_state : WorkerState). worker_state.actor) waited.worker_state ∙ at.sits; comes_to = at.comes_to }

still_starts : (old new : State) (worker : ℕ) (actor : ActorState) (called : Called) → HasWaited old new worker actor.tenant called.change.slot
    → starts_from called.call (old.cells.statuses called.change.slot) ≡ true → starts_from called.call (new.cells.statuses called.change.slot) ≡ true
still_starts old new worker actor called waited starts = ap (starts_from called.call) waited.status ∙ starts

waited_on : (one two three : State) (worker tenant slot : ℕ) → HasWaited one two worker tenant slot → HasWaited two three worker tenant slot → HasWaited one three worker tenant slot
waited_on one two three worker tenant slot first more = record {
  worker_state = more.worker_state ∙ first.worker_state;
  status = more.status ∙ first.status;
  tenant_state = keeps_on (one.tenant_states tenant) (two.tenant_states tenant) (three.tenant_states tenant) first.tenant_state more.tenant_state;
}

wait_long : (config : Config) (openings : ℕ → TenantStart) (events later : List WorldEvent) (state last : State) (worker : ℕ) (actor : ActorState) (called : Called)
    → IsExecution config openings events state → IsAtCall state worker actor called → starts_from called.call (state.cells.statuses called.change.slot) ≡ true
    → AreBesideFile config actor.tenant state later → run config state later ≡ Some last → HasWaited state last worker actor.tenant called.change.slot
wait_long config openings events [] state last worker actor called played at starts beside is =
    subst (λ (after : State). HasWaited state after worker actor.tenant called.change.slot) (same_Some state last is)
    (record { worker_state = refl; status = refl; tenant_state = as_it_was (state.tenant_states actor.tenant) })
wait_long config openings events (event ∷ later) state last worker actor called played at starts beside is =
    option_and_then_some (λ next. run config next later) (step config state event) last is (λ next leads on.
    let waited = statuses_wait config openings events state next worker actor called event played at starts beside.0 leads in
    let there : IsExecution config openings (events ++ event ∷ []) next = record {
      made = played.made;
      starts = played.starts;
      runs = run_on config (world_at config openings) state next events (event ∷ []) played.runs (ap (option_and_then (λ one. Some one)) leads);
    } in
    waited_on state next last worker actor.tenant called.change.slot waited
    (wait_long config openings (events ++ event ∷ []) later next last worker actor called there (still_at state next worker actor called waited at)
    (still_starts state next worker actor called waited starts) (beside.1 next leads) on))

pub statuses_wait_long : StatusesWaitLong
statuses_wait_long config openings events later state last worker actor called played at starts beside is =
    let waited = wait_long config openings events later state last worker actor called played at starts beside is in
    record {
      played = record { made = played.made; starts = played.starts; runs = run_on config (world_at config openings) state last events later played.runs is };
      waited = waited;
      at_call = still_at state last worker actor called waited at;
      starts = still_starts state last worker actor called waited starts;
    }
