-- What a call's event leaves of its request, and of the world besides the shared words.
-- Used by: requests_go_on_from_calls, calls_change_no_more, mw_table, mw_law_threads.
use Rattle.std.specs.Prelude.{ℕ, ◌≡◌, Bool, true, false, cond, if◌then◌else◌, List, Option, Some, None}
use Rattle.std.proofs.Common.{refl, ap, subst, ◌∙◌}
use Rattle.std.proofs.lemmas.Option.{none-some, same_Some}
use Rattle.mw_words.specs.declared.statuses.Status.{Status}
use Rattle.mw_words.specs.declared.replies.Reply.TheVariants.{Fault as SaysFault}
use Rattle.mw_lone.specs.declared.marks.Mark.{Mark}
use Rattle.mw_look.specs.declared.observations.Observation.TheVariants.{Filed}
use Rattle.mw_look.specs.declared.steps.Call.{Call}
use Rattle.mw_look.specs.declared.steps.Call.TheVariants.{Prepare as PrepareCall, Seal as SealCall, Settle as SettleCall, Cancel as CancelCall}
use Rattle.mw_look.specs.Steps.{File as FileStep}
use Rattle.mw_actor.specs.declared.points.Point.{Point}
use Rattle.mw_actor.specs.declared.points.Point.TheVariants.{Prepare, Seal, Settle, Cancel, GiveUp, ReadTargetStatus, Unpin}
use Rattle.mw_actor.specs.declared.points.Slot.{Slot}
use Rattle.mw_actor.specs.declared.points.After.TheVariants.{GiveUp as ThenGiveUp}
use Rattle.mw_actor.specs.ActorState.{ActorState, alone, is_alone}
use Rattle.mw_actor.specs.Asks.{asks_at}
use Rattle.mw_actor.specs.RequestEnds.{gives_up}
use Rattle.mw_actor.specs.Program.{goes, reply_at, tells}
use Rattle.mw_world.specs.declared.outcomes.Outcome.{Outcome}
use Rattle.mw_world.specs.declared.outcomes.Outcome.TheVariants.{Good, Fail}
use Rattle.mw_world.specs.Files.State.{File}
use Rattle.mw_world.specs.declared.step_labels.StepLabel.{StepLabel}
use Rattle.mw_world.specs.declared.step_labels.StepLabel.TheVariants.{Nothing}
use Rattle.mw_world.specs.Definition.Calls.{Called, breaks, called_at, can_be_made, calls_made, ends, fails_on, fault_label, faults, goes_well, good_label, is_made, place_for, skips, starts_from}
use Rattle.mw_world.specs.Definition.History.{History}
use Rattle.mw_world.specs.Definition.LabelEffects.{with_label, with_intent, with_labels}
use Rattle.mw_world.specs.Definition.State.{WorkerState, State}
use Rattle.mw_world.specs.Definition.Turns.{Made, moved, next_attempt}
use Rattle.mw_law_runs.proofs.Knowledge.Updates.Preservation.{upd_here, upd_else}
use Rattle.mw_rule.specs.Calls.CallEnds.{CallsChangeNoMore, RequestsGoOnFromCalls}
use Rattle.mw_rule.proofs.Calls.StableStatusLaws.{none_yet}

-- What a call means leaves its worker's state.
abbrev pub LeavesWorkerState : StepLabel → Type 0
LeavesWorkerState label = (past : History) (lines : List (Option Mark)) (worker_state : WorkerState) → with_labels label past lines worker_state ≡ worker_state

pub good_leaves : (call : Call) (change : Slot) (status : Status) → LeavesWorkerState (good_label call change status)
good_leaves PrepareCall change status past lines worker_state = refl
good_leaves SealCall change status past lines worker_state = refl
good_leaves SettleCall change status past lines worker_state = refl
good_leaves CancelCall change status past lines worker_state = refl

pub fault_leaves : (call : Call) (change : Slot) → LeavesWorkerState (fault_label call change)
fault_leaves PrepareCall change past lines worker_state = refl
fault_leaves SealCall change past lines worker_state = refl
fault_leaves SettleCall change past lines worker_state = refl
fault_leaves CancelCall change past lines worker_state = refl

module _ (state : State) (actor : ActorState) (change : Slot) (file : File) (call : Call) (status : Status) (place calls : ℕ) (made : Made) where
  by_fault : (test : Bool) → (if test then Some (breaks state actor change file call place) else None) ≡ Some made → LeavesWorkerState made.label
  by_fault true is = subst (λ (one : Made). LeavesWorkerState one.label) (same_Some _ made is) (fault_leaves call change)
  by_fault false is = absurd (none-some made is)

  by_ends : (starts had_failed can : Bool) (outcome : Outcome) → ends state actor change file starts had_failed can call status place calls outcome ≡ Some made → LeavesWorkerState made.label
  by_ends false had_failed can Good is = subst (λ (one : Made). LeavesWorkerState one.label) (same_Some (skips state actor change file) made is) (λ past lines worker_state. refl)
  by_ends false had_failed can (Fail number) is = absurd (none-some made is)
  by_ends true true can Good is = subst (λ (one : Made). LeavesWorkerState one.label) (same_Some (faults state actor change file file Nothing) made is) (λ past lines worker_state. refl)
  by_ends true true can (Fail number) is = absurd (none-some made is)
  by_ends true false true Good is = subst (λ (one : Made). LeavesWorkerState one.label) (same_Some (goes_well state actor change file call status place) made is) (good_leaves call change _)
  by_ends true false true (Fail number) is = by_fault (is_made calls number) is
  by_ends true false false outcome is = absurd (none-some made is)

-- the next attempt keeps its number over a call
pub same_attempt : (point : Point) (called : Called) → called_at point ≡ Some called → (number : ℕ) → next_attempt point number ≡ number
same_attempt (Prepare own) called is number = refl
same_attempt (Seal task) called is number = refl
same_attempt (Settle task) called is number = refl
same_attempt (Cancel task) called is number = refl
same_attempt point called is number = absurd (none-some called is)

-- the worker after a call
pub worker_state_after : (state : State) (worker : ℕ) (actor : ActorState) (called : Called) (made : Made) → called_at actor.point ≡ Some called → LeavesWorkerState made.label
    → (moved state worker actor made).worker_states worker ≡ record (state.worker_states worker) { actor = Some (tells actor made.observation (state.worker_states worker).attempt) }
worker_state_after state worker actor called made at leaves =
    let worker_state = state.worker_states worker in
    let number = same_attempt actor.point called at worker_state.attempt in
    upd_here state.worker_states worker _
    ∙ (λ i. record (leaves state.history (state.tenant_states actor.tenant).lines worker_state i) { actor = Some (tells actor made.observation (number i)); attempt = number i })

pub calls_change_no_more : CallsChangeNoMore
calls_change_no_more config state worker actor called outcome made at is =
    let tenant_state = state.tenant_states actor.tenant in
    let file = tenant_state.file in
    let status = state.cells.statuses called.change.slot in
    let place = place_for called.call file tenant_state.quota called.change.slot in
    let worker_state = state.worker_states worker in
    let number = same_attempt actor.point called at worker_state.attempt in
    let leaves = by_ends state actor called.change file called.call status place (calls_made called.call status file place) made (starts_from called.call status) (fails_on called.call file)
    (can_be_made called.call file tenant_state.quota place _) outcome is in
    record {
      cells = refl;
      worker_state = worker_state_after state worker actor called made at leaves;
      worker_states = λ other apart. upd_else state.worker_states worker other _ apart;
      tenant_state = upd_here state.tenant_states actor.tenant _;
      tenant_states = λ tenant apart. upd_else state.tenant_states actor.tenant tenant _ apart;
      history = λ i. with_intent (with_label made.label worker actor worker_state.request state.history) worker (tells actor made.observation (number i));
    }

-- After a call has ended the request has no reply yet.
either_unreplied : (test : Bool) (one other : Point) → reply_at one ≡ None → reply_at other ≡ None → reply_at (cond test one other) ≡ None
either_unreplied true one other is isnt = is
either_unreplied false one other is isnt = isnt

onward : (actor : ActorState) (point : Point) (called : Called) (went_well : Bool) (number : ℕ) → called_at point ≡ Some called → reply_at (goes actor number point (Filed went_well)) ≡ None
onward actor (Prepare own) called went_well number is = either_unreplied went_well (ReadTargetStatus (alone own)) (GiveUp own SaysFault) refl refl
onward actor (Seal task) called went_well number is =
    either_unreplied went_well (ReadTargetStatus task) (gives_up task SaysFault) refl (either_unreplied (is_alone task) (GiveUp task.own SaysFault) (Unpin task.target (ThenGiveUp task.own SaysFault)) refl refl)
onward actor (Settle task) called went_well number is =
    either_unreplied went_well (ReadTargetStatus task) (gives_up task SaysFault) refl (either_unreplied (is_alone task) (GiveUp task.own SaysFault) (Unpin task.target (ThenGiveUp task.own SaysFault)) refl refl)
onward actor (Cancel task) called went_well number is = refl
onward actor point called went_well number is = absurd (none-some called is)

asked_there : (actor : ActorState) (point : Point) (called : Called) → called_at point ≡ Some called → asks_at actor point ≡ FileStep called.call called.change.slot
asked_there actor (Prepare own) called is = ap (λ (one : Called). FileStep one.call one.change.slot) (same_Some (record { call = PrepareCall; change = own }) called is)
asked_there actor (Seal task) called is = ap (λ (one : Called). FileStep one.call one.change.slot) (same_Some (record { call = SealCall; change = task.target }) called is)
asked_there actor (Settle task) called is = ap (λ (one : Called). FileStep one.call one.change.slot) (same_Some (record { call = SettleCall; change = task.target }) called is)
asked_there actor (Cancel task) called is = ap (λ (one : Called). FileStep one.call one.change.slot) (same_Some (record { call = CancelCall; change = task.target }) called is)
asked_there actor point called is = absurd (none-some called is)

pub requests_go_on_from_calls : RequestsGoOnFromCalls
requests_go_on_from_calls actor called is = record {
  asked = asked_there actor actor.point called is;
  unreplied = none_yet actor.point called is;
  attempt = same_attempt actor.point called is;
  onward = λ went_well number. onward actor actor.point called went_well number is;
}
