-- A call on a tenant's file keeps a world sound (`IsSound`, this crate's invariant), however the call ends.
-- Used by: calls_keep_sound, mw_law_store.
use Rattle.std.specs.Prelude.{ℕ, ◌≡◌, Bool, true, false, if◌then◌else◌, ◌++◌, [], ◌∷◌, Option, Some, None}
use Rattle.std.proofs.Common.{refl, sym, ap, subst, ◌∙◌}
use Rattle.mw_words.specs.declared.statuses.Status.{Status}
use Rattle.mw_words.specs.declared.statuses.Status.TheVariants.{No}
use Rattle.mw_look.specs.declared.observations.Observation.{Observation}
use Rattle.mw_look.specs.declared.observations.Observation.TheVariants.{Filed}
use Rattle.mw_look.specs.declared.steps.Call.{Call}
use Rattle.mw_look.specs.declared.steps.Call.TheVariants.{Prepare as PrepareCall, Seal as SealCall, Settle as SettleCall, Cancel as CancelCall}
use Rattle.mw_look.specs.Observations.{IsObservationInRange}
use Rattle.mw_actor.specs.declared.points.Slot.{Slot}
use Rattle.mw_actor.specs.ActorState.{ActorState, own_entries}
use Rattle.mw_actor.proofs.RangeLaws.{tells_in_range}
use Rattle.mw_world.specs.declared.outcomes.Outcome.{Outcome}
use Rattle.mw_world.specs.declared.outcomes.Outcome.TheVariants.{Good, Fail}
use Rattle.mw_world.specs.declared.config.Config.{Config}
use Rattle.mw_world.specs.Definition.Calls.{Called, call, call_if, called_at, calling, ends, moved_if, starts_from, fails_on, place_for, can_be_made, calls_made, is_made, skips, faults, goes_well, breaks}
use Rattle.mw_world.specs.Definition.Cells.{Cells}
use Rattle.mw_world.specs.declared.step_labels.StepLabel.TheVariants.{Nothing}
use Rattle.mw_world.specs.Definition.Extent.{has_slot}
use Rattle.mw_world.specs.Definition.Events.{File as FileEvent}
use Rattle.mw_world.specs.Definition.State.{State, WorkerState}
use Rattle.mw_world.specs.Definition.Turns.{Made, moved, next_attempt}
use Rattle.mw_law_runs.specs.Moves.Guards.{Guards}
use Rattle.mw_law_runs.specs.Moves.Memory.{Memory}
use Rattle.mw_law_runs.specs.Moves.Moves.{SetDoor, made_all}
use Rattle.mw_law_runs.specs.Moves.Rely.{Rely}
use Rattle.mw_law_runs.specs.Moves.StepMoves.{SameMemory, broken_moves, call_observation, faulted, moves_called, moves_of_call, next_of, set_intent, status_moves}
use Rattle.mw_law_runs.proofs.Moves.CallMoves.{calls_are_moves}
use Rattle.mw_law_runs.proofs.Moves.MovesKeepMemory.{moves_keep}
use Rattle.mw_law_runs.proofs.Moves.Relied.{others_rely_on_all}
use Rattle.mw_law_runs.proofs.Moves.Shared.{memory_is_shared, reliance_is_shared}
use Rattle.mw_law_runs.proofs.Moves.WorkerPermissions.{events_tell_points}
use Rattle.mw_law_runs.proofs.Counts.RunsKeepCounts.{step_keeps}
use Rattle.mw_law_runs.specs.Knowledge.Informed.{IsInformed}
use Rattle.mw_law_runs.specs.Knowledge.Laws.{StaysTaken}
use Rattle.mw_law_runs.proofs.Knowledge.Updates.Preservation.{gates_same, upd_here, upd_else}
use Rattle.mw_law_runs.specs.Knowledge.Calls.{told_of_call}
use Rattle.mw_law_runs.proofs.Knowledge.Calls.AfterCalls.{calls_inform}
use Rattle.mw_law_runs.proofs.Knowledge.Calls.CallGuards.{calls_have_guards}
use Rattle.mw_law_runs.specs.Obligations.{OneStepped}
use Rattle.mw_law_runs.proofs.Obligations.FileCalls.{calls_keep_releasers}
use Rattle.mw_law_runs.specs.Laws.{CallsKeepSound}
use Rattle.mw_law_runs.specs.RunInvariant.{IsSound, IsSoundRequest}
use Rattle.mw_law_runs.proofs.Others.{requests_stay}
use Rattle.mw_law_runs.proofs.RequestRanges.{look_goes, job_goes}
use Rattle.mw_law_runs.proofs.RequestsInWorlds.{have_their_requests, rest_on}
use Rattle.mw_law_runs.proofs.SharedMemory.{stands_shared}
use Rattle.mw_law_runs.proofs.GuardedEvents.{if_slot}

-- how a call ends is in range
filed_in_range : (starts had_failed : Bool) (outcome : Outcome) → IsObservationInRange (call_observation starts had_failed outcome)
filed_in_range false had_failed outcome = tt
filed_in_range true true outcome = tt
filed_in_range true false Good = tt
filed_in_range true false (Fail number) = tt

module _ (state : State) (worker : ℕ) (actor : ActorState) where
  -- a step of a worker's request that learns this
  made_steps : (made : Made) → OneStepped state (moved state worker actor made) worker (next_of state worker actor made.observation)
  made_steps made = record {
    goes_on = ap (λ (worker_state : WorkerState). worker_state.actor) (upd_here state.worker_states worker _);
    others = λ other apart. ap (λ (worker_state : WorkerState). worker_state.actor) (upd_else state.worker_states worker other _ apart);
  }

  some_same : (one next : State) → Some one ≡ Some next → one ≡ next
  some_same one next is = cc

  none_some : (next : State) → None ≡ Some next → ⊥
  none_some next e = cc

  after_made : (made : Made) (observation : Observation) (next : State) → made.observation ≡ observation → moved_if state worker actor (Some made) ≡ Some next → OneStepped state next worker (next_of state worker actor observation)
  after_made made observation next same is =
      subst (λ (one : State). OneStepped state one worker (next_of state worker actor observation)) (some_same (moved state worker actor made) next is)
      (subst (λ (one : Observation). OneStepped state (moved state worker actor made) worker (next_of state worker actor one)) same (made_steps made))

  after_none : (observation : Observation) (next : State) → moved_if state worker actor None ≡ Some next → OneStepped state next worker (next_of state worker actor observation)
  after_none observation next is = absurd (none_some next is)

  broken_if : (test : Bool) (call : Call) (change : Slot) (place : ℕ) (next : State)
      → moved_if state worker actor (if test then Some (breaks state actor change (state.tenant_states actor.tenant).file call place) else None) ≡ Some next
      → OneStepped state next worker (next_of state worker actor (Filed false))
  broken_if true call change place next is = after_made (breaks state actor change (state.tenant_states actor.tenant).file call place) (Filed false) next refl is
  broken_if false call change place next is = after_none (Filed false) next is

  -- a call, by whether it starts, whether the file had failed, and whether it can be made
  ended : (starts had_failed can_be : Bool) (call : Call) (change : Slot) (status : Status) (place calls : ℕ) (outcome : Outcome) (next : State)
      → moved_if state worker actor (ends state actor change (state.tenant_states actor.tenant).file starts had_failed can_be call status place calls outcome) ≡ Some next
      → OneStepped state next worker (next_of state worker actor (call_observation starts had_failed outcome))
  ended false had_failed can_be call change status place calls Good next is = after_made (skips state actor change (state.tenant_states actor.tenant).file) (Filed true) next refl is
  ended false had_failed can_be call change status place calls (Fail number) next is = after_none (Filed true) next is
  ended true true can_be call change status place calls Good next is =
      after_made (faults state actor change (state.tenant_states actor.tenant).file (state.tenant_states actor.tenant).file Nothing) (Filed false) next refl is
  ended true true can_be call change status place calls (Fail number) next is = after_none (Filed false) next is
  ended true false true call change status place calls Good next is = after_made (goes_well state actor change (state.tenant_states actor.tenant).file call status place) (Filed true) next refl is
  ended true false true call change status place calls (Fail number) next is = broken_if (is_made calls number) call change place next is
  ended true false false call change status place calls outcome next is = after_none (call_observation true false outcome) next is

module _ (state : State) (worker : ℕ) (actor : ActorState) (called : Called) where
  -- a call changes no gate
  good_gates : (call : Call) (status : Status) → (made_all state worker (status_moves call called.change status ++ set_intent actor ∷ [])).cells.gates ≡ state.cells.gates
  good_gates PrepareCall status = refl
  good_gates SealCall status = refl
  good_gates SettleCall status = refl
  good_gates CancelCall (No entry value) = refl
  good_gates CancelCall status = refl

  bad_gates : (call : Call) → (made_all state worker (SetDoor actor.tenant (faulted state actor.tenant) ∷ broken_moves call called.change ++ set_intent actor ∷ [])).cells.gates ≡ state.cells.gates
  bad_gates SealCall = refl
  bad_gates call = refl

module _ (state : State) (worker : ℕ) (actor : ActorState) (called : Called) (status : Status) where
  call_gates : (starts had_failed : Bool) (outcome : Outcome) → (made_all state worker (moves_called state worker actor called status starts had_failed outcome)).cells.gates ≡ state.cells.gates
  call_gates false had_failed outcome = refl
  call_gates true true outcome = refl
  call_gates true false Good = good_gates state worker (next_of state worker actor (Filed true)) called called.call status
  call_gates true false (Fail number) = bad_gates state worker (next_of state worker actor (Filed false)) called called.call

module _ (config : Config) (state next : State) (actor : ActorState) (called : Called) (outcome : Outcome) (sound : IsSound config state) (sits : (state.worker_states actor.worker).actor ≡ Some actor)
    (at : called_at actor.point ≡ Some called) (is : call config state actor.worker (Some actor) outcome ≡ Some next) where
  informed : IsInformed config state actor
  informed = (have_their_requests config state sound actor.worker actor sits).informed

  guards : Guards config state actor.worker (moves_of_call state actor.worker actor called outcome)
  guards = calls_have_guards config state actor called outcome informed at

  abbrev after : State
  after = made_all state actor.worker (moves_of_call state actor.worker actor called outcome)

  abbrev later_actor : ActorState
  later_actor = next_of state actor.worker actor (told_of_call state actor called outcome)

  same : SameMemory next after
  same = calls_are_moves config state next actor.worker actor called outcome at is

  pub stepped : OneStepped state next actor.worker later_actor
  stepped =
      let file = (state.tenant_states actor.tenant).file in
      let places = (state.tenant_states actor.tenant).quota in
      let status = state.cells.statuses called.change.slot in
      let place = place_for called.call file places called.change.slot in
      ended state actor.worker actor (starts_from called.call status) (fails_on called.call file) (can_be_made called.call file places place (own_entries actor))
      called.call called.change status place (calls_made called.call status file place) outcome next
      (if_slot (has_slot config called.change.slot) (moved_if state actor.worker actor (calling config state actor called outcome)) next
      (subst (λ (found : Option Called). call_if config state actor.worker actor found outcome ≡ Some next) at is))

  memory_after : Memory config after
  memory_after = moves_keep config state actor.worker (moves_of_call state actor.worker actor called outcome) guards sound.memory

  pub later : Rely actor.worker state next
  later = reliance_is_shared actor.worker state next after same (others_rely_on_all config state actor.worker (moves_of_call state actor.worker actor called outcome) guards sound.memory)

  itself : IsSoundRequest next later_actor
  itself =
      let observation = told_of_call state actor called outcome in
      let number = next_attempt actor.point (state.worker_states actor.worker).attempt in
      let in_range = filed_in_range (starts_from called.call (state.cells.statuses called.change.slot)) (fails_on called.call (state.tenant_states actor.tenant).file) outcome in
      record {
        in_range = tells_in_range actor observation number informed.in_range in_range;
        look_in_range = look_goes actor number actor.point observation informed.look_in_range in_range;
        for_job = job_goes actor number actor.point observation informed.for_job;
        stands = stands_shared config next after later_actor memory_after same (calls_inform config state actor called outcome informed at);
      }

  -- a call changes no gate
  pub gates_stay : (slot : ℕ) → StaysTaken state next slot
  gates_stay slot = gates_same state next (ap (λ (cells : Cells). cells.gates) same.cells ∙ call_gates state actor.worker actor called (state.cells.statuses called.change.slot) (starts_from called.call (state.cells.statuses called.change.slot)) (fails_on called.call (state.tenant_states actor.tenant).file) outcome) slot

  pub call_keeps : IsSound config next
  call_keeps = record {
    memory = memory_is_shared config next after same memory_after;
    points = events_tell_points config state next (FileEvent actor.worker outcome) sound.points came;
    counts = step_keeps config state (FileEvent actor.worker outcome) next sound.counts (rest_on config state sound) came;
    requests = requests_stay config state next actor later_actor sound sits later stepped itself (λ slot none. gates_stay slot);
    releasers = calls_keep_releasers config state next actor.worker actor called outcome (have_their_requests config state sound) sound.releasers sits at same stepped;
  }
    where
      came : call config state actor.worker (state.worker_states actor.worker).actor outcome ≡ Some next
      came = ap (λ (found : Option ActorState). call config state actor.worker found outcome) sits ∙ is

by_called : (config : Config) (state next : State) (actor : ActorState) (outcome : Outcome) (found : Option Called) → IsSound config state → (state.worker_states actor.worker).actor ≡ Some actor
    → called_at actor.point ≡ found → call config state actor.worker (Some actor) outcome ≡ Some next → IsSound config next
by_called config state next actor outcome None sound sits at is = absurd (none (subst (λ (found : Option Called). call_if config state actor.worker actor found outcome ≡ Some next) at is))
  where
    none : None ≡ Some next → ⊥
    none e = cc
by_called config state next actor outcome (Some called) sound sits at is = call_keeps config state next actor called outcome sound sits at is

by_worker_state : (config : Config) (state next : State) (worker : ℕ) (found : Option ActorState) (outcome : Outcome) → IsSound config state → (state.worker_states worker).actor ≡ found
    → call config state worker found outcome ≡ Some next → IsSound config next
by_worker_state config state next worker None outcome sound sits is = absurd (none is)
  where
    none : None ≡ Some next → ⊥
    none e = cc
by_worker_state config state next worker (Some actor) outcome sound sits is =
    let same = (sound.counts.worker_states worker actor sits).same_worker in
    by_called config state next actor outcome (called_at actor.point) sound (subst (λ (n : ℕ). (state.worker_states n).actor ≡ Some actor) (sym same) sits) refl
    (subst (λ (n : ℕ). call config state n (Some actor) outcome ≡ Some next) (sym same) is)

pub calls_keep_sound : CallsKeepSound
calls_keep_sound config state next worker outcome sound is = by_worker_state config state next worker (state.worker_states worker).actor outcome sound refl is
