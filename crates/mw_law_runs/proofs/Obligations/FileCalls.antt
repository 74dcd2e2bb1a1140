-- A call on a file keeps each held or written word's releaser: the request that will release or clean the word.
-- Used by: calls_keep_releasers.
use Rattle.std.specs.Prelude.{ℕ, ◌≡◌, Bool, true, false, [], ◌∷◌, ◌++◌, Some, None}
use Rattle.std.proofs.Common.{refl, sym, subst, inl}
use Rattle.mw_words.specs.declared.replies.Reply.TheVariants.{Fault as SaysFault}
use Rattle.mw_words.specs.declared.statuses.Status.{Status}
use Rattle.mw_words.specs.declared.statuses.Status.TheVariants.{Open, Yes, No, DoneYes, DoneNo}
use Rattle.mw_look.specs.declared.observations.Observation.{Observation}
use Rattle.mw_look.specs.declared.observations.Observation.TheVariants.{Filed}
use Rattle.mw_look.specs.declared.steps.Call.TheVariants.{Prepare as PrepareCall, Seal as SealCall, Settle as SettleCall, Cancel as CancelCall}
use Rattle.mw_actor.specs.declared.points.Point.{Point}
use Rattle.mw_actor.specs.declared.points.Point.TheVariants.{Prepare, Seal, Settle, Cancel, ReadTargetStatus, Release}
use Rattle.mw_actor.specs.declared.points.Slot.{Slot}
use Rattle.mw_actor.specs.declared.points.Sweep.TheVariants.{Yes as SweepYes}
use Rattle.mw_actor.specs.declared.points.Task.{Task}
use Rattle.mw_actor.specs.ActorState.{ActorState}
use Rattle.mw_world.specs.declared.outcomes.Outcome.{Outcome}
use Rattle.mw_world.specs.declared.outcomes.Outcome.TheVariants.{Good, Fail}
use Rattle.mw_world.specs.declared.config.Config.{Config}
use Rattle.mw_world.specs.Definition.Calls.{Called, called_at, starts_from, fails_on}
use Rattle.mw_world.specs.Claim.Obligations.{WillReleaseAt, CleansAt}
use Rattle.mw_world.specs.Definition.State.{State}
use Rattle.mw_law_runs.specs.Moves.Guards.{Guards}
use Rattle.mw_law_runs.specs.Moves.Moves.{made_all}
use Rattle.mw_law_runs.specs.Moves.StepMoves.{SameMemory, moves_called, moves_of_call, status_moves, call_observation, next_of, set_intent}
use Rattle.mw_law_runs.proofs.Moves.MovesKeepMemory.{moves_keep}
use Rattle.mw_law_runs.proofs.Moves.Relied.{others_rely_on_all}
use Rattle.mw_law_runs.proofs.Moves.Shared.{is_shared}
use Rattle.mw_law_runs.specs.Knowledge.Informed.{IsInformed}
use Rattle.mw_law_runs.specs.Knowledge.Calls.{told_of_call}
use Rattle.mw_law_runs.proofs.Knowledge.Calls.CallGuards.{calls_have_guards, same_some}
use Rattle.mw_law_runs.specs.ObligationLaws.{CallsKeepReleasers}
use Rattle.mw_law_runs.specs.Obligations.{own_of, WordsHaveReleasers, OneStepped}
use Rattle.mw_law_runs.proofs.Obligations.StepEffects.{StepsOn, Inks, untouched, one_fate}
use Rattle.mw_law_runs.proofs.Obligations.Cleanups.{gives_up_cleans}
use Rattle.mw_law_runs.proofs.Obligations.StepObligations.{StepsWell, words_stay}
use Rattle.mw_law_runs.proofs.Obligations.Owners.{own_goes_on}

-- After a call, a request still will release and clean what it would before, and its own change is the same.
module _ (old : State) (actor : ActorState) where
  abbrev Next : Point → Bool → ActorState
  Next point well = next_of old actor.worker (record actor { point = point }) (Filed well)

  -- a point of a call
  abbrev IsCall : Point → Type 0
  IsCall (Prepare own) = Unit {0}
  IsCall (Seal task) = Unit {0}
  IsCall (Settle task) = Unit {0}
  IsCall (Cancel task) = Unit {0}
  IsCall point = ⊥

  owns_on : (point : Point) (well : Bool) (own : Slot) → IsCall point → own_of point ≡ Some own → own_of (Next point well).point ≡ Some own
  owns_on (Prepare one) well own is mine = own_goes_on own (record actor { point = Prepare one }) (old.worker_states actor.worker).attempt (Prepare one) (Filed well) tt mine
  owns_on (Seal task) well own is mine = own_goes_on own (record actor { point = Seal task }) (old.worker_states actor.worker).attempt (Seal task) (Filed well) tt mine
  owns_on (Settle task) well own is mine = own_goes_on own (record actor { point = Settle task }) (old.worker_states actor.worker).attempt (Settle task) (Filed well) tt mine
  owns_on (Cancel task) well own is mine = own_goes_on own (record actor { point = Cancel task }) (old.worker_states actor.worker).attempt (Cancel task) (Filed well) tt mine
  owns_on point well own is mine = absurd is

  will_release_on : (point : Point) (well : Bool) (change : Slot) (address : ℕ) → IsCall point → WillReleaseAt (record actor { point = point }) change address point
      → WillReleaseAt (Next point well) change address (Next point well).point
  will_release_on (Prepare own) well change address is will_release = absurd will_release
  will_release_on (Seal task) well change address is will_release = absurd will_release
  will_release_on (Settle task) well change address is will_release = absurd will_release
  will_release_on (Cancel task) well change address is will_release = will_release
  will_release_on point well change address is will_release = absurd is

  cleans_on : (point : Point) (well : Bool) (address : ℕ) → IsCall point → CleansAt (Next point well) address (Next point well).point
  cleans_on (Prepare own) true address is = tt
  cleans_on (Prepare own) false address is = tt
  cleans_on (Seal task) true address is = tt
  cleans_on (Seal task) false address is = gives_up_cleans address (Next (Seal task) false) task SaysFault
  cleans_on (Settle task) true address is = tt
  cleans_on (Settle task) false address is = gives_up_cleans address (Next (Settle task) false) task SaysFault
  cleans_on (Cancel task) well address is = tt
  cleans_on point well address is = absurd is

  writes_nothing : (point : Point) (tenant address slot : ℕ) → IsCall point → Inks old point tenant address slot → ⊥
  writes_nothing (Prepare own) tenant address slot is inks = no_prepare inks.task inks.entry inks.releases
    where
      no_prepare : (task : Task) (entry : ℕ) → Prepare own ≡ Release task SweepYes entry → ⊥
      no_prepare task entry e = cc
  writes_nothing (Seal one) tenant address slot is inks = no_seal inks.task inks.entry inks.releases
    where
      no_seal : (task : Task) (entry : ℕ) → Seal one ≡ Release task SweepYes entry → ⊥
      no_seal task entry e = cc
  writes_nothing (Settle one) tenant address slot is inks = no_settle inks.task inks.entry inks.releases
    where
      no_settle : (task : Task) (entry : ℕ) → Settle one ≡ Release task SweepYes entry → ⊥
      no_settle task entry e = cc
  writes_nothing (Cancel one) tenant address slot is inks = no_cancel inks.task inks.entry inks.releases
    where
      no_cancel : (task : Task) (entry : ℕ) → Cancel one ≡ Release task SweepYes entry → ⊥
      no_cancel task entry e = cc
  writes_nothing point tenant address slot is inks = absurd is

  -- what the call does to gates, words and statuses
  abbrev StepsAt : Point → Called → Bool → Bool → Outcome → Type 0
  StepsAt point called starts had_failed outcome =
      let me = record actor { point = point } in
      StepsOn old (made_all old actor.worker (moves_called old actor.worker me called (old.cells.statuses called.change.slot) starts had_failed outcome)) me point
      (next_of old actor.worker me (call_observation starts had_failed outcome)).point

  prepare_steps : (own : Slot) (starts had_failed : Bool) (outcome : Outcome) → StepsAt (Prepare own) (record { call = PrepareCall; change = own }) starts had_failed outcome
  prepare_steps own false had_failed outcome = untouched old _ _ _ _ refl refl refl
  prepare_steps own true true outcome = untouched old _ _ _ _ refl refl refl
  prepare_steps own true false Good = one_fate old _ _ _ _ own Open (λ is. absurd is) refl refl refl
  prepare_steps own true false (Fail number) = untouched old _ _ _ _ refl refl refl

  seal_steps : (task : Task) (starts had_failed : Bool) (outcome : Outcome) → StepsAt (Seal task) (record { call = SealCall; change = task.target }) starts had_failed outcome
  seal_steps task false had_failed outcome = untouched old _ _ _ _ refl refl refl
  seal_steps task true true outcome = untouched old _ _ _ _ refl refl refl
  seal_steps task true false Good = one_fate old _ _ _ _ task.target Yes (λ is. absurd is) refl refl refl
  seal_steps task true false (Fail number) = untouched old _ _ _ _ refl refl refl

  settle_steps : (task : Task) (starts had_failed : Bool) (outcome : Outcome) → StepsAt (Settle task) (record { call = SettleCall; change = task.target }) starts had_failed outcome
  settle_steps task false had_failed outcome = untouched old _ _ _ _ refl refl refl
  settle_steps task true true outcome = untouched old _ _ _ _ refl refl refl
  settle_steps task true false Good = one_fate old _ _ _ _ task.target DoneYes (λ is. absurd is) refl refl refl
  settle_steps task true false (Fail number) = untouched old _ _ _ _ refl refl refl

  cancel_good : (task : Task) (status : Status) → old.history.tenant task.target.slot task.target.seq ≡ actor.tenant
      → StepsOn old (made_all old actor.worker (status_moves CancelCall task.target status ++ set_intent (record actor { point = ReadTargetStatus task }) ∷ [])) (record actor { point = Cancel task }) (Cancel task)
      (ReadTargetStatus task)
  cancel_good task (No entry value) same_tenant =
      one_fate old _ _ _ _ task.target (DoneNo entry value) (λ is. (record { task = task; goes = refl; target_slot = refl; target_seq = refl }, same_tenant)) refl refl refl
  cancel_good task status same_tenant = untouched old _ _ _ _ refl refl refl

  cancel_steps : (task : Task) (starts had_failed : Bool) (outcome : Outcome) → old.history.tenant task.target.slot task.target.seq ≡ actor.tenant
      → StepsAt (Cancel task) (record { call = CancelCall; change = task.target }) starts had_failed outcome
  cancel_steps task false had_failed outcome same_tenant = untouched old _ _ _ _ refl refl refl
  cancel_steps task true true outcome same_tenant = untouched old _ _ _ _ refl refl refl
  cancel_steps task true false Good same_tenant = cancel_good task (old.cells.statuses task.target.slot) same_tenant
  cancel_steps task true false (Fail number) same_tenant = untouched old _ _ _ _ refl refl refl

-- what a request learns of a call
record Told (observation : Observation) : Type 0 where
  pub well : Bool
  pub is : observation ≡ Filed well

-- however a call ends, its request learns how it ended
told_filed : (starts had_failed : Bool) (outcome : Outcome) → Told (call_observation starts had_failed outcome)
told_filed false had_failed outcome = record { well = true; is = refl }
told_filed true true outcome = record { well = false; is = refl }
told_filed true false Good = record { well = true; is = refl }
told_filed true false (Fail number) = record { well = false; is = refl }

module _ (config : Config) (old : State) (actor : ActorState) where
  steps_at : (point : Point) (called : Called) (outcome : Outcome) → let me = record actor { point = point } in IsInformed config old me → called_at point ≡ Some called
      → StepsOn old (made_all old actor.worker (moves_of_call old actor.worker me called outcome)) me point (next_of old actor.worker me (told_of_call old me called outcome)).point
  steps_at (Prepare own) called outcome informed is =
      let me = record actor { point = Prepare own } in
      subst (λ (one : Called). StepsOn old (made_all old actor.worker (moves_of_call old actor.worker me one outcome)) me (Prepare own) (next_of old actor.worker me (told_of_call old me one outcome)).point)
      (same_some (record { call = PrepareCall; change = own }) called is)
      (prepare_steps old actor own (starts_from PrepareCall (old.cells.statuses own.slot)) (fails_on PrepareCall (old.tenant_states actor.tenant).file) outcome)
  steps_at (Seal task) called outcome informed is =
      let me = record actor { point = Seal task } in
      subst (λ (one : Called). StepsOn old (made_all old actor.worker (moves_of_call old actor.worker me one outcome)) me (Seal task) (next_of old actor.worker me (told_of_call old me one outcome)).point)
      (same_some (record { call = SealCall; change = task.target }) called is)
      (seal_steps old actor task (starts_from SealCall (old.cells.statuses task.target.slot)) (fails_on SealCall (old.tenant_states actor.tenant).file) outcome)
  steps_at (Settle task) called outcome informed is =
      let me = record actor { point = Settle task } in
      subst (λ (one : Called). StepsOn old (made_all old actor.worker (moves_of_call old actor.worker me one outcome)) me (Settle task) (next_of old actor.worker me (told_of_call old me one outcome)).point)
      (same_some (record { call = SettleCall; change = task.target }) called is)
      (settle_steps old actor task (starts_from SettleCall (old.cells.statuses task.target.slot)) (fails_on SettleCall (old.tenant_states actor.tenant).file) outcome)
  steps_at (Cancel task) called outcome informed is =
      let me = record actor { point = Cancel task } in
      subst (λ (one : Called). StepsOn old (made_all old actor.worker (moves_of_call old actor.worker me one outcome)) me (Cancel task) (next_of old actor.worker me (told_of_call old me one outcome)).point)
      (same_some (record { call = CancelCall; change = task.target }) called is)
      (cancel_steps old actor task (starts_from CancelCall (old.cells.statuses task.target.slot)) (fails_on CancelCall (old.tenant_states actor.tenant).file) outcome informed.knows.0.at_work.target.same_tenant)
  steps_at point called outcome informed is = absurd (none called is)
    where
      none : (called : Called) → None ≡ Some called → ⊥
      none called e = cc

  is_call : (point : Point) (called : Called) → called_at point ≡ Some called → IsCall old actor point
  is_call (Prepare own) called is = tt
  is_call (Seal task) called is = tt
  is_call (Settle task) called is = tt
  is_call (Cancel task) called is = tt
  is_call point called is = absurd (none called is)
    where
      none : (called : Called) → None ≡ Some called → ⊥
      none called e = cc

call_well : (config : Config) (old : State) (actor : ActorState) (called : Called) (outcome : Outcome) → IsInformed config old actor → called_at actor.point ≡ Some called
    → StepsWell config old (made_all old actor.worker (moves_of_call old actor.worker actor called outcome)) actor (next_of old actor.worker actor (told_of_call old actor called outcome))
call_well config old actor called outcome informed is = record {
  tenant = refl;
  later = others_rely_on_all config old actor.worker (moves_of_call old actor.worker actor called outcome) guards informed.memory;
  memory_after = moves_keep config old actor.worker (moves_of_call old actor.worker actor called outcome) guards informed.memory;
  steps = steps_at config old actor actor.point called outcome informed is;
  owns = λ own mine more. inl (subst (λ (observation : Observation). own_of (next_of old actor.worker actor observation).point ≡ Some own) (sym filed.is) (owns_on old actor actor.point filed.well own at mine));
  will_release = λ change address was refused entry still will_release.
      subst (λ (observation : Observation). WillReleaseAt (next_of old actor.worker actor observation) change address (next_of old actor.worker actor observation).point) (sym filed.is)
      (will_release_on old actor actor.point filed.well change address at will_release);
  cleans = λ own address value written was still mine cleans.
      inl (subst (λ (observation : Observation). CleansAt (next_of old actor.worker actor observation) address (next_of old actor.worker actor observation).point) (sym filed.is)
      (cleans_on old actor actor.point filed.well address at));
  writes = λ tenant address slot inks. absurd (writes_nothing old actor actor.point tenant address slot at inks);
}
  where
    guards : Guards config old actor.worker (moves_of_call old actor.worker actor called outcome)
    guards = calls_have_guards config old actor called outcome informed is

    filed : Told (told_of_call old actor called outcome)
    filed = told_filed (starts_from called.call (old.cells.statuses called.change.slot)) (fails_on called.call (old.tenant_states actor.tenant).file) outcome

    at : IsCall old actor actor.point
    at = is_call config old actor actor.point called is

pub calls_keep_releasers : CallsKeepReleasers
calls_keep_releasers config old new worker actor called outcome seated releasers is at same one =
    subst (λ (by : ℕ). (old.worker_states by).actor ≡ Some actor → SameMemory new (made_all old by (moves_of_call old by actor called outcome))
    → OneStepped old new by (next_of old by actor (told_of_call old actor called outcome)) → WordsHaveReleasers new)
    (seated worker actor is).same_worker
    (λ sits shared stepped. is_shared new (made_all old actor.worker (moves_of_call old actor.worker actor called outcome)) shared (λ (state : State). WordsHaveReleasers state)
    (words_stay config old new (made_all old actor.worker (moves_of_call old actor.worker actor called outcome)) actor (next_of old actor.worker actor (told_of_call old actor called outcome)) seated releasers sits
    (call_well config old actor called outcome (seated actor.worker actor sits).informed at) stepped))
    is same one
