-- After a call on its tenant's file, an informed request (`IsInformed`: it knows the facts of its point) knows the facts of
-- its next point.
-- Used by: calls_inform.
use Rattle.std.specs.Prelude.{◌≡◌, Bool, true, false, List, ◌∷◌, [], ◌++◌, Some, None}
use Rattle.std.proofs.Common.{refl, sym, subst, ◌∙◌, arith}
use Rattle.mw_words.specs.declared.replies.Reply.TheVariants.{Fault as SaysFault}
use Rattle.mw_words.specs.declared.statuses.Status.{Status}
use Rattle.mw_words.specs.declared.statuses.Status.TheVariants.{Draft, Open, Yes, No, DoneYes, DoneNo}
use Rattle.mw_look.specs.declared.observations.Observation.TheVariants.{Filed}
use Rattle.mw_look.specs.declared.steps.Call.TheVariants.{Prepare as PrepareCall, Seal as SealCall, Settle as SettleCall, Cancel as CancelCall}
use Rattle.mw_actor.specs.declared.points.Point.{Point}
use Rattle.mw_actor.specs.declared.points.Point.TheVariants.{Prepare, Seal, Settle, Cancel, ReadTargetStatus}
use Rattle.mw_actor.specs.declared.points.Slot.{Slot}
use Rattle.mw_actor.specs.declared.points.Task.{Task}
use Rattle.mw_actor.specs.ActorState.{ActorState, alone}
use Rattle.mw_actor.specs.RequestEnds.{gives_up}
use Rattle.mw_world.specs.declared.outcomes.Outcome.{Outcome}
use Rattle.mw_world.specs.declared.outcomes.Outcome.TheVariants.{Good, Fail}
use Rattle.mw_world.specs.declared.config.Config.{Config}
use Rattle.mw_world.specs.Definition.Calls.{Called, called_at, starts_from, fails_on}
use Rattle.mw_world.specs.Definition.State.{State}
use Rattle.mw_law_runs.specs.Moves.Guards.{Guards, IsLive}
use Rattle.mw_law_runs.specs.Moves.Moves.{Move, made_all}
use Rattle.mw_law_runs.specs.Moves.Rely.{Rely}
use Rattle.mw_law_runs.specs.Moves.StepMoves.{moves_called, moves_of_call, status_moves, call_observation, next_of, set_intent}
use Rattle.mw_law_runs.proofs.Moves.Relied.{others_rely_on_all}
use Rattle.mw_law_runs.specs.Knowledge.Facts.{IsReadied}
use Rattle.mw_law_runs.specs.Knowledge.Informed.{IsInformed}
use Rattle.mw_law_runs.specs.Knowledge.Points.{Knows, without_point}
use Rattle.mw_law_runs.specs.Knowledge.NextState.{KnowsItsPoint}
use Rattle.mw_law_runs.proofs.Knowledge.LiveSlotsOverSteps.{live_slots_go_on}
use Rattle.mw_law_runs.proofs.Knowledge.Reads.TaskChanges.{alone_is_alone, works_alone, at_own, gives_up_knows}
use Rattle.mw_law_runs.proofs.Knowledge.Updates.Preservation.{upd_two_here, carries_on, keeps_all, keeps_but_status, gates_same}
use Rattle.mw_law_runs.proofs.Knowledge.Updates.Drafts.{drafted_posed}
use Rattle.mw_law_runs.specs.Knowledge.Calls.{CallsInform, told_of_call}
use Rattle.mw_law_runs.proofs.Knowledge.Calls.CallGuards.{seal_guards, settle_guards, cancel_guards, cancels, same_some}

module _ (config : Config) (state : State) (actor : ActorState) where
  -- the world and the request after a call
  abbrev after_call : Point → Called → Bool → Bool → Outcome → State
  after_call point called starts had_failed outcome =
      made_all state actor.worker (moves_called state actor.worker (record actor { point = point }) called (state.cells.statuses called.change.slot) starts had_failed outcome)

  abbrev next_after : Point → Bool → Bool → Outcome → ActorState
  next_after point starts had_failed outcome = next_of state actor.worker (record actor { point = point }) (call_observation starts had_failed outcome)

  -- a draft that the call was to open
  starts_so : (status : Status) → status ≡ Draft → starts_from PrepareCall status ≡ false → ⊥
  starts_so Draft is not_so = absurd (grind (arith, not_so))
  starts_so status is not_so = absurd (other is)
    where
      other : status ≡ Draft → ⊥
      other e = cc

  prepare_informs : (own : Slot) → let called : Called = record { call = PrepareCall; change = own } in IsInformed config state (record actor { point = Prepare own })
      → (starts had_failed : Bool) (outcome : Outcome) → starts_from PrepareCall (state.cells.statuses own.slot) ≡ starts
      → KnowsItsPoint (after_call (Prepare own) called starts had_failed outcome) (next_after (Prepare own) starts had_failed outcome)
  prepare_informs own informed false had_failed outcome is = absurd (starts_so (state.cells.statuses own.slot) informed.knows.status is)
  prepare_informs own informed true true outcome is = record {
    live = record { taken = informed.live.taken; seq = informed.live.seq };
    knows = ((drafted_posed state actor _ _ _ own informed.knows.drafted).own, λ draft. informed.knows.status);
  }
  prepare_informs own informed true false Good is = record {
    live = (live, live);
    knows = works_alone after me (alone own) (at_own after me own readied) (alone_is_alone own);
  }
    where
      called : Called
      called = record { call = PrepareCall; change = own }

      me : ActorState
      me = record actor { point = Prepare own }

      after : State
      after = after_call (Prepare own) called true false Good

      live : IsLive after own
      live = record { taken = informed.live.taken; seq = informed.live.seq }

      not_draft : Open ≡ Draft → ⊥
      not_draft e = cc

      readied : IsReadied after (without_point actor) own
      readied = record {
        own = record {
          is_claimed = informed.knows.drafted.own.is_claimed;
          same_tenant = informed.knows.drafted.own.same_tenant;
          same_worker = informed.knows.drafted.own.same_worker;
          same_entries = informed.knows.drafted.own.same_entries;
          stays_not = informed.knows.drafted.own.stays_not;
        };
        ready = λ draft. not_draft (sym (upd_two_here state.history.fate own.slot own.seq Open) ∙ draft);
      }
  prepare_informs own informed true false (Fail number) is = record {
    live = record { taken = informed.live.taken; seq = informed.live.seq };
    knows = ((drafted_posed state actor _ _ _ own informed.knows.drafted).own, λ draft. informed.knows.status);
  }

  -- what others may rely on over the call
  later_of : (point : Point) (called : Called) (starts had_failed : Bool) (outcome : Outcome) → IsInformed config state (record actor { point = point })
      → Guards config state actor.worker (moves_called state actor.worker (record actor { point = point }) called (state.cells.statuses called.change.slot) starts had_failed outcome)
      → Rely actor.worker state (after_call point called starts had_failed outcome)
  later_of point called starts had_failed outcome informed guards =
      others_rely_on_all config state actor.worker
      (moves_called state actor.worker (record actor { point = point }) called (state.cells.statuses called.change.slot) starts had_failed outcome) guards informed.memory

  -- a request stops working on a change
  leaves : (task : Task) → Knows state actor (ReadTargetStatus task) → IsLive state task.own → IsLive state task.target → KnowsItsPoint state (record actor { point = gives_up task SaysFault })
  leaves task on live target = record {
    live = live_slots_go_on state (record actor { point = Seal task }) 0 (Seal task) (Filed false) tt (live, target);
    knows = gives_up_knows state actor task SaysFault on.at_work;
  }

  seal_informs : (task : Task) → let called : Called = record { call = SealCall; change = task.target } in (informed : IsInformed config state (record actor { point = Seal task }))
      → (starts had_failed : Bool) (outcome : Outcome) → starts_from SealCall (state.cells.statuses task.target.slot) ≡ starts
      → KnowsItsPoint (after_call (Seal task) called starts had_failed outcome) (next_after (Seal task) starts had_failed outcome)
  seal_informs task informed false had_failed outcome is =
      let called : Called = record { call = SealCall; change = task.target } in
      carries_on actor.worker state (after_call (Seal task) called false had_failed outcome) (later_of (Seal task) called false had_failed outcome informed (seal_guards config state actor task informed false had_failed outcome is))
      (next_after (Seal task) false had_failed outcome)
      (keeps_all state (after_call (Seal task) called false had_failed outcome) (without_point actor) refl refl refl refl refl refl refl refl refl)
      (λ slot some. gates_same state (after_call (Seal task) called false had_failed outcome) refl slot)
      (record { live = informed.live; knows = informed.knows.0 })
  seal_informs task informed true true outcome is =
      let called : Called = record { call = SealCall; change = task.target } in
      carries_on actor.worker state (after_call (Seal task) called true true outcome) (later_of (Seal task) called true true outcome informed (seal_guards config state actor task informed true true outcome is))
      (next_after (Seal task) true true outcome)
      (keeps_all state (after_call (Seal task) called true true outcome) (without_point actor) refl refl refl refl refl refl refl refl refl)
      (λ slot some. gates_same state (after_call (Seal task) called true true outcome) refl slot)
      (leaves task informed.knows.0 informed.live.0 informed.live.1)
  seal_informs task informed true false Good is =
      let called : Called = record { call = SealCall; change = task.target } in
      carries_on actor.worker state (after_call (Seal task) called true false Good) (later_of (Seal task) called true false Good informed (seal_guards config state actor task informed true false Good is))
      (next_after (Seal task) true false Good)
      (keeps_but_status state (after_call (Seal task) called true false Good) (without_point actor) task.target Yes informed.live.1 informed.knows.0.at_work.target.ready refl refl refl refl refl refl refl refl refl)
      (λ slot some. gates_same state (after_call (Seal task) called true false Good) refl slot)
      (record { live = informed.live; knows = informed.knows.0 })
  seal_informs task informed true false (Fail number) is =
      let called : Called = record { call = SealCall; change = task.target } in
      carries_on actor.worker state (after_call (Seal task) called true false (Fail number)) (later_of (Seal task) called true false (Fail number) informed (seal_guards config state actor task informed true false (Fail number) is))
      (next_after (Seal task) true false (Fail number))
      (keeps_all state (after_call (Seal task) called true false (Fail number)) (without_point actor) refl refl refl refl refl refl refl refl refl)
      (λ slot some. gates_same state (after_call (Seal task) called true false (Fail number)) refl slot)
      (leaves task informed.knows.0 informed.live.0 informed.live.1)

  settle_informs : (task : Task) → let called : Called = record { call = SettleCall; change = task.target } in (informed : IsInformed config state (record actor { point = Settle task }))
      → (starts had_failed : Bool) (outcome : Outcome) → starts_from SettleCall (state.cells.statuses task.target.slot) ≡ starts
      → KnowsItsPoint (after_call (Settle task) called starts had_failed outcome) (next_after (Settle task) starts had_failed outcome)
  settle_informs task informed false had_failed outcome is =
      let called : Called = record { call = SettleCall; change = task.target } in
      carries_on actor.worker state (after_call (Settle task) called false had_failed outcome) (later_of (Settle task) called false had_failed outcome informed (settle_guards config state actor task informed false had_failed outcome is))
      (next_after (Settle task) false had_failed outcome)
      (keeps_all state (after_call (Settle task) called false had_failed outcome) (without_point actor) refl refl refl refl refl refl refl refl refl)
      (λ slot some. gates_same state (after_call (Settle task) called false had_failed outcome) refl slot)
      (record { live = informed.live; knows = informed.knows.0 })
  settle_informs task informed true true outcome is =
      let called : Called = record { call = SettleCall; change = task.target } in
      carries_on actor.worker state (after_call (Settle task) called true true outcome) (later_of (Settle task) called true true outcome informed (settle_guards config state actor task informed true true outcome is))
      (next_after (Settle task) true true outcome)
      (keeps_all state (after_call (Settle task) called true true outcome) (without_point actor) refl refl refl refl refl refl refl refl refl)
      (λ slot some. gates_same state (after_call (Settle task) called true true outcome) refl slot)
      (leaves task informed.knows.0 informed.live.0 informed.live.1)
  settle_informs task informed true false Good is =
      let called : Called = record { call = SettleCall; change = task.target } in
      carries_on actor.worker state (after_call (Settle task) called true false Good) (later_of (Settle task) called true false Good informed (settle_guards config state actor task informed true false Good is))
      (next_after (Settle task) true false Good)
      (keeps_but_status state (after_call (Settle task) called true false Good) (without_point actor) task.target DoneYes informed.live.1 informed.knows.0.at_work.target.ready refl refl refl refl refl refl refl refl refl)
      (λ slot some. gates_same state (after_call (Settle task) called true false Good) refl slot)
      (record { live = informed.live; knows = informed.knows.0 })
  settle_informs task informed true false (Fail number) is =
      let called : Called = record { call = SettleCall; change = task.target } in
      carries_on actor.worker state (after_call (Settle task) called true false (Fail number)) (later_of (Settle task) called true false (Fail number) informed (settle_guards config state actor task informed true false (Fail number) is))
      (next_after (Settle task) true false (Fail number))
      (keeps_all state (after_call (Settle task) called true false (Fail number)) (without_point actor) refl refl refl refl refl refl refl refl refl)
      (λ slot some. gates_same state (after_call (Settle task) called true false (Fail number)) refl slot)
      (leaves task informed.knows.0 informed.live.0 informed.live.1)

  cancel_informs : (task : Task) → let called : Called = record { call = CancelCall; change = task.target } in (informed : IsInformed config state (record actor { point = Cancel task }))
      → (starts had_failed : Bool) (outcome : Outcome) → KnowsItsPoint (after_call (Cancel task) called starts had_failed outcome) (next_after (Cancel task) starts had_failed outcome)
  cancel_informs task informed false had_failed outcome =
      let called : Called = record { call = CancelCall; change = task.target } in
      carries_on actor.worker state (after_call (Cancel task) called false had_failed outcome) (later_of (Cancel task) called false had_failed outcome informed (cancel_guards config state actor task informed false had_failed outcome))
      (next_after (Cancel task) false had_failed outcome)
      (keeps_all state (after_call (Cancel task) called false had_failed outcome) (without_point actor) refl refl refl refl refl refl refl refl refl)
      (λ slot some. gates_same state (after_call (Cancel task) called false had_failed outcome) refl slot)
      (record { live = informed.live; knows = informed.knows.0 })
  cancel_informs task informed true true outcome =
      let called : Called = record { call = CancelCall; change = task.target } in
      carries_on actor.worker state (after_call (Cancel task) called true true outcome) (later_of (Cancel task) called true true outcome informed (cancel_guards config state actor task informed true true outcome))
      (next_after (Cancel task) true true outcome)
      (keeps_all state (after_call (Cancel task) called true true outcome) (without_point actor) refl refl refl refl refl refl refl refl refl)
      (λ slot some. gates_same state (after_call (Cancel task) called true true outcome) refl slot)
      (record { live = informed.live; knows = informed.knows.0 })
  cancel_informs task informed true false (Fail number) =
      let called : Called = record { call = CancelCall; change = task.target } in
      carries_on actor.worker state (after_call (Cancel task) called true false (Fail number)) (later_of (Cancel task) called true false (Fail number) informed (cancel_guards config state actor task informed true false (Fail number)))
      (next_after (Cancel task) true false (Fail number))
      (keeps_all state (after_call (Cancel task) called true false (Fail number)) (without_point actor) refl refl refl refl refl refl refl refl refl)
      (λ slot some. gates_same state (after_call (Cancel task) called true false (Fail number)) refl slot)
      (record { live = informed.live; knows = informed.knows.0 })
  cancel_informs task informed true false Good = by_status (state.cells.statuses task.target.slot) refl
    where
      called : Called
      called = record { call = CancelCall; change = task.target }

      next : ActorState
      next = next_after (Cancel task) true false Good

      moves : Status → List Move
      moves status = status_moves CancelCall task.target status ++ set_intent (record actor { point = ReadTargetStatus task }) ∷ []

      by_status : (status : Status) → state.cells.statuses task.target.slot ≡ status → KnowsItsPoint (made_all state actor.worker (moves status)) next
      by_status (No entry value) is =
          carries_on actor.worker state (made_all state actor.worker (moves (No entry value)))
          (others_rely_on_all config state actor.worker (moves (No entry value)) (cancels config state actor task (No entry value) informed is) informed.memory) next
          (keeps_but_status state (made_all state actor.worker (moves (No entry value))) (without_point actor) task.target (DoneNo entry value) informed.live.1 informed.knows.0.at_work.target.ready
          refl refl refl refl refl refl refl refl refl)
          (λ slot some. gates_same state (made_all state actor.worker (moves (No entry value))) refl slot)
          (record { live = informed.live; knows = informed.knows.0 })
      by_status status is =
          carries_on actor.worker state (made_all state actor.worker (moves status))
          (others_rely_on_all config state actor.worker (moves status) (cancels config state actor task status informed is) informed.memory) next
          (keeps_all state (made_all state actor.worker (moves status)) (without_point actor) refl refl refl refl refl refl refl refl refl)
          (λ slot some. gates_same state (made_all state actor.worker (moves status)) refl slot)
          (record { live = informed.live; knows = informed.knows.0 })

  at_point : (point : Point) (called : Called) (outcome : Outcome) → let me = record actor { point = point } in IsInformed config state me → called_at point ≡ Some called
      → KnowsItsPoint (made_all state actor.worker (moves_of_call state actor.worker me called outcome)) (next_of state actor.worker me (told_of_call state me called outcome))
  at_point (Prepare own) called outcome informed is =
      let me = record actor { point = Prepare own } in
      subst (λ (one : Called). KnowsItsPoint (made_all state actor.worker (moves_of_call state actor.worker me one outcome)) (next_of state actor.worker me (told_of_call state me one outcome)))
      (same_some (record { call = PrepareCall; change = own }) called is)
      (prepare_informs own informed (starts_from PrepareCall (state.cells.statuses own.slot)) (fails_on PrepareCall (state.tenant_states actor.tenant).file) outcome refl)
  at_point (Seal task) called outcome informed is =
      let me = record actor { point = Seal task } in
      subst (λ (one : Called). KnowsItsPoint (made_all state actor.worker (moves_of_call state actor.worker me one outcome)) (next_of state actor.worker me (told_of_call state me one outcome)))
      (same_some (record { call = SealCall; change = task.target }) called is)
      (seal_informs task informed (starts_from SealCall (state.cells.statuses task.target.slot)) (fails_on SealCall (state.tenant_states actor.tenant).file) outcome refl)
  at_point (Settle task) called outcome informed is =
      let me = record actor { point = Settle task } in
      subst (λ (one : Called). KnowsItsPoint (made_all state actor.worker (moves_of_call state actor.worker me one outcome)) (next_of state actor.worker me (told_of_call state me one outcome)))
      (same_some (record { call = SettleCall; change = task.target }) called is)
      (settle_informs task informed (starts_from SettleCall (state.cells.statuses task.target.slot)) (fails_on SettleCall (state.tenant_states actor.tenant).file) outcome refl)
  at_point (Cancel task) called outcome informed is =
      let me = record actor { point = Cancel task } in
      subst (λ (one : Called). KnowsItsPoint (made_all state actor.worker (moves_of_call state actor.worker me one outcome)) (next_of state actor.worker me (told_of_call state me one outcome)))
      (same_some (record { call = CancelCall; change = task.target }) called is)
      (cancel_informs task informed (starts_from CancelCall (state.cells.statuses task.target.slot)) (fails_on CancelCall (state.tenant_states actor.tenant).file) outcome)
  at_point point called outcome informed is = absurd (none called is)
    where
      none : (called : Called) → None ≡ Some called → ⊥
      none called e = cc

pub calls_inform : CallsInform
calls_inform config state actor called outcome informed is = at_point config state actor actor.point called outcome informed is
