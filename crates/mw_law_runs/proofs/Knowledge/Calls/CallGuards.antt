-- If a request is informed (it knows the facts of its point), each move of its call on a file has its precondition (`Guard`).
-- Used by: calls_inform, mw_law_store.
use Rattle.std.specs.Prelude.{ℕ, suc, ◌≡◌, ◌≢◌, ◌<◌, ◌==◌, Bool, true, false, List, ◌∷◌, [], ◌++◌, length, Some, None, is_some}
use Rattle.std.proofs.Common.{refl, sym, ap, subst, ◌∙◌, arith}
use Rattle.std.proofs.lemmas.Bool.Decides.{nat_tests}
use Rattle.mw_words.specs.declared.places.At.TheVariants.{Door as AtDoor}
use Rattle.mw_words.specs.declared.replies.Reply.{Reply}
use Rattle.mw_words.specs.declared.replies.Reply.TheVariants.{Fault as SaysFault}
use Rattle.mw_words.specs.declared.jobs.Entry.{Entry}
use Rattle.mw_words.specs.declared.statuses.Status.{Status}
use Rattle.mw_words.specs.declared.statuses.Status.TheVariants.{YesDirty, Yes, No}
use Rattle.mw_look.specs.declared.steps.Call.TheVariants.{Prepare as PrepareCall, Seal as SealCall, Settle as SettleCall, Cancel as CancelCall}
use Rattle.mw_actor.specs.declared.points.Point.{Point}
use Rattle.mw_actor.specs.declared.points.After.TheVariants.{GiveUp as ThenGiveUp}
use Rattle.mw_actor.specs.declared.points.Point.TheVariants.{Prepare, ReadTargetStatus, Seal, Settle, Cancel, GiveUp, Unpin}
use Rattle.mw_actor.specs.RequestEnds.{gives_up}
use Rattle.mw_look.proofs.RangeLaws.{either_way}
use Rattle.mw_actor.specs.declared.points.Slot.{Slot}
use Rattle.mw_actor.specs.declared.points.Task.{Task}
use Rattle.mw_actor.specs.ActorState.{ActorState, own_entries, entry_at, is_alone}
use Rattle.mw_world.specs.declared.outcomes.Outcome.{Outcome}
use Rattle.mw_world.specs.declared.outcomes.Outcome.TheVariants.{Good, Fail}
use Rattle.mw_world.specs.declared.config.Config.{Config}
use Rattle.mw_world.specs.declared.step_labels.Phase.{Phase}
use Rattle.mw_world.specs.declared.step_labels.Phase.TheVariants.{Fresh, Acquired}
use Rattle.mw_world.specs.Definition.Calls.{Called, called_at, starts_from, fails_on}
use Rattle.mw_world.specs.Definition.History.{NoAttempt, AttemptIn, Idle, Permitted, StandingAttempt, HoldPermission, has, entry_for, standing_at, permission_at}
use Rattle.mw_world.specs.Claim.Invariant.{IsEntryOf}
use Rattle.mw_world.specs.Definition.State.{State}
use Rattle.mw_law_runs.specs.Moves.Guards.{Guards, IsLive, MayPrepare, MaySetIntent, MaySetDoor}
use Rattle.mw_law_runs.specs.Moves.Moves.{Prepare as PrepareMove, Seal as SealMove, Settle as SettleMove, Cancel as CancelMove, SetDoor, DecideFault, made}
use Rattle.mw_law_runs.specs.Moves.StepMoves.{faulted, moves_called, moves_of_call, status_moves, set_intent}
use Rattle.mw_law_runs.specs.Knowledge.Facts.{WorksOn}
use Rattle.mw_law_runs.specs.Knowledge.Informed.{IsInformed}
use Rattle.mw_law_runs.specs.Knowledge.Points.{without_point}
use Rattle.mw_law_runs.specs.Knowledge.Calls.{CallsHaveGuards}
use Rattle.mw_law_runs.proofs.Knowledge.Reads.Memory.{status_told}
use Rattle.mw_law_runs.proofs.Knowledge.Reads.Inspection.{as_many}

pub same_some : (one other : Called) → Some one ≡ Some other → one ≡ other
same_some one other e = cc

-- a worker that has no standing attempt and no permission may go on so
rests_so : (state : State) (by : ℕ) → state.history.standing by ≡ NoAttempt → MaySetIntent state by NoAttempt Idle
rests_so state by is = record {
  still = λ tenant address number stands word. absurd (not_both tenant address number stands);
  was_given = λ tenant address number stands. absurd (none tenant address number stands);
  ready = λ tenant address number stands. absurd (none tenant address number stands);
  permissions = λ tenant address other number slot seq permitted. absurd (unarmed tenant address other number slot seq permitted);
}
  where
    not_both : (tenant address number : ℕ) → state.history.standing by ≡ AttemptIn tenant address number → ⊥
    not_both tenant address number stands = resting (sym is ∙ stands)
      where
        resting : NoAttempt ≡ AttemptIn tenant address number → ⊥
        resting e = cc

    none : (tenant address number : ℕ) → NoAttempt ≡ AttemptIn tenant address number → ⊥
    none tenant address number e = cc

    unarmed : (tenant address other number slot seq : ℕ) → Idle ≡ Permitted tenant address other number slot seq → ⊥
    unarmed tenant address other number slot seq e = cc

-- the worker may do nothing at the point after the call
pub rests : (state : State) (by : ℕ) (standing : StandingAttempt) (permission : HoldPermission) → standing ≡ NoAttempt → permission ≡ Idle → state.history.standing by ≡ NoAttempt → MaySetIntent state by standing permission
rests state by standing permission one two is =
    subst (λ (may : StandingAttempt). MaySetIntent state by may permission) (sym one) (subst (λ (may : HoldPermission). MaySetIntent state by NoAttempt may) (sym two) (rests_so state by is))

-- the same when a request gives up
gives_up_rests : (actor : ActorState) (task : Task) (reply : Reply) → (standing_at actor (gives_up task reply) ≡ NoAttempt) × (permission_at actor (gives_up task reply) ≡ Idle)
gives_up_rests actor task reply =
    either_way (λ (point : Point). (standing_at actor point ≡ NoAttempt) × (permission_at actor point ≡ Idle)) (is_alone task) (GiveUp task.own reply) (Unpin task.target (ThenGiveUp task.own reply))
    (λ alone. (refl, refl)) (λ apart. (refl, refl))

-- the status from which a call starts
seal_from : (status : Status) → starts_from SealCall status ≡ true → status ≡ YesDirty
seal_from YesDirty is = refl
seal_from status is = absurd (grind (arith, is))

settle_from : (status : Status) → starts_from SettleCall status ≡ true → status ≡ Yes
settle_from Yes is = refl
settle_from status is = absurd (grind (arith, is))

-- these entries have one of this address
pub record IsThere (entries : List Entry) (address : ℕ) : Type 0 where
  pub index : ℕ
  pub within : index < length entries
  pub same : (entry_at entries index).addr ≡ address

-- a change has an entry at each address that it has
pub entry_there : (entries : List Entry) (address : ℕ) → is_some (entry_for entries address) ≡ true → IsThere entries address
entry_there [] address is = absurd (grind (arith, is))
entry_there (entry ∷ entries) address is = by_test (entry.addr == address) refl (entry_there entries address)
  where
    by_test : (b : Bool) → (entry.addr == address) ≡ b → (is_some (entry_for entries address) ≡ true → IsThere entries address) → IsThere (entry ∷ entries) address
    by_test true same later = record { index = 0; within = omega arith; same = grind (arith, nat_tests, same) }
    by_test false other later =
        let found = later (grind (arith, nat_tests, is, other)) in
        record { index = suc found.index; within = omega (arith, found.within); same = found.same }

module _ (config : Config) (state : State) (actor : ActorState) where
  -- no word of a change is held for it, if the word of none of its entries is
  none_held : (task : Task) → let me = record actor { point = Settle task } in IsInformed config state me → (address : ℕ) → state.history.phase task.target.slot task.target.seq address ≢ Acquired
  none_held task informed address is = by_test (has state.history task.target.slot task.target.seq address) refl
    where
      by_test : (b : Bool) → has state.history task.target.slot task.target.seq address ≡ b → ⊥
      by_test false none = fresh_held (state.history.phase task.target.slot task.target.seq address) (informed.memory.words.others task.target.slot task.target.seq address none) is
        where
          fresh_held : (phase : Phase) → phase ≡ Fresh → phase ≡ Acquired → ⊥
          fresh_held phase one two = cc
      by_test true some =
          let there = entry_there (state.history.change task.target.slot task.target.seq) address some in
          informed.knows.2.held_no_more there.index (subst (λ (entries : ℕ). there.index < entries) (sym (as_many config state informed.memory (record actor { point = Settle task }) task informed.knows.0)) there.within)
          (subst (λ (addr : ℕ). state.history.phase task.target.slot task.target.seq addr ≡ Acquired) (sym there.same) is)

  -- a door that has the fault
  may_fault : (point : Point) → IsInformed config state (record actor { point = point }) → MaySetDoor state actor.tenant (faulted state actor.tenant)
  may_fault point informed = record { fits = informed.memory.fits (AtDoor actor.tenant); fault = λ had. refl }

  pub prepare_guards : (own : Slot) → let me = record actor { point = Prepare own } in let called : Called = record { call = PrepareCall; change = own } in IsInformed config state me
      → (starts had_failed : Bool) (outcome : Outcome)
      → Guards config state actor.worker (moves_called state actor.worker me called (state.cells.statuses own.slot) starts had_failed outcome)
  prepare_guards own informed false had_failed outcome = (rests_so state actor.worker informed.standing, tt)
  prepare_guards own informed true true outcome =
      (may_fault (Prepare own) informed, (rests_so (made state actor.worker (SetDoor actor.tenant (faulted state actor.tenant))) actor.worker informed.standing, tt))
  prepare_guards own informed true false Good = (may_prepare, (rests_so (made state actor.worker (PrepareMove own)) actor.worker informed.standing, tt))
    where
      same_change : state.history.change own.slot own.seq ≡ own_entries actor
      same_change = informed.knows.drafted.own.same_entries

      may_prepare : MayPrepare state actor.worker own
      may_prepare = record {
        live = informed.live;
        draft = informed.knows.drafted.draft;
        own = informed.knows.drafted.own.same_worker;
        count = informed.knows.count ∙ ap (λ (entries : List Entry). length entries) (sym same_change);
        entries = λ index within.
            subst (λ (entries : List Entry). IsEntryOf state.cells own.slot index (entry_at entries index)) (sym same_change)
            (informed.knows.entries index (subst (λ (entries : List Entry). index < length entries) same_change within));
      }
  prepare_guards own informed true false (Fail number) =
      (may_fault (Prepare own) informed, (rests_so (made state actor.worker (SetDoor actor.tenant (faulted state actor.tenant))) actor.worker informed.standing, tt))

  -- the status of the target
  fate_is : (task : Task) (point : Point) (status : Status) → (informed : IsInformed config state (record actor { point = point })) → IsLive state task.target
      → WorksOn state (without_point actor) task → state.cells.statuses task.target.slot ≡ status → state.history.fate task.target.slot task.target.seq ≡ status
  fate_is task point status informed live on is = sym (status_told config state informed.memory actor.tenant task.target live on.at_work.target) ∙ is

  pub seal_guards : (task : Task) → let me = record actor { point = Seal task } in let called : Called = record { call = SealCall; change = task.target } in IsInformed config state me
      → (starts had_failed : Bool) (outcome : Outcome) → starts_from SealCall (state.cells.statuses task.target.slot) ≡ starts
      → Guards config state actor.worker (moves_called state actor.worker me called (state.cells.statuses task.target.slot) starts had_failed outcome)
  seal_guards task informed false had_failed outcome is = (rests_so state actor.worker informed.standing, tt)
  seal_guards task informed true true outcome is =
      let given = gives_up_rests (record actor { point = gives_up task SaysFault }) task SaysFault in (
        may_fault (Seal task) informed,
        (rests (made state actor.worker (SetDoor actor.tenant (faulted state actor.tenant))) actor.worker _ _ given.0 given.1 informed.standing, tt),
      )
  seal_guards task informed true false Good is = (
    record { live = informed.live.1; decided = fate_is task (Seal task) YesDirty informed informed.live.1 informed.knows.0 (seal_from (state.cells.statuses task.target.slot) is) },
    (rests_so (made state actor.worker (SealMove task.target)) actor.worker informed.standing, tt),
  )
  seal_guards task informed true false (Fail number) is =
      let given = gives_up_rests (record actor { point = gives_up task SaysFault }) task SaysFault in
      let door = made state actor.worker (SetDoor actor.tenant (faulted state actor.tenant)) in
      (may_fault (Seal task) informed, (tt, (rests (made door actor.worker (DecideFault task.target)) actor.worker _ _ given.0 given.1 informed.standing, tt)))

  pub settle_guards : (task : Task) → let me = record actor { point = Settle task } in let called : Called = record { call = SettleCall; change = task.target } in IsInformed config state me
      → (starts had_failed : Bool) (outcome : Outcome) → starts_from SettleCall (state.cells.statuses task.target.slot) ≡ starts
      → Guards config state actor.worker (moves_called state actor.worker me called (state.cells.statuses task.target.slot) starts had_failed outcome)
  settle_guards task informed false had_failed outcome is = (rests_so state actor.worker informed.standing, tt)
  settle_guards task informed true true outcome is =
      let given = gives_up_rests (record actor { point = gives_up task SaysFault }) task SaysFault in (
        may_fault (Settle task) informed,
        (rests (made state actor.worker (SetDoor actor.tenant (faulted state actor.tenant))) actor.worker _ _ given.0 given.1 informed.standing, tt),
      )
  settle_guards task informed true false Good is = (
    record {
      live = informed.live.1;
      is_made = fate_is task (Settle task) Yes informed informed.live.1 informed.knows.0 (settle_from (state.cells.statuses task.target.slot) is);
      let_go = none_held task informed;
    },
    (rests_so (made state actor.worker (SettleMove task.target)) actor.worker informed.standing, tt),
  )
  settle_guards task informed true false (Fail number) is =
      let given = gives_up_rests (record actor { point = gives_up task SaysFault }) task SaysFault in (
        may_fault (Settle task) informed,
        (rests (made state actor.worker (SetDoor actor.tenant (faulted state actor.tenant))) actor.worker _ _ given.0 given.1 informed.standing, tt),
      )

  -- a call that cancels, by the status that it finds
  pub cancels : (task : Task) (status : Status) → let me = record actor { point = Cancel task } in IsInformed config state me → state.cells.statuses task.target.slot ≡ status
      → Guards config state actor.worker (status_moves CancelCall task.target status ++ set_intent (record actor { point = ReadTargetStatus task }) ∷ [])
  cancels task (No entry value) informed is = (
    record { live = informed.live.1; refused = fate_is task (Cancel task) (No entry value) informed informed.live.1 informed.knows.0 is },
    (rests_so (made state actor.worker (CancelMove task.target entry value)) actor.worker informed.standing, tt),
  )
  cancels task status informed is = (rests_so state actor.worker informed.standing, tt)

  pub cancel_guards : (task : Task) → let me = record actor { point = Cancel task } in let called : Called = record { call = CancelCall; change = task.target } in IsInformed config state me
      → (starts had_failed : Bool) (outcome : Outcome)
      → Guards config state actor.worker (moves_called state actor.worker me called (state.cells.statuses task.target.slot) starts had_failed outcome)
  cancel_guards task informed false had_failed outcome = (rests_so state actor.worker informed.standing, tt)
  cancel_guards task informed true true outcome =
      (may_fault (Cancel task) informed, (rests_so (made state actor.worker (SetDoor actor.tenant (faulted state actor.tenant))) actor.worker informed.standing, tt))
  cancel_guards task informed true false Good = cancels task (state.cells.statuses task.target.slot) informed refl
  cancel_guards task informed true false (Fail number) =
      (may_fault (Cancel task) informed, (rests_so (made state actor.worker (SetDoor actor.tenant (faulted state actor.tenant))) actor.worker informed.standing, tt))

  at_point : (point : Point) (called : Called) (outcome : Outcome) → let me = record actor { point = point } in IsInformed config state me → called_at point ≡ Some called
      → Guards config state actor.worker (moves_of_call state actor.worker me called outcome)
  at_point (Prepare own) called outcome informed is =
      let me = record actor { point = Prepare own } in
      subst (λ (one : Called). Guards config state actor.worker (moves_of_call state actor.worker me one outcome)) (same_some (record { call = PrepareCall; change = own }) called is)
      (prepare_guards own informed (starts_from PrepareCall (state.cells.statuses own.slot)) (fails_on PrepareCall (state.tenant_states actor.tenant).file) outcome)
  at_point (Seal task) called outcome informed is =
      let me = record actor { point = Seal task } in
      subst (λ (one : Called). Guards config state actor.worker (moves_of_call state actor.worker me one outcome)) (same_some (record { call = SealCall; change = task.target }) called is)
      (seal_guards task informed (starts_from SealCall (state.cells.statuses task.target.slot)) (fails_on SealCall (state.tenant_states actor.tenant).file) outcome refl)
  at_point (Settle task) called outcome informed is =
      let me = record actor { point = Settle task } in
      subst (λ (one : Called). Guards config state actor.worker (moves_of_call state actor.worker me one outcome)) (same_some (record { call = SettleCall; change = task.target }) called is)
      (settle_guards task informed (starts_from SettleCall (state.cells.statuses task.target.slot)) (fails_on SettleCall (state.tenant_states actor.tenant).file) outcome refl)
  at_point (Cancel task) called outcome informed is =
      let me = record actor { point = Cancel task } in
      subst (λ (one : Called). Guards config state actor.worker (moves_of_call state actor.worker me one outcome)) (same_some (record { call = CancelCall; change = task.target }) called is)
      (cancel_guards task informed (starts_from CancelCall (state.cells.statuses task.target.slot)) (fails_on CancelCall (state.tenant_states actor.tenant).file) outcome)
  at_point point called outcome informed is = absurd (none called is)
    where
      none : (called : Called) → None ≡ Some called → ⊥
      none called e = cc

pub calls_have_guards : CallsHaveGuards
calls_have_guards config state actor called outcome informed is = at_point config state actor actor.point called outcome informed is
