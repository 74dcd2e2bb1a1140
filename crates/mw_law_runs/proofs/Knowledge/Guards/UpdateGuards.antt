-- If a request is informed (it knows its point's facts), each move of a step that changes a shared word has its precondition
-- (`Guard`).
-- Used by: moves_have_guards, mw_law_store.
use Rattle.std.specs.Prelude.{ℕ, ◌≡◌, ◌≢◌, ◌<◌, ◌≤◌, true, false, nat_lt, length, Some}
use Rattle.std.proofs.Common.{refl, sym, subst, ◌∙◌, arith}
use Rattle.std.proofs.lemmas.Bool.Decides.{nat_tests}
use Rattle.mw_words.specs.declared.limits.TheConstants.{MAX_POOL}
use Rattle.mw_words.specs.declared.places.At.TheVariants.{Door as AtDoor}
use Rattle.mw_words.specs.declared.rows.Row.{Row}
use Rattle.mw_words.specs.declared.statuses.Status.TheVariants.{Draft}
use Rattle.mw_words.specs.declared.words.Word.{Word}
use Rattle.mw_words.specs.declared.words.Word.TheVariants.{Plain, Held}
use Rattle.mw_look.specs.declared.observations.Observation.{Observation}
use Rattle.mw_look.specs.declared.observations.Observation.TheVariants.{SawDoor, SawGate, Won}
use Rattle.mw_look.specs.declared.points.Point.{Point as ReadPoint}
use Rattle.mw_look.specs.declared.points.Point.TheVariants.{Pin as PinOfRead, Unpin as UnpinOfRead, FreeSlot as FreeOfRead, LowerDoor as LowerOfRead}
use Rattle.mw_look.specs.Program.{slot_of, seq_of, freed}
use Rattle.mw_actor.specs.declared.points.Point.{Point}
use Rattle.mw_actor.specs.declared.points.Point.TheVariants.{Read, Admit, Claim, FillStatus, FillCount, FillAddr, FillExpected, FillNew, AnnounceRow, Plant, DecideYes, DecideNo, Resolve, PinOther, Release, Clean, SweepResolve, Unpin, FreeSlot, LowerDoor}
use Rattle.mw_actor.specs.declared.points.Slot.{Slot}
use Rattle.mw_actor.specs.declared.points.Sweep.TheVariants.{Yes as SweepYes, DoneYes as SweepDoneYes, No as SweepNo, DoneNo as SweepDoneNo}
use Rattle.mw_actor.specs.declared.points.Task.{Task}
use Rattle.mw_actor.specs.ActorState.{ActorState, own_entries, entry_at, entry_of}
use Rattle.mw_actor.specs.Asks.{asks_at, row_of}
use Rattle.mw_actor.specs.Ranges.{IsEntryInRange, IsInRange}
use Rattle.mw_world.specs.Maps.{upd_two}
use Rattle.mw_world.specs.declared.config.Config.{Config}
use Rattle.mw_world.specs.Definition.History.{NoAttempt, AttemptIn, standing_at, permission_at}
use Rattle.mw_world.specs.Claim.Invariant.{IsOfWorker}
use Rattle.mw_world.specs.Definition.State.{State, tenant_at}
use Rattle.mw_world.specs.Definition.Turns.{next_attempt, may_make}
use Rattle.mw_law_runs.specs.Moves.Guards.{Guards, MaySetIntent}
use Rattle.mw_law_runs.specs.Moves.Moves.{SetDoor, FillStatus as StatusMove, FillCount as CountMove, FillAddr as AddrMove, FillExpected as ExpectedMove, FillNew as NewMove, SetRow, Claim as ClaimMove, Pin, Unpin as UnpinMove, Free, SayYes, SayNo, TakeBack, Hold, WriteNew, LetGo, Clean as CleanMove, made}
use Rattle.mw_law_runs.specs.Moves.StepMoves.{lowered, moves_told, next_of}
use Rattle.mw_law_runs.specs.Counts.CountInvariant.{CountsStand}
use Rattle.mw_law_runs.proofs.Counts.Room.{who-frees-is-alone}
use Rattle.mw_law_runs.specs.Knowledge.Informed.{IsInformed, ChangesAWord}
use Rattle.mw_law_runs.specs.Knowledge.LastPins.{MayLeave}
use Rattle.mw_law_runs.specs.Knowledge.MoveGuards.{UpdatesHaveGuards}
use Rattle.mw_law_runs.proofs.Knowledge.Guards.Attempts.{if_same, plain_not, held_not, written, gone_here, may_stand}
use Rattle.mw_law_runs.proofs.Knowledge.Guards.Gates.{admit_guard, lower_guard, formed_of, claim_guard, pin_guard, free_guard, same_pin, target_is_pinned}
use Rattle.mw_law_runs.proofs.Knowledge.Guards.Memory.{slot_there, entry_fits, pinned_by}
use Rattle.mw_law_runs.proofs.Knowledge.Guards.IntentGuards.{Rests, may_forget, may_rest, goes_rest}
use Rattle.mw_law_runs.proofs.Knowledge.Guards.Words.{count_small, address_small, value_small, at_most, draft_guard, yes_guard, no_guard, row_guard, plant_guard, take_back_guard, write_new_guard, let_go_guard, clean_guard, done_refused}

below : (n limit : ℕ) → nat_lt n limit ≡ true → n < limit
below n limit is = grind (arith, nat_tests, is)

-- the request's own entry is in range
own_fits : (actor : ActorState) (entry : ℕ) → IsInRange actor → entry < length (own_entries actor) → IsEntryInRange (entry_at (own_entries actor) entry)
own_fits actor entry fits within = fits.job.1 entry (record { addr = 0; expected = 0; new = 0 }) within

-- the pool has no more slots than there may be
pool_small : (config : Config) (worker : ℕ) (actor : ActorState) → IsOfWorker config worker actor → IsInRange actor → config.pool ≤ MAX_POOL
pool_small config worker actor worker_state fits = omega (arith, worker_state.pool, fits.pool.1)

module _ (config : Config) (state : State) (actor : ActorState) (stand : CountsStand config state) where
  abbrev by : ℕ
  by = actor.worker

  abbrev at : Point → ActorState
  at point = record actor { point = point }

  -- what must be proved of a step, by what the request learns of it
  abbrev Has : Point → Observation → Type 0
  Has point observation = Guards config state by (moves_told state by (at point) observation)

  -- the request after the step
  abbrev onward : Point → Observation → ActorState
  onward point observation = next_of state by (at point) observation

  -- the worker has no standing attempt in the world after the step
  rests_after : (point : Point) (observation : Observation) (moved : State) → moved.history.standing by ≡ NoAttempt → Rests point observation
      → MaySetIntent moved by (standing_at (onward point observation) (onward point observation).point) (permission_at (onward point observation) (onward point observation).point)
  rests_after point observation moved rests plain =
      goes_rest moved by (may_rest moved by rests) (onward point observation) (at point) (next_attempt point (state.worker_states by).attempt) point observation plain

  -- what is known before a step
  abbrev Before : Point → Type 0
  Before point =
      ((state.worker_states by).actor ≡ Some (at point)) × IsInformed config state (at point) × MayLeave state point
      × (may_make config (asks_at (at point) point) ≡ true)

  abbrev Does : Point → Observation → Type 0
  Does point observation = ChangesAWord state.cells (asks_at (at point) point) observation

  -- a read
  read_updates : (tenant address : ℕ) (point : ReadPoint) (observation : Observation) → let here = Read (record { tenant = tenant; address = address; point = point }) in Before here → Does here observation → Has here observation
  read_updates tenant address (PinOfRead trail from to) observation before did =
      let informed = before.1 in
      let here = Read (record { tenant = tenant; address = address; point = PinOfRead trail from to }) in
      subst (Has here) (sym did.0) (
        pin_guard state (slot_of trail) (seq_of trail) from to informed.ready.1 did.1 informed.look_in_range.2,
        (may_rest (made state by (Pin (slot_of trail) to)) by informed.standing, tt),
      )
  read_updates tenant address (UnpinOfRead slot seq after) observation before did =
      let informed = before.1 in
      let here = Read (record { tenant = tenant; address = address; point = UnpinOfRead slot seq after }) in
      subst (Has here) (sym did) (
        record {
          taken = informed.live.taken;
          pinned = pinned_by config state by slot (at here) stand before.0 (omega (arith, same_pin slot slot refl));
          last = before.2;
        },
        (may_rest (made state by (UnpinMove slot)) by informed.standing, tt),
      )
  read_updates tenant address (FreeOfRead slot seq after) observation before did =
      let informed = before.1 in
      let here = Read (record { tenant = tenant; address = address; point = FreeOfRead slot seq after }) in
      subst (Has here) (sym did) (
        free_guard state (record { slot = slot; seq = seq }) informed.live
            (who-frees-is-alone config state by slot (at here) stand before.0 (omega (arith, same_pin slot slot refl))).unpinned informed.look_in_range,
        (may_rest (made state by (Free slot (freed seq))) by informed.standing, tt),
      )
  read_updates tenant address (LowerOfRead after) observation before did =
      let informed = before.1 in
      let here = Read (record { tenant = tenant; address = address; point = LowerOfRead after }) in
      subst (Has here) (sym did)
      (lower_guard state tenant (informed.memory.fits (AtDoor tenant)), (may_rest (made state by (SetDoor tenant (lowered state tenant))) by informed.standing, tt))
  read_updates tenant address point observation before did = absurd did

  -- an attempt is made
  planted : (task : Task) (entry number : ℕ) → let here = Plant task entry number in Before here → Does here Won → Has here Won
  planted task entry number before did =
      let here = Plant task entry number in
      let informed = before.1 in
      let address = (entry_of (at here) task entry).addr in
      let pinned = pinned_by config state by task.target.slot (at here) stand before.0 (target_is_pinned task) in (
        plant_guard config state informed.memory (at here) task entry informed.knows.0 number informed.knows.2 did.1
            ((informed.live.1.taken, pinned), informed.live.1.seq) informed.standing informed.knows.1 informed.in_range.worker informed.in_range.point.1,
        (
          may_stand state by actor.tenant address number _ (if_same by (AttemptIn actor.tenant address number) NoAttempt)
              (subst (λ (row : Row). state.history.fate row.slot row.seq ≢ Draft) (sym informed.knows.2) informed.knows.0.works.at_work.target.ready),
          tt,
        ),
      )

  -- every point
  at_point : (point : Point) (observation : Observation) → Before point → Does point observation → Has point observation
  at_point (Read look) observation before did = read_updates look.tenant look.address look.point observation before did
  at_point (Admit from to) observation before did =
      let informed = before.1 in
      subst (Has (Admit from to)) (sym did.0) (
        admit_guard state actor.tenant actor.quota from to informed.ready informed.in_range.point.1 did.1,
        (rests_after (Admit from to) Won (made state by (SetDoor actor.tenant to)) informed.standing tt, tt),
      )
  at_point (Claim slot saw_worn from to) observation before did =
      let here = Claim slot saw_worn from to in
      let informed = before.1 in
      let own : Slot = record { slot = slot; seq = from.seq } in
      subst (Has here) (sym did.0) (
        claim_guard config state slot actor.tenant from to (own_entries (at here)) informed.ready did.1 informed.in_range.point.2 (below slot config.pool before.3) informed.worker_state.tenant
            (formed_of (tenant_at config actor.tenant).words slot saw_worn from to actor.job informed.for_job informed.worker_state.job),
        (rests_after here Won (made state by (ClaimMove own to actor.tenant (state.worker_states by).request (own_entries (at here)))) informed.standing tt, tt),
      )
  at_point (FillStatus own) observation before did =
      let informed = before.1 in
      subst (Has (FillStatus own)) (sym did)
      (draft_guard state (at (FillStatus own)) own informed.live informed.knows, (rests_after (FillStatus own) Won (made state by (StatusMove own.slot)) informed.standing tt, tt))
  at_point (FillCount own) observation before did =
      let here = FillCount own in
      let informed = before.1 in
      subst (Has here) (sym did) (
        record { draft = draft_guard state (at here) own informed.live informed.knows.0; fits = count_small (length (own_entries (at here))) informed.in_range.job.0 },
        (rests_after here Won (made state by (CountMove own.slot (length (own_entries (at here))))) informed.standing tt, tt),
      )
  at_point (FillAddr own entry) observation before did =
      let here = FillAddr own entry in
      let informed = before.1 in
      let address = (entry_at (own_entries (at here)) entry).addr in
      subst (Has here) (sym did) (
        record {
          draft = draft_guard state (at here) own informed.live informed.knows.written.drafted;
          fits = address_small address (own_fits (at here) entry informed.in_range informed.knows.within).0;
        },
        (rests_after here Won (made state by (AddrMove own.slot entry address)) informed.standing tt, tt),
      )
  at_point (FillExpected own entry) observation before did =
      let here = FillExpected own entry in
      let informed = before.1 in
      let value = (entry_at (own_entries (at here)) entry).expected in
      subst (Has here) (sym did) (
        record {
          draft = draft_guard state (at here) own informed.live informed.knows.0.written.drafted;
          fits = value_small value (own_fits (at here) entry informed.in_range informed.knows.0.within).1;
        },
        (rests_after here Won (made state by (ExpectedMove own.slot entry value)) informed.standing tt, tt),
      )
  at_point (FillNew own entry) observation before did =
      let here = FillNew own entry in
      let informed = before.1 in
      let value = (entry_at (own_entries (at here)) entry).new in
      subst (Has here) (sym did) (
        record {
          draft = draft_guard state (at here) own informed.live informed.knows.0.written.drafted;
          fits = value_small value (own_fits (at here) entry informed.in_range informed.knows.0.within).2;
        },
        (rests_after here Won (made state by (NewMove own.slot entry value)) informed.standing tt, tt),
      )
  at_point (AnnounceRow task entry number) observation before did =
      let here = AnnounceRow task entry number in
      let informed = before.1 in
      subst (Has here) (sym did) (
        row_guard config state informed.memory (at here) task entry informed.live.1 (pool_small config by (at here) informed.worker_state informed.in_range) informed.in_range.point.1
            informed.in_range.point.0.1 informed.standing,
        (rests_after here Won (made state by (SetRow (row_of task.target entry))) informed.standing tt, tt),
      )
  at_point (Plant task entry number) observation before did = subst (Has (Plant task entry number)) (sym did.0) (planted task entry number before (refl, did.1))
  at_point (DecideYes task) observation before did =
      let here = DecideYes task in
      let informed = before.1 in
      subst (Has here) (sym did.0) (
        yes_guard config state informed.memory (at here) task informed.live.1 informed.knows.0 informed.knows.1 did.1,
        (rests_after here Won (made state by (SayYes task.target)) informed.standing tt, tt),
      )
  at_point (DecideNo task entry value) observation before did =
      let here = DecideNo task entry value in
      let informed = before.1 in
      subst (Has here) (sym did.0) (
        no_guard config state informed.memory (at here) task entry value informed.live.1 informed.knows.0.works did.1 informed.in_range.point.1 informed.in_range.point.2,
        (rests_after here Won (made state by (SayNo task.target entry value)) informed.standing tt, tt),
      )
  at_point (Resolve task entry attempt true) observation before did =
      let here = Resolve task entry attempt true in
      let informed = before.1 in
      let address = (entry_of (at here) task entry).addr in
      let word : Word = Held task.target.slot task.target.seq in
      subst (Has here) (sym did.0) (
        record {
          permission = informed.permission;
          word = did.1;
          fits = (slot_there config state informed.memory task.target informed.live.1 (pool_small config by (at here) informed.worker_state informed.in_range), at_most task.target.seq informed.in_range.point.0.1);
        },
        (
          may_forget (made state by (Hold actor.tenant address attempt.worker attempt.number task.target)) by
              (gone_here (upd_two state.cells.words actor.tenant address word) by actor.tenant address attempt.worker attempt.number (state.history.standing by) informed.standing
              (λ found. held_not task.target.slot task.target.seq attempt.worker attempt.number (sym (written state.cells.words actor.tenant address word) ∙ found))),
          tt,
        ),
      )
  at_point (Resolve task entry attempt false) observation before did =
      let here = Resolve task entry attempt false in
      let informed = before.1 in
      let address = (entry_of (at here) task entry).addr in
      let value = (entry_of (at here) task entry).expected in
      let word : Word = Plain value in
      subst (Has here) (sym did.0) (
        take_back_guard config state informed.memory (at here) task entry informed.knows.0 attempt informed.knows.1
            (entry_fits (at here) task entry informed.in_range informed.knows.0.within) did.1,
        (
          may_forget (made state by (TakeBack actor.tenant address attempt.worker attempt.number value)) by
              (gone_here (upd_two state.cells.words actor.tenant address word) by actor.tenant address attempt.worker attempt.number (state.history.standing by) informed.standing
              (λ found. plain_not value attempt.worker attempt.number (sym (written state.cells.words actor.tenant address word) ∙ found))),
          tt,
        ),
      )
  at_point (PinOther task other from to) observation before did =
      let here = PinOther task other from to in
      let informed = before.1 in
      subst (Has here) (sym did.0)
      (pin_guard state other.slot other.seq from to informed.ready.1 did.1 informed.in_range.point.3, (rests_after here Won (made state by (Pin other.slot to)) informed.standing tt, tt))
  at_point (Release task SweepYes entry) observation before did =
      let here = Release task SweepYes entry in
      let informed = before.1 in
      let one = entry_of (at here) task entry in
      subst (Has here) (sym did.0) (
        write_new_guard config state informed.memory (at here) task entry informed.knows.0.at informed.knows.0.decided informed.live.1 (pool_small config by (at here) informed.worker_state informed.in_range)
            (entry_fits (at here) task entry informed.in_range informed.knows.0.at.within) did.1,
        (rests_after here Won (made state by (WriteNew actor.tenant one.addr task.target one.new)) informed.standing tt, tt),
      )
  at_point (Release task SweepNo entry) observation before did =
      let here = Release task SweepNo entry in
      let informed = before.1 in
      let one = entry_of (at here) task entry in
      subst (Has here) (sym did.0) (
        let_go_guard config state informed.memory (at here) task entry informed.knows.0.at informed.knows.0.decided
            (entry_fits (at here) task entry informed.in_range informed.knows.0.at.within) did.1,
        (rests_after here Won (made state by (LetGo actor.tenant one.addr task.target one.expected)) informed.standing tt, tt),
      )
  at_point (Release task (SweepDoneNo index value) entry) observation before did =
      let here = Release task (SweepDoneNo index value) entry in
      let informed = before.1 in
      let one = entry_of (at here) task entry in
      subst (Has here) (sym did.0) (
        let_go_guard config state informed.memory (at here) task entry informed.knows.0.at
            (done_refused (state.history.fate task.target.slot task.target.seq) index value informed.knows.0.decided)
            (entry_fits (at here) task entry informed.in_range informed.knows.0.at.within) did.1,
        (rests_after here Won (made state by (LetGo actor.tenant one.addr task.target one.expected)) informed.standing tt, tt),
      )
  at_point (Release task SweepDoneYes entry) observation before did = absurd before.1.knows.1
  at_point (Clean task entry value) observation before did =
      let here = Clean task entry value in
      let informed = before.1 in
      subst (Has here) (sym did.0) (
        clean_guard config state informed.memory (at here) task entry informed.knows.0.at value informed.live.1 informed.knows.0.decided did.1,
        (rests_after here Won (made state by (CleanMove actor.tenant (entry_of (at here) task entry).addr task.target value)) informed.standing tt, tt),
      )
  at_point (SweepResolve task sweep entry attempt) observation before did =
      let here = SweepResolve task sweep entry attempt in
      let informed = before.1 in
      let one = entry_of (at here) task entry in
      subst (Has here) (sym did.0) (
        take_back_guard config state informed.memory (at here) task entry informed.knows.0.at attempt informed.knows.2
            (entry_fits (at here) task entry informed.in_range informed.knows.0.at.within) did.1,
        (rests_after here Won (made state by (TakeBack actor.tenant one.addr attempt.worker attempt.number one.expected)) informed.standing tt, tt),
      )
  at_point (Unpin slot after) observation before did =
      let here = Unpin slot after in
      let informed = before.1 in
      subst (Has here) (sym did) (
        record {
          taken = informed.live.0.taken;
          pinned = pinned_by config state by slot.slot (at here) stand before.0 (omega (arith, same_pin slot.slot slot.slot refl));
          last = before.2;
        },
        (rests_after here (SawGate (state.cells.gates slot.slot)) (made state by (UnpinMove slot.slot)) informed.standing tt, tt),
      )
  at_point (FreeSlot slot after) observation before did =
      let here = FreeSlot slot after in
      let informed = before.1 in
      subst (Has here) (sym did) (
        free_guard state slot informed.live.0 (who-frees-is-alone config state by slot.slot (at here) stand before.0 (omega (arith, same_pin slot.slot slot.slot refl))).unpinned
            informed.in_range.point.0,
        (rests_after here Won (made state by (Free slot.slot (freed slot.seq))) informed.standing tt, tt),
      )
  at_point (LowerDoor after) observation before did =
      let here = LowerDoor after in
      let informed = before.1 in
      subst (Has here) (sym did) (
        lower_guard state actor.tenant (informed.memory.fits (AtDoor actor.tenant)),
        (rests_after here (SawDoor (state.cells.doors actor.tenant)) (made state by (SetDoor actor.tenant (lowered state actor.tenant))) informed.standing tt, tt),
      )
  at_point point observation before did = absurd did

pub updates_have_guards : UpdatesHaveGuards
updates_have_guards config state actor observation stand seated informed may_leave there did = at_point config state actor stand actor.point observation (seated, informed, may_leave, there) did
