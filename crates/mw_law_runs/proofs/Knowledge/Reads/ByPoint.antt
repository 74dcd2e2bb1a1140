-- After a step that changes no shared word, an informed request (`IsInformed`) knows the facts of its next point too: one
-- case for each point.
-- Used by: reads_inform, mw_law_store.
use Rattle.std.specs.Prelude.{ℕ, ◌≡◌, ◌≤◌, ◌+◌, ◌&&◌, ◌||◌, Bool, false, nat_lt, nat_le, Option, Some, None}
use Rattle.std.proofs.Common.{sym, ap, ◌∙◌, arith}
use Rattle.mw_words.specs.declared.doors.Door.{Door}
use Rattle.mw_words.specs.declared.gates.Gate.{Gate}
use Rattle.mw_words.specs.declared.limits.TheConstants.{WORN_NUMBER}
use Rattle.mw_words.specs.declared.replies.Reply.TheVariants.{Worn as SaysWorn}
use Rattle.mw_words.specs.declared.rows.Row.{Row}
use Rattle.mw_words.specs.declared.statuses.Status.{Status}
use Rattle.mw_words.specs.declared.words.Word.{Word}
use Rattle.mw_pool.specs.declared.doors.Admission.{Admission}
use Rattle.mw_pool.specs.declared.doors.Admission.TheVariants.{Fault as HasFailed, Busy as IsBusy, To}
use Rattle.mw_pool.specs.Moves.{after_admit, after_claim, after_pin}
use Rattle.mw_look.specs.declared.observations.Observation.{Observation}
use Rattle.mw_look.specs.declared.observations.Observation.TheVariants.{SawDoor, SawGate, SawRow, SawWord, SawStatus, SawNumber, Won, Lost, Filed}
use Rattle.mw_look.specs.declared.points.Point.{Point as ReadPoint}
use Rattle.mw_look.specs.declared.points.Point.TheVariants.{Pin as PinOfRead}
use Rattle.mw_look.specs.Program.{asks_at as read_asks_at}
use Rattle.mw_look.proofs.RangeLaws.{either_way}
use Rattle.mw_actor.specs.declared.points.After.TheVariants.{Reply as ThenReply}
use Rattle.mw_actor.specs.declared.points.Point.{Point}
use Rattle.mw_actor.specs.declared.points.Point.TheVariants.{Read, ReadDoor, Admit, ScanGate, Claim, FillStatus, FillCount, FillAddr, FillExpected, FillNew, Prepare, ReadTargetStatus, Inspect, AnnounceRow, Plant, ReadOtherRow, ConfirmAttempt, ReadDirtyGate, ConfirmDirty, DecideYes, DecideNo, CheckThenResolve, Resolve, ReadOtherGate, PinOther, ReadCount, ReadAddr, ReadExpected, ReadNew, Seal, SweepWord, Release, Clean, SweepRow, SweepConfirm, SweepResolve, Settle, Cancel, Unpin, FreeSlot, LowerDoor, GiveUp, Replied}
use Rattle.mw_actor.specs.declared.points.Slot.{Slot}
use Rattle.mw_actor.specs.declared.points.Sweep.TheVariants.{DoneYes as SweepDoneYes}
use Rattle.mw_actor.specs.declared.points.Task.{Task}
use Rattle.mw_actor.specs.ActorState.{ActorState, row_slot}
use Rattle.mw_actor.specs.Admission.{admitted, round_over, next_gate, is_worn, claiming}
use Rattle.mw_actor.specs.Asks.{asks_at}
use Rattle.mw_actor.specs.Help.{others_read, pinned}
use Rattle.mw_actor.specs.Program.{goes}
use Rattle.mw_world.specs.declared.config.Config.{Config}
use Rattle.mw_look.specs.declared.steps.Shape.TheVariants.{Exchange, Store, Fetch}
use Rattle.mw_world.specs.Definition.State.{State}
use Rattle.mw_world.specs.Definition.Turns.{next_attempt}
use Rattle.mw_law_runs.specs.Knowledge.Facts.{IsGiven, IsForChange}
use Rattle.mw_law_runs.specs.Knowledge.Informed.{IsInformed, ChangesNoWord}
use Rattle.mw_law_runs.specs.Knowledge.Live.{TakesNoPin, TakesNoPinInRead}
use Rattle.mw_law_runs.specs.Knowledge.Points.{Knows}
use Rattle.mw_law_runs.specs.Knowledge.NextState.{KnowsItsPoint, told}
use Rattle.mw_law_runs.proofs.Knowledge.LiveSlotsOverSteps.{live_slots_go_on}
use Rattle.mw_law_runs.specs.Knowledge.Reads.{ReadsInform}
use Rattle.mw_law_runs.proofs.Knowledge.Reads.Memory.{status_told}
use Rattle.mw_law_runs.proofs.Knowledge.Reads.Inspection.{status_knows, inspected_knows, confirmed_knows, dirty_knows}
use Rattle.mw_law_runs.proofs.Knowledge.Reads.Help.{count_knows, addr_knows, expected_knows, new_knows}
use Rattle.mw_law_runs.proofs.Knowledge.Reads.ReadRequests.{read_looks}
use Rattle.mw_law_runs.proofs.Knowledge.Reads.ReleasePhase.{next_sweep_knows, here_let_go, swept_knows, sweep_confirmed_knows, not_yes}

-- a load tells what is at the place
of_gate : (one other : Gate) → SawGate one ≡ SawGate other → other ≡ one
of_gate one other e = cc

of_row : (one other : Row) → SawRow one ≡ SawRow other → other ≡ one
of_row one other e = cc

of_word : (one other : Word) → SawWord one ≡ SawWord other → other ≡ one
of_word one other e = cc

of_status : (one other : Status) → SawStatus one ≡ SawStatus other → other ≡ one
of_status one other e = cc

of_number : (one other : ℕ) → SawNumber one ≡ SawNumber other → other ≡ one
of_number one other e = cc

-- a store and a fetch are no exchange, and an exchange that changes nothing hasn't won
no_store : Store ≡ Exchange → ⊥
no_store e = cc

no_fetch : Fetch ≡ Exchange → ⊥
no_fetch e = cc

not_won : Won ≡ Lost → ⊥
not_won e = cc

module _ (state : State) (actor : ActorState) where
  admitted_knows : (next : ℕ) (door : Door) (says : Admission) → Knows state actor (admitted next door says)
  admitted_knows next door HasFailed = tt
  admitted_knows next door IsBusy = tt
  admitted_knows next door (To to) = either_way (Knows state actor) (nat_lt next WORN_NUMBER) (Admit door to) (Replied SaysWorn) (λ low. tt) (λ worn. tt)

  next_gate_knows : (slot : ℕ) (saw_worn : Bool) → Knows state actor (next_gate actor slot saw_worn)
  next_gate_knows slot saw_worn =
      either_way (Knows state actor) (nat_lt (slot + 1) actor.pool) (ScanGate (slot + 1) saw_worn) (round_over saw_worn) (λ more. tt)
      (λ last. either_way (Knows state actor) saw_worn (LowerDoor (ThenReply SaysWorn)) (ScanGate 0 false) (λ worn. tt) (λ again. tt))

  claiming_knows : (slot : ℕ) (saw_worn : Bool) (gate : Gate) (to : Option Gate) → Knows state actor (claiming actor slot saw_worn gate to)
  claiming_knows slot saw_worn gate (Some to) = tt
  claiming_knows slot saw_worn gate None = next_gate_knows slot (saw_worn || is_worn gate)

  for_row : (tenant address : ℕ) (worker number : ℕ) (row : Row) → IsGiven state (record { worker = worker; number = number }) → state.cells.rows worker ≡ row
      → IsForChange state tenant address (record { worker = worker; number = number }) (row_slot row)
  for_row tenant address worker number row given is = record { given = given; slot = λ stands. ap (λ (one : Row). one.slot) is; seq = λ stands. ap (λ (one : Row). one.seq) is }

  pinned_knows : (task : Task) (other : Slot) (gate : Gate) (to : Option Gate) → Knows state actor (ReadOtherGate task other) → Knows state actor (pinned task other gate to)
  pinned_knows task other gate (Some to) knows = knows
  pinned_knows task other gate None knows = knows.0

module _ (config : Config) (state : State) (actor : ActorState) where
  at_point : (point : Point) (observation : Observation) → let me = record actor { point = point } in IsInformed config state me → ChangesNoWord state.cells (asks_at me point) observation
      → Knows state (record me { others = others_read actor.others point observation }) (goes me (next_attempt point (state.worker_states actor.worker).attempt) point observation)
  at_point (Read look) observation informed quiet = read_looks config state informed.memory look.tenant look.address look.point observation quiet informed.knows
  at_point ReadDoor (SawDoor door) informed quiet = admitted_knows state (record actor { point = ReadDoor }) (state.worker_states actor.worker).attempt door (after_admit door actor.quota)
  at_point (Admit from to) Won informed quiet = tt
  at_point (Admit from to) Lost informed quiet = tt
  at_point (ScanGate slot saw_worn) (SawGate gate) informed quiet = claiming_knows state (record actor { point = ScanGate slot saw_worn }) slot saw_worn gate (after_claim gate)
  at_point (Claim slot saw_worn from to) Won informed quiet = absurd (not_won quiet.1)
  at_point (Claim slot saw_worn from to) Lost informed quiet = next_gate_knows state (record actor { point = Claim slot saw_worn from to }) slot saw_worn
  at_point (FillStatus own) Won informed quiet = absurd (no_store quiet.0)
  at_point (FillCount own) Won informed quiet = absurd (no_store quiet.0)
  at_point (FillAddr own entry) Won informed quiet = absurd (no_store quiet.0)
  at_point (FillExpected own entry) Won informed quiet = absurd (no_store quiet.0)
  at_point (FillNew own entry) Won informed quiet = absurd (no_store quiet.0)
  at_point (Prepare own) (Filed went_well) informed quiet = absurd quiet
  at_point (ReadTargetStatus task) (SawStatus status) informed quiet =
      status_knows config state informed.memory (record actor { point = ReadTargetStatus task }) task status informed.knows
      (sym (status_told config state informed.memory actor.tenant task.target informed.live.1 informed.knows.at_work.target) ∙ of_status status (state.cells.statuses task.target.slot) quiet)
  at_point (Inspect task entry) (SawWord word) informed quiet =
      inspected_knows config state informed.memory (record actor { point = Inspect task entry }) task entry informed.knows.0 word informed.knows.1 informed.standing (of_word word _ quiet)
  at_point (AnnounceRow task entry number) Won informed quiet = absurd (no_store quiet.0)
  at_point (Plant task entry number) Won informed quiet = absurd (not_won quiet.1)
  at_point (Plant task entry number) Lost informed quiet = informed.knows.0.works
  at_point (ReadOtherRow task entry attempt) (SawRow row) informed quiet =
      (informed.knows.0, informed.knows.1, for_row state actor actor.tenant _ attempt.worker attempt.number row informed.knows.1.given (of_row row (state.cells.rows attempt.worker) quiet))
  at_point (ConfirmAttempt task entry attempt other) (SawWord word) informed quiet =
      confirmed_knows config state informed.memory (record actor { point = ConfirmAttempt task entry attempt other }) task entry informed.knows.0 attempt other word
      informed.knows.1 informed.knows.2 (of_word word _ quiet)
  at_point (ReadDirtyGate task entry slot value) (SawGate gate) informed quiet =
      either_way (Knows state (record actor { point = ReadDirtyGate task entry slot value })) (gate.taken && nat_le 1 gate.pins)
      (ConfirmDirty task entry (record { slot = slot; seq = gate.seq }) value) (ReadTargetStatus task) (λ taken. (informed.knows, reached gate (of_gate gate (state.cells.gates slot) quiet))) (λ was_released. informed.knows.works)
    where
      reached : (gate : Gate) → state.cells.gates slot ≡ gate → gate.seq ≤ (state.cells.gates slot).seq
      reached gate is = omega (arith, ap (λ (one : Gate). one.seq) is)
  at_point (ConfirmDirty task entry other value) (SawWord word) informed quiet =
      dirty_knows config state informed.memory (record actor { point = ConfirmDirty task entry other value }) task entry informed.knows.0 other value word informed.knows.1 (of_word word _ quiet)
  at_point (DecideYes task) Won informed quiet = absurd (not_won quiet.1)
  at_point (DecideYes task) Lost informed quiet = informed.knows.0
  at_point (DecideNo task entry value) Won informed quiet = absurd (not_won quiet.1)
  at_point (DecideNo task entry value) Lost informed quiet = informed.knows.0.works
  at_point (CheckThenResolve task entry attempt) (SawStatus status) informed quiet = informed.knows
  at_point (Resolve task entry attempt was_open) Won informed quiet = absurd (not_won quiet.1)
  at_point (Resolve task entry attempt was_open) Lost informed quiet = informed.knows.0.works
  at_point (ReadOtherGate task other) (SawGate gate) informed quiet =
      either_way (Knows state (record actor { point = ReadOtherGate task other })) (nat_lt other.seq WORN_NUMBER) (pinned task other gate (after_pin gate other.seq)) (ReadTargetStatus task)
      (λ low. pinned_knows state (record actor { point = ReadOtherGate task other }) task other gate (after_pin gate other.seq) informed.knows) (λ worn. informed.knows.0)
  at_point (PinOther task other from to) Won informed quiet = absurd (not_won quiet.1)
  at_point (PinOther task other from to) Lost informed quiet = informed.knows.0
  at_point (ReadCount task) (SawNumber count) informed quiet =
      count_knows config state informed.memory (record actor { point = ReadCount task }) task informed.live.1 count informed.knows.0 informed.knows.1
      (of_number count (state.cells.counts task.target.slot) quiet)
  at_point (ReadAddr task count) (SawNumber addr) informed quiet =
      addr_knows config state informed.memory (record actor { point = ReadAddr task count }) task informed.live.1 count informed.knows addr (of_number addr _ quiet)
  at_point (ReadExpected task count addr) (SawNumber expected) informed quiet =
      expected_knows config state informed.memory (record actor { point = ReadExpected task count addr }) task informed.live.1 count informed.knows.0 addr expected informed.knows.1
      (of_number expected _ quiet)
  at_point (ReadNew task count addr expected) (SawNumber new) informed quiet =
      new_knows config state informed.memory (record actor { point = ReadNew task count addr expected }) task informed.live.1 count informed.knows.0 addr expected new
      informed.knows.1 informed.knows.2 (of_number new _ quiet)
  at_point (Seal task) (Filed went_well) informed quiet = absurd quiet
  at_point (SweepWord task sweep entry) (SawWord word) informed quiet =
      swept_knows config state informed.memory (record actor { point = SweepWord task sweep entry }) task entry sweep word informed.live.1 informed.knows (of_word word _ quiet)
  at_point (Release task sweep entry) Won informed quiet = absurd (not_won quiet.1)
  at_point (Release task sweep entry) Lost informed quiet =
      let me = record actor { point = Release task sweep entry } in
      next_sweep_knows state me task sweep entry informed.knows.0 (here_let_go config state informed.memory me task entry sweep informed.knows.0 quiet.2)
  at_point (Clean task entry value) Won informed quiet = absurd (not_won quiet.1)
  at_point (Clean task entry value) Lost informed quiet = next_sweep_knows state (record actor { point = Clean task entry value }) task SweepDoneYes entry informed.knows.0 (λ is_yes. cc)
  at_point (SweepRow task sweep entry attempt) (SawRow row) informed quiet =
      (informed.knows.0, informed.knows.1, for_row state actor actor.tenant _ attempt.worker attempt.number row informed.knows.2 (of_row row (state.cells.rows attempt.worker) quiet))
  at_point (SweepConfirm task sweep entry attempt other) (SawWord word) informed quiet =
      sweep_confirmed_knows config state informed.memory (record actor { point = SweepConfirm task sweep entry attempt other }) task entry sweep attempt other word
      informed.knows.0 informed.knows.1 informed.knows.2
  at_point (SweepResolve task sweep entry attempt) Won informed quiet = absurd (not_won quiet.1)
  at_point (SweepResolve task sweep entry attempt) Lost informed quiet =
      next_sweep_knows state (record actor { point = SweepResolve task sweep entry attempt }) task sweep entry informed.knows.0 (λ is_yes. absurd (not_yes sweep informed.knows.1 is_yes))
  at_point (Settle task) (Filed went_well) informed quiet = absurd quiet
  at_point (Cancel task) (Filed went_well) informed quiet = absurd quiet
  at_point (Unpin slot onward) (SawGate gate) informed quiet = absurd (no_fetch quiet.0)
  at_point (FreeSlot slot onward) Won informed quiet = absurd (no_store quiet.0)
  at_point (LowerDoor onward) (SawDoor door) informed quiet = absurd (no_fetch quiet.0)
  at_point (GiveUp own undecided) (SawStatus status) informed quiet = tt
  at_point point observation informed quiet = informed.knows

  -- a step that changes nothing takes no pin
  takes_none : (point : Point) (observation : Observation) → ChangesNoWord state.cells (asks_at (record actor { point = point }) point) observation → TakesNoPin point observation
  takes_none (Claim slot saw_worn from to) Won quiet = not_won quiet.1
  takes_none (PinOther task other from to) Won quiet = not_won quiet.1
  takes_none (Read look) observation quiet = of_read look.point observation quiet
    where
      of_read : (point : ReadPoint) (observation : Observation) → ChangesNoWord state.cells (read_asks_at look.tenant look.address point) observation → TakesNoPinInRead point observation
      of_read (PinOfRead trail from to) Won quiet = not_won quiet.1
      of_read point observation quiet = tt
  takes_none point observation quiet = tt

  pub informs : (point : Point) (observation : Observation) → let me = record actor { point = point } in IsInformed config state me → ChangesNoWord state.cells (asks_at me point) observation
      → KnowsItsPoint state (told state me observation)
  informs point observation informed quiet = record {
    live = live_slots_go_on state (record actor { point = point }) (next_attempt point (state.worker_states actor.worker).attempt) point observation (takes_none point observation quiet) informed.live;
    knows = at_point point observation informed quiet;
  }

pub reads_inform : ReadsInform
reads_inform config state actor observation informed quiet = informs config state actor actor.point observation informed quiet
