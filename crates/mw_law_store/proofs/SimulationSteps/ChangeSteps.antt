-- What a step of a change's request gives the simulation: what it finds at a door, gate or word, and the change's next
-- status. Used by: StepsByPoint.
use Rattle.std.specs.Prelude.{ℕ, zero, suc, ◌≡◌, ◌≢◌, ◌≤◌, ◌<◌, ◌⊎◌, ◌+◌, Bool, true, false, cond, nat_lt, List, [], ◌∷◌, length, slice_get, Some}
use Rattle.std.proofs.Common.{refl, sym, ap, subst, ◌∙◌, inl, inr, arith}
use Rattle.std.proofs.lemmas.Bool.Decides.{nat_tests}
use Rattle.mw_words.specs.declared.doors.Door.{Door}
use Rattle.mw_words.specs.declared.gates.Gate.{Gate}
use Rattle.mw_words.specs.declared.jobs.Entry.{Entry}
use Rattle.mw_words.specs.declared.limits.TheConstants.{WORN_NUMBER}
use Rattle.mw_words.specs.declared.replies.Reply.TheVariants.{Worn as SaysWorn}
use Rattle.mw_words.specs.declared.statuses.Status.{Status}
use Rattle.mw_words.specs.declared.statuses.Status.TheVariants.{Open, YesDirty}
use Rattle.mw_words.specs.declared.words.Word.{Word}
use Rattle.mw_pool.specs.declared.doors.Admission.TheVariants.{Busy as IsBusy, Fault as HasFailed, To}
use Rattle.mw_look.specs.declared.observations.Observation.TheVariants.{SawWord}
use Rattle.mw_look.proofs.RangeLaws.{either_way}
use Rattle.mw_actor.specs.declared.points.After.{After}
use Rattle.mw_actor.specs.declared.points.Point.{Point}
use Rattle.mw_actor.specs.declared.points.Point.TheVariants.{ReadDoor, Admit, Inspect, DecideYes, DecideNo, FreeSlot, Replied}
use Rattle.mw_actor.specs.declared.points.Slot.{Slot}
use Rattle.mw_actor.specs.declared.points.Task.{Task}
use Rattle.mw_actor.specs.ActorState.{ActorState, entries_of, entry_at, entry_of}
use Rattle.mw_actor.specs.Admission.{admitted, door_read}
use Rattle.mw_actor.specs.Inspection.{inspected}
use Rattle.mw_world.specs.declared.config.Config.{Config}
use Rattle.mw_world.specs.declared.step_labels.StepLabel.{StepLabel}
use Rattle.mw_world.specs.declared.step_labels.StepLabel.TheVariants.{Admitted, Claimed, Decided, Refused, Freed}
use Rattle.mw_world.specs.Definition.StepLabels.{door_label, inspect_label}
use Rattle.mw_world.specs.Definition.State.{State}
use Rattle.mw_law_runs.specs.Moves.Guards.{MayClaim, MaySayYes, MaySayNo}
use Rattle.mw_law_runs.specs.Knowledge.Facts.{AtEntry}
use Rattle.mw_law_runs.specs.Knowledge.Informed.{IsInformed}
use Rattle.mw_law_runs.specs.Knowledge.Points.{Knows, without_point}
use Rattle.mw_law_runs.specs.Knowledge.NextState.{told as told_observation}
use Rattle.mw_law_runs.proofs.Knowledge.Reads.ByPoint.{reads_inform}
use Rattle.mw_law_runs.specs.RunInvariant.{IsSound}
use Rattle.mw_law_runs.proofs.Obligations.Pins.{counted_once}
use Rattle.mw_law_runs.proofs.RequestsInWorlds.{have_their_requests}
use Rattle.mw_law_store.specs.Files.Files.{HasFiles}
use Rattle.mw_law_store.specs.Due.{told}
use Rattle.mw_law_store.specs.WorldFacts.{HasWorldFacts}
use Rattle.mw_law_store.proofs.Dues.StepEnds.{is_quiet_on}
use Rattle.mw_law_store.proofs.Dues.Onward.{Inspected, Looking, Refusing, inspected_goes}
use Rattle.mw_law_store.proofs.WorldFactLaws.Inside.{is_of_change}
use Rattle.mw_law_store.proofs.WordValues.{keeps_new}
use Rattle.mw_law_store.proofs.SimulationSteps.Given.{Given}
use Rattle.mw_law_store.proofs.SimulationSteps.ReadSteps.{freed_tells}

-- an entry of a list of them
entry_there : (entries : List Entry) (index : ℕ) → index < length entries → slice_get entries index ≡ Some (entry_at entries index)
entry_there [] index within = absurd (omega (arith, within))
entry_there (entry ∷ entries) zero within = refl
entry_there (entry ∷ entries) (suc index) within = entry_there entries index (omega (arith, within))

-- a change that is decided to be made has no reply, and neither has an open one
yes_tells : (fault_decided : Bool) (change : List Entry) → told fault_decided YesDirty change ≡ told fault_decided Open change
yes_tells true change = refl
yes_tells false change = refl

full : (used quota most : ℕ) → used ≤ quota → most ≡ quota → nat_lt used most ≡ false → used ≡ quota
full used quota most low same is = grind (arith, nat_tests, low, same, is)

below : (used quota most : ℕ) → used < most → most ≡ quota → used < quota
below used quota most low same = omega (arith, low, same)

module _ (config : Config) (state : State) (sound : IsSound config state) (has : HasFiles config state) (world_facts : HasWorldFacts state) (actor : ActorState) where
  abbrev at : Point → ActorState
  at point = record actor { point = point }

  abbrev Sits : Point → Type 0
  Sits point = (state.worker_states actor.worker).actor ≡ Some (at point)

  informed : (point : Point) → Sits point → IsInformed config state (at point)
  informed point sits = (have_their_requests config state sound actor.worker (at point) sits).informed

  -- the door of the tenant tells whether its file has failed
  door_fault : (point : Point) (door : Door) → Sits point → state.cells.doors actor.tenant ≡ door → (state.tenant_states actor.tenant).file.has_failed ≡ door.fault
  door_fault point door sits is = (has.told actor.tenant (informed point sits).worker_state.tenant).fault ∙ ap (λ (one : Door). one.fault) is

  -- it counts no more slots than the tenant's quota
  door_used : (point : Point) (door : Door) → Sits point → state.cells.doors actor.tenant ≡ door → door.used ≤ (state.tenant_states actor.tenant).quota
  door_used point door sits is =
      subst (λ (one : Door). one.used ≤ (state.tenant_states actor.tenant).quota) is (sound.counts.counts.quotas actor.tenant (informed point sits).worker_state.tenant)

  same_quota : (point : Point) → Sits point → actor.quota ≡ (state.tenant_states actor.tenant).quota
  same_quota point sits = sound.counts.quotas actor.worker (at point) sits

  abbrev DoorGives : Point → Type 0
  DoorGives after = Given state (at ReadDoor) (at after) (door_label after)

  pub door_gives : (number : ℕ) (door : Door) → Sits ReadDoor → state.cells.doors actor.tenant ≡ door
      → DoorGives (door_read (at ReadDoor) number door)
  door_gives number door sits is = by_fault door.fault refl
    where
      by_used : (test : Bool) → door.fault ≡ false → nat_lt door.used actor.quota ≡ test
          → DoorGives (admitted number door (cond test (To (record door { used = door.used + 1 })) IsBusy))
      by_used true works low = either_way DoorGives (nat_lt number WORN_NUMBER) (Admit door (record door { used = door.used + 1 })) (Replied SaysWorn) (λ e. tt) (λ e. tt)
      by_used false works high = (
        record { is_change = is_of_change actor.job ReadDoor refl (informed ReadDoor sits).for_job; file_works = door_fault ReadDoor door sits is ∙ works },
        ap (λ (one : Door). one.used) is ∙ full door.used (state.tenant_states actor.tenant).quota actor.quota (door_used ReadDoor door sits is) (same_quota ReadDoor sits) high,
      )

      by_fault : (test : Bool) → door.fault ≡ test → DoorGives (admitted number door (cond test HasFailed (cond (nat_lt door.used actor.quota) (To (record door { used = door.used + 1 })) IsBusy)))
      by_fault true fault = door_fault ReadDoor door sits is ∙ fault
      by_fault false works = by_used (nat_lt door.used actor.quota) works refl

  pub admit_gives : (from to : Door) (next : ActorState) → Sits (Admit from to) → state.cells.doors actor.tenant ≡ from → Given state (at (Admit from to)) next Admitted
  admit_gives from to next sits is =
      let ready = (informed (Admit from to) sits).ready in (
        record {
          is_change = is_of_change actor.job (Admit from to) refl (informed (Admit from to) sits).for_job;
          file_works = door_fault (Admit from to) from sits is ∙ ready.had_no_fault;
        },
        subst (λ (one : Door). one.used < (state.tenant_states actor.tenant).quota) (sym is)
            (below from.used (state.tenant_states actor.tenant).quota actor.quota ready.was_below_quota (same_quota (Admit from to) sits)),
      )

  pub claim_gives : (point : Point) (own : Slot) (gate : Gate) (tenant : ℕ) (entries : List Entry) (next : ActorState) → MayClaim config state own gate tenant entries
      → Given state (at point) next (Claimed own)
  claim_gives point own gate tenant entries next may = record {
    not_claimed = never;
    not_fault_decided = world_facts.unclaimed own.slot own.seq never;
    draft = sound.memory.claims.unclaimed own.slot own.seq never;
  }
    where
      apart : (state.history.is_claimed own.slot own.seq ≡ true) → ⊥
      apart is = by_latest (sound.memory.claims.latest own.slot own.seq is)
        where
          by_latest : (own.seq < (state.cells.gates own.slot).seq) ⊎ ((own.seq ≡ (state.cells.gates own.slot).seq) × ((state.cells.gates own.slot).taken ≡ true)) → ⊥
          by_latest (inl low) = omega (arith, low, may.had_number)
          by_latest (inr same) = false_true (sym may.was_free ∙ same.1)
            where
              false_true : false ≡ true → ⊥
              false_true e = cc

      never : state.history.is_claimed own.slot own.seq ≡ false
      never = by_test (state.history.is_claimed own.slot own.seq) refl
        where
          by_test : (test : Bool) → state.history.is_claimed own.slot own.seq ≡ test → state.history.is_claimed own.slot own.seq ≡ false
          by_test true is = absurd (apart is)
          by_test false is = is

  -- a word is inspected
  module _ (task : Task) (entry : ℕ) (sits : Sits (Inspect task entry)) where
    abbrev me : ActorState
    me = at (Inspect task entry)

    knows : AtEntry state (without_point me) task entry
    knows = (informed (Inspect task entry) sits).knows.0

    -- another value than the expected one refuses the change
    refuses : (word : Word) (value : ℕ) → state.cells.words actor.tenant (entry_of actor task entry).addr ≡ word
        → inspected me (state.worker_states actor.worker).attempt task entry word ≡ DecideNo task entry value
        → Given state me (at (DecideNo task entry value)) (inspect_label (DecideNo task entry value))
    refuses word value is goes = record {
      target = task.target;
      its = (knows.works.at_work.target.is_claimed, knows.works.at_work.target.same_tenant);
      request = refl;
      change = refl;
      entry = entry_of actor task entry;
      is_entry = subst (λ (entries : List Entry). slice_get entries entry ≡ Some (entry_of actor task entry)) knows.works.entries (entry_there (entries_of actor task) entry knows.within);
      same_address = refl;
      says = sym (keeps_new config state me task entry value word sound has world_facts refl sits goes is);
      differs = differs_then;
    }
      where
        looked : Knows state (told_observation state me (SawWord word)) (inspected me (state.worker_states actor.worker).attempt task entry word)
        looked =
            (reads_inform config state me (SawWord word) (informed (Inspect task entry) sits) (ap SawWord (sym is))).knows

        differs_then : value ≢ (entry_of actor task entry).expected
        differs_then = (subst (λ (after : Point). Knows state (told_observation state me (SawWord word)) after) goes looked).1

    pub inspect_gives : (word : Word) → state.cells.words actor.tenant (entry_of actor task entry).addr ≡ word
        → let after = inspected me (state.worker_states actor.worker).attempt task entry word in Given state me (at after) (inspect_label after)
    inspect_gives word is = by_end (inspected me (state.worker_states actor.worker).attempt task entry word) refl (inspected_goes me (state.worker_states actor.worker).attempt task entry word)
      where
        by_end : (after : Point) → inspected me (state.worker_states actor.worker).attempt task entry word ≡ after → Inspected task entry after → Given state me (at after) (inspect_label after)
        by_end after goes (Looking goes_on) = subst (λ (label : StepLabel). Given state me (at after) label) (sym (is_quiet_on task.own (Inspect task entry) after refl refl goes_on)) tt
        by_end after goes (Refusing value refusing) =
            subst (λ (one : Point). Given state me (at one) (inspect_label one)) (sym refusing) (refuses word value is (goes ∙ refusing))

  pub yes_gives : (task : Task) (next : ActorState) → Sits (DecideYes task) → MaySayYes state task.target → Given state (at (DecideYes task)) next (Decided task.target YesDirty)
  yes_gives task next sits may =
      let target = (informed (DecideYes task) sits).knows.0.at_work.target in
      let past = state.history in
      record {
        its = (target.is_claimed, target.same_tenant);
        tells_same =
            yes_tells (past.is_fault_decided task.target.slot task.target.seq) (past.change task.target.slot task.target.seq)
            ∙ ap (λ (status : Status). told (past.is_fault_decided task.target.slot task.target.seq) status (past.change task.target.slot task.target.seq)) (sym may.is_open);
      }

  pub no_gives : (task : Task) (entry value : ℕ) (next : ActorState) → Sits (DecideNo task entry value) → MaySayNo state task.target entry value
      → Given state (at (DecideNo task entry value)) next (Refused task.target entry value)
  no_gives task entry value next sits may =
      let works = (informed (DecideNo task entry value) sits).knows.0.works in
      record {
        its = (works.at_work.target.is_claimed, works.at_work.target.same_tenant);
        is_open = may.is_open;
        task = task;
        is = refl;
        same_target = refl;
        same_entries = works.entries;
      }

  pub free_gives : (slot : Slot) (onward : After) (next : ActorState) → Sits (FreeSlot slot onward) → Given state (at (FreeSlot slot onward)) next (Freed slot)
  free_gives slot onward next sits =
      let here = informed (FreeSlot slot onward) sits in
      let found = freed_tells config state sound actor.worker slot.slot slot.seq (at (FreeSlot slot onward)) sits (counted_once slot.slot slot.slot refl) here.live.0.seq in
      record {
        its = (here.knows.0.is_claimed, here.knows.0.same_tenant);
        live = (here.live.0.taken, here.live.0.seq);
        reply = found.reply;
        has_reply = found.is;
      }
