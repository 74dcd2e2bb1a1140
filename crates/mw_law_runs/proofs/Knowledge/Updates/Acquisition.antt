-- What a request knows after a step by which it holds words: it announces, makes or resolves an attempt, pins another's
-- change, or decides. Used by: ByPoint, Releases, KnowledgeOverSteps.
use Rattle.std.specs.Prelude.{ℕ, ◌≡◌, ◌<◌, ◌+◌, Bool, true, false}
use Rattle.std.proofs.Common.{refl, ap, ◌∙◌, arith}
use Rattle.std.proofs.lemmas.Bool.Decides.{nat_tests}
use Rattle.mw_words.specs.declared.gates.Gate.{Gate}
use Rattle.mw_words.specs.declared.rows.Row.{Row}
use Rattle.mw_words.specs.declared.statuses.Status.TheVariants.{YesDirty, No}
use Rattle.mw_look.specs.declared.observations.Observation.TheVariants.{Won}
use Rattle.mw_actor.specs.declared.points.After.TheVariants.{Work}
use Rattle.mw_actor.specs.declared.points.Attempt.{Attempt}
use Rattle.mw_actor.specs.declared.points.Point.TheVariants.{AnnounceRow, Plant, DecideYes, DecideNo, Resolve, PinOther}
use Rattle.mw_actor.specs.declared.points.Slot.{Slot}
use Rattle.mw_actor.specs.declared.points.Task.{Task}
use Rattle.mw_actor.specs.ActorState.{ActorState}
use Rattle.mw_actor.specs.Asks.{row_of}
use Rattle.mw_law_runs.proofs.Requests.StageLaws.{goes_leads}
use Rattle.mw_world.specs.Maps.{upd}
use Rattle.mw_world.specs.declared.config.Config.{Config}
use Rattle.mw_world.specs.Definition.State.{State, WorkerState}
use Rattle.mw_law_runs.specs.Moves.Guards.{Guards, IsLive}
use Rattle.mw_law_runs.specs.Moves.StepMoves.{moves_told}
use Rattle.mw_law_runs.specs.Knowledge.Facts.{IsKnown, IsAtWork}
use Rattle.mw_law_runs.specs.Knowledge.Informed.{IsInformed}
use Rattle.mw_law_runs.specs.Knowledge.Live.{IsLiveTask, AreLiveAt}
use Rattle.mw_law_runs.specs.Knowledge.Points.{without_point}
use Rattle.mw_law_runs.specs.Knowledge.NextState.{KnowsItsPoint, told, world_told}
use Rattle.mw_law_runs.proofs.Knowledge.LiveSlotsOverSteps.{resumes, of_stage}
use Rattle.mw_law_runs.proofs.Knowledge.StayingFacts.{known_stays, work_stays, at_stays}
use Rattle.mw_law_runs.proofs.Knowledge.Reads.TaskChanges.{turns_knows}
use Rattle.mw_law_runs.proofs.Knowledge.Updates.Preservation.{upd_here, later_then, carries, keeps_all, keeps_but_status, gates_same}

-- the slots of a task stay live if the gates are the same
pub task_live : (old new : State) (task : Task) → new.cells.gates ≡ old.cells.gates → IsLiveTask old task → IsLiveTask new task
task_live old new task same live = (one task.own live.0, one task.target live.1)
  where
    one : (slot : Slot) → IsLive old slot → IsLive new slot
    one slot is = record { taken = ap (λ (f : ℕ → Gate). (f slot.slot).taken) same ∙ is.taken; seq = ap (λ (f : ℕ → Gate). (f slot.slot).seq) same ∙ is.seq }

module _ (config : Config) (state : State) (actor : ActorState) where
  pub row_stored : (task : Task) (entry number : ℕ) → let me = record actor { point = AnnounceRow task entry number } in IsInformed config state me
      → Guards config state actor.worker (moves_told state actor.worker me Won) → KnowsItsPoint (world_told state me Won) (told state me Won)
  row_stored task entry number informed guards =
      let me = record actor { point = AnnounceRow task entry number } in
      let later = later_then config state me Won informed.memory guards in
      record {
        live = task_live state (world_told state me Won) task refl informed.live;
        knows = (
          at_stays actor.worker state (world_told state me Won) later (without_point actor) (λ own is. refl) task entry informed.knows.0,
          informed.knows.1,
          upd_here state.cells.rows actor.worker (row_of task.target entry),
        );
      }

  pub plant_won : (task : Task) (entry number : ℕ) → let me = record actor { point = Plant task entry number } in IsInformed config state me
      → Guards config state actor.worker (moves_told state actor.worker me Won) → KnowsItsPoint (world_told state me Won) (told state me Won)
  plant_won task entry number informed guards =
      let me = record actor { point = Plant task entry number } in
      let later = later_then config state me Won informed.memory guards in
      record {
        live = task_live state (world_told state me Won) task refl informed.live;
        knows = (
          at_stays actor.worker state (world_told state me Won) later (without_point actor) (λ own is. refl) task entry informed.knows.0,
          record {
            given = given;
            slot = λ stands. ap (λ (row : Row). row.slot) informed.knows.2;
            seq = λ stands. ap (λ (row : Row). row.seq) informed.knows.2;
          },
        );
      }
    where
      given : number < (upd state.worker_states actor.worker (record (state.worker_states actor.worker) { attempt = number + 1 }) actor.worker).attempt
      given = omega (arith, ap (λ (worker_state : WorkerState). worker_state.attempt) (upd_here state.worker_states actor.worker (record (state.worker_states actor.worker) { attempt = number + 1 })))

  pub yes_won : (task : Task) → let me = record actor { point = DecideYes task } in IsInformed config state me → Guards config state actor.worker (moves_told state actor.worker me Won)
      → KnowsItsPoint (world_told state me Won) (told state me Won)
  yes_won task informed guards =
      let me = record actor { point = DecideYes task } in
      carries config state me Won informed.memory guards (told state me Won)
      (keeps_but_status state (world_told state me Won) (without_point actor) task.target YesDirty informed.live.1 informed.knows.0.at_work.target.ready refl refl refl refl refl refl refl refl refl)
      (λ slot some. gates_same state (world_told state me Won) refl slot)
      (record { live = informed.live; knows = informed.knows.0 })

  pub no_won : (task : Task) (entry value : ℕ) → let me = record actor { point = DecideNo task entry value } in IsInformed config state me
      → Guards config state actor.worker (moves_told state actor.worker me Won) → KnowsItsPoint (world_told state me Won) (told state me Won)
  no_won task entry value informed guards =
      let me = record actor { point = DecideNo task entry value } in
      carries config state me Won informed.memory guards (told state me Won)
      (keeps_but_status state (world_told state me Won) (without_point actor) task.target (No entry value) informed.live.1 informed.knows.0.works.at_work.target.ready refl refl refl refl refl refl refl refl refl)
      (λ slot some. gates_same state (world_told state me Won) refl slot)
      (record { live = informed.live; knows = informed.knows.0.works })

  pub resolve_won : (task : Task) (entry : ℕ) (attempt : Attempt) (was_open : Bool) → let me = record actor { point = Resolve task entry attempt was_open } in IsInformed config state me
      → Guards config state actor.worker (moves_told state actor.worker me Won) → KnowsItsPoint (world_told state me Won) (told state me Won)
  resolve_won task entry attempt true informed guards =
      let me = record actor { point = Resolve task entry attempt true } in
      carries config state me Won informed.memory guards (told state me Won)
      (keeps_all state (world_told state me Won) (without_point actor) refl refl refl refl refl refl refl refl refl)
      (λ slot some. gates_same state (world_told state me Won) refl slot)
      (record { live = informed.live; knows = informed.knows.0.works })
  resolve_won task entry attempt false informed guards =
      let me = record actor { point = Resolve task entry attempt false } in
      carries config state me Won informed.memory guards (told state me Won)
      (keeps_all state (world_told state me Won) (without_point actor) refl refl refl refl refl refl refl refl refl)
      (λ slot some. gates_same state (world_told state me Won) refl slot)
      (record { live = informed.live; knows = informed.knows.0.works })

  pub pin_won : (task : Task) (other : Slot) (from to : Gate) → let me = record actor { point = PinOther task other from to } in IsInformed config state me
      → state.cells.gates other.slot ≡ from → Guards config state actor.worker (moves_told state actor.worker me Won) → KnowsItsPoint (world_told state me Won) (told state me Won)
  pin_won task other from to informed is guards = record {
    live = of_stage after (told state me Won).point
        (goes_leads (AreLiveAt after) me (state.worker_states actor.worker).attempt (PinOther task other from to) Won
        (λ alone. resumes after (Work next) live_next, λ apart. (live_one task.target informed.live.1, live_next)));
    knows = turns_knows after me task other at known;
  }
    where
      me : ActorState
      me = record actor { point = PinOther task other from to }

      after : State
      after = world_told state me Won

      next : Task
      next = record { own = task.own; target = other }

      number : (state.cells.gates other.slot).seq ≡ other.seq
      number = ap (λ (gate : Gate). gate.seq) is ∙ informed.ready.1.had_that_number

      known : IsKnown after actor.tenant other
      known = known_stays actor.worker state after (later_then config state me Won informed.memory guards) actor.tenant other (informed.knows.1.known number)

      at : IsAtWork after (without_point actor) task
      at = work_stays actor.worker state after (later_then config state me Won informed.memory guards) (without_point actor) (λ own is. refl) task informed.knows.0.at_work

      -- slots that were live are live, and so is the other change's slot
      live_one : (slot : Slot) → IsLive state slot → IsLive after slot
      live_one slot live = record {
        taken = grind (arith, nat_tests, live.taken, informed.ready.1.is_taken);
        seq = grind (arith, nat_tests, live.seq, informed.ready.1.same_number, ap (λ (gate : Gate). gate.seq) is);
      }

      live_other : IsLive after other
      live_other = record {
        taken = ap (λ (gate : Gate). gate.taken) (upd_here state.cells.gates other.slot to) ∙ informed.ready.1.is_taken;
        seq = ap (λ (gate : Gate). gate.seq) (upd_here state.cells.gates other.slot to) ∙ informed.ready.1.same_number ∙ informed.ready.1.had_that_number;
      }

      live_next : IsLiveTask after next
      live_next = (live_one task.own informed.live.0, live_other)
