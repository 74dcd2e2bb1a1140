-- What a request knows after it has released a word of a decided change, or resolved an attempt that it met there.
-- Used by: ByPoint.
use Rattle.std.specs.Prelude.{ℕ, ◌≡◌, ◌≢◌}
use Rattle.std.proofs.Common.{refl, sym, ap, ◌∙◌}
use Rattle.mw_look.specs.declared.observations.Observation.TheVariants.{Won}
use Rattle.mw_actor.specs.declared.points.Attempt.{Attempt}
use Rattle.mw_actor.specs.declared.points.Point.TheVariants.{Release, Clean, SweepResolve}
use Rattle.mw_actor.specs.declared.points.Sweep.{Sweep}
use Rattle.mw_actor.specs.declared.points.Sweep.TheVariants.{Yes as SweepYes, DoneYes as SweepDoneYes, No as SweepNo, DoneNo as SweepDoneNo}
use Rattle.mw_actor.specs.declared.points.Task.{Task}
use Rattle.mw_actor.specs.ActorState.{ActorState, entry_of}
use Rattle.mw_world.specs.declared.config.Config.{Config}
use Rattle.mw_world.specs.declared.step_labels.Phase.{Phase}
use Rattle.mw_world.specs.declared.step_labels.Phase.TheVariants.{Fresh, Acquired, Written}
use Rattle.mw_world.specs.Definition.State.{State}
use Rattle.mw_law_runs.specs.Moves.Guards.{Guards}
use Rattle.mw_law_runs.specs.Moves.StepMoves.{moves_told}
use Rattle.mw_law_runs.specs.Knowledge.Facts.{phase_at}
use Rattle.mw_law_runs.specs.Knowledge.Informed.{IsInformed}
use Rattle.mw_law_runs.specs.Knowledge.Points.{without_point}
use Rattle.mw_law_runs.specs.Knowledge.NextState.{KnowsItsPoint, told, world_told}
use Rattle.mw_law_runs.proofs.Knowledge.LiveSlotsOverSteps.{live_slots_go_on}
use Rattle.mw_law_runs.proofs.Knowledge.StayingFacts.{sweeps_stays}
use Rattle.mw_law_runs.proofs.Knowledge.Reads.Inspection.{word_at}
use Rattle.mw_law_runs.proofs.Knowledge.Reads.ReleasePhase.{next_sweep_knows, not_yes}
use Rattle.mw_law_runs.proofs.Knowledge.Updates.Acquisition.{task_live}
use Rattle.mw_law_runs.proofs.Knowledge.Updates.Preservation.{later_then, upd_three_here}

-- the phase Written is neither of these
was_written_is_past : (phase : Phase) → phase ≡ Written → (phase ≢ Fresh) × (phase ≢ Acquired)
was_written_is_past phase is = (λ fresh. not_fresh (sym is ∙ fresh), λ acquired. not_acquired (sym is ∙ acquired))
  where
    not_fresh : Written ≡ Fresh → ⊥
    not_fresh e = cc

    not_acquired : Written ≡ Acquired → ⊥
    not_acquired e = cc

module _ (config : Config) (state : State) (actor : ActorState) (task : Task) (entry : ℕ) where
  -- a word was written
  pub write_new_won : let me = record actor { point = Release task SweepYes entry } in IsInformed config state me → Guards config state actor.worker (moves_told state actor.worker me Won)
      → KnowsItsPoint (world_told state me Won) (told state me Won)
  write_new_won informed guards = record {
    live = live_slots_go_on after me (state.worker_states actor.worker).attempt (Release task SweepYes entry) Won tt (task_live state after task refl informed.live);
    knows = next_sweep_knows after me task SweepYes entry
        (sweeps_stays actor.worker state after (later_then config state me Won informed.memory guards) (without_point actor) (λ own is. refl) task SweepYes entry informed.knows.0)
        (λ is_yes. was_written_is_past (phase_at after task.target entry) was_written);
  }
    where
      me : ActorState
      me = record actor { point = Release task SweepYes entry }

      after : State
      after = world_told state me Won

      was_written : phase_at after task.target entry ≡ Written
      was_written =
          ap (λ (addr : ℕ). after.history.phase task.target.slot task.target.seq addr) (sym (word_at config state informed.memory me task informed.knows.0.at.works entry))
          ∙ upd_three_here state.history.phase task.target.slot task.target.seq (entry_of actor task entry).addr Written

  -- a word was given back
  pub let_go_won : (sweep : Sweep) → let me = record actor { point = Release task sweep entry } in IsInformed config state me → Guards config state actor.worker (moves_told state actor.worker me Won)
      → KnowsItsPoint (world_told state me Won) (told state me Won)
  let_go_won SweepYes informed guards = write_new_won informed guards
  let_go_won SweepDoneYes informed guards = absurd informed.knows.1
  let_go_won SweepNo informed guards =
      let me = record actor { point = Release task SweepNo entry } in
      let after = world_told state me Won in
      record {
        live = live_slots_go_on after me (state.worker_states actor.worker).attempt (Release task SweepNo entry) Won tt (task_live state after task refl informed.live);
        knows = next_sweep_knows after me task SweepNo entry
            (sweeps_stays actor.worker state after (later_then config state me Won informed.memory guards) (without_point actor) (λ own is. refl) task SweepNo entry informed.knows.0) (λ is_yes. cc);
      }
  let_go_won (SweepDoneNo index value) informed guards =
      let me = record actor { point = Release task (SweepDoneNo index value) entry } in
      let after = world_told state me Won in
      record {
        live = live_slots_go_on after me (state.worker_states actor.worker).attempt (Release task (SweepDoneNo index value) entry) Won tt (task_live state after task refl informed.live);
        knows = next_sweep_knows after me task (SweepDoneNo index value) entry
            (sweeps_stays actor.worker state after (later_then config state me Won informed.memory guards) (without_point actor) (λ own is. refl) task (SweepDoneNo index value) entry informed.knows.0)
            (λ is_yes. cc);
      }

  -- a written word doesn't name its slot any more
  pub clean_won : (value : ℕ) → let me = record actor { point = Clean task entry value } in IsInformed config state me → Guards config state actor.worker (moves_told state actor.worker me Won)
      → KnowsItsPoint (world_told state me Won) (told state me Won)
  clean_won value informed guards =
      let me = record actor { point = Clean task entry value } in
      let after = world_told state me Won in
      record {
        live = live_slots_go_on after me (state.worker_states actor.worker).attempt (Clean task entry value) Won tt (task_live state after task refl informed.live);
        knows = next_sweep_knows after me task SweepDoneYes entry
            (sweeps_stays actor.worker state after (later_then config state me Won informed.memory guards) (without_point actor) (λ own is. refl) task SweepDoneYes entry informed.knows.0) (λ is_yes. cc);
      }

  -- an attempt was taken back
  pub take_back_won : (sweep : Sweep) (attempt : Attempt) → let me = record actor { point = SweepResolve task sweep entry attempt } in IsInformed config state me
      → Guards config state actor.worker (moves_told state actor.worker me Won) → KnowsItsPoint (world_told state me Won) (told state me Won)
  take_back_won sweep attempt informed guards =
      let me = record actor { point = SweepResolve task sweep entry attempt } in
      let after = world_told state me Won in
      record {
        live = live_slots_go_on after me (state.worker_states actor.worker).attempt (SweepResolve task sweep entry attempt) Won tt (task_live state after task refl informed.live);
        knows = next_sweep_knows after me task sweep entry
            (sweeps_stays actor.worker state after (later_then config state me Won informed.memory guards) (without_point actor) (λ own is. refl) task sweep entry informed.knows.0)
            (λ is_yes. absurd (not_yes sweep informed.knows.1 is_yes));
      }
