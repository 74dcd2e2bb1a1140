-- Which of the effects in `StepEffects` the step of a request may have: one case for each point. Used by: StepObligations.
use Rattle.std.specs.Prelude.{◌≡◌, true, false}
use Rattle.std.proofs.Common.{refl, sym}
use Rattle.mw_words.specs.declared.replies.Reply.{Reply}
use Rattle.mw_words.specs.declared.statuses.Status.TheVariants.{YesDirty, No}
use Rattle.mw_words.specs.declared.words.Word.TheVariants.{Plain, Planted}
use Rattle.mw_pool.specs.Moves.{after_unpin}
use Rattle.mw_look.specs.declared.observations.Observation.{Observation}
use Rattle.mw_look.specs.declared.observations.Observation.TheVariants.{Won}
use Rattle.mw_look.specs.declared.points.Point.{Point as ReadPoint}
use Rattle.mw_look.specs.declared.points.Point.TheVariants.{Pin as PinOfRead, Unpin as UnpinOfRead, FreeSlot as FreeOfRead}
use Rattle.mw_look.specs.Program.{Reading, slot_of, freed}
use Rattle.mw_actor.specs.declared.points.Point.{Point}
use Rattle.mw_actor.specs.declared.points.Point.TheVariants.{Read, Admit, Claim, Plant, DecideYes, DecideNo, Resolve, PinOther, Release, Clean, SweepResolve, Unpin, FreeSlot, GiveUp}
use Rattle.mw_actor.specs.declared.points.Slot.{Slot}
use Rattle.mw_actor.specs.declared.points.Sweep.TheVariants.{Yes as SweepYes, DoneYes as SweepDoneYes, No as SweepNo, DoneNo as SweepDoneNo}
use Rattle.mw_actor.specs.ActorState.{ActorState, entry_of}
use Rattle.mw_world.specs.declared.config.Config.{Config}
use Rattle.mw_world.specs.Definition.History.{standing_at, permission_at}
use Rattle.mw_world.specs.Definition.State.{State}
use Rattle.mw_law_runs.specs.Moves.Guards.{Guards}
use Rattle.mw_law_runs.specs.Moves.StepMoves.{moves_told}
use Rattle.mw_law_runs.specs.Knowledge.Points.{Knows}
use Rattle.mw_law_runs.specs.Knowledge.NextState.{told, world_told}
use Rattle.mw_law_runs.proofs.Obligations.Apart.{plain_held, plain_dirty, planted_held, planted_dirty}
use Rattle.mw_law_runs.proofs.Obligations.StepEffects.{StepsOn, LeftBehind, untouched, one_gate, one_word, one_held, one_written, one_fate, one_claimed, left_behind}

not_true : false ≡ true → ⊥
not_true is = cc

module _ (config : Config) (old : State) (actor : ActorState) where
  -- a read changes pins alone
  in_read : (look : Reading) (point : ReadPoint) (observation : Observation) → let me = record actor { point = Read (record look { point = point }) } in
      Guards config old actor.worker (moves_told old actor.worker me observation)
      → StepsOn old (world_told old me observation) me me.point (told old me observation).point
  in_read look (PinOfRead trail from to) Won guards = one_gate old _ _ _ _ (slot_of trail) to refl (λ taken. (guards.0.pins.was_taken, sym guards.0.pins.same_number)) refl refl
  in_read look (UnpinOfRead slot seq onward) observation guards = one_gate old _ _ _ _ slot (after_unpin (old.cells.gates slot)) refl (λ taken. (taken, refl)) refl refl
  in_read look (FreeOfRead slot seq onward) observation guards = one_gate old _ _ _ _ slot (freed seq) refl (λ taken. absurd (not_true taken)) refl refl
  in_read look point observation guards = untouched old _ _ _ _ refl refl refl

  pub steps_on : (point : Point) (observation : Observation) → let me = record actor { point = point } in
      Knows old me point → Guards config old actor.worker (moves_told old actor.worker me observation)
      → StepsOn old (world_told old me observation) me point (told old me observation).point
  steps_on (Read look) observation knows guards = in_read look look.point observation guards
  steps_on (Admit from to) Won knows guards = untouched old _ _ _ _ refl refl refl
  steps_on (Claim slot saw_worn from to) Won knows guards =
      one_claimed old _ _ _ _ (record { slot = slot; seq = from.seq }) to guards.0.was_free guards.0.has_number refl refl refl refl refl
  steps_on (Plant task entry number) Won knows guards =
      one_word old _ _ _ _ actor.tenant (entry_of actor task entry).addr (Planted actor.worker number) (planted_held actor.worker number) (planted_dirty actor.worker number) refl refl refl
  steps_on (DecideYes task) Won knows guards = one_fate old _ _ _ _ task.target YesDirty (λ is. absurd is) refl refl refl
  steps_on (DecideNo task entry value) Won knows guards =
      one_fate old _ _ _ _ task.target (No entry value) (λ is. (record { task = task; goes = refl; target_slot = refl; target_seq = refl }, knows.0.works.at_work.target.same_tenant)) refl refl refl
  steps_on (Resolve task entry attempt true) Won knows guards =
      one_held old _ _ _ _ actor.tenant (entry_of actor task entry).addr task.target (record { task = task; goes = refl; target_slot = refl; target_seq = refl }) refl refl refl refl
  steps_on (Resolve task entry attempt false) Won knows guards =
      let value = (entry_of actor task entry).expected in
      one_word old _ _ _ _ actor.tenant (entry_of actor task entry).addr (Plain value) (plain_held value) (plain_dirty value) refl refl refl
  steps_on (PinOther task other from to) Won knows guards =
      one_gate old _ _ _ _ other.slot to refl (λ taken. (guards.0.pins.was_taken, sym guards.0.pins.same_number)) refl refl
  steps_on (Release task SweepYes entry) Won knows guards =
      one_written old _ _ _ _ actor.tenant (entry_of actor task entry).addr entry (entry_of actor task entry).new task refl guards.0.word guards.0.is_made refl refl refl
  steps_on (Release task SweepDoneYes entry) Won knows guards =
      let value = (entry_of actor task entry).expected in
      one_word old _ _ _ _ actor.tenant (entry_of actor task entry).addr (Plain value) (plain_held value) (plain_dirty value) refl refl refl
  steps_on (Release task SweepNo entry) Won knows guards =
      let value = (entry_of actor task entry).expected in
      one_word old _ _ _ _ actor.tenant (entry_of actor task entry).addr (Plain value) (plain_held value) (plain_dirty value) refl refl refl
  steps_on (Release task (SweepDoneNo index found) entry) Won knows guards =
      let value = (entry_of actor task entry).expected in
      one_word old _ _ _ _ actor.tenant (entry_of actor task entry).addr (Plain value) (plain_held value) (plain_dirty value) refl refl refl
  steps_on (Clean task entry value) Won knows guards =
      one_word old _ _ _ _ actor.tenant (entry_of actor task entry).addr (Plain value) (plain_held value) (plain_dirty value) refl refl refl
  steps_on (SweepResolve task sweep entry attempt) Won knows guards =
      let value = (entry_of actor task entry).expected in
      one_word old _ _ _ _ actor.tenant (entry_of actor task entry).addr (Plain value) (plain_held value) (plain_dirty value) refl refl refl
  steps_on (Unpin slot onward) observation knows guards =
      one_gate old _ _ _ _ slot.slot (after_unpin (old.cells.gates slot.slot)) refl (λ taken. (taken, refl)) refl refl
  steps_on (FreeSlot slot onward) observation knows guards = one_gate old _ _ _ _ slot.slot (freed slot.seq) refl (λ taken. absurd (not_true taken)) refl refl
  steps_on (GiveUp own undecided) observation knows guards =
      let me = record actor { point = GiveUp own undecided } in
      let next = told old me observation in
      let left : LeftBehind old (world_told old me observation) own = left_behind old actor.worker own next.point (standing_at next next.point) (permission_at next next.point) in
      untouched old _ _ _ _ left.gates left.words left.fates
  steps_on point observation knows guards = untouched old _ _ _ _ refl refl refl

  -- a request that gives up has left its pin behind
  pub gives_up_left : (own : Slot) (undecided : Reply) (observation : Observation) → (world_told old (record actor { point = GiveUp own undecided }) observation).history.stays own.slot own.seq ≡ true
  gives_up_left own undecided observation =
      let me = record actor { point = GiveUp own undecided } in
      let next = told old me observation in
      (left_behind old actor.worker own next.point (standing_at next next.point) (permission_at next next.point)).stays
