-- Defines the part of a request's knowledge that is its worker's own: only a few steps, all of this worker, change it.
-- Used by: specs/Knowledge/Laws.
use Rattle.std.specs.Prelude.{◌≡◌}
use Rattle.mw_words.specs.declared.statuses.Status.TheVariants.{Draft}
use Rattle.mw_actor.specs.declared.points.Slot.{Slot}
use Rattle.mw_actor.specs.ActorState.{ActorState}
use Rattle.mw_world.specs.Definition.State.{State}
use Rattle.mw_law_runs.specs.Moves.Guards.{IsLive}
use Rattle.mw_law_runs.specs.Moves.Rely.{SameSlot}
use Rattle.mw_law_runs.specs.Knowledge.Facts.{IsOwn, IsDrafted}

-- Whether the pin of the request's change was left behind stays as it was.
abbrev pub KeepsPins : State → State → ActorState → Type 0
KeepsPins old new actor = (own : Slot) → IsOwn old actor own → new.history.stays own.slot own.seq ≡ old.history.stays own.slot own.seq

-- The pin of the request's change isn't left behind, and its draft stays a draft. The contents of the draft's slot stay while the slot is taken for
-- it. The number of the worker's next attempt and the worker's row stay.
pub record KeepsOwn (old new : State) (actor : ActorState) : Type 0 where
  pub pins : KeepsPins old new actor
  pub drafts : (own : Slot) → IsDrafted old actor own → new.history.fate own.slot own.seq ≡ Draft
  pub filled : (own : Slot) → IsDrafted old actor own → IsLive old own → IsLive new own → SameSlot old new own.slot
  pub attempt : (new.worker_states actor.worker).attempt ≡ (old.worker_states actor.worker).attempt
  pub row : new.cells.rows actor.worker ≡ old.cells.rows actor.worker
