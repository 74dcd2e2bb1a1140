-- Lists the kinds of end that a step may have for its request, by the point before and the point after.
-- Used by: CallMarks, Claims, Noted, among others.
use Rattle.std.specs.Prelude.{◌≡◌, ◌≢◌, ◌⊎◌, true, false, Some, None}
use Rattle.mw_words.specs.declared.replies.Reply.{Reply}
use Rattle.mw_actor.specs.declared.points.Point.{Point}
use Rattle.mw_actor.specs.declared.points.Slot.{Slot}
use Rattle.mw_law_runs.specs.Obligations.{own_of}
use Rattle.mw_law_store.specs.Due.{Waits, Works, Answers, Quits, due, Retiring, Dropping, lowers}

pub data End : Type 0 where
  -- what is due and the own change are as before, and the door is not lowered for a slot that was freed
  Same : End
  -- a slot is counted for it
  Enters : End
  -- it has a slot of its own
  Claiming : (own : Slot) → End
  -- it freed the slot of a request, and will lower the door for it
  Freeing : End
  -- it lowered the door for the request whose slot it freed
  Lowered : End
  -- it lowered the door for its own request, which found no slot
  Dropped : End
  -- its own change has this reply
  Settles : (own : Slot) (reply : Reply) → End
  -- it has this reply, and no change
  Placed : (reply : Reply) → End
  -- a number is used up, so the request ends
  Quitting : End

-- No change becomes the request's own.
abbrev pub OwnGoes : Point → Point → Type 0
OwnGoes point after = (mine : Slot) → own_of after ≡ Some mine → own_of point ≡ Some mine

abbrev pub EndsBy : End → Point → Point → Type 0
EndsBy Same point after = (due after ≡ due point) × OwnGoes point after × (lowers after ≢ Retiring)
EndsBy Enters point after = (due point ≡ Waits false) × (due after ≡ Waits true) × (own_of after ≡ None) × (lowers after ≢ Retiring)
EndsBy (Claiming own) point after = (due point ≡ Waits true) × (due after ≡ Works) × (own_of after ≡ Some own) × (lowers after ≢ Retiring)
EndsBy Freeing point after = (due after ≡ due point) × OwnGoes point after × (lowers after ≡ Retiring)
EndsBy Lowered point after = (due after ≡ due point) × OwnGoes point after × (lowers point ≡ Retiring) × (lowers after ≢ Retiring)
EndsBy Dropped point after = (due point ≡ Waits true) × (due after ≡ Quits) × (own_of after ≡ None) × (lowers point ≡ Dropping) × (lowers after ≢ Retiring)
EndsBy (Settles own reply) point after =
    (due point ≡ Works) × (own_of point ≡ Some own) × (due after ≡ Answers reply) × ((mine : Slot) → own_of after ≡ Some mine → mine ≡ own) × (lowers after ≢ Retiring)
EndsBy (Placed reply) point after = (due point ≡ Waits false) × (due after ≡ Answers reply) × (own_of after ≡ None) × (lowers after ≢ Retiring)
EndsBy Quitting point after = ((due point ≡ Waits false) ⊎ (due point ≡ Works)) × (due after ≡ Quits) × (own_of after ≡ None) × (lowers after ≢ Retiring)
