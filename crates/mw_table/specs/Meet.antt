-- Defines what two passes know after they meet: each has seen what the other has seen, and keeps its own.
-- Used by: src/file_call_steps.rt, src/file_calls.rt, src/meet.rt, src/notes.rt, mw_core.
use Rattle.std.specs.Prelude.{◌≡◌, []}
use Rattle.mw_rule.specs.declared.views.View.{View}
use Rattle.mw_rule.specs.Splits.{dealt, merges, learns, left_over, note}
use Rattle.mw_rule.specs.Laws.{HaveOwnChanges}
use Rattle.mw_rule.specs.WordActions.{WentOn}
use Rattle.mw_rule.specs.Rule.{IsRight}
use Rattle.mw_table.specs.declared.shared.Pass.{Pass}

-- The pass is the same worker's, with the same next attempt, and as idle as it was.
pub record IsSamePass (old new : Pass) : Type 0 where
  pub same_worker : new.worker ≡ old.worker
  pub same_attempt : new.attempt ≡ old.attempt
  pub same_idle : new.idle ≡ old.idle

-- Two threads that have met have seen the same changes and know the same run. The requests that either finished are
-- all right at their positions among these changes, none is finished twice, and no two YES have one change.
pub record HaveMet (one other : View) : Type 0 where
  pub same_seen : one.seen ≡ other.seen
  pub same_known_run : one.known_run ≡ other.known_run
  pub right : IsRight (merges one other)
  pub own : HaveOwnChanges (merges one other).mine

-- The meeting of two threads adds no event to a run. It has three loads, and none adds any. Between these the one
-- makes a note, the other learns it, the other gives all that it knows to the one, and each gets its own again; none
-- of that adds an event (`JoinsGoOn` and `PartsGoOn` of mw_rule). Other threads may add events in the meantime.
pub record MetByNone (one other one_then other_then : View) : Type 0 where
  pub looked : View
  pub first_look : WentOn [] one looked
  pub learned : View
  pub second_look : WentOn [] (learns other (note looked)) learned
  pub all : View
  pub last_look : WentOn [] (merges looked (dealt learned)) all
  pub one_is : one_then ≡ dealt all
  pub other_is : other_then ≡ left_over all
