-- What a pass learns from a note, by the load that follows; and that a note's view is one of a note again.
-- Used by: Shared::note, Shared::learn.
use Rattle.std.specs.Prelude.{ℕ, ◌≡◌, []}
use Rattle.std.proofs.Common.{sym, ◌∙◌}
use Rattle.atomic_table.specs.Table.{Me}
use Rattle.mw_actor.specs.ActorState.{ActorState}
use Rattle.mw_rule.specs.declared.views.View.{View}
use Rattle.mw_rule.specs.Splits.{learns, note}
use Rattle.mw_rule.specs.Steps.{LearnsPlainLoad}
use Rattle.mw_rule.specs.WordActions.{WentOn}
use Rattle.mw_table.specs.Notes.{HasLearned}

-- what a note says is what a note of it says
pub bare_again : (view : View) (me : Me ActorState View) → me ≡ (note view, []) → me ≡ (note me.0, [])
bare_again view me is = is ∙ (λ i. (note (sym is i).0, []))

-- the note was learned, and then a word was loaded
pub learned_so : (bits : ℕ) (said old new : View) → LearnsPlainLoad 0 bits (learns old said) new → WentOn [] (learns old said) new → HasLearned said old new
learned_so bits said old new looked went = record {
  keeps = record {
    keeps = record { same_config = looked.goes_on.same_config; same_openings = looked.goes_on.same_openings; seen = looked.goes_on.seen; known_run = looked.goes_on.known_run };
    behind = looked.goes_on.behind;
    right = looked.right;
    same_token = looked.same_token;
    same_mine = looked.same_mine;
  };
  seen = looked.goes_on.told;
  known_run = looked.learned_run;
  same_files = looked.same_files;
  event = went;
}
