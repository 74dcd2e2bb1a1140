-- Defines which notes are of a table, and what a pass has learned from a note. Used by: src/notes.rt, mw_core.
use Rattle.std.specs.Prelude.{◌≡◌, []}
use Rattle.mw_world.specs.Definition.State.{tenants_of}
use Rattle.mw_rule.specs.declared.views.View.{View}
use Rattle.mw_rule.specs.KnownRuns.{ExtendsKnownRun}
use Rattle.mw_rule.specs.Splits.{learns}
use Rattle.mw_rule.specs.Steps.{IsPrefix, LearnsMeeting}
use Rattle.mw_rule.specs.WordActions.{WentOn}
use Rattle.mw_table.specs.declared.note.Note.{Note}
use Rattle.mw_table.specs.declared.shared.Shared.{Shared}

-- the note is of a pass of this table
abbrev pub IsNoteOf : Shared → Note → Type 0
IsNoteOf shared note = note.seat.table_id ≡ shared.table.shared.table_id

-- what the note says: what its pass had seen, and the run that it knew
abbrev pub said_in : Note → View
said_in note = note.seat.me.0

-- A pass learned this. It has seen what it had seen before, and all of it is right. It has seen the changes that it learned
-- of, and the run that it knows extends the one that it learned of. Its token, its finished requests and its files are the
-- same, and it added no event.
pub record HasLearned (said old new : View) : Type 0 where
  pub keeps : LearnsMeeting old new
  pub seen : IsPrefix (tenants_of old.config) said.seen new.seen
  pub known_run : ExtendsKnownRun said.known_run new.known_run
  pub same_files : new.files ≡ old.files
  pub event : WentOn [] (learns old said) new
