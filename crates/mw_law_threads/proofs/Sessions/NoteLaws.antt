-- What a session's note tells goes on from what the pass knew that answered it, whichever passes the session borrows later. So
-- does what a pass knows that learns such a note.
-- Used by: proofs/AfterReplyLaws.
use Rattle.std.specs.Prelude.{◌≡◌, List, [], ◌∷◌, Option, Some, None, MatchOption}
use Rattle.std.proofs.Common.{refl, sym, subst, ◌∙◌}
use Rattle.mw_world.specs.declared.config.Config.{Config}
use Rattle.mw_world.specs.Definition.State.{tenants_of}
use Rattle.mw_rule.specs.Prefixes.{seen_at}
use Rattle.mw_rule.specs.Splits.{learns}
use Rattle.mw_rule.specs.Steps.{ExtendsView, IsPrefix}
use Rattle.mw_rule.specs.declared.views.View.{View}
use Rattle.mw_rule.proofs.KnownRunLaws.{stays}
use Rattle.mw_rule.proofs.WholeCallLaws.{keeps_on}
use Rattle.mw_rule.proofs.WorkerStretches.{begins_itself}
use Rattle.mw_session.specs.Talk.{Call, Finds, Asks, Counts}
use Rattle.mw_session.specs.Transitions.{GoesThrough}
use Rattle.mw_engine.specs.Brand.{Identity}
use Rattle.mw_engine.specs.FromBelow.{HasLearned, Note, Pass, note, said_in}
use Rattle.mw_engine.specs.Passes.{IsPassOf}
use Rattle.mw_service.specs.Borrowed.{AnswersWith, Borrows, Says}
use Rattle.mw_service.proofs.SessionOrders.{learned_config, learned_openings}
use Rattle.mw_law_threads.specs.History.AnswersInOneRun.{IsTold}

-- a note says all that the thread has seen, and the run that it knows
on_note : (last : View) → ExtendsView last (note last)
on_note last = record { same_config = refl; same_openings = refl; seen = λ tenant low. begins_itself (seen_at last.seen tenant); known_run = stays last.known_run }

module _ (identity : Identity) (now : View) (own_config : now.config ≡ identity.config) (own_openings : now.openings ≡ identity.openings) where
  -- this note goes on from what a thread knew
  abbrev GoesOn : Option Note → Type 0
  GoesOn kept = MatchOption kept ⊥ (λ said. ExtendsView now (said_in said))

  -- the note that is made of a thread which knows more
  made_of : (last : View) (new : Option Note) → Says last new → ExtendsView now last → GoesOn new
  made_of last None says on = absurd says
  made_of last (Some made) says on =
      subst (ExtendsView now) (sym says) (keeps_on now last (note last) on (on_note last))

  -- a pass that learned the note goes on from it
  learned_more : (before first : View) (said : Note) → before.config ≡ identity.config → before.openings ≡ identity.openings → HasLearned (said_in said) before first → ExtendsView now (said_in said) → ExtendsView now first
  learned_more before first said config openings learns on =
      let same : before.config ≡ (said_in said).config = config ∙ (sym own_config ∙ sym on.same_config) in
      let same_openings : before.openings ≡ (said_in said).openings = openings ∙ (sym own_openings ∙ sym on.same_openings) in
      keeps_on now (said_in said) first on
      (record {
        same_config = learns.keeps.keeps.same_config ∙ same;
        same_openings = learns.keeps.keeps.same_openings ∙ same_openings;
        seen = subst (λ (one : Config). IsPrefix (tenants_of one) (said_in said).seen first.seen) same learns.seen;
        known_run = learns.known_run;
      })

  -- over one borrowed pass
  over_one : (before after : Pass) (old new : Option Note) (borrows : Borrows identity before after old new) → ExtendsView borrows.learned.seat.me.0 after.seat.me.0 → GoesOn old → GoesOn new
  over_one before after None new borrows keeps on = absurd on
  over_one before after (Some said) new borrows keeps on =
      made_of after.seat.me.0 new borrows.says
      (keeps_on now borrows.learned.seat.me.0 after.seat.me.0 (learned_more before.seat.me.0 borrows.learned.seat.me.0 said borrows.own.config borrows.own.openings borrows.learns on) keeps)

  -- over all of the calls
  over_calls : (calls : List Call) (old new : Option Note) → GoesThrough (AnswersWith identity) old calls new → GoesOn old → GoesOn new
  over_calls [] old new same on = subst GoesOn (sym same) on
  over_calls (Finds name found ∷ later) old new goes on = over_calls later goes.0 new goes.2 (subst GoesOn (sym goes.1.0) on)
  over_calls (Asks tenant job reply ∷ later) old new goes on =
      over_calls later goes.0 new goes.2 (over_one goes.1.0 goes.1.1 old goes.0 goes.1.2.borrows goes.1.2.answered.keeps on)
  over_calls (Counts figures ∷ later) old new goes on = over_calls later goes.0 new goes.2 (over_one goes.1.0 goes.1.1 old goes.0 goes.1.2.borrows goes.1.2.keeps on)

module _ (identity : Identity) (before after : Pass) (old new : Option Note) (borrows : Borrows identity before after old new) (keeps : ExtendsView borrows.learned.seat.me.0 after.seat.me.0) where
  abbrev answering : View
  answering = after.seat.me.0

  config_after : answering.config ≡ identity.config
  config_after = keeps.same_config ∙ (learned_config before.seat.me.0 borrows.learned.seat.me.0 old borrows.learns ∙ borrows.own.config)

  openings_after : answering.openings ≡ identity.openings
  openings_after = keeps.same_openings ∙ (learned_openings before.seat.me.0 borrows.learned.seat.me.0 old borrows.learns ∙ borrows.own.openings)

  -- the note that a session has come to goes on from what the pass knew that answered it
  pub since_answer : (calls : List Call) (kept : Note) → GoesThrough (AnswersWith identity) new calls (Some kept) → ExtendsView answering (said_in kept)
  since_answer calls kept goes =
      over_calls identity answering config_after openings_after calls new (Some kept) goes (made_of identity answering config_after openings_after answering new borrows.says
      (record { same_config = refl; same_openings = refl; seen = λ tenant low. begins_itself (seen_at answering.seen tenant); known_run = stays answering.known_run }))

  -- A pass of the engine that is told this note is told as much
  pub told_since : (calls : List Call) (kept : Note) → GoesThrough (AnswersWith identity) new calls (Some kept) → (pass : Pass) → IsPassOf identity pass → IsTold answering (learns pass.seat.me.0 (said_in kept))
  told_since calls kept goes pass own =
      let on = since_answer calls kept goes in
      record { same_config = own.config ∙ sym config_after; same_openings = own.openings ∙ sym openings_after; told = on.seen; learned_run = on.known_run }

  -- and knows as much when it has learned the note
  pub learned_since : (calls : List Call) (kept : Note) → GoesThrough (AnswersWith identity) new calls (Some kept) → (pass : Pass) → IsPassOf identity pass → (view : View) → HasLearned (said_in kept) pass.seat.me.0 view
      → ExtendsView answering view
  learned_since calls kept goes pass own view learned =
      learned_more identity answering config_after openings_after pass.seat.me.0 view kept own.config own.openings learned (since_answer calls kept goes)
