-- Defines what holds after each reply to a session, at each later moment of its server at which some thread knows what the pass knew with
-- the reply, or learns it from a note. mwserve promises it to every client, and docs/PROMISES says it in words.
-- Used by: mwserve. A change here changes what the program promises.
use Rattle.std.specs.Prelude.{ℕ, ◌≡◌, ◌≢◌, ◌⊎◌, List, [], ◌∷◌, Option, Some, None}
use mathlib.Core.Option.{some}
use lib.ListN.{get_elem?}
use Rattle.atomic_table.specs.Table.{State as Table}
use Rattle.mw_words.specs.declared.jobs.Job.{Job}
use Rattle.mw_words.specs.declared.replies.Reply.{Reply}
use Rattle.mw_words.specs.declared.replies.Reply.TheVariants.{Yes as SaysYes}
use Rattle.mw_lone.specs.Store.{entries_of}
use Rattle.mw_actor.specs.ActorState.{ActorState}
use Rattle.mw_disk.specs.Facts.{Facts}
use Rattle.mw_world.specs.declared.config.Config.{Config}
use Rattle.mw_world.specs.Definition.Events.{WorldEvent}
use Rattle.mw_rule.specs.KnownRuns.{KnownRun, ExtendsKnownRun, known_run_of}
use Rattle.mw_rule.specs.Rule.{Continues, TableInvariant}
use Rattle.mw_rule.specs.Splits.{learns}
use Rattle.mw_rule.specs.Steps.{ExtendsView}
use Rattle.mw_rule.specs.declared.views.View.{View}
use Rattle.mw_rule.specs.declared.views.WorkerToken.{WorkerToken}
use Rattle.mw_table.specs.declared.origin.FileOpening.{FileOpening}
use Rattle.mw_table.specs.TableAtStart.{StartedWith}
use Rattle.mw_session.specs.Talk.{Call, Finds, Asks, Counts}
use Rattle.mw_session.specs.Transitions.{GoesThrough}
use Rattle.mw_engine.specs.Brand.{Identity}
use Rattle.mw_engine.specs.FromBelow.{HasLearned, Note, Pass, said_in}
use Rattle.mw_engine.specs.History.{IsAnswered}
use Rattle.mw_engine.specs.Passes.{IsPassOf}
use Rattle.mw_service.specs.declared.token_views.TokenView.{TokenView}
use Rattle.mw_service.specs.Borrowed.{AnswersWith}
use Rattle.mw_service.specs.OwnReplies.{AnswersOwn, Kept}
use Rattle.mw_service.specs.RequestTokens.{AreOwn}
use Rattle.mw_service.specs.Served.{Answers}
use Rattle.mw_law_threads.specs.Durable.CrashMoments.{CrashMoment, first_disk, last_disk, stake_at}
use Rattle.mw_law_threads.specs.Durable.Durable.{LeavesChangeOfRun, LeavesWhollyOrNotInRun}
use Rattle.mw_law_threads.specs.History.AnswerMoments.{ComesAfter, HasMomentInRun}
use Rattle.mw_law_threads.specs.History.AnswersInOneRun.{IsInOneRun, IsKnownAt}
use Rattle.mw_law_threads.specs.Sessions.OwnRequests.{AreTwoRequests, Has, WasAnswered}

-- A moment of a server that runs: its shared words are under their rule, by one run of the model that begins with the server's start.
pub record Moment : Type 0 where
  pub config : Config
  pub found : List FileOpening
  pub table : Table ActorState View
  pub tied : TableInvariant config (StartedWith config found) table

-- Later on the same run has gone on by these events.
abbrev pub GoesOnTo : Moment → List WorldEvent → Table ActorState View → Type 0
GoesOnTo moment more next = Continues moment.config (StartedWith moment.config moment.found) moment.table moment.tied more next

-- A reply that a pass gave, whichever session was told it. `first` is what the pass knew when the request came, `now` what it knew with the
-- reply. Each clause but the first is of moments at which some thread knows as much (`IsKnownAt`): the pass itself, a session by its note,
-- or a pass that learns the note or has learned it.
--
-- - `true_at`: the reply, unless it is WORN, was true at a moment between the arrival of its request and itself. For YES: by one event the
--   words that the request expects became the words that it wants.
-- - `in_one_run`: so it was in the one run behind all passes. It is right there, at its place among the tenant's sealed changes. If it is
--   VAL, NO or BUSY, its request makes no change.
-- - `in_time`: take a moment at which the pass knew just `first`, and has one worker. In the run the request comes after all that had
--   happened by then: so after each reply that any session was told by then.
-- - `own`: another reply of the tenant is to another request, if another worker gave either, or if its pass knew this one when its request
--   came. Two YES then have two changes.
-- - `kept`: after a YES a crash leaves the change, of an honest disk: it is one of the sealed changes, at its own place.
-- - `wholly`: whatever the reply, such a crash leaves the change of this request wholly or not at all.
pub record AfterReply {D : Type 0} (facts : D → Facts) {first now : View} {tenant : ℕ} {job : Job} {reply : Reply} (one : IsAnswered first now tenant job reply) : Type 0 where
  pub true_at : HasMomentInRun now.config (one.answered.run one.whole).behind.openings (one.answered.run one.whole).behind.before (one.answered.run one.whole).behind.events
      first one.token.worker tenant one.token.request job reply
  pub in_one_run : (at : Moment) → IsKnownAt at.table now → IsInOneRun at.config at.tied.past.openings at.tied.past.before at.tied.events at.tied.state one
  pub in_time : (then : Moment) (more : List WorldEvent) (next : Table ActorState View) (on : GoesOnTo then more next) (id : ℕ) (was : WorkerToken)
      → get_elem? then.table.views id ≡ some first → first.tokens ≡ was ∷ [] → was.worker ≡ one.token.worker → IsKnownAt next now
      → ComesAfter then.config on.after.past.openings on.after.past.before on.after.events then.tied.events first one.token.worker tenant one.token.request job reply
  pub own : (begins ends : View) (asked : Job) (said : Reply) (that : IsAnswered begins ends tenant asked said) (at : Moment) → IsKnownAt at.table now → IsKnownAt at.table ends
      → (one.token.worker ≢ that.token.worker) ⊎ ExtendsKnownRun now.known_run begins.known_run → AreTwoRequests one that
  pub kept : reply ≡ SaysYes → (at : Moment) (known : IsKnownAt at.table now) (crash : CrashMoment facts at.table tenant)
      → LeavesChangeOfRun facts at.config (StartedWith at.config at.found) at.tied known.view tenant one.token.request (entries_of job) one.answered.place
      (stake_at facts crash) (first_disk facts crash) (last_disk facts crash)
  pub wholly : (at : Moment) (known : IsKnownAt at.table now) (crash : CrashMoment facts at.table tenant)
      → LeavesWhollyOrNotInRun facts at.config (StartedWith at.config at.found) at.tied known.view tenant one.token.request (entries_of job)
      (stake_at facts crash) (first_disk facts crash) (last_disk facts crash)

-- the run that a session's note tells: the one that the pass knew which made it; none while the session has no note
abbrev pub run_in : Option Note → Option KnownRun
run_in None = None
run_in (Some kept) = (said_in kept).known_run

-- A reply to a session that borrows a pass for each request, by what the session kept before and after it.
--
-- - `after`: what holds after each reply.
-- - `timed`: in its run the request comes after all that the session's note told before, so after the replies to its earlier requests.
-- - `noted`: what a later note of the session tells, after whichever calls, goes on from what the pass knew. So each clause of `after` is of
--   the moments at which some thread knows what that note tells.
-- - `learning`: when a pass of the engine learns such a note, the pass is told it first, and then loads a word. Between the two the note
--   is used up. At each moment between them the pass counts as a thread that knows as much.
-- - `learned`: once it has learned the note, it knows as much.
-- - `two`: a reply of the tenant that another borrower gave is to another request, whichever passes both borrowed. Two YES then have two
--   changes. The tokens of both are at two places of one table under its rule.
pub record AfterLoan {D : Type 0} (facts : D → Facts) (identity : Identity) (old new : Kept) {tenant : ℕ} {job : Job} {reply : Reply} (its : AnswersOwn identity old (Asks tenant job reply) new) : Type 0 where
  pub after : AfterReply facts its.0.2.answered
  pub timed : ExtendsKnownRun (run_in old.note) (Some (known_run_of its.0.1.seat.me.0.config (its.0.2.answered.answered.run its.0.2.answered.whole).behind.openings
      (its.0.2.answered.answered.run its.0.2.answered.whole).behind.before after.true_at.until))
  pub noted : (calls : List Call) (last : Note) → GoesThrough (AnswersWith identity) new.note calls (Some last) → ExtendsView its.0.1.seat.me.0 (said_in last)
  pub learning : (calls : List Call) (last : Note) → GoesThrough (AnswersWith identity) new.note calls (Some last) → (pass : Pass) → IsPassOf identity pass → (at : Moment) (id : ℕ)
      → get_elem? at.table.views id ≡ some (learns pass.seat.me.0 (said_in last)) → IsKnownAt at.table its.0.1.seat.me.0
  pub learned : (calls : List Call) (last : Note) → GoesThrough (AnswersWith identity) new.note calls (Some last) → (pass : Pass) → IsPassOf identity pass → (view : View)
      → HasLearned (said_in last) pass.seat.me.0 view → ExtendsView its.0.1.seat.me.0 view
  pub two : (calls : List Call) (last : Kept) (tokens : Table ℕ TokenView) (id other : ℕ) (asked : Job) (said : Reply) (that : WasAnswered identity tokens other tenant asked said) (at : Moment)
      → AreOwn tokens → GoesThrough (AnswersOwn identity) new calls last → Has tokens id last.tokens → id ≢ other
      → IsKnownAt at.table its.0.1.seat.me.0 → IsKnownAt at.table that.its.0.1.seat.me.0 → AreTwoRequests its.0.2.answered that.its.0.2.answered

module _ {D : Type 0} (facts : D → Facts) (identity : Identity) where
  -- A worker answered one call of a session with its own pass. After a reply all of `AfterReply` holds.
  abbrev pub ServesByPass : Pass → Call → Pass → Type 0
  ServesByPass old (Finds name found) new = Answers identity old (Finds name found) new
  ServesByPass old (Asks tenant job reply) new = (its : Answers identity old (Asks tenant job reply) new) × AfterReply facts its.1
  ServesByPass old (Counts figures) new = Answers identity old (Counts figures) new

  -- One call of a session was answered with a pass that it borrowed. After a reply all of `AfterLoan` holds.
  abbrev pub ServesByLoan : Kept → Call → Kept → Type 0
  ServesByLoan old (Finds name found) new = AnswersOwn identity old (Finds name found) new
  ServesByLoan old (Asks tenant job reply) new = (its : AnswersOwn identity old (Asks tenant job reply) new) × AfterLoan facts identity old new its
  ServesByLoan old (Counts figures) new = AnswersOwn identity old (Counts figures) new

  -- A worker answered all calls of a session, in order, with a pass that was this engine's at first.
  pub record IsServedByPass (calls : List Call) : Type 0 where
    pub old : Pass
    pub new : Pass
    pub own : IsPassOf identity old
    pub served : GoesThrough ServesByPass old calls new

  -- All calls of a session were answered, in order, with passes of this engine that it borrowed.
  pub record IsServedByLoan (calls : List Call) : Type 0 where
    pub old : Kept
    pub new : Kept
    pub served : GoesThrough ServesByLoan old calls new
