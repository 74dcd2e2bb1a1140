-- Defines what is answered to a session that borrows a pass (a handle to the engine) for each request, by its notes: what it
-- had seen before, and what it has seen then.
-- Used by: idle_pass.rt, locked_passes.rt, pass_pool.rt, read_pool.rt, borrower.rt, laws.rt, mw_law_threads. A change here
-- changes what such a client is promised.
use Rattle.std.specs.Prelude.{◌≡◌, ℕ, true, length, map, Option, Some, None, MatchOption}
use Rattle.mw_words.specs.declared.jobs.Job.{Job}
use Rattle.mw_words.specs.declared.replies.Reply.{Reply}
use Rattle.mw_report.specs.declared.figures.Figures.{Figures}
use Rattle.mw_session.specs.Talk.{Call, Finds, Asks, Counts}
use Rattle.mw_rule.specs.Steps.{ExtendsView}
use Rattle.mw_engine.specs.Brand.{Identity}
use Rattle.mw_engine.specs.Figures.{TellAll}
use Rattle.mw_engine.specs.FromBelow.{HasLearned, IsOfSameWorker, IsSamePass, Note, Pass, View, note, said_in}
use Rattle.mw_engine.specs.History.{IsAnswered}
use Rattle.mw_engine.specs.Identity.{HasNone, IsFirst}
use Rattle.mw_engine.specs.LinesOfWorld.{places_told}
use Rattle.mw_engine.specs.Notes.{IsNoteOf}
use Rattle.mw_engine.specs.Passes.{IsPassOf}
use Rattle.mw_engine.specs.Replies.{IsReplyTo}
use Rattle.mw_service.specs.SinceStart.{IsSinceStart}

-- a session's note, if it has one, is of this engine
abbrev pub IsNoteOfEngine : Identity → Option Note → Type 0
IsNoteOfEngine identity kept = (said : Note) → kept ≡ Some said → IsNoteOf identity said

-- A pass learned what a session's note says: it has seen what the session has seen, and what it had seen itself
-- (`HasLearned`). A session that has no note has seen nothing.
abbrev pub LearnsNote : Option Note → View → View → Type 0
LearnsNote None before first = first ≡ before
LearnsNote (Some said) before first = HasLearned (said_in said) before first

-- the session's note says what a pass has seen that knows this
abbrev pub Says : View → Option Note → Type 0
Says last kept = MatchOption kept ⊥ (λ made. said_in made ≡ note last)

-- A session borrowed an idle pass of this engine: `before` is the pass as it was borrowed, `after` as it was given back, of the
-- same worker and idle again. The pass knew a run since the engine's start. It first learned from the session's note (`learned`);
-- the session's new note says all that the pass has seen at the end.
pub record Borrows (identity : Identity) (before after : Pass) (old new : Option Note) : Type 0 where
  pub own : IsPassOf identity before
  pub idle : before.idle ≡ true
  pub begun : IsSinceStart identity before.seat.me.0.known_run
  pub learned : Pass
  pub same : IsSamePass before learned
  pub learns : LearnsNote old before.seat.me.0 learned.seat.me.0
  pub same_worker : IsOfSameWorker before after
  pub stays_own : IsPassOf identity after
  pub stays_idle : after.idle ≡ true
  pub says : Says after.seat.me.0 new

-- A session's job was answered with this pass, as the engine serves it (`IsAnswered`): only this request was added to what
-- the pass knows. A value, a YES and a NO are right at a place in the tenant's history that is no earlier than what the
-- session had seen. The reply is one that the job can have.
pub record IsAnsweredBy (identity : Identity) (before after : Pass) (old : Option Note) (tenant : ℕ) (job : Job) (reply : Reply) (new : Option Note) : Type 0 where
  pub borrows : Borrows identity before after old new
  pub answered : IsAnswered borrows.learned.seat.me.0 after.seat.me.0 tenant job reply
  pub possible : IsReplyTo job reply

-- The figures tell what loads found of each tenant's door and of each slot's gate. The pass that made the loads had seen
-- what the session had seen.
pub record AreCountedBy (identity : Identity) (before after : Pass) (old : Option Note) (figures : Figures) (new : Option Note) : Type 0 where
  pub borrows : Borrows identity before after old new
  pub keeps : ExtendsView borrows.learned.seat.me.0 after.seat.me.0
  pub told : TellAll identity.config.pool identity.config.pool identity.lines (map places_told identity.openings) figures.tenants.items figures.pool_free borrows.learned.seat.me.0 after.seat.me.0

-- The same with some pass of this engine, which is under a lock that doesn't tell which one. What the request's steps found stays
-- with the pass. The session's new note tells the run that the pass knew last: it has the arrival of a request of this tenant for
-- this job, after all that the session knew before, its steps and its reply. BUSY and FAULT are explained by that run alone: if it
-- had numbers left at every moment, the tenant's store alone gives this reply, and WORN never comes
-- (`answers_are_of_the_store_alone` of mw_engine). That no other session is told the reply to the same request: specs/OwnReplies.
abbrev pub IsAnsweredWith : Identity → Option Note → ℕ → Job → Reply → Option Note → Type 0
IsAnsweredWith identity old tenant job reply new = (before after : Pass) × IsAnsweredBy identity before after old tenant job reply new

abbrev pub AreCountedWith : Identity → Option Note → Figures → Option Note → Type 0
AreCountedWith identity old figures new = (before after : Pass) × AreCountedBy identity before after old figures new

-- The answer to a call of a session, by its notes before and after it. A search found the first tenant of that name, or no
-- tenant has it, and the session has seen no more than before.
abbrev pub AnswersWith : Identity → Option Note → Call → Option Note → Type 0
AnswersWith identity old (Finds name found) new = (new ≡ old) × MatchOption found (HasNone identity.lines (length identity.lines) name) (IsFirst identity.lines name)
AnswersWith identity old (Asks tenant job reply) new = IsAnsweredWith identity old tenant job reply new
AnswersWith identity old (Counts figures) new = AreCountedWith identity old figures new
