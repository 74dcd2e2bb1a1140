-- Defines that a reply is in the one run that ties the shared words to the model, whichever session was told it. It is enough
-- that a thread knows what the pass knew with the reply: the pass itself, the session by its note, or a pass that learns the
-- note or has learned it.
-- Used by the clauses of specs/AfterReplies.
use Rattle.std.specs.Prelude.{ℕ, ◌≡◌, ◌⊎◌, List, [], ◌∷◌}
use mathlib.Core.Option.{some}
use lib.ListN.{get_elem?}
use Rattle.atomic_table.specs.Table.{State as Table}
use Rattle.mw_words.specs.declared.jobs.Job.{Job}
use Rattle.mw_words.specs.declared.replies.Reply.{Reply}
use Rattle.mw_actor.specs.ActorState.{ActorState}
use Rattle.mw_world.specs.declared.config.Config.{Config}
use Rattle.mw_world.specs.Definition.Events.{WorldEvent}
use Rattle.mw_world.specs.Definition.State.{State, TenantStart, tenants_of}
use Rattle.mw_rule.specs.KnownRuns.{ExtendsKnownRun}
use Rattle.mw_rule.specs.Rule.{Continues, IsLive, TableInvariant}
use Rattle.mw_rule.specs.Steps.{ExtendsView, IsPrefix, finished_as}
use Rattle.mw_rule.specs.declared.views.View.{View}
use Rattle.mw_rule.specs.declared.views.WorkerToken.{WorkerToken}
use Rattle.mw_engine.specs.History.{IsAnswered}
use Rattle.mw_law_threads.specs.History.AnswerMoments.{ComesAfter, HasMomentInRun}
use Rattle.mw_law_threads.specs.History.OneHistory.{IsRightInRun}
use Rattle.mw_law_threads.specs.Whole.Refusals.{MakesNoChange, TellsOfNoChange}

-- A note has told a thread at least this: the changes, and the run. The thread is about to learn the note, by a load, and has not yet
-- seen all of it itself.
pub record IsTold (known view : View) : Type 0 where
  pub same_config : view.config ≡ known.config
  pub same_openings : view.openings ≡ known.openings
  pub told : IsPrefix (tenants_of known.config) known.seen view.told
  pub learned_run : ExtendsKnownRun known.known_run view.learned_run

-- At this moment of the table a live thread knows at least this, or a note has told it.
pub record IsKnownAt (s : Table ActorState View) (known : View) : Type 0 where
  pub id : ℕ
  pub view : View
  pub at : get_elem? s.views id ≡ some view
  pub live : IsLive view
  pub knows : ExtendsView known view ⊎ IsTold known view

-- The reply is right in this run, at its place among the tenant's sealed changes, and the run handed it out (`right`). It was true at a moment
-- between the arrival of its request and itself (`moment`). If it is VAL, NO or BUSY, no change of its request is sealed, and the change
-- in doubt, if there is one, is another's (`refused`).
pub record IsInOneRun (config : Config) (openings : ℕ → TenantStart) (before events : List WorldEvent) (state : State) {first now : View} {tenant : ℕ} {job : Job} {reply : Reply} (one : IsAnswered first now tenant job reply) : Type 0 where
  pub right : IsRightInRun config openings before events state (finished_as one.token tenant job reply one.answered.place)
  pub moment : HasMomentInRun config openings before events first one.token.worker tenant one.token.request job reply
  pub refused : TellsOfNoChange reply → MakesNoChange openings state tenant one.token.request

-- The table was made at a start, as an engine's is, and is under the rule. A thread knows what a pass knew with a reply. Then the reply is in
-- the one run so.
abbrev pub AnswersAreInOneRun : Config → ((ℕ → TenantStart) → List WorldEvent → Type 0) → Type 0
AnswersAreInOneRun config begun = (s : Table ActorState View) (tied : TableInvariant config begun s) (first now : View) (tenant : ℕ) (job : Job) (reply : Reply) (one : IsAnswered first now tenant job reply)
    → tied.past.before ≡ [] → IsKnownAt s now → IsInOneRun config tied.past.openings tied.past.before tied.events tied.state one

-- At a moment of such a table a pass knows `first`: it is idle and, if a session borrowed it, has learned the session's note. Its worker's next
-- request came when it still knew just that. At a later moment a thread knows what the pass knew with the reply. Then the request comes, in
-- the one run, after all that had happened at the first moment: so after each reply that any session was told by then.
abbrev pub AnswersComeAfterEarlierOnes : Config → ((ℕ → TenantStart) → List WorldEvent → Type 0) → Type 0
AnswersComeAfterEarlierOnes config begun = (s next : Table ActorState View) (tied : TableInvariant config begun s) (more : List WorldEvent) (on : Continues config begun s tied more next) (id : ℕ) (first now : View) (was : WorkerToken)
    (tenant : ℕ) (job : Job) (reply : Reply) (one : IsAnswered first now tenant job reply) → tied.past.before ≡ []
    → get_elem? s.views id ≡ some first → first.tokens ≡ was ∷ [] → was.worker ≡ one.token.worker → IsKnownAt next now
    → ComesAfter config on.after.past.openings on.after.past.before on.after.events tied.events first one.token.worker tenant one.token.request job reply
