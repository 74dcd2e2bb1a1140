-- Defines that two replies are to two requests, whichever sessions were told them, and that each YES then has a change of its
-- own. A session has a worker with a pass (a handle to the engine), or borrows a pass for each request.
-- Used by the clauses of specs/AfterReplies.
use Rattle.std.specs.Prelude.{ℕ, ◌≡◌, ◌≢◌, ◌⊎◌, List}
use mathlib.Core.Option.{some}
use lib.ListN.{get_elem?}
use Rattle.atomic_table.specs.Table.{State as Table}
use Rattle.mw_words.specs.declared.jobs.Job.{Job}
use Rattle.mw_words.specs.declared.replies.Reply.{Reply}
use Rattle.mw_words.specs.declared.replies.Reply.TheVariants.{Yes as SaysYes}
use Rattle.mw_actor.specs.ActorState.{ActorState}
use Rattle.mw_world.specs.declared.config.Config.{Config}
use Rattle.mw_world.specs.Definition.Events.{WorldEvent}
use Rattle.mw_world.specs.Definition.State.{TenantStart}
use Rattle.mw_rule.specs.KnownRuns.{ExtendsKnownRun}
use Rattle.mw_rule.specs.Rule.{TableInvariant}
use Rattle.mw_rule.specs.declared.views.View.{View}
use Rattle.mw_session.specs.Talk.{Call, Asks}
use Rattle.mw_session.specs.Transitions.{GoesThrough}
use Rattle.mw_engine.specs.Brand.{Identity}
use Rattle.mw_engine.specs.History.{IsAnswered}
use Rattle.mw_service.specs.declared.token_views.RequestToken.{RequestToken}
use Rattle.mw_service.specs.declared.token_views.TokenView.{TokenView}
use Rattle.mw_service.specs.OwnReplies.{AnswersOwn, Kept}
use Rattle.mw_service.specs.RequestTokens.{AreOwn}
use Rattle.mw_law_threads.specs.History.AnswersInOneRun.{IsKnownAt}

-- Two requests of one tenant were answered. They have two numbers. If both were answered YES, they have two changes.
pub record AreTwoRequests {first now begins ends : View} {tenant : ℕ} {job asked : Job} {reply said : Reply} (one : IsAnswered first now tenant job reply) (that : IsAnswered begins ends tenant asked said) : Type 0 where
  pub numbers : one.token.request ≢ that.token.request
  pub changes : reply ≡ SaysYes → said ≡ SaysYes → one.answered.place ≢ that.answered.place

-- At a moment of the table of request tokens a thread has just these.
pub record Has (tokens : Table ℕ TokenView) (id : ℕ) (list : List RequestToken) : Type 0 where
  pub view : TokenView
  pub at : get_elem? tokens.views id ≡ some view
  pub has : view.tokens ≡ list

-- A session that borrows its passes was answered a request of this tenant. By its later calls, whatever they were, it has come to `last`,
-- and has the tokens of all its requests at this moment of the table of tokens.
pub record WasAnswered (identity : Identity) (tokens : Table ℕ TokenView) (id tenant : ℕ) (job : Job) (reply : Reply) : Type 0 where
  pub old : Kept
  pub new : Kept
  pub last : Kept
  pub calls : List Call
  pub its : AnswersOwn identity old (Asks tenant job reply) new
  pub goes : GoesThrough (AnswersOwn identity) new calls last
  pub has : Has tokens id last.tokens

module _ (config : Config) (begun : (ℕ → TenantStart) → List WorldEvent → Type 0) where
  -- Two requests of one tenant were answered, each by a pass, for whichever sessions. `first` and `begins` are what the two passes knew
  -- when the requests came, `now` and `ends` what they knew with the replies. Either two workers served them; or, when the second came,
  -- its pass knew all of the run that the first pass knew with its reply. Then they are two requests.
  abbrev pub RepliesAreToOwnRequests : Type 0
  RepliesAreToOwnRequests = (s : Table ActorState View) (tied : TableInvariant config begun s) (first now begins ends : View) (tenant : ℕ) (job asked : Job) (reply said : Reply)
      (one : IsAnswered first now tenant job reply) (that : IsAnswered begins ends tenant asked said) → IsKnownAt s now → IsKnownAt s ends
      → (one.token.worker ≢ that.token.worker) ⊎ ExtendsKnownRun now.known_run begins.known_run
      → AreTwoRequests one that

  -- At each moment at which both tables are under their rules: two sessions were answered, each a request of one tenant, whichever passes
  -- they borrowed. Some thread knows what each pass knew with its reply. Then these are two requests, and two YES have two changes.
  abbrev pub SessionsHaveOwnRequests : Type 0
  SessionsHaveOwnRequests = (s : Table ActorState View) (tied : TableInvariant config begun s) (tokens : Table ℕ TokenView) (own : AreOwn tokens) (identity : Identity) (id other tenant : ℕ) (job asked : Job) (reply said : Reply)
      (one : WasAnswered identity tokens id tenant job reply) (that : WasAnswered identity tokens other tenant asked said) → id ≢ other
      → IsKnownAt s one.its.0.1.seat.me.0 → IsKnownAt s that.its.0.1.seat.me.0
      → AreTwoRequests one.its.0.2.answered that.its.0.2.answered
