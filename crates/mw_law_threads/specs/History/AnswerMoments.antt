-- Defines the moment of a reply in one run: between the arrival of its request and the event that hands it out, the tenant's
-- words, or its door, were as the reply says.
-- Used by the clauses of specs/AfterReplies.
use Rattle.std.specs.Prelude.{ℕ, ◌≡◌, ◌++◌, true, List, ◌∷◌, Some}
use Rattle.mw_words.specs.declared.jobs.Job.{Job}
use Rattle.mw_words.specs.declared.replies.Reply.{Reply}
use Rattle.mw_world.specs.declared.config.Config.{Config}
use Rattle.mw_world.specs.Definition.Events.{WorldEvent, Come, Hand}
use Rattle.mw_world.specs.Definition.State.{State, TenantStart, world_at}
use Rattle.mw_world.specs.Definition.World.{outgoing, run, step}
use Rattle.mw_law_threads.specs.Moments.Moments.{HasMoment}
use Rattle.mw_rule.specs.KnownRuns.{ExtendsKnownRun, known_run_of}
use Rattle.mw_rule.specs.WholeCalls.{Answered}
use Rattle.mw_rule.specs.declared.views.View.{View}
use Rattle.mw_rule.specs.declared.views.WorkerToken.{WorkerToken}

-- In this run the request of this worker comes, under this number, after all that its thread knew before. Other events follow, and
-- then the worker hands out its reply. Between the two, in the world after some of these events, the reply was true: the words of the
-- tenant's file had these values, this change was sealed, or the tenant's door had the cause of BUSY or FAULT.
pub record HasMomentInRun (config : Config) (openings : ℕ → TenantStart) (before events : List WorldEvent) (first : View) (worker tenant request : ℕ) (job : Job) (reply : Reply) : Type 0 where
  pub until : List WorldEvent
  pub later : List WorldEvent
  pub rest : List WorldEvent
  pub state : State
  pub between : State
  pub last : State
  pub parted : events ≡ until ++ Come worker tenant job ∷ (later ++ Hand worker ∷ rest)
  pub known : ExtendsKnownRun first.known_run (Some (known_run_of config openings before until))
  pub reached : run config (world_at config openings) (before ++ until) ≡ Some state
  pub comes : step config state (Come worker tenant job) ≡ Some between
  pub number : (between.worker_states worker).request ≡ request
  pub goes : run config between later ≡ Some last
  pub hands_out : outgoing last tenant (Hand worker) ≡ Some (request, reply)
  pub moment : HasMoment config openings between later last tenant request job reply

-- A request that was answered has its moment in the run behind what its thread knows then.
abbrev pub AnswersHaveMoments : Type 0
AnswersHaveMoments = (first now : View) (token : WorkerToken) (tenant : ℕ) (job : Job) (reply : Reply) (answered : Answered first now token tenant job reply) (whole : token.is_whole ≡ true)
    → HasMomentInRun now.config (answered.run whole).behind.openings (answered.run whole).behind.before (answered.run whole).behind.events first token.worker tenant token.request job reply

-- The request has its moment in this run, and comes after all of these events.
pub record ComesAfter (config : Config) (openings : ℕ → TenantStart) (before events done : List WorldEvent) (first : View) (worker tenant request : ℕ) (job : Job) (reply : Reply) : Type 0 where
  pub has : HasMomentInRun config openings before events first worker tenant request job reply
  pub more : List WorldEvent
  pub after : has.until ≡ done ++ more
