-- Defines a whole request of a thread: what the thread knew when it came, and what it knows when it has its reply.
-- Used by: src/laws.rt, mw_table, mw_law_threads.
use Rattle.std.specs.Prelude.{ℕ, ◌≡◌, ◌≤◌, Bool, true, List, [], ◌∷◌, ◌++◌, length, Option, Some, None}
use Rattle.mw_words.specs.declared.jobs.Job.{Job}
use Rattle.mw_words.specs.declared.replies.Reply.{Reply}
use Rattle.mw_words.specs.declared.statuses.Status.{Status}
use Rattle.mw_look.specs.declared.observations.Got.{Got}
use Rattle.mw_look.specs.declared.observations.Observation.TheVariants.{Filed}
use Rattle.mw_actor.specs.ActorState.{ActorState}
use Rattle.mw_actor.specs.Program.{replied, tells}
use Rattle.mw_world.specs.declared.config.Config.{Config}
use Rattle.mw_world.specs.Definition.Calls.{Called as CallOn, called_at}
use Rattle.mw_world.specs.Definition.State.{TenantStart, WorkerState}
use Rattle.mw_rule.specs.declared.file_token.FileToken.{FileToken}
use Rattle.mw_rule.specs.FromLaws.{IsRightAt}
use Rattle.mw_rule.specs.declared.views.HeldFile.{HeldFile}
use Rattle.mw_rule.specs.declared.views.WorkerToken.{WorkerToken}
use Rattle.mw_rule.specs.declared.views.View.{View}
use Rattle.mw_rule.specs.Steps.{LearnsFirstStep, ExtendsView, LearnsPlainLoad, MayCome, LearnsMeeting, AddsFinishedIf, LearnsStep, comes, finished_as, settled, stepped, actor_after}
use Rattle.mw_rule.specs.KnownRuns.{KnownRun}
use Rattle.mw_rule.specs.RunBehind.{IsInRun}
use Rattle.mw_rule.specs.Splits.{without_file, takes_files, knows, token_of}
use Rattle.mw_rule.specs.FileCalls.{Starts, LearnsFileCall, after_call}
use Rattle.mw_rule.specs.Evidence.{HasEvidence}
use Rattle.mw_rule.specs.Rule.{IsRight, quota_given, words_given}
use Rattle.mw_rule.specs.Prefixes.{seen_at}

-- The thread serves this request: `first` is what it knew when the request came, `now` what it knows now. It has this
-- token alone, what it has seen has only grown, and it is right. The finished requests are those from before. When
-- the request has its reply, it is added, at a position that is at least what the thread had seen when it came. If the
-- request came after the table was made, the run behind what the thread knows has it.
pub record Serves (first now : View) (token : WorkerToken) (actor : ActorState) : Type 0 where
  pub only : now.tokens ≡ settled token actor ∷ []
  pub keeps : ExtendsView first now
  pub right : IsRight now
  pub begun : length (seen_at first.seen actor.tenant) ≤ token.begun
  pub noted : AddsFinishedIf token actor.tenant (length (seen_at first.seen actor.tenant)) actor.job (replied actor) first.mine now.mine
  pub run : token.is_whole ≡ true → IsInRun token.worker actor.tenant token.request actor.job (replied actor) first now

-- The request was answered with this reply. It is the one request that was added to the finished ones. The reply is
-- right at its position among the changes that the thread has seen, which is at least what the thread had seen at
-- first. If the request came after the table was made, a reply that rests on no word has its evidence, and the run behind what
-- the thread knows has the request and its reply.
pub record Answered (first now : View) (token : WorkerToken) (tenant : ℕ) (job : Job) (reply : Reply) : Type 0 where
  pub place : ℕ
  pub noted : now.mine ≡ first.mine ++ finished_as token tenant job reply place ∷ []
  pub no_smaller : length (seen_at first.seen tenant) ≤ place
  pub within : place ≤ length (seen_at now.seen tenant)
  pub right : IsRightAt (words_given now tenant) (seen_at now.seen tenant) place token.request job reply
  pub evidence : token.is_whole ≡ true → HasEvidence token.found token.attempt tenant (quota_given now tenant) reply
  pub run : token.is_whole ≡ true → IsInRun token.worker tenant token.request job (Some reply) first now

-- After a request's first step the thread serves it. The facts below say that it goes on to serve it.
abbrev pub CallsBegin : Type 0
CallsBegin = (old new : View) (worker : ℕ) (actor : ActorState) (got : Got) (may : MayCome old worker actor) (began : LearnsFirstStep actor got old new)
    → Serves old new (stepped got (comes actor began.request began.begun may.token) actor) (actor_after got may.token.attempt actor)

-- over each further step
abbrev pub CallsGoOn : Type 0
CallsGoOn = (first old new : View) (token : WorkerToken) (actor : ActorState) (got : Got) → Serves first old token actor → replied actor ≡ None → LearnsStep got old new
    → Serves first new (stepped got token actor) (actor_after got token.attempt actor)

-- over a call on its file; it has no reply then
abbrev pub CallsFile : Type 0
CallsFile = (first old new : View) (token : WorkerToken) (actor : ActorState) (called : CallOn) (went_well : Bool) (held : HeldFile) (after : FileToken) → Serves first old token actor
    → called_at actor.point ≡ Some called → LearnsFileCall went_well held after old new → Serves first new (after_call went_well token actor) (tells actor (Filed went_well) token.attempt)

-- when it takes files from another thread
abbrev pub CallsTakeFiles : Type 0
CallsTakeFiles = (first old its : View) (token : WorkerToken) (actor : ActorState) → Serves first old token actor → Serves first (takes_files old its) token actor

-- when it gives a file away
abbrev pub CallsGiveBack : Type 0
CallsGiveBack = (first old : View) (token : WorkerToken) (actor : ActorState) → Serves first old token actor → Serves first (without_file old) token actor

-- over the load of a status from which the call starts
abbrev pub CallsStart : Type 0
CallsStart = (first old new : View) (token : WorkerToken) (worker : ℕ) (actor : ActorState) (called : CallOn) (held : HeldFile) (status : Status) → Serves first old token actor
    → Starts worker actor called held status old new → Serves first new token actor

-- over a load that is no step
abbrev pub CallsOverPlainLoads : Type 0
CallsOverPlainLoads = (first old new : View) (token : WorkerToken) (actor : ActorState) (index bits : ℕ) → Serves first old token actor → LearnsPlainLoad index bits old new → Serves first new token actor

-- when it meets other threads
abbrev pub CallsMeet : Type 0
CallsMeet = (first old new : View) (token : WorkerToken) (actor : ActorState) → Serves first old token actor → LearnsMeeting old new → Serves first new token actor

-- A thread also serves the request that its worker has when the table is made, if that has no reply. `first` is then
-- what the thread knows at that time.
abbrev pub CallsDealt : Type 0
CallsDealt = (config : Config) (openings : List TenantStart) (known_run : Option KnownRun) (worker : ℕ) (worker_state : WorkerState) (actor : ActorState) → worker_state.actor ≡ Some actor → replied actor ≡ None
    → IsRight (knows config openings known_run (token_of worker worker_state ∷ []) []) → Serves (knows config openings known_run (token_of worker worker_state ∷ []) []) (knows config openings known_run (token_of worker worker_state ∷ []) []) (token_of worker worker_state) actor

-- When the reply is there, the request was answered with it.
abbrev pub CallsEnd : Type 0
CallsEnd = (first now : View) (token : WorkerToken) (actor : ActorState) (reply : Reply) → Serves first now token actor → replied actor ≡ Some reply → Answered first now token actor.tenant actor.job reply
