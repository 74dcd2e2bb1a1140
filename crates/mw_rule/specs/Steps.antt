-- Defines what a step on a shared word requires of the thread that makes it, and what the thread learns from it.
-- Used by: mw_table, mw_service, mw_law_threads.
use Rattle.std.specs.Prelude.{ℕ, ◌≡◌, ◌≤◌, ◌<◌, true, List, [], ◌∷◌, ◌++◌, map, length, Option, Some, None}
use Rattle.mw_words.specs.declared.jobs.Job.{Job}
use Rattle.mw_words.specs.declared.places.At.{At}
use Rattle.mw_words.specs.declared.replies.Reply.{Reply}
use Rattle.mw_words.specs.Change.{is_well_formed}
use Rattle.mw_look.specs.declared.observations.Got.{Got}
use Rattle.mw_look.specs.declared.steps.Op.{Op}
use Rattle.mw_look.specs.Observations.{observation_of}
use Rattle.mw_look.specs.Places.{pack}
use Rattle.mw_look.specs.Steps.{op_of, place, place_of}
use Rattle.mw_actor.specs.declared.points.Point.{Point}
use Rattle.mw_actor.specs.declared.points.Point.TheVariants.{Read}
use Rattle.mw_actor.specs.ActorState.{ActorState, first}
use Rattle.mw_actor.specs.Asks.{asks}
use Rattle.mw_actor.specs.Program.{replied, tells}
use Rattle.mw_world.specs.declared.config.Config.{Config}
use Rattle.mw_world.specs.Claim.Headline.{IsExecution}
use Rattle.mw_world.specs.Definition.Calls.{Called as CallOn, called_at}
use Rattle.mw_world.specs.Definition.Cells.{Cells, read}
use Rattle.mw_world.specs.Definition.Changes.{done}
use Rattle.mw_world.specs.Definition.Extent.{has_place}
use Rattle.mw_world.specs.Definition.Events.{WorldEvent}
use Rattle.mw_world.specs.Definition.State.{State, TenantStart, tenant_at, tenants_of}
use Rattle.mw_world.specs.Definition.Turns.{may_make, next_attempt}
use Rattle.mw_rule.specs.Calls.CallStarts.{HasWords}
use Rattle.mw_rule.specs.FromLaws.{FindsItsWay, SealedChange, sealed_of}
use Rattle.mw_rule.specs.declared.views.WorkerEvent.TheVariants.{Came, Stepped, Handed}
use Rattle.mw_rule.specs.declared.views.Finished.{Finished}
use Rattle.mw_rule.specs.declared.views.WorkerToken.{WorkerToken}
use Rattle.mw_rule.specs.declared.views.View.{View}
use Rattle.mw_rule.specs.KnownRuns.{ExtendsKnownRun}
use Rattle.mw_rule.specs.RunBehind.{Arrives, IsBehind}
use Rattle.mw_rule.specs.Layout.{index_of}
use Rattle.mw_rule.specs.Rule.{Each, HoldsFile, IsRight}
use Rattle.mw_rule.specs.Prefixes.{ArePrefixes, Gave, opening_at, seen_at}

-- The token when its worker's request is in this state. If the request has its reply, the reply is handed out, and
-- the worker has no request any more.
abbrev pub settled_as : WorkerToken → ActorState → Option Reply → WorkerToken
settled_as token actor None = record token { actor = Some actor }
settled_as token actor (Some reply) = record token { actor = None; made = token.made ++ Handed ∷ [] }

-- the same, by the reply that the request has at its point
abbrev pub settled : WorkerToken → ActorState → WorkerToken
settled token actor = settled_as token actor (replied actor)

-- the request after it is told what its step found
abbrev pub actor_after : Got → ℕ → ActorState → ActorState
actor_after got attempt actor = tells actor (observation_of (place (asks actor)) got) (next_attempt actor.point attempt)

-- the token after its worker made the step that this request asks for and found this, before the request is told
abbrev pub stepped : Got → WorkerToken → ActorState → WorkerToken
stepped got token actor = record token {
  actor = Some actor;
  attempt = next_attempt actor.point token.attempt;
  made = token.made ++ Stepped ∷ [];
  found = token.found ++ record { op = op_of (asks actor); got = got } ∷ [];
}

-- the token after its request, if it has one, is told what the step found
abbrev pub told_as : Got → WorkerToken → Option ActorState → WorkerToken
told_as got token None = token
told_as got token (Some actor) = settled (stepped got token actor) (actor_after got token.attempt actor)

-- the same for the request that the token has
abbrev pub told : Got → WorkerToken → WorkerToken
told got token = told_as got token token.actor

-- The token after this request came, with this number. At least `begun` changes of its tenant were sealed then.
abbrev pub comes : ActorState → ℕ → ℕ → WorkerToken → WorkerToken
comes actor request begun token = record token { actor = Some actor; request = request; begun = begun; made = token.made ++ Came ∷ []; found = []; is_whole = true }

-- If the request is not at a call on a file, the place of its next step is there. If it is, the words that the call's
-- end may use are there.
abbrev pub IsReadyAt : Config → ActorState → Option CallOn → Type 0
IsReadyAt config actor None = may_make config (asks actor) ≡ true
IsReadyAt config actor (Some called) = HasWords config actor called

-- The same of a worker's request, if it has one without a reply.
abbrev pub IsReadyFor : Config → Option ActorState → Type 0
IsReadyFor config None = Unit {0}
IsReadyFor config (Some actor) = replied actor ≡ None → IsReadyAt config actor (called_at actor.point)

-- The same of the request of a token's worker.
abbrev pub IsReady : Config → WorkerToken → Type 0
IsReady config token = IsReadyFor config token.actor

-- This is the one token that the thread has, and it is of this worker.
pub record HasToken (view : View) (worker : ℕ) (token : WorkerToken) : Type 0 where
  pub only : view.tokens ≡ token ∷ []
  pub own : token.worker ≡ worker

-- This is the next step of the request that the thread carries for the worker. The request has no reply and is not at
-- a call on a file; the place of the step is there.
pub record IsNextStep (view : View) (worker : ℕ) (op : Op) : Type 0 where
  pub token : WorkerToken
  pub has : HasToken view worker token
  pub actor : ActorState
  pub carries : token.actor ≡ Some actor
  pub running : replied actor ≡ None
  pub no_call : called_at actor.point ≡ None
  pub is : op_of (asks actor) ≡ op
  pub there : has_place view.config (place_of op) ≡ true

-- This request may come to the thread's worker, which has no request. Its tenant is there, may ask for this job, and
-- has this quota; the request is at its first point.
pub record MayCome (view : View) (worker : ℕ) (actor : ActorState) : Type 0 where
  pub token : WorkerToken
  pub has : HasToken view worker token
  pub idle : token.actor ≡ None
  pub tenant : actor.tenant < tenants_of view.config
  pub may_ask : is_well_formed (tenant_at view.config actor.tenant).words actor.job ≡ true
  pub is : actor ≡ first worker actor.tenant (opening_at view.openings actor.tenant).quota view.config.pool actor.job

-- For each tenant, its changes in the first list are a prefix of its changes in the second.
abbrev pub IsPrefix : ℕ → List (List SealedChange) → List (List SealedChange) → Type 0
IsPrefix tenants first then = ArePrefixes tenants first (seen_at then)

-- A thread's knowledge has only grown. The world and the latest start are the same. What it had seen is a prefix of
-- what it has seen now. The run that it knows extends the one that it knew.
pub record ExtendsView (old new : View) : Type 0 where
  pub same_config : new.config ≡ old.config
  pub same_openings : new.openings ≡ old.openings
  pub seen : IsPrefix (tenants_of old.config) old.seen new.seen
  pub known_run : ExtendsKnownRun old.known_run new.known_run

-- The same over the thread's own steps and loads. What it was told stays; what it was told of changes is a prefix of
-- what it has seen now. One run is behind all that it knows now.
pub record ExtendsWithLearned (old new : View) : Type 0 where
  pub same_config : new.config ≡ old.config
  pub same_openings : new.openings ≡ old.openings
  pub same_spent : new.is_spent ≡ old.is_spent
  pub same_told : new.told ≡ old.told
  pub seen : IsPrefix (tenants_of old.config) old.seen new.seen
  pub told : IsPrefix (tenants_of old.config) old.told new.seen
  pub known_run : ExtendsKnownRun old.known_run new.known_run
  pub behind : IsBehind new

-- These bits were at an index of the table, in a world after some run. That run's latest start gave the tenants what
-- the thread knows, and the changes sealed in it are exactly those that the thread has seen. What the thread knows of
-- its files is true in that world.
pub record StoodThere (view : View) (index bits : ℕ) : Type 0 where
  pub openings : ℕ → TenantStart
  pub events : List WorldEvent
  pub state : State
  pub played : IsExecution view.config openings events state
  pub gave : (tenant : ℕ) → tenant < tenants_of view.config → Gave openings state tenant (opening_at view.openings tenant)
  pub seen : (tenant : ℕ) → tenant < tenants_of view.config → seen_at view.seen tenant ≡ sealed_of openings state tenant
  pub same_bits : (at : At) → has_place view.config at ≡ true → index_of view.config.pool at ≡ index → bits ≡ pack at (read state.cells at)
  pub files : Each (HoldsFile view.config state) view.files

-- the finished request: the one of this token, of this tenant and for this job, with its reply and its position
abbrev pub finished_as : WorkerToken → ℕ → Job → Reply → ℕ → Finished
finished_as token tenant job reply place = record {
  worker = token.worker;
  tenant = tenant;
  request = token.request;
  job = job;
  reply = reply;
  place = place;
  found = token.found;
  is_whole = token.is_whole;
  attempt = token.attempt;
}

-- The token's request is added to the finished ones, after those from before, with this reply. Its position is at
-- least `begun`: what is known to have been sealed when it came.
pub record AddsFinished (token : WorkerToken) (tenant begun : ℕ) (job : Job) (reply : Reply) (old new : List Finished) : Type 0 where
  pub place : ℕ
  pub no_smaller : begun ≤ place
  pub noted : new ≡ old ++ finished_as token tenant job reply place ∷ []

-- If there is a reply, the request is added with it; else the finished requests stay the same.
abbrev pub AddsFinishedIf : (token : WorkerToken) (tenant begun : ℕ) (job : Job) → Option Reply → List Finished → List Finished → Type 0
AddsFinishedIf token tenant begun job None old new = new ≡ old
AddsFinishedIf token tenant begun job (Some reply) old new = AddsFinished token tenant begun job reply old new

-- what the finished requests become when this token's request is told what its step found
abbrev pub Notes : Got → WorkerToken → ActorState → List Finished → List Finished → Type 0
Notes got token actor old new = AddsFinishedIf (stepped got token actor) actor.tenant token.begun actor.job (replied (actor_after got token.attempt actor)) old new

-- The same over a step of the request that the thread carries.
abbrev pub Ends : Got → View → View → Type 0
Ends got old new = (token : WorkerToken) (actor : ActorState) → old.tokens ≡ token ∷ [] → token.actor ≡ Some actor → Notes got token actor old.mine new.mine

-- The same over the first step of a request that comes.
abbrev pub EndsAtOnce : ActorState → ℕ → ℕ → Got → View → View → Type 0
EndsAtOnce actor request begun got old new = (token : WorkerToken) → old.tokens ≡ token ∷ [] → Notes got (comes actor request begun token) actor old.mine new.mine

-- What these shared words have agrees with the point of a read, so that it needn't begin again.
abbrev pub FindsWayAt : Cells → Point → Type 0
FindsWayAt cells (Read look) = FindsItsWay cells look.tenant look.address look.point
FindsWayAt cells point = Unit {0}

-- What the step found, as the request is told it, is what the step finds in some shared words; and a read finds its
-- way in these.
pub record IsFound (got : Got) (actor : ActorState) : Type 0 where
  pub cells : Cells
  pub is : observation_of (place (asks actor)) got ≡ done (asks actor) cells (λ after observation. observation)
  pub way : FindsWayAt cells actor.point

-- The same of the request that the thread carries.
abbrev pub Finds : Got → View → Type 0
Finds got old = (token : WorkerToken) (actor : ActorState) → old.tokens ≡ token ∷ [] → token.actor ≡ Some actor → IsFound got actor

-- What a thread learns from a load of these bits at this index that is no step. The load is added to its list, and
-- its tokens, finished requests and files stay. What it saw before, and what it was told, is a prefix of what it has
-- seen now. The run that it knows extends the one that it was told.
pub record LearnsPlainLoad (index bits : ℕ) (old new : View) : Type 0 where
  pub goes_on : ExtendsWithLearned old new
  pub learned_run : ExtendsKnownRun old.learned_run new.known_run
  pub stood : StoodThere new index bits
  pub plain_loads : new.plain_loads ≡ old.plain_loads ++ record { index = index; bits = bits } ∷ []
  pub right : IsRight new
  pub same_token : new.tokens ≡ old.tokens
  pub same_mine : new.mine ≡ old.mine
  pub same_files : new.files ≡ old.files

-- What a thread learns when it meets others. What it has seen may only grow; its tokens and finished requests stay, and
-- all of it is right. One run is behind it. This says nothing of its files.
pub record LearnsMeeting (old new : View) : Type 0 where
  pub keeps : ExtendsView old new
  pub behind : IsBehind new
  pub right : IsRight new
  pub same_token : new.tokens ≡ old.tokens
  pub same_mine : new.mine ≡ old.mine

-- What a thread learns from a step of its worker, which found this. Its token has the step, its request is added to
-- the finished ones if it has its reply then, and its files stay. What it found is what some shared words have.
pub record LearnsStep (got : Got) (old new : View) : Type 0 where
  pub goes_on : ExtendsWithLearned old new
  pub right : IsRight new
  pub token : new.tokens ≡ map (told got) old.tokens
  pub ready : Each (IsReady new.config) new.tokens
  pub ends : Ends got old new
  pub same_files : new.files ≡ old.files
  pub found : Finds got old

-- The request came to the worker of the thread's token.
abbrev pub ArrivesHere : ActorState → ℕ → View → View → Type 0
ArrivesHere actor request old new = (token : WorkerToken) → old.tokens ≡ token ∷ [] → Arrives token.worker actor.tenant request actor.job old new

-- What a thread learns when this request comes and makes its first step, which found this. When it came, at least as
-- many changes of its tenant were sealed as the thread had seen. The run that the thread knows then has its arrival.
pub record LearnsFirstStep (actor : ActorState) (got : Got) (old new : View) : Type 0 where
  pub goes_on : ExtendsWithLearned old new
  pub right : IsRight new
  pub request : ℕ
  pub begun : ℕ
  pub no_fewer : length (seen_at old.seen actor.tenant) ≤ begun
  pub arrival : ArrivesHere actor request old new
  pub token : new.tokens ≡ map (λ one. told got (comes actor request begun one)) old.tokens
  pub ready : Each (IsReady new.config) new.tokens
  pub ends : EndsAtOnce actor request begun got old new
  pub same_files : new.files ≡ old.files
  pub found : IsFound got actor

-- The thread has one token, of this worker, and carries this request by it; or the request has its reply and is finished.
pub record Carries (view : View) (worker attempt : ℕ) (actor : ActorState) (token : WorkerToken) : Type 0 where
  pub own : token.worker ≡ worker
  pub same_attempt : token.attempt ≡ attempt
  pub only : view.tokens ≡ settled token actor ∷ []
