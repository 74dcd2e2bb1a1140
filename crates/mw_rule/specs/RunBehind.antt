-- Defines the run behind what a thread knows: one run of the world (the model of a whole server) in which all of it is so. It
-- has the arrivals, steps and replies of the requests that the thread's workers finished.
-- Used by: mw_table, mw_service, mw_law_threads. A change here changes the contracts of Engine::serve.
use Rattle.std.specs.Prelude.{ℕ, ◌+◌, ◌≡◌, ◌<◌, ◌==◌, List, [], ◌∷◌, ◌++◌, Option, Some, None}
use Rattle.mw_words.specs.declared.jobs.Job.{Job}
use Rattle.mw_words.specs.declared.replies.Reply.{Reply}
use Rattle.mw_world.specs.Claim.Headline.{IsExecution}
use Rattle.mw_world.specs.Definition.Events.{WorldEvent, Come, Step, File, Hand, Restart}
use Rattle.mw_world.specs.Definition.State.{State, TenantStart, tenants_of, world_at}
use Rattle.mw_rule.specs.FromLaws.{AreNoStarts, sealed_of}
use Rattle.mw_rule.specs.declared.views.WorkerEvent.{WorkerEvent}
use Rattle.mw_rule.specs.declared.views.WorkerEvent.TheVariants.{Came, Stepped, Called, Handed}
use Rattle.mw_rule.specs.declared.views.WorkerToken.{WorkerToken}
use Rattle.mw_rule.specs.declared.views.View.{View}
use Rattle.mw_rule.specs.KnownRuns.{KnownRun, ExtendsKnownRun, known_run_of}
use Rattle.mw_rule.specs.Rule.{Each, Holds, IsHandedOut, events_of_worker, weight}
use Rattle.mw_rule.specs.Prefixes.{ArePrefixes, Gave, opening_at}

-- One run of the world is behind what the thread knows:
--
-- - it is a run from its first start to this world, with no start since the table was made, and it is the run that the thread
--   knows (`played`, `no_starts`, `known_run`);
-- - its latest start gave the tenants what the thread knows (`gave`);
-- - what the tokens tell of their workers is true after it, so also what these workers did in it (`tokens`);
-- - for each tenant, the changes that the thread has seen are the first ones sealed in it (`seen`);
-- - it handed out the reply of each request that the thread's workers finished (`handed`).
pub record IsBehind (view : View) : Type 0 where
  pub openings : ℕ → TenantStart
  pub before : List WorldEvent
  pub events : List WorldEvent
  pub state : State
  pub played : IsExecution view.config openings (before ++ events) state
  pub no_starts : AreNoStarts events
  pub known_run : view.known_run ≡ Some (known_run_of view.config openings before events)
  pub gave : (tenant : ℕ) → tenant < tenants_of view.config → Gave openings state tenant (opening_at view.openings tenant)
  pub tokens : Each (Holds view.config openings state events) view.tokens
  pub seen : ArePrefixes (tenants_of view.config) view.seen (sealed_of openings state)
  pub handed : Each (IsHandedOut view.config (world_at view.config openings) (before ++ events)) view.mine

-- 1 if a request of this tenant comes with this event, else 0
abbrev pub arrives : ℕ → WorldEvent → ℕ
arrives tenant (Come worker other job) = weight (other == tenant)
arrives tenant (Step worker) = 0
arrives tenant (File worker outcome) = 0
arrives tenant (Hand worker) = 0
arrives tenant (Restart founds) = 0

-- how many requests of this tenant come with these events
abbrev pub arrivals : ℕ → List WorldEvent → ℕ
arrivals tenant [] = 0
arrivals tenant (event ∷ events) = arrives tenant event + arrivals tenant events

-- The run that a thread knows now has the arrival of this request of its worker, after all that the thread knew at first. The
-- request's number is how many requests of its tenant had come before. Until then the worker had done only what the thread
-- knew that it had done.
pub record Arrives (worker tenant request : ℕ) (job : Job) (first now : View) : Type 0 where
  pub known : KnownRun
  pub is_known : now.known_run ≡ Some known
  pub until : List WorldEvent
  pub since : List WorldEvent
  pub parted : known.events ≡ until ++ Come worker tenant job ∷ since
  pub follows : ExtendsKnownRun first.known_run (Some (record known { events = until }))
  pub number : request ≡ arrivals tenant (known.before ++ until)
  pub idle : (token : WorkerToken) → first.tokens ≡ token ∷ [] → events_of_worker worker until ≡ token.made

-- The worker made a step of its request, or its call on a file.
abbrev pub IsOfRequest : WorkerEvent → Type 0
IsOfRequest Came = ⊥
IsOfRequest Stepped = Unit {0}
IsOfRequest Called = Unit {0}
IsOfRequest Handed = ⊥

-- a reply that is there is handed out by the worker
abbrev pub handed_if : Option Reply → List WorkerEvent
handed_if None = []
handed_if (Some reply) = Handed ∷ []

-- The run behind what the thread knows has this very request: its arrival after all that the thread knew at first, its steps
-- and, if it has its reply, its hand-out. Since that arrival its worker did nothing else.
pub record IsInRun (worker tenant request : ℕ) (job : Job) (reply : Option Reply) (first now : View) : Type 0 where
  pub behind : IsBehind now
  pub arrival : Arrives worker tenant request job first now
  pub steps : List WorkerEvent
  pub are_its : Each IsOfRequest steps
  pub did : events_of_worker worker arrival.since ≡ steps ++ handed_if reply
