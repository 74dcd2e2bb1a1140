-- Defines runs of a world by schedules, which say which worker goes on and how far. Used by: specs/Claim/Examples.
use Rattle.std.specs.Prelude.{ℕ, zero, suc, Bool, true, false, is_some, List, [], ◌∷◌, reverse, Option, Some, None}
use Rattle.std.specs.Option.{option_map}
use Rattle.mw_words.specs.declared.jobs.Job.{Job}
use Rattle.mw_look.specs.declared.steps.Kind.TheVariants.{Plant as PlantKind, Resolve as ResolveKind, DecideNo as DecideNoKind, Pin as PinKind}
use Rattle.mw_look.specs.declared.steps.Call.TheVariants.{Prepare as PrepareCall, Seal as SealCall, Settle as SettleCall}
use Rattle.mw_look.specs.Steps.{Step as Asked, Change, File as FileStep}
use Rattle.mw_actor.specs.ActorState.{ActorState}
use Rattle.mw_actor.specs.Asks.{asks}
use Rattle.mw_actor.specs.Program.{replied}
use Rattle.mw_world.specs.declared.outcomes.Outcome.TheVariants.{Good, Fail}
use Rattle.mw_world.specs.declared.config.Config.{Config}
use Rattle.mw_world.specs.Definition.Events.{Found, WorldEvent, Come, Step, File, Hand, Restart}
use Rattle.mw_world.specs.Definition.State.{State}
use Rattle.mw_world.specs.Definition.Calls.{Called, called_at}
use Rattle.mw_world.specs.Definition.World.{step}

-- the kinds of step at which a schedule stops a worker
pub data Kind : Type 0 where
  Plants : Kind
  Resolves : Kind
  DecidesNo : Kind
  Pins : Kind
  PreparesFile : Kind
  SealsFile : Kind
  SettlesFile : Kind

-- the step for which a request asks is of this kind
abbrev pub is_kind : Kind → Asked → Bool
is_kind Plants (Change PlantKind at from to) = true
is_kind Resolves (Change ResolveKind at from to) = true
is_kind DecidesNo (Change DecideNoKind at from to) = true
is_kind Pins (Change PinKind at from to) = true
is_kind PreparesFile (FileStep PrepareCall slot) = true
is_kind SealsFile (FileStep SealCall slot) = true
is_kind SettlesFile (FileStep SettleCall slot) = true
is_kind kind asked = false

-- the request, if there is one, asks for a step of this kind
abbrev pub comes_to : Kind → Option ActorState → Bool
comes_to kind None = false
comes_to kind (Some actor) = is_kind kind (asks actor)

-- A line of a schedule. A request comes. A worker goes on until its next step is of a kind, or until it has made such
-- a step, or until it has handed out its reply. Its call on the file is made, and the device call with this number
-- fails. The server restarts.
pub data Line : Type 0 where
  Comes : (worker tenant : ℕ) (job : Job) → Line
  Before : (worker : ℕ) (kind : Kind) → Line
  To : (worker : ℕ) (kind : Kind) → Line
  End : (worker : ℕ) → Line
  Fails : (worker number : ℕ) → Line
  Stops : (founds : List Found) → Line

-- a run so far: the world after it, and its events with the latest first
pub record Played : Type 0 where
  pub state : State
  pub events : List WorldEvent

-- the run with one event more
abbrev pub play : Config → Played → WorldEvent → Option Played
play config played event = option_map (λ next. record { state = next; events = event ∷ played.events }) (step config played.state event)

-- the worker's next event if no device call fails: a call on its file, or a step
abbrev pub next_call : ℕ → Option Called → WorldEvent
next_call worker None = Step worker
next_call worker (Some called) = File worker Good

-- a worker's next event: an idle one's is to hand out a reply, which no run allows
abbrev pub next_event : ℕ → Option ActorState → WorldEvent
next_event worker None = Hand worker
next_event worker (Some actor) = next_call worker (called_at actor.point)

-- the request has its reply, or there is no request
abbrev pub has_reply : Option ActorState → Bool
has_reply None = true
has_reply (Some actor) = is_some (replied actor)

-- one of two results, and only that one is computed
abbrev pub either : {A : Type 0} → Bool → (Unit {0} → A) → (Unit {0} → A) → A
either true one other = one tt
either false one other = other tt

-- the rest of a run, if the part before it came to its end
abbrev pub then : Option Played → (Played → Option Played) → Option Played
then None rest = None
then (Some played) rest = rest played

-- a worker's request at the end of a run
abbrev pub actor_of : Played → ℕ → Option ActorState
actor_of played worker = (played.state.worker_states worker).actor

-- a worker goes on until its request passes this test, for at most so many steps
abbrev pub goes_until : ℕ → Config → ℕ → (Option ActorState → Bool) → Played → Option Played
goes_until zero config worker test played = None
goes_until (suc most) config worker test played =
    either (test (actor_of played worker)) (λ u. Some played)
    (λ u. then (play config played (next_event worker (actor_of played worker))) (λ next. goes_until most config worker test next))

-- the most steps of one line of these schedules
abbrev pub most_steps : ℕ
most_steps = 200

-- the run with one line more
abbrev pub obeyed : Config → Line → Played → Option Played
obeyed config (Comes worker tenant job) played = play config played (Come worker tenant job)
obeyed config (Before worker kind) played = goes_until most_steps config worker (comes_to kind) played
obeyed config (To worker kind) played = then (goes_until most_steps config worker (comes_to kind) played) (λ there. play config there (next_event worker (actor_of there worker)))
obeyed config (End worker) played = then (goes_until most_steps config worker has_reply played) (λ there. play config there (Hand worker))
obeyed config (Fails worker number) played = play config played (File worker (Fail number))
obeyed config (Stops founds) played = play config played (Restart founds)

-- the run of a schedule that begins with this run
abbrev pub all_obeyed : Config → List Line → Played → Option Played
all_obeyed config [] played = Some played
all_obeyed config (line ∷ lines) played = then (obeyed config line played) (λ next. all_obeyed config lines next)

-- the run of a schedule that begins in this world
abbrev pub played : Config → List Line → State → Option Played
played config lines state = all_obeyed config lines (record { state = state; events = [] })

-- the events of a run, in order
abbrev pub events_of : Played → List WorldEvent
events_of played = reverse played.events
