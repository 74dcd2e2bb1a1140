-- Defines what each event does to a world, and whole runs of events. Used by: many crates from mw_law_runs on.
use Rattle.std.specs.Prelude.{ℕ, ◌+◌, ◌==◌, ◌&&◌, Bool, if◌then◌else◌, List, [], ◌∷◌, ◌++◌, nat_lt, is_none, Option, Some, None}
use Rattle.std.specs.Option.{option_and_then, option_map, option_to_list, unwrap_or}
use Rattle.mw_words.specs.declared.jobs.Job.{Job}
use Rattle.mw_words.specs.declared.replies.Reply.{Reply}
use Rattle.mw_words.specs.Change.{is_well_formed}
use Rattle.mw_lone.specs.declared.marks.Mark.TheVariants.{Ask, Reply as HandOut}
use Rattle.mw_actor.specs.ActorState.{ActorState, first}
use Rattle.mw_actor.specs.Program.{replied}
use Rattle.mw_world.specs.Maps.{upd}
use Rattle.mw_world.specs.declared.config.Config.{Config}
use Rattle.mw_world.specs.Definition.Events.{WorldEvent, Come, Step, File, Hand, Restart}
use Rattle.mw_world.specs.Definition.State.{State, WorkerState, TenantState, tenant_at, tenants_of}
use Rattle.mw_world.specs.Definition.LabelEffects.{more}
use Rattle.mw_world.specs.Definition.Turns.{turn}
use Rattle.mw_world.specs.Definition.Calls.{call}
use Rattle.mw_world.specs.Definition.Restarts.{restart}

-- an idle worker's state after it has begun a request
abbrev pub begun : WorkerState → ActorState → ℕ → WorkerState
begun worker_state actor request = record worker_state { actor = Some actor; request = request; retiring = request }

-- the tenant state with one request more
abbrev pub asked : TenantState → Job → TenantState
asked tenant_state job = record tenant_state { asked = tenant_state.asked + 1; lines = more tenant_state.lines (Some (Ask tenant_state.asked job)) }

-- The worker and the tenant exist, the worker has no request, and the tenant may ask for this job. The numbers of
-- requests have no upper limit.
abbrev pub may_come : Config → State → ℕ → ℕ → Job → Bool
may_come config state worker tenant job =
    nat_lt worker config.workers && nat_lt tenant (tenants_of config) && is_none (state.worker_states worker).actor && is_well_formed (tenant_at config tenant).words job

-- A request begins.
abbrev pub come : Config → State → ℕ → ℕ → Job → Option State
come config state worker tenant job =
    if may_come config state worker tenant job
    then Some (record state {
      worker_states = upd state.worker_states worker (begun (state.worker_states worker) (first worker tenant (state.tenant_states tenant).quota config.pool job) (state.tenant_states tenant).asked);
      tenant_states = upd state.tenant_states tenant (asked (state.tenant_states tenant) job);
    })
    else None

-- the world after a worker has handed out this reply; None: there is no reply
abbrev pub handed : State → ℕ → ℕ → Option Reply → Option State
handed state worker tenant None = None
handed state worker tenant (Some reply) =
    let tenant_state = state.tenant_states tenant in
    Some (record state {
      worker_states = upd state.worker_states worker (record (state.worker_states worker) { actor = None });
      tenant_states = upd state.tenant_states tenant (record tenant_state { lines = more tenant_state.lines (Some (HandOut (state.worker_states worker).request)) });
    })

-- A worker hands out the reply to its request, if the request has one.
abbrev pub hand : State → ℕ → Option ActorState → Option State
hand state worker None = None
hand state worker (Some actor) = handed state worker actor.tenant (replied actor)

-- The world after an event. None: the event can't happen in this state.
abbrev pub step : Config → State → WorldEvent → Option State
step config state (Come worker tenant job) = come config state worker tenant job
step config state (Step worker) = turn config state worker (state.worker_states worker).actor
step config state (File worker outcome) = call config state worker (state.worker_states worker).actor outcome
step config state (Hand worker) = hand state worker (state.worker_states worker).actor
step config state (Restart founds) = restart config state founds

-- the world after a list of events; None: one of the events can't happen in the state before it
abbrev pub run : Config → State → List WorldEvent → Option State
run config state [] = Some state
run config state (event ∷ events) = option_and_then (λ next. run config next events) (step config state event)

-- the reply that a worker's request would hand out to this tenant, with the request's number
abbrev pub reply_for : State → ℕ → ℕ → Option ActorState → Option (ℕ × Reply)
reply_for state tenant worker None = None
reply_for state tenant worker (Some actor) = if actor.tenant == tenant then option_map (λ reply. ((state.worker_states worker).request, reply)) (replied actor) else None

-- the reply that an event hands out to a tenant, with its request's number
abbrev pub outgoing : State → ℕ → WorldEvent → Option (ℕ × Reply)
outgoing state tenant (Come worker other job) = None
outgoing state tenant (Step worker) = None
outgoing state tenant (File worker outcome) = None
outgoing state tenant (Hand worker) = reply_for state tenant worker (state.worker_states worker).actor
outgoing state tenant (Restart founds) = None

-- The replies that a list of events hands out to a tenant, in order, each with its request's number.
abbrev pub replies_to : Config → ℕ → State → List WorldEvent → List (ℕ × Reply)
replies_to config tenant state [] = []
replies_to config tenant state (event ∷ events) =
    option_to_list (outgoing state tenant event) ++ unwrap_or (option_map (λ next. replies_to config tenant next events) (step config state event)) []
