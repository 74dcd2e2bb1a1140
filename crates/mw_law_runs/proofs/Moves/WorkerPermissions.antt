-- After every event, the history gives each worker the attempt and the permission to hold a word that its request's point
-- says (`PointsAreTold`).
-- Used by: events_tell_points.
use Rattle.std.specs.Prelude.{ℕ, ◌≡◌, ◌==◌, ◌&&◌, Bool, true, false, cond, if◌then◌else◌, List, length, not, is_some, is_none, Option, Some, None}
use Rattle.std.proofs.Common.{refl, subst, arith}
use Rattle.std.proofs.lemmas.Bool.Decides.{nat_tests}
use Rattle.mw_words.specs.declared.jobs.Job.{Job}
use Rattle.mw_words.specs.declared.jobs.Job.TheVariants.{Get, Cas}
use Rattle.mw_words.specs.declared.places.At.{At}
use Rattle.mw_words.specs.declared.replies.Reply.{Reply}
use Rattle.mw_look.specs.declared.observations.Observation.{Observation}
use Rattle.mw_look.specs.declared.observations.Observation.TheVariants.{Won, Lost}
use Rattle.mw_look.specs.declared.steps.Kind.{Kind}
use Rattle.mw_look.specs.Observations.{seen}
use Rattle.mw_look.specs.Places.{Val, pack}
use Rattle.mw_look.specs.Steps.{Step, Load, Change, File as FileStep}
use Rattle.mw_actor.specs.declared.points.Point.{Point}
use Rattle.mw_actor.specs.declared.points.Point.TheVariants as points
use Rattle.mw_actor.specs.ActorState.{ActorState, first}
use Rattle.mw_actor.specs.Asks.{asks}
use Rattle.mw_actor.specs.Program.{tells, replied, reply_at}
use Rattle.mw_world.specs.declared.config.Config.{Config}
use Rattle.mw_world.specs.declared.outcomes.Outcome.{Outcome}
use Rattle.mw_world.specs.declared.step_labels.StepLabel.{StepLabel}
use Rattle.mw_world.specs.declared.step_labels.StepLabel.TheVariants.{GaveUp}
use Rattle.mw_world.specs.Definition.Calls.{Called, call, call_if, called_at, calling, moved_if}
use Rattle.mw_world.specs.Definition.Cells.{Cells, read, write}
use Rattle.mw_look.specs.declared.steps.Shape.{Shape}
use Rattle.mw_look.specs.declared.steps.Shape.TheVariants.{Exchange, Store, Fetch}
use Rattle.mw_look.specs.Shapes.{shape_of}
use Rattle.mw_world.specs.Definition.Changes.{changed, done, fetched}
use Rattle.mw_world.specs.Definition.Extent.{has_slot}
use Rattle.mw_world.specs.Definition.Events.{Found, Come, Step as StepEvent, File, Hand, Restart}
use Rattle.mw_world.specs.Definition.History.{History, NoAttempt, Idle, StandingAttempt, HoldPermission, standing_at, permission_at}
use Rattle.mw_world.specs.Maps.{upd}
use Rattle.mw_world.specs.Definition.LabelEffects.{with_label}
use Rattle.mw_world.specs.Definition.Restarts.{restarted, may_all_be_found, quotas_then}
use Rattle.mw_world.specs.Definition.State.{State, WorkerState, may_be_quotas, places_of, tenant_at, tenants_of}
use Rattle.mw_world.specs.Definition.Requests.{came, gave}
use Rattle.mw_world.specs.Definition.Turns.{turn, turned, may_make, moved, moved_to, made_of, next_attempt, Made}
use Rattle.mw_world.specs.Definition.World.{may_come, handed, hand}
use Rattle.mw_law_runs.specs.Moves.Steps.{PointsAreTold, EventsTellPoints}
use Rattle.mw_law_runs.proofs.Moves.StepsKeepMemory.{if_some}

-- no label changes what a worker may do
keeps_standing : (label : StepLabel) (worker : ℕ) (actor : ActorState) (request : ℕ) (past : History) → (with_label label worker actor request past).standing ≡ past.standing
keeps_standing (GaveUp own true) worker actor request past = refl
keeps_standing (GaveUp own false) worker actor request past = refl
keeps_standing label worker actor request past = refl

keeps_permission : (label : StepLabel) (worker : ℕ) (actor : ActorState) (request : ℕ) (past : History) → (with_label label worker actor request past).permission ≡ past.permission
keeps_permission (GaveUp own true) worker actor request past = refl
keeps_permission (GaveUp own false) worker actor request past = refl
keeps_permission label worker actor request past = refl

-- what each request's worker may do, after one of them goes on
told : {A : Type 0} → (tells : ActorState → A) (worker_states : ℕ → WorkerState) (may now : ℕ → A) (worker : ℕ) (worker_state : WorkerState) (next : ActorState) → worker_state.actor ≡ Some next → now ≡ may
    → ((other : ℕ) (actor : ActorState) → (worker_states other).actor ≡ Some actor → may other ≡ tells actor)
    → (other : ℕ) (actor : ActorState) → (upd worker_states worker worker_state other).actor ≡ Some actor → upd now worker (tells next) other ≡ tells actor
told tells worker_states may now worker worker_state next is same before other actor found = grind (arith, nat_tests, is, same, before other actor, found)

idle_told : (worker_states : ℕ → WorkerState) (standing now : ℕ → StandingAttempt) (permission now_permission : ℕ → HoldPermission) (worker : ℕ) (worker_state : WorkerState) (next : ActorState) (one : StandingAttempt) (two : HoldPermission) → worker_state.actor ≡ Some next → now ≡ standing → now_permission ≡ permission
    → ((other : ℕ) → (worker_states other).actor ≡ None → (standing other ≡ NoAttempt) × (permission other ≡ Idle))
    → (other : ℕ) → (upd worker_states worker worker_state other).actor ≡ None → (upd now worker one other ≡ NoAttempt) × (upd now_permission worker two other ≡ Idle)
idle_told worker_states standing now permission now_permission worker worker_state next one two is same also before other none = grind (arith, nat_tests, is, same, also, before other, none)

moved_tells : (state : State) (worker : ℕ) (actor next : ActorState) (made : Made) → PointsAreTold state → PointsAreTold (moved_to state worker actor next made)
moved_tells state worker actor next made points =
    let request = (state.worker_states worker).request in
    record {
      standing = told (λ (one : ActorState). standing_at one one.point) state.worker_states state.history.standing (with_label made.label worker actor request state.history).standing worker _ next refl
          (keeps_standing made.label worker actor request state.history) points.standing;
      permission = told (λ (one : ActorState). permission_at one one.point) state.worker_states state.history.permission (with_label made.label worker actor request state.history).permission worker _ next refl
          (keeps_permission made.label worker actor request state.history) points.permission;
      idle = idle_told state.worker_states state.history.standing (with_label made.label worker actor request state.history).standing state.history.permission (with_label made.label worker actor request state.history).permission worker _ next _ _ refl
          (keeps_standing made.label worker actor request state.history) (keeps_permission made.label worker actor request state.history) points.idle;
    }

-- what holds of everything that may follow a step holds of what follows it
either : (P : State → Type 0) (test : Bool) (one two : State) → P one → P two → P (cond test one two)
either P true one two here there = here
either P false one two here there = there

follows_change : (P : State → Type 0) (gives : Cells → Observation → State) → ((cells : Cells) (observation : Observation) → P (gives cells observation)) → (shape : Shape) (kind : Kind) (at : At) (from to : Val at) (cells : Cells)
    → P (changed shape kind at from to cells gives)
follows_change P gives all Exchange kind at from to cells = either P (pack at (read cells at) == pack at from) (gives (write cells at to) Won) (gives cells Lost) (all (write cells at to) Won) (all cells Lost)
follows_change P gives all Store kind at from to cells = all (write cells at to) Won
follows_change P gives all Fetch kind at from to cells = all (write cells at (fetched kind at (read cells at))) (seen at (read cells at))

follows : (P : State → Type 0) (gives : Cells → Observation → State) → ((cells : Cells) (observation : Observation) → P (gives cells observation)) → (step : Step) (cells : Cells) → P (done step cells gives)
follows P gives all (Load at) cells = all cells (seen at (read cells at))
follows P gives all (Change kind at from to) cells = follows_change P gives all (shape_of kind) kind at from to cells
follows P gives all (FileStep call slot) cells = all cells Won

turned_tells : (state : State) (worker : ℕ) (actor : ActorState) → PointsAreTold state → PointsAreTold (turned state worker actor)
turned_tells state worker actor points =
    follows PointsAreTold (λ (cells : Cells) (observation : Observation). moved state worker actor (made_of state worker actor cells observation))
    (λ cells observation. moved_tells state worker actor (tells actor observation (next_attempt actor.point (state.worker_states worker).attempt)) (made_of state worker actor cells observation) points) (asks actor) state.cells

turn_tells : (config : Config) (state next : State) (worker : ℕ) (found : Option ActorState) → PointsAreTold state → turn config state worker found ≡ Some next → PointsAreTold next
turn_tells config state next worker None points is = cc
turn_tells config state next worker (Some actor) points is =
    subst PointsAreTold (if_some (not (is_some (replied actor)) && may_make config (asks actor)) (turned state worker actor) next is) (turned_tells state worker actor points)

made_tells : (state next : State) (worker : ℕ) (actor : ActorState) (made : Option Made) → PointsAreTold state → moved_if state worker actor made ≡ Some next → PointsAreTold next
made_tells state next worker actor None points is = cc
made_tells state next worker actor (Some made) points is =
    subst PointsAreTold (if_some true (moved state worker actor made) next is) (moved_tells state worker actor (tells actor made.observation (next_attempt actor.point (state.worker_states worker).attempt)) made points)

if_slot : (test : Bool) (one : Option State) (next : State) → (if test then one else None) ≡ Some next → one ≡ Some next
if_slot true one next is = is
if_slot false one next is = cc

called_tells : (config : Config) (state next : State) (worker : ℕ) (actor : ActorState) (called : Option Called) (outcome : Outcome) → PointsAreTold state → call_if config state worker actor called outcome ≡ Some next → PointsAreTold next
called_tells config state next worker actor None outcome points is = cc
called_tells config state next worker actor (Some called) outcome points is =
    made_tells state next worker actor (calling config state actor called outcome) points
    (if_slot (has_slot config called.change.slot) (moved_if state worker actor (calling config state actor called outcome)) next is)

call_tells : (config : Config) (state next : State) (worker : ℕ) (found : Option ActorState) (outcome : Outcome) → PointsAreTold state → call config state worker found outcome ≡ Some next → PointsAreTold next
call_tells config state next worker None outcome points is = cc
call_tells config state next worker (Some actor) outcome points is = called_tells config state next worker actor (called_at actor.point) outcome points is

-- a request that begins may do nothing, and neither may one that has its reply
begins : (worker tenant quota pool : ℕ) (job : Job) → let actor = first worker tenant quota pool job in (standing_at actor actor.point ≡ NoAttempt) × (permission_at actor actor.point ≡ Idle)
begins worker tenant quota pool (Get address) = (refl, refl)
begins worker tenant quota pool (Cas entries) = (refl, refl)

ends_at : (point : Point) (actor : ActorState) (reply : Reply) → reply_at point ≡ Some reply → (standing_at actor point ≡ NoAttempt) × (permission_at actor point ≡ Idle)
ends_at (points.CheckThenResolve task entry attempt) actor reply is = cc
ends_at (points.Resolve task entry attempt was_open) actor reply is = cc
ends_at point actor reply is = (refl, refl)

comes_told : {A : Type 0} → (tells : ActorState → A) (worker_states : ℕ → WorkerState) (may : ℕ → A) (worker : ℕ) (worker_state : WorkerState) (next : ActorState) → worker_state.actor ≡ Some next → may worker ≡ tells next
    → ((other : ℕ) (actor : ActorState) → (worker_states other).actor ≡ Some actor → may other ≡ tells actor)
    → (other : ℕ) (actor : ActorState) → (upd worker_states worker worker_state other).actor ≡ Some actor → may other ≡ tells actor
comes_told tells worker_states may worker worker_state next is here before other actor found = grind (arith, nat_tests, is, here, before other actor, found)

comes_idle : (worker_states : ℕ → WorkerState) (P : ℕ → Type 0) (worker : ℕ) (worker_state : WorkerState) (next : ActorState) → worker_state.actor ≡ Some next → ((other : ℕ) → (worker_states other).actor ≡ None → P other)
    → (other : ℕ) → (upd worker_states worker worker_state other).actor ≡ None → P other
comes_idle worker_states P worker worker_state next is before other none = before other (grind (arith, nat_tests, is, none))

hands_told : {A : Type 0} → (tells : ActorState → A) (worker_states : ℕ → WorkerState) (may : ℕ → A) (worker : ℕ) (worker_state : WorkerState) → worker_state.actor ≡ None
    → ((other : ℕ) (actor : ActorState) → (worker_states other).actor ≡ Some actor → may other ≡ tells actor)
    → (other : ℕ) (actor : ActorState) → (upd worker_states worker worker_state other).actor ≡ Some actor → may other ≡ tells actor
hands_told tells worker_states may worker worker_state is before other actor found = grind (arith, nat_tests, is, before other actor, found)

hands_idle : (worker_states : ℕ → WorkerState) (standing : ℕ → StandingAttempt) (permission : ℕ → HoldPermission) (worker : ℕ) (worker_state : WorkerState) → standing worker ≡ NoAttempt → permission worker ≡ Idle
    → ((other : ℕ) → (worker_states other).actor ≡ None → (standing other ≡ NoAttempt) × (permission other ≡ Idle))
    → (other : ℕ) → (upd worker_states worker worker_state other).actor ≡ None → (standing other ≡ NoAttempt) × (permission other ≡ Idle)
hands_idle worker_states standing permission worker worker_state rests idles before other none = grind (arith, nat_tests, rests, idles, before other, none)

none_of : (found : Option ActorState) → is_none found ≡ true → found ≡ None
none_of None is = refl
none_of (Some actor) is = cc

-- the worker that takes a request has none before
free_worker : (config : Config) (state : State) (worker tenant : ℕ) (job : Job) → may_come config state worker tenant job ≡ true → (state.worker_states worker).actor ≡ None
free_worker config state worker tenant job may = none_of (state.worker_states worker).actor (grind (arith, nat_tests, may))

came_tells : (config : Config) (state : State) (worker tenant : ℕ) (job : Job) → (state.worker_states worker).actor ≡ None → PointsAreTold state → PointsAreTold (came config state worker tenant job)
came_tells config state worker tenant job free points =
    let actor = first worker tenant (state.tenant_states tenant).quota config.pool job in
    let idle = points.idle worker free in
    let begin = begins worker tenant (state.tenant_states tenant).quota config.pool job in
    record {
      standing = comes_told (λ (one : ActorState). standing_at one one.point) state.worker_states state.history.standing worker _ actor refl (cc (idle.0, begin.0)) points.standing;
      permission = comes_told (λ (one : ActorState). permission_at one one.point) state.worker_states state.history.permission worker _ actor refl (cc (idle.1, begin.1)) points.permission;
      idle = comes_idle state.worker_states (λ (other : ℕ). (state.history.standing other ≡ NoAttempt) × (state.history.permission other ≡ Idle)) worker _ actor refl points.idle;
    }

come_tells : (config : Config) (state next : State) (worker tenant : ℕ) (job : Job) (test : Bool) → may_come config state worker tenant job ≡ test → PointsAreTold state
    → (if test then Some (came config state worker tenant job) else None) ≡ Some next → PointsAreTold next
come_tells config state next worker tenant job true may points is =
    subst PointsAreTold (if_some true (came config state worker tenant job) next is) (came_tells config state worker tenant job (free_worker config state worker tenant job may) points)
come_tells config state next worker tenant job false may points is = cc

handed_tells : (state next : State) (worker tenant : ℕ) (reply : Option Reply) → ((one : Reply) → reply ≡ Some one → (state.history.standing worker ≡ NoAttempt) × (state.history.permission worker ≡ Idle))
    → PointsAreTold state → handed state worker tenant reply ≡ Some next → PointsAreTold next
handed_tells state next worker tenant None rests points is = cc
handed_tells state next worker tenant (Some reply) rests points is = subst PointsAreTold (if_some true (gave state worker tenant) next is) (record {
  standing = hands_told (λ (one : ActorState). standing_at one one.point) state.worker_states state.history.standing worker _ refl points.standing;
  permission = hands_told (λ (one : ActorState). permission_at one one.point) state.worker_states state.history.permission worker _ refl points.permission;
  idle = hands_idle state.worker_states state.history.standing state.history.permission worker _ (rests reply refl).0 (rests reply refl).1 points.idle;
})

hand_tells : (state next : State) (worker : ℕ) (found : Option ActorState) → (state.worker_states worker).actor ≡ found → PointsAreTold state → hand state worker found ≡ Some next → PointsAreTold next
hand_tells state next worker None at points is = cc
hand_tells state next worker (Some actor) at points is = handed_tells state next worker actor.tenant (replied actor) (λ reply stands.
    let end = ends_at actor.point actor reply stands in
    let standing = points.standing worker actor at in
    let permission = points.permission worker actor at in
    (cc (standing, end.0), cc (permission, end.1))) points is

restarted_tells : (config : Config) (state : State) (founds : List Found) → PointsAreTold (restarted config state founds)
restarted_tells config state founds = record {
  standing = λ worker actor is. cc;
  permission = λ worker actor is. cc;
  idle = λ worker is. (refl, refl);
}

pub events_tell_points : EventsTellPoints
events_tell_points config state next (Come worker tenant job) points is = come_tells config state next worker tenant job (may_come config state worker tenant job) refl points is
events_tell_points config state next (StepEvent worker) points is = turn_tells config state next worker (state.worker_states worker).actor points is
events_tell_points config state next (File worker outcome) points is = call_tells config state next worker (state.worker_states worker).actor outcome points is
events_tell_points config state next (Hand worker) points is = hand_tells state next worker (state.worker_states worker).actor refl points is
events_tell_points config state next (Restart founds) points is =
    subst PointsAreTold (if_some ((length founds == tenants_of config) && may_all_be_found config state founds (tenants_of config) && may_be_quotas config (quotas_then state founds) (places_of state)) (restarted config state founds) next is) (restarted_tells config state founds)
