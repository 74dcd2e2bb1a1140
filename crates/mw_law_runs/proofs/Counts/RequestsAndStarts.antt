-- Arrivals, replies handed out, starts and restarts keep the invariant of counts (`CountsStand`). Used by: RunsKeepCounts.
use Rattle.std.specs.Prelude.{ℕ, zero, suc, ◌≡◌, ◌<◌, ◌==◌, ◌&&◌, Bool, true, false, nat_lt, is_none, List, length, if◌then◌else◌, Option, Some, None}
use Rattle.std.proofs.Common.{refl, sym, subst, arith}
use Rattle.std.proofs.lemmas.Bool.Decides.{nat_tests}
use Rattle.mw_words.specs.declared.jobs.Job.{Job}
use Rattle.mw_words.specs.declared.jobs.Job.TheVariants.{Get, Cas}
use Rattle.mw_words.specs.declared.replies.Reply.{Reply}
use Rattle.mw_look.specs.declared.points.Point.{Point as ReadPoint}
use Rattle.mw_look.specs.declared.points.Point.TheVariants.{Replied as RepliedOfRead}
use Rattle.mw_look.specs.Program.{Reading, reply_at as read_reply_at}
use Rattle.mw_actor.specs.declared.points.Point.{Point}
use Rattle.mw_actor.specs.declared.points.Point.TheVariants.{Read, Replied}
use Rattle.mw_actor.specs.ActorState.{ActorState, first}
use Rattle.mw_actor.specs.Program.{replied, reply_at}
use Rattle.mw_world.specs.declared.config.Config.{Config}
use Rattle.mw_world.specs.Definition.Counts.{pins_held, frees_at, waits_for, over_workers, slots_taken_for}
use Rattle.mw_world.specs.Definition.Events.{Found}
use Rattle.mw_world.specs.Claim.Invariant.{IsOfWorker}
use Rattle.mw_world.specs.Definition.Restarts.{restart, restarted, reopened, found_of, under_way}
use Rattle.mw_world.specs.Definition.Requests.{came, gave}
use Rattle.mw_words.specs.Change.{is_well_formed}
use Rattle.mw_world.specs.Definition.State.{State, TenantState, QuotasFit, started, idle_worker_state, tenant_at, tenants_of}
use Rattle.mw_world.specs.Definition.World.{come, may_come, asked, begun, hand, handed}
use Rattle.mw_law_runs.specs.Counts.Ready.{IsReady}
use Rattle.mw_law_runs.specs.Counts.CountInvariant.{CountsStand}
use Rattle.mw_law_runs.proofs.Counts.Effects.{quiet}
use Rattle.mw_law_runs.proofs.Counts.Points.{PointHolds}
use Rattle.mw_law_runs.proofs.Counts.Shifts.{Counts, of_point, of_idle, same_share, shifted}
use Rattle.mw_law_runs.proofs.Counts.Startable.{may_start, start_tells}

none_some : {A : Type 0} (x : A) → None ≡ Some x → ⊥
none_some x e = cc

same_some : {A : Type 0} (one other : A) → Some one ≡ Some other → one ≡ other
same_some one other is = cc

-- nothing is counted for idle workers, and no slot is taken
none_idle : (counts : ActorState → ℕ) (n : ℕ) → over_workers counts (λ worker. idle_worker_state) n ≡ 0
none_idle counts zero = refl
none_idle counts (suc n) = grind (arith, nat_tests, none_idle counts n)

none_taken : (config : Config) (tenant_states : ℕ → TenantState) (tenant n : ℕ) → slots_taken_for (started config tenant_states) tenant n ≡ 0
none_taken config tenant_states tenant zero = refl
none_taken config tenant_states tenant (suc n) = grind (arith, nat_tests, none_taken config tenant_states tenant n)

false_true : false ≡ true → ⊥
false_true e = cc

-- The invariant of counts holds at every start.
pub start_stands : (config : Config) (tenant_states : ℕ → TenantState) → QuotasFit config (λ tenant. (tenant_states tenant).quota) (λ tenant. (tenant_states tenant).places) → CountsStand config (started config tenant_states)
start_stands config tenant_states fit = record {
  counts = record {
    pins = λ slot. grind (arith, nat_tests, none_idle (λ actor. pins_held slot actor.point) config.workers);
    left = λ slot seq e. grind (arith, nat_tests);
    frees = λ slot. grind (arith, nat_tests, none_idle (λ actor. frees_at slot actor.point) config.workers);
    doors = λ tenant low. grind (arith, nat_tests, none_idle (waits_for tenant) config.workers, none_taken config tenant_states tenant config.pool);
    quotas = λ tenant low. grind (arith, nat_tests);
    limits = fit;
  };
  unpinned = λ slot e. refl;
  tenants = λ slot e. absurd (false_true e);
  quotas = λ worker actor is. absurd (none_some actor is);
  worker_states = λ worker actor is. absurd (none_some actor is);
  ready = λ worker actor is. absurd (none_some actor is);
}

-- a request begins with nothing
begins : (worker tenant quota pool : ℕ) (job : Job) → PointHolds (first worker tenant quota pool job) (λ slot. 0) (λ slot. 0) 0 (first worker tenant quota pool job).point
begins worker tenant quota pool (Get address) = record { pins_are = λ slot. refl; frees_are = λ slot. refl; waits_are = refl; ready = (refl, tt) }
begins worker tenant quota pool (Cas entries) = record { pins_are = λ slot. refl; frees_are = λ slot. refl; waits_are = refl; ready = tt }

is_idle : (request : Option ActorState) → is_none request ≡ true → request ≡ None
is_idle None is = refl
is_idle (Some actor) is = absurd (grind (arith, is))

-- What follows if several tests all hold.
record AllHold (there known free formed : Bool) : Type 0 where
  pub is_there : there ≡ true
  pub is_known : known ≡ true
  pub is_free : free ≡ true
  pub is_formed : formed ≡ true

all_hold : (there known free formed : Bool) → (there && known && free && formed) ≡ true → AllHold there known free formed
all_hold true true true formed is = record { is_there = refl; is_known = refl; is_free = refl; is_formed = is }
all_hold true true false formed is = absurd (grind (arith, is))
all_hold true false free formed is = absurd (grind (arith, is))
all_hold false known free formed is = absurd (grind (arith, is))

below : (n limit : ℕ) → nat_lt n limit ≡ true → n < limit
below n limit is = grind (arith, nat_tests, is)

-- what holds of the world that the test lets through
guarded : (P : State → Type 0) (test : Bool) (there next : State) → (test ≡ true → P there) → (if test then Some there else None) ≡ Some next → P next
guarded P true there next keeps is = subst P (same_some there next is) (keeps refl)
guarded P false there next keeps is = absurd (none_some next is)

came_stands : (config : Config) (state : State) (worker tenant : ℕ) (job : Job) → CountsStand config state → worker < config.workers → tenant < tenants_of config → is_well_formed (tenant_at config tenant).words job ≡ true
    → (state.worker_states worker).actor ≡ None
    → CountsStand config (came config state worker tenant job)
came_stands config state worker tenant job stand low known formed idle =
    let request : ActorState = first worker tenant (state.tenant_states tenant).quota config.pool job in
    let begins_with : PointHolds request (λ slot. 0) (λ slot. 0) 0 request.point = begins worker tenant (state.tenant_states tenant).quota config.pool job in
    shifted config state (came config state worker tenant job) worker tenant (begun (state.worker_states worker) request (state.tenant_states tenant).asked) (λ slot. 0) (λ slot. 0) (λ slot. 0) (λ slot. 0) 0 0
    stand low refl
    (subst (λ a. Counts tenant (λ slot. 0) (λ slot. 0) 0 a) (sym idle) (of_idle tenant))
    (of_point request (λ slot. 0) (λ slot. 0) 0 begins_with)
    (λ actor is. subst (λ a. IsOfWorker config worker a) (same_some request actor is) (record { there = low; same_worker = refl; tenant = known; pool = refl; job = formed }))
    (λ actor is. subst (λ a. IsReady a a.point) (same_some request actor is) begins_with.ready)
    (λ actor is. subst (λ (a : ActorState). a.quota ≡ (state.tenant_states a.tenant).quota) (same_some request actor is) refl)
    (same_share state.tenant_states tenant (asked (state.tenant_states tenant) job) (refl, refl))
    (quiet config state (came config state worker tenant job) stand tenant (λ slot. 0) (λ slot. 0) 0 (λ slot. refl) (λ other. refl) (λ slot seq. refl) (λ slot seq. refl))

-- A request that arrives keeps the counts.
pub come_keeps : (config : Config) (state : State) (worker tenant : ℕ) (job : Job) (next : State) → CountsStand config state → come config state worker tenant job ≡ Some next → CountsStand config next
come_keeps config state worker tenant job next stand e =
    guarded (CountsStand config) (may_come config state worker tenant job) (came config state worker tenant job) next
    (λ may.
    let tests : AllHold (nat_lt worker config.workers) (nat_lt tenant (tenants_of config)) (is_none (state.worker_states worker).actor) (is_well_formed (tenant_at config tenant).words job) =
    all_hold (nat_lt worker config.workers) (nat_lt tenant (tenants_of config)) (is_none (state.worker_states worker).actor)
    (is_well_formed (tenant_at config tenant).words job) may in
    came_stands config state worker tenant job stand (below worker config.workers tests.is_there) (below tenant (tenants_of config) tests.is_known) tests.is_formed
    (is_idle (state.worker_states worker).actor tests.is_free)) e

-- a request that has its reply holds nothing
over_in_read : (actor : ActorState) (look : Reading) (point : ReadPoint) (reply : Reply) → read_reply_at point ≡ Some reply → IsReady actor (Read (record look { point = point }))
    → PointHolds actor (λ slot. 0) (λ slot. 0) 0 (Read (record look { point = point }))
over_in_read actor look (RepliedOfRead said) reply is ready = record { pins_are = λ slot. refl; frees_are = λ slot. refl; waits_are = refl; ready = ready }
over_in_read actor look point reply is ready = absurd (none_some reply is)

over : (actor : ActorState) (point : Point) (reply : Reply) → reply_at point ≡ Some reply → IsReady actor point → PointHolds actor (λ slot. 0) (λ slot. 0) 0 point
over actor (Read look) reply is ready = over_in_read actor look look.point reply is ready
over actor (Replied said) reply is ready = record { pins_are = λ slot. refl; frees_are = λ slot. refl; waits_are = refl; ready = ready }
over actor point reply is ready = absurd (none_some reply is)

gave_stands : (config : Config) (state : State) (worker : ℕ) (actor : ActorState) (reply : Reply) → CountsStand config state → worker < config.workers → (state.worker_states worker).actor ≡ Some actor
    → replied actor ≡ Some reply → CountsStand config (gave state worker actor.tenant)
gave_stands config state worker actor reply stand low is said =
    shifted config state (gave state worker actor.tenant) worker actor.tenant (record (state.worker_states worker) { actor = None }) (λ slot. 0) (λ slot. 0) (λ slot. 0) (λ slot. 0) 0 0
    stand low refl
    (subst (λ a. Counts actor.tenant (λ slot. 0) (λ slot. 0) 0 a) (sym is) (of_point actor (λ slot. 0) (λ slot. 0) 0 (over actor actor.point reply said (stand.ready worker actor is))))
    (of_idle actor.tenant)
    (λ other e. absurd (none_some other e))
    (λ other e. absurd (none_some other e))
    (λ other e. absurd (none_some other e))
    (same_share state.tenant_states actor.tenant _ (refl, refl))
    (quiet config state (gave state worker actor.tenant) stand actor.tenant (λ slot. 0) (λ slot. 0) 0 (λ slot. refl) (λ other. refl) (λ slot seq. refl) (λ slot seq. refl))

handed_keeps : (config : Config) (state : State) (worker : ℕ) (actor : ActorState) (reply : Option Reply) (next : State) → CountsStand config state → worker < config.workers → (state.worker_states worker).actor ≡ Some actor
    → replied actor ≡ reply → handed state worker actor.tenant reply ≡ Some next → CountsStand config next
handed_keeps config state worker actor None next stand low is said e = absurd (none_some next e)
handed_keeps config state worker actor (Some reply) next stand low is said e =
    subst (CountsStand config) (same_some (gave state worker actor.tenant) next e) (gave_stands config state worker actor reply stand low is said)

-- A reply that is handed out keeps the counts.
pub hand_keeps : (config : Config) (state : State) (worker : ℕ) (request : Option ActorState) (next : State) → CountsStand config state → (state.worker_states worker).actor ≡ request
    → hand state worker request ≡ Some next → CountsStand config next
hand_keeps config state worker None next stand is e = absurd (none_some next e)
hand_keeps config state worker (Some actor) next stand is e = handed_keeps config state worker actor (replied actor) next stand (stand.worker_states worker actor is).there is refl e

-- A restart keeps the counts, because the quotas that the start gives fit.
pub restart_keeps : (config : Config) (state : State) (founds : List Found) (next : State) → restart config state founds ≡ Some next → CountsStand config next
restart_keeps config state founds next e =
    guarded (CountsStand config) (may_start config state founds) (restarted config state founds) next
    (λ may. start_stands config (λ tenant. reopened (state.tenant_states tenant) (found_of founds tenant) (under_way config state (found_of founds tenant).interrupted)) (start_tells config state founds may).quotas) e
