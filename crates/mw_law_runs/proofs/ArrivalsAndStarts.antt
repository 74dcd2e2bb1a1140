-- A request that arrives, a reply that is handed out, and a start keep a world sound (`IsSound`, this crate's invariant).
-- Used by: comes_keep_sound, hands_keep_sound, starts_are_sound.
use Rattle.std.specs.Prelude.{ℕ, ◌≡◌, ◌≢◌, ◌<◌, ◌≤◌, ◌⊎◌, ◌&&◌, ◌==◌, Bool, true, false, is_none, nat_lt, List, [], length, slice_index_or, All, Option, Some, None}
use Rattle.std.proofs.Common.{refl, sym, ap, subst, ◌∙◌, inl, inr, arith}
use Rattle.std.proofs.lemmas.Bool.Decides.{nat_tests}
use Rattle.mw_words.specs.declared.jobs.Job.{Job}
use Rattle.mw_words.specs.declared.jobs.Job.TheVariants.{Get, Cas}
use Rattle.mw_words.specs.declared.limits.TheConstants.{MAX_WORDS}
use Rattle.mw_words.specs.declared.replies.Reply.{Reply}
use Rattle.mw_words.specs.declared.words.Word.TheVariants.{Plain, Held, Dirty}
use Rattle.mw_words.specs.Change.{is_well_formed}
use Rattle.mw_look.specs.declared.points.Point.{Point as ReadPoint}
use Rattle.mw_look.specs.declared.points.Point.TheVariants.{Replied as RepliedOfRead}
use Rattle.mw_look.specs.Program.{reply_at as read_reply_at}
use Rattle.mw_look.specs.Runs.{holds_at}
use Rattle.mw_actor.specs.declared.points.Point.{Point}
use Rattle.mw_actor.specs.declared.points.Point.TheVariants.{Read, Replied}
use Rattle.mw_actor.specs.ActorState.{ActorState, first, first_point}
use Rattle.mw_actor.proofs.JobLaws.{begins_in_range, well_formed_is_formed}
use Rattle.mw_actor.specs.Program.{replied, reply_at}
use Rattle.mw_actor.specs.Ranges.{IsInRange}
use Rattle.mw_world.specs.declared.config.Config.{Config}
use Rattle.mw_world.specs.declared.config.Tenant.{Tenant}
use Rattle.mw_world.specs.Definition.Counts.{pins_held, pin_of}
use Rattle.mw_world.specs.Definition.Events.{Come, Hand, Restart}
use Rattle.mw_world.specs.Definition.Restarts.{restart, restarted}
use Rattle.mw_world.specs.Definition.State.{State, WorkerState, TenantState, IsConfig, tenant_state_at, started, no_tenant, tenant_at, tenants_of}
use Rattle.mw_world.specs.Definition.Requests.{came, gave}
use Rattle.mw_world.specs.Definition.World.{come, hand, handed, may_come}
use Rattle.mw_law_runs.specs.Moves.StepMoves.{SameMemory}
use Rattle.mw_law_runs.proofs.Moves.Shared.{is_shared, memory_is_shared}
use Rattle.mw_law_runs.proofs.Moves.MemoryAtStart.{starts_have_memory}
use Rattle.mw_law_runs.proofs.Moves.StepsKeepMemory.{comes_leave, hands_leave, restarts_have}
use Rattle.mw_law_runs.proofs.Moves.WorkerPermissions.{events_tell_points}
use Rattle.mw_law_runs.proofs.Counts.RunsKeepCounts.{openings_stand, step_keeps}
use Rattle.mw_law_runs.proofs.Counts.Startable.{may_start}
use Rattle.mw_law_runs.proofs.Knowledge.Updates.Preservation.{upd_here, upd_else}
use Rattle.mw_law_runs.specs.Obligations.{WordsHaveReleasers, IsOwnerOf, IsCleanerOf}
use Rattle.mw_law_runs.specs.Laws.{ComesKeepSound, HandsKeepSound, RestartsKeepSound, StartsAreSound}
use Rattle.mw_law_runs.specs.RunInvariant.{IsSound, IsSoundRequest}
use Rattle.mw_law_runs.proofs.Files.{words_fit}
use Rattle.mw_law_runs.proofs.RequestsInWorlds.{rest_on}
use Rattle.mw_law_runs.proofs.SharedMemory.{stands_shared}
use Rattle.mw_law_runs.proofs.GuardedEvents.{guarded}
use Rattle.mw_law_runs.proofs.Numbers.{same_or_other}

-- what holds of all tenants holds of this one
all_at : {A : Type 0} (P : A → Type 0) (ones : List A) (index : ℕ) (none : A) → All P ones → index < length ones → P (slice_index_or ones index none)
all_at P ones index none all within = all index none within

-- the world with these workers and tenants
abbrev among : State → (ℕ → WorkerState) → (ℕ → TenantState) → State
among state worker_states tenant_states = record state { worker_states = worker_states; tenant_states = tenant_states }

-- Words keep their releasers in another world with the same memory, if each worker whose request holds a pin is at the same point there.
module _ (state : State) (worker_states : ℕ → WorkerState) (tenant_states : ℕ → TenantState)
    (keeps : (worker slot : ℕ) (actor : ActorState) → (state.worker_states worker).actor ≡ Some actor → 1 ≤ pins_held slot actor.point → (worker_states worker).actor ≡ Some actor) where
  owner_among : (slot seq : ℕ) → IsOwnerOf state slot seq → IsOwnerOf (among state worker_states tenant_states) slot seq
  owner_among slot seq owner = record { actor = owner.actor; is = keeps (state.history.owner slot seq) slot owner.actor owner.is owner.pin; own = owner.own; pin = owner.pin }

  releaser_among : WordsHaveReleasers state → WordsHaveReleasers (among state worker_states tenant_states)
  unfolding owner_among
  releaser_among releasers = record {
    refused = λ tenant address slot seq held is.
        let releasing = releasers.refused tenant address slot seq held is in
        record { worker = releasing.worker; actor = releasing.actor; is = keeps releasing.worker slot releasing.actor releasing.is releasing.pin; same_tenant = releasing.same_tenant; pin = releasing.pin; will_release = releasing.will_release };
    unfinished = λ slot taken is. there slot (releasers.unfinished slot taken is);
    dirty = λ tenant address slot value is. cleaned address slot (releasers.dirty tenant address slot value is);
  }
    where
      there : (slot : ℕ) → IsOwnerOf state slot (state.cells.gates slot).seq ⊎ (state.history.stays slot (state.cells.gates slot).seq ≡ true)
          → IsOwnerOf (among state worker_states tenant_states) slot (state.cells.gates slot).seq ⊎ (state.history.stays slot (state.cells.gates slot).seq ≡ true)
      there slot (inl owner) = inl (owner_among slot (state.cells.gates slot).seq owner)
      there slot (inr stays) = inr stays

      cleaned : (address slot : ℕ) → IsCleanerOf state address slot (state.cells.gates slot).seq ⊎ (state.history.stays slot (state.cells.gates slot).seq ≡ true)
          → IsCleanerOf (among state worker_states tenant_states) address slot (state.cells.gates slot).seq ⊎ (state.history.stays slot (state.cells.gates slot).seq ≡ true)
      cleaned address slot (inl cleaner) = inl (record { owner = owner_among slot (state.cells.gates slot).seq cleaner.owner; cleans = cleaner.cleans })
      cleaned address slot (inr stays) = inr stays

releaser_shared : (state next : State) → SameMemory next state
    → ((worker slot : ℕ) (actor : ActorState) → (state.worker_states worker).actor ≡ Some actor → 1 ≤ pins_held slot actor.point → (next.worker_states worker).actor ≡ Some actor)
    → WordsHaveReleasers state → WordsHaveReleasers next
releaser_shared state next same keeps releasers = is_shared next state same WordsHaveReleasers (releaser_among state next.worker_states next.tenant_states keeps releasers)

-- a request of another worker is as sound as before
still_sound : (config : Config) (state next : State) (other : ℕ) (one : ActorState) → IsSound config state → SameMemory next state → (state.worker_states other).actor ≡ Some one → IsSoundRequest next one
still_sound config state next other one sound same there =
    let was = sound.requests other one there in
    record { in_range = was.in_range; look_in_range = was.look_in_range; for_job = was.for_job; stands = stands_shared config next state one sound.memory same was.stands }

same_request : (one other : ActorState) → Some one ≡ Some other → one ≡ other
same_request one other e = cc

none_is_some : (actor : ActorState) → None ≡ Some actor → ⊥
none_is_some actor e = cc

-- What the tests for an arriving request tell.
record MayCome (there known free formed : Bool) : Type 0 where
  pub is_there : there ≡ true
  pub is_known : known ≡ true
  pub is_free : free ≡ true
  pub is_formed : formed ≡ true

all_hold : (there known free formed : Bool) → (there && known && free && formed) ≡ true → MayCome there known free formed
all_hold true true true formed is = record { is_there = refl; is_known = refl; is_free = refl; is_formed = is }
all_hold true true false formed is = absurd (grind (arith, is))
all_hold true false free formed is = absurd (grind (arith, is))
all_hold false known free formed is = absurd (grind (arith, is))

is_idle : (found : Option ActorState) → is_none found ≡ true → found ≡ None
is_idle None is = refl
is_idle (Some actor) is = absurd (grind (arith, is))

below : (n limit : ℕ) → nat_lt n limit ≡ true → n < limit
below n limit is = grind (arith, nat_tests, is)

-- a request that begins is sound, whatever the memory is
begins : (state : State) (worker tenant quota pool : ℕ) (job : Job) → IsInRange (first worker tenant quota pool job) → IsSoundRequest state (first worker tenant quota pool job)
begins state worker tenant quota pool (Get address) range = record { in_range = range; look_in_range = tt; for_job = refl; stands = record { live = tt; knows = tt } }
begins state worker tenant quota pool (Cas entries) range = record { in_range = range; look_in_range = tt; for_job = tt; stands = record { live = tt; knows = tt } }

module _ (config : Config) (state : State) (worker tenant : ℕ) (job : Job) (is_config : IsConfig config) (sound : IsSound config state) (may : may_come config state worker tenant job ≡ true) where
  tells : MayCome (nat_lt worker config.workers) (nat_lt tenant (tenants_of config)) (is_none (state.worker_states worker).actor) (is_well_formed (tenant_at config tenant).words job)
  tells = all_hold (nat_lt worker config.workers) (nat_lt tenant (tenants_of config)) (is_none (state.worker_states worker).actor) _ may

  known : tenant < tenants_of config
  known = below tenant (tenants_of config) tells.is_known

  idle : (state.worker_states worker).actor ≡ None
  idle = is_idle (state.worker_states worker).actor tells.is_free

  abbrev next : State
  next = came config state worker tenant job

  comes_in_range : IsInRange (first worker tenant (state.tenant_states tenant).quota config.pool job)
  comes_in_range =
      begins_in_range worker tenant (state.tenant_states tenant).quota config.pool job [] (first_point tenant job) refl refl
      (omega (arith, below worker config.workers tells.is_there, is_config.workers.1))
      (omega (arith, (sound.counts.counts.limits.each tenant known).1))
      is_config.pool
      (well_formed_is_formed (tenant_at config tenant).words job tells.is_formed (all_at (λ (one : Tenant). (1 ≤ one.words) × (one.words ≤ MAX_WORDS)) config.tenants.items tenant no_tenant is_config.words known).1)

  comes : come config state worker tenant job ≡ Some next → IsSound config next
  comes is = record {
    memory = memory_is_shared config next state same sound.memory;
    points = events_tell_points config state next (Come worker tenant job) sound.points is;
    counts = step_keeps config state (Come worker tenant job) next sound.counts (rest_on config state sound) is;
    requests = λ other one there. by_worker other one there (same_or_other other worker);
    releasers = releaser_shared state next same stays sound.releasers;
  }
    where
      same : SameMemory next state
      same = comes_leave config state next worker tenant job is

      by_worker : (other : ℕ) (one : ActorState) → (next.worker_states other).actor ≡ Some one → (other ≡ worker) ⊎ (other ≢ worker) → IsSoundRequest next one
      by_worker other one there (inl here) =
          subst (IsSoundRequest next)
          (same_request (first worker tenant (state.tenant_states tenant).quota config.pool job) one
          (sym (ap (λ (worker_state : WorkerState). worker_state.actor) (upd_here state.worker_states worker _)) ∙ ap (λ (n : ℕ). (next.worker_states n).actor) (sym here) ∙ there))
          (begins next worker tenant (state.tenant_states tenant).quota config.pool job comes_in_range)
      by_worker other one there (inr apart) =
          still_sound config state next other one sound same (sym (ap (λ (worker_state : WorkerState). worker_state.actor) (upd_else state.worker_states worker other _ apart)) ∙ there)

      stays : (other slot : ℕ) (actor : ActorState) → (state.worker_states other).actor ≡ Some actor → 1 ≤ pins_held slot actor.point → (next.worker_states other).actor ≡ Some actor
      stays other slot actor there pin = by_place (same_or_other other worker)
        where
          by_place : (other ≡ worker) ⊎ (other ≢ worker) → (next.worker_states other).actor ≡ Some actor
          by_place (inl here) = absurd (none_is_some actor (sym idle ∙ ap (λ (n : ℕ). (state.worker_states n).actor) (sym here) ∙ there))
          by_place (inr apart) = ap (λ (worker_state : WorkerState). worker_state.actor) (upd_else state.worker_states worker other _ apart) ∙ there

pub comes_keep_sound : ComesKeepSound
comes_keep_sound config state next worker tenant job is_config sound is =
    guarded (λ (one : State). come config state worker tenant job ≡ Some one → IsSound config one) (may_come config state worker tenant job) (came config state worker tenant job) next
    (λ may came_so. comes config state worker tenant job is_config sound may came_so) is is

-- a request that has its reply holds no pin
no_pin_of_read : (slot : ℕ) (look : ReadPoint) (reply : Reply) → read_reply_at look ≡ Some reply → pin_of slot (holds_at look) ≡ 0
no_pin_of_read slot (RepliedOfRead answer) reply is = refl
no_pin_of_read slot look reply is = absurd (none_is reply is)
  where
    none_is : (reply : Reply) → None ≡ Some reply → ⊥
    none_is reply e = cc

no_pin : (slot : ℕ) (point : Point) (reply : Reply) → reply_at point ≡ Some reply → pins_held slot point ≡ 0
no_pin slot (Read look) reply is = no_pin_of_read slot look.point reply is
no_pin slot (Replied answer) reply is = refl
no_pin slot point reply is = absurd (none_is reply is)
  where
    none_is : (reply : Reply) → None ≡ Some reply → ⊥
    none_is reply e = cc

module _ (config : Config) (state : State) (worker : ℕ) (actor : ActorState) (reply : Reply) (sound : IsSound config state) (sits : (state.worker_states worker).actor ≡ Some actor)
    (stands : replied actor ≡ Some reply) where
  abbrev given : State
  given = gave state worker actor.tenant

  hands : hand state worker (state.worker_states worker).actor ≡ Some given → IsSound config given
  hands is = record {
    memory = memory_is_shared config given state same sound.memory;
    points = events_tell_points config state given (Hand worker) sound.points is;
    counts = step_keeps config state (Hand worker) given sound.counts (rest_on config state sound) is;
    requests = λ other one there. by_worker other one there (same_or_other other worker);
    releasers = releaser_shared state given same stays sound.releasers;
  }
    where
      same : SameMemory given state
      same = hands_leave state given worker is

      by_worker : (other : ℕ) (one : ActorState) → (given.worker_states other).actor ≡ Some one → (other ≡ worker) ⊎ (other ≢ worker) → IsSoundRequest given one
      by_worker other one there (inl here) =
          absurd (none_is_some one (sym (ap (λ (worker_state : WorkerState). worker_state.actor) (upd_here state.worker_states worker _)) ∙ ap (λ (n : ℕ). (given.worker_states n).actor) (sym here) ∙ there))
      by_worker other one there (inr apart) =
          still_sound config state given other one sound same (sym (ap (λ (worker_state : WorkerState). worker_state.actor) (upd_else state.worker_states worker other _ apart)) ∙ there)

      stays : (other slot : ℕ) (one : ActorState) → (state.worker_states other).actor ≡ Some one → 1 ≤ pins_held slot one.point → (given.worker_states other).actor ≡ Some one
      stays other slot one there pin = by_place (same_or_other other worker)
        where
          by_place : (other ≡ worker) ⊎ (other ≢ worker) → (given.worker_states other).actor ≡ Some one
          by_place (inl here) =
              absurd (pinless (subst (λ (its : ActorState). 1 ≤ pins_held slot its.point) (same_request one actor (sym there ∙ ap (λ (n : ℕ). (state.worker_states n).actor) here ∙ sits)) pin)
              (no_pin slot actor.point reply stands))
            where
              pinless : 1 ≤ pins_held slot actor.point → pins_held slot actor.point ≡ 0 → ⊥
              pinless some none = omega (arith, some, none)
          by_place (inr apart) = ap (λ (worker_state : WorkerState). worker_state.actor) (upd_else state.worker_states worker other _ apart) ∙ there

by_reply : (config : Config) (state next : State) (worker : ℕ) (actor : ActorState) (found : Option Reply) → IsSound config state → (state.worker_states worker).actor ≡ Some actor → replied actor ≡ found
    → hand state worker (state.worker_states worker).actor ≡ Some next → handed state worker actor.tenant found ≡ Some next → IsSound config next
by_reply config state next worker actor None sound sits stands is found = absurd (none_some next found)
  where
    none_some : (next : State) → None ≡ Some next → ⊥
    none_some next e = cc
by_reply config state next worker actor (Some reply) sound sits stands is found =
    subst (λ (one : State). hand state worker (state.worker_states worker).actor ≡ Some one → IsSound config one) (same_some found) (hands config state worker actor reply sound sits stands) is
  where
    same_some : Some (gave state worker actor.tenant) ≡ Some next → gave state worker actor.tenant ≡ next
    same_some e = cc

by_actor : (config : Config) (state next : State) (worker : ℕ) (found : Option ActorState) → IsSound config state → (state.worker_states worker).actor ≡ found
    → hand state worker (state.worker_states worker).actor ≡ Some next → hand state worker found ≡ Some next → IsSound config next
by_actor config state next worker None sound sits is found = absurd (none_some next found)
  where
    none_some : (next : State) → None ≡ Some next → ⊥
    none_some next e = cc
by_actor config state next worker (Some actor) sound sits is found = by_reply config state next worker actor (replied actor) sound sits refl is found

pub hands_keep_sound : HandsKeepSound
hands_keep_sound config state next worker sound is = by_actor config state next worker (state.worker_states worker).actor sound refl is is

-- at a start no word is held or names a slot, and no slot is taken
starts_releaser : (config : Config) (tenant_states : ℕ → TenantState) → WordsHaveReleasers (started config tenant_states)
starts_releaser config tenant_states = record {
  refused = λ tenant address slot seq held is. absurd (plain_held slot seq held);
  unfinished = λ slot taken is. absurd (untaken taken);
  dirty = λ tenant address slot value is. absurd (plain_dirty slot value is);
}
  where
    plain_held : {v : ℕ} (slot seq : ℕ) → Plain v ≡ Held slot seq → ⊥
    plain_held slot seq e = cc

    plain_dirty : {v : ℕ} (slot value : ℕ) → Plain v ≡ Dirty slot value → ⊥
    plain_dirty slot value e = cc

    untaken : false ≡ true → ⊥
    untaken e = cc

nobody : (config : Config) (tenant_states : ℕ → TenantState) (worker : ℕ) (actor : ActorState) → ((started config tenant_states).worker_states worker).actor ≡ Some actor → IsSoundRequest (started config tenant_states) actor
nobody config tenant_states worker actor is = absurd (none_is_some actor is)

pub restarts_keep_sound : RestartsKeepSound
restarts_keep_sound config state next founds is_config fits sound is =
    guarded (λ (one : State). restart config state founds ≡ Some one → IsSound config one) (may_start config state founds)
    (restarted config state founds) next
    (λ may came. record {
      memory = restarts_have config state (restarted config state founds) founds is_config fits came;
      points = events_tell_points config state (restarted config state founds) (Restart founds) sound.points came;
      counts = step_keeps config state (Restart founds) (restarted config state founds) sound.counts (rest_on config state sound) came;
      requests = nobody config _;
      releasers = starts_releaser config _;
    }) is is

pub starts_are_sound : StartsAreSound
starts_are_sound config openings is_config starts = record {
  memory = starts_have_memory config (λ tenant. tenant_state_at (openings tenant)) is_config (λ tenant address. words_fit (openings tenant).words address (starts.words tenant));
  points = record { standing = λ worker actor is. absurd (none_is_some actor is); permission = λ worker actor is. absurd (none_is_some actor is); idle = λ worker is. (refl, refl) };
  counts = openings_stand config openings starts;
  requests = nobody config _;
  releasers = starts_releaser config _;
}
