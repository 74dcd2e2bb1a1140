-- In every run, each reply is right at some place among its tenant's sealed changes, and that place isn't before the request
-- came.
-- Used by: replies_are_linearized, requests_have_begun, sealed_changes_go_on, mw_rule, mw_law_threads.
use Rattle.std.specs.Prelude.{ℕ, ◌≡◌, ◌≢◌, ◌<◌, ◌≤◌, ◌++◌, true, is_none, List, [], ◌∷◌, length, slice_get, Option, Some, None}
use Rattle.std.proofs.Common.{refl, sym, ap, subst, ◌∙◌, inl, inr, arith}
use Rattle.std.proofs.lemmas.Bool.{cases_eq}
use Rattle.std.specs.Option.{option_and_then}
use Rattle.std.proofs.lemmas.Option.{same_Some, none-some, option_and_then_some}
use Rattle.mw_words.specs.declared.jobs.Job.{Job}
use Rattle.mw_lone.specs.declared.marks.Mark.{Mark}
use Rattle.mw_lone.specs.declared.marks.Mark.TheVariants.{Ask, Seal}
use Rattle.mw_actor.specs.ActorState.{ActorState, first}
use Rattle.mw_world.specs.declared.outcomes.Outcome.{Outcome}
use Rattle.mw_world.specs.declared.config.Config.{Config}
use Rattle.mw_world.specs.declared.step_labels.StepLabel.{StepLabel}
use Rattle.mw_world.specs.declared.step_labels.StepLabel.TheVariants.{Reserved, Freed}
use Rattle.mw_world.specs.Claim.Headline.{IsExecution}
use Rattle.mw_world.specs.Definition.Calls.{call}
use Rattle.mw_world.specs.Definition.Events.{Found, WorldEvent, Come, Step, File, Hand, Restart}
use Rattle.mw_world.specs.Definition.History.{History}
use Rattle.mw_world.specs.Definition.LabelEffects.{more, with_labels}
use Rattle.mw_world.specs.Definition.Requests.{came, gave}
use Rattle.mw_world.specs.Definition.Restarts.{restarted}
use Rattle.mw_world.specs.Definition.State.{State, WorkerState, TenantState, TenantStart, marks_of, tenants_of, world_at}
use Rattle.mw_world.specs.Definition.Turns.{Made, made_of, moved, turn}
use Rattle.mw_world.specs.Definition.World.{asked, hand, may_come, run, step}
use Rattle.mw_law_runs.proofs.Counts.Startable.{may_start}
use Rattle.mw_law_runs.proofs.Knowledge.Updates.Preservation.{upd_here, upd_else}
use Rattle.mw_law_runs.proofs.RunsAreSound.{runs_are_sound}
use Rattle.mw_law_runs.proofs.GuardedEvents.{first_holds, guarded, second_holds}
use Rattle.mw_law_store.proofs.DurabilityLaws.{marks_more}
use Rattle.mw_law_store.proofs.Beginnings.{played_by_events, run_last}
use Rattle.mw_law_store.proofs.Histories as histories
use Rattle.mw_law_store.proofs.AbstractStateLaws.{got_last, got_within, abstract_state_all, abstract_state_before}
use Rattle.mw_law_store.proofs.MarksOfEvents.{call_comes, come_comes, hand_comes, turn_comes}
use Rattle.mw_law_store.proofs.RunSimulation.{events_are_simulated, runs_are_simulated}
use Rattle.mw_law_store.proofs.SealedLists.{all_fit, right_since, stands_at, words_at_end}
use Rattle.mw_law_store.specs.Simulation.{start_of}
use Rattle.mw_law_store.specs.History.{AsksStandOnce, IsNoStart, RepliesHavePlaces, SealsFit, SealsStay, SealsStayLong}
use Rattle.mw_law_store.specs.AbstractStates.{AbstractState, after_marks, first_abstract_state, abstract_state_of, abstract_state_at}
use Rattle.mw_law_store.specs.ReplyPlaces.{AsksTellTheirJobs, CallsKeepTheirPlace, HasBegun, IsRightSince, IsSameRequest, RepliesAreLinearized, RequestsBegin, RequestsHaveBegun, RequestsStayBegun, SealedAreRight, SealedGoOn, SealsBegin, StartsSealNothing, sealed_of, words_at_start}

-- Runs one after the other.

run_first : (config : Config) (state next last : State) (event : WorldEvent) (events : List WorldEvent) → step config state event ≡ Some next → run config next events ≡ Some last
    → run config state (event ∷ events) ≡ Some last
run_first config state next last event events is runs = ap (option_and_then (λ one. run config one events)) is ∙ runs

run_on : (config : Config) (state middle last : State) (events later : List WorldEvent) → run config state events ≡ Some middle → run config middle later ≡ Some last → run config state (events ++ later) ≡ Some last
run_on config state middle last [] later runs goes = ap (λ (one : State). run config one later) (same_Some state middle runs) ∙ goes
run_on config state middle last (event ∷ events) later runs goes =
    option_and_then_some (λ one. run config one events) (step config state event) middle runs (λ next at on.
    run_first config state next last event (events ++ later) at (run_on config next middle last events later on goes))

-- Starts.

pub seals_begin : SealsBegin
seals_begin config openings tenant = (refl, refl)

start_seals_nothing : (config : Config) (openings : ℕ → TenantStart) (state : State) (founds : List Found) (tenant : ℕ) → (start_of openings (restarted config state founds) tenant).sealed ≡ []
start_seals_nothing config openings state founds tenant =
    ap (λ (now : AbstractState). now.sealed) (marks_more (first_abstract_state (openings tenant).words) (marks_of state tenant) _)

pub starts_seal_nothing : StartsSealNothing
starts_seal_nothing config openings state next founds tenant is =
    guarded (λ (one : State). sealed_of openings one tenant ≡ []) (may_start config state founds) (restarted config state founds) next
    (λ may. start_seals_nothing config openings state founds tenant) is

-- A worker's request over one event.

seated_request : (label : StepLabel) (past : History) (lines : List (Option Mark)) (worker_state : WorkerState) → (with_labels label past lines worker_state).request ≡ worker_state.request
seated_request Reserved past lines worker_state = refl
seated_request (Freed slot) past lines worker_state = refl
seated_request label past lines worker_state = refl

same_worker_state : (state next : State) (worker : ℕ) (actor after : ActorState) → next.worker_states worker ≡ state.worker_states worker → (state.worker_states worker).actor ≡ Some actor → (next.worker_states worker).actor ≡ Some after
    → IsSameRequest state next worker actor after
same_worker_state state next worker actor after same sits there =
    let it = same_Some after actor (sym there ∙ ap (λ (worker_state : WorkerState). worker_state.actor) same ∙ sits) in
    record { tenant = ap (λ (one : ActorState). one.tenant) it; job = ap (λ (one : ActorState). one.job) it; number = ap (λ (worker_state : WorkerState). worker_state.request) same }

-- the same request or none, after any event but a start
abbrev OnWith : State → ℕ → ActorState → State → Type 0
OnWith state worker actor next = (after : ActorState) → (next.worker_states worker).actor ≡ Some after → IsSameRequest state next worker actor after

moved_on : (state : State) (by : ℕ) (one : ActorState) (made : Made) (worker : ℕ) (actor : ActorState) → (state.worker_states by).actor ≡ Some one → (state.worker_states worker).actor ≡ Some actor
    → OnWith state worker actor (moved state by one made)
moved_on state by one made worker actor goes sits after there = elim (cases_eq worker by) [
  | inl same ↦ own same
  | inr apart ↦ same_worker_state state (moved state by one made) worker actor after (upd_else state.worker_states by worker _ apart) sits there
]
  where
    own : worker ≡ by → IsSameRequest state (moved state by one made) worker actor after
    own same =
        let worker_state : (moved state by one made).worker_states worker ≡ _ = ap (moved state by one made).worker_states same ∙ upd_here state.worker_states by _ in
        let was : actor ≡ one = same_Some actor one (sym sits ∙ ap (λ (n : ℕ). (state.worker_states n).actor) same ∙ goes) in
        let now = same_Some after _ (sym there ∙ ap (λ (s : WorkerState). s.actor) worker_state) in
        record {
          tenant = ap (λ (a : ActorState). a.tenant) now ∙ ap (λ (a : ActorState). a.tenant) (sym was);
          job = ap (λ (a : ActorState). a.job) now ∙ ap (λ (a : ActorState). a.job) (sym was);
          number = ap (λ (s : WorkerState). s.request) worker_state ∙ seated_request made.label state.history (state.tenant_states one.tenant).lines (state.worker_states by) ∙ ap (λ (n : ℕ). (state.worker_states n).request) (sym same);
        }

some_none : (actor : ActorState) → is_none (Some actor) ≡ true → ⊥
some_none actor e = cc

-- a request can come only to an idle worker
idle_come : (config : Config) (state : State) (worker tenant : ℕ) (job : Job) (actor : ActorState) → may_come config state worker tenant job ≡ true → (state.worker_states worker).actor ≡ Some actor → ⊥
idle_come config state worker tenant job actor may sits =
    some_none actor (ap is_none (sym sits) ∙ second_holds _ (is_none (state.worker_states worker).actor) (first_holds _ _ may))

module _ (config : Config) (state next : State) (worker : ℕ) (actor : ActorState) (sits : (state.worker_states worker).actor ≡ Some actor) where
  come_on : (by tenant : ℕ) (job : Job) → step config state (Come by tenant job) ≡ Some next → OnWith state worker actor next
  come_on by tenant job is = come_comes (OnWith state worker actor) config state next by tenant job
      (λ may after there. same_worker_state state (came config state by tenant job) worker actor after
      (upd_else state.worker_states by worker _ (λ same. idle_come config state by tenant job actor may (ap (λ (n : ℕ). (state.worker_states n).actor) (sym same) ∙ sits))) sits there) is

  turn_on : (by : ℕ) (found : Option ActorState) → (state.worker_states by).actor ≡ found → turn config state by found ≡ Some next → OnWith state worker actor next
  turn_on by None goes is = absurd (none-some next is)
  turn_on by (Some one) goes is = turn_comes (OnWith state worker actor) config state next by one
      (λ cells observation. moved_on state by one (made_of state by one cells observation) worker actor goes sits) is

  call_on : (by : ℕ) (outcome : Outcome) (found : Option ActorState) → (state.worker_states by).actor ≡ found → call config state by found outcome ≡ Some next → OnWith state worker actor next
  call_on by outcome None goes is = absurd (none-some next is)
  call_on by outcome (Some one) goes is = call_comes (OnWith state worker actor) config state next by one outcome
      (λ made ends. moved_on state by one made worker actor goes sits) is

  gave_on : (by : ℕ) (one : ActorState) → OnWith state worker actor (gave state by one.tenant)
  gave_on by one after there = elim (cases_eq worker by) [
    | inl same ↦ absurd (none-some after (sym (ap (λ (n : ℕ). ((gave state by one.tenant).worker_states n).actor) same ∙ ap (λ (s : WorkerState). s.actor) (upd_here state.worker_states by _)) ∙ there))
    | inr apart ↦ same_worker_state state (gave state by one.tenant) worker actor after (upd_else state.worker_states by worker _ apart) sits there
  ]

  hand_on : (by : ℕ) (found : Option ActorState) → hand state by found ≡ Some next → OnWith state worker actor next
  hand_on by None is = absurd (none-some next is)
  hand_on by (Some one) is = hand_comes (OnWith state worker actor) config state next by one (λ reply stands. gave_on by one) is

  pub on_with : (event : WorldEvent) → IsNoStart event → step config state event ≡ Some next → OnWith state worker actor next
  on_with (Come by tenant job) no_start is = come_on by tenant job is
  on_with (Step by) no_start is = turn_on by (state.worker_states by).actor refl is
  on_with (File by outcome) no_start is = call_on by outcome (state.worker_states by).actor refl is
  on_with (Hand by) no_start is = hand_on by (state.worker_states by).actor is
  on_with (Restart founds) no_start is = absurd no_start

-- An idle worker has a request after an event only if it came.
module _ (config : Config) (state next : State) (worker : ℕ) (idle : (state.worker_states worker).actor ≡ None) (after : ActorState) (there : (next.worker_states worker).actor ≡ Some after) where
  still_idle : (one : State) → one.worker_states worker ≡ state.worker_states worker → (one.worker_states worker).actor ≡ None
  still_idle one same = ap (λ (worker_state : WorkerState). worker_state.actor) same ∙ idle

  not_idle : (next.worker_states worker).actor ≡ None → ⊥
  not_idle none = none-some after (sym none ∙ there)

  apart_from : (by : ℕ) (one : ActorState) → (state.worker_states by).actor ≡ Some one → worker ≢ by
  apart_from by one goes same = none-some one (sym idle ∙ ap (λ (n : ℕ). (state.worker_states n).actor) same ∙ goes)

  come_only : (by tenant : ℕ) (job : Job) → step config state (Come by tenant job) ≡ Some next → worker ≡ by
  come_only by tenant job is = elim (cases_eq worker by) [
    | inl same ↦ same
    | inr apart ↦ absurd (not_idle (come_comes (λ (one : State). (one.worker_states worker).actor ≡ None) config state next by tenant job
        (λ may. still_idle (came config state by tenant job) (upd_else state.worker_states by worker _ apart)) is))
  ]

  no_turn : (by : ℕ) (found : Option ActorState) → (state.worker_states by).actor ≡ found → turn config state by found ≡ Some next → ⊥
  no_turn by None goes is = none-some next is
  no_turn by (Some one) goes is = not_idle (turn_comes (λ (end : State). (end.worker_states worker).actor ≡ None) config state next by one
      (λ cells observation. still_idle (moved state by one (made_of state by one cells observation)) (upd_else state.worker_states by worker _ (apart_from by one goes))) is)

  no_call : (by : ℕ) (outcome : Outcome) (found : Option ActorState) → (state.worker_states by).actor ≡ found → call config state by found outcome ≡ Some next → ⊥
  no_call by outcome None goes is = none-some next is
  no_call by outcome (Some one) goes is = not_idle (call_comes (λ (end : State). (end.worker_states worker).actor ≡ None) config state next by one outcome
      (λ made ends. still_idle (moved state by one made) (upd_else state.worker_states by worker _ (apart_from by one goes))) is)

  no_hand : (by : ℕ) (found : Option ActorState) → (state.worker_states by).actor ≡ found → hand state by found ≡ Some next → ⊥
  no_hand by None goes is = none-some next is
  no_hand by (Some one) goes is = not_idle (hand_comes (λ (end : State). (end.worker_states worker).actor ≡ None) config state next by one
      (λ reply stands. still_idle (gave state by one.tenant) (upd_else state.worker_states by worker _ (apart_from by one goes))) is)

  no_restart : (founds : List Found) → step config state (Restart founds) ≡ Some next → ⊥
  no_restart founds is = not_idle (guarded (λ (one : State). (one.worker_states worker).actor ≡ None) (may_start config state founds)
      (restarted config state founds) next (λ may. refl) is)

-- After a start no worker has a request.
none_restarted : (config : Config) (state next : State) (founds : List Found) (worker : ℕ) (after : ActorState) → step config state (Restart founds) ≡ Some next → (next.worker_states worker).actor ≡ Some after → ⊥
none_restarted config state next founds worker after is there =
    none-some after (sym (guarded (λ (one : State). (one.worker_states worker).actor ≡ None) (may_start config state founds)
    (restarted config state founds) next (λ may. refl) is) ∙ there)

-- When a request comes.

came_begun : (config : Config) (openings : ℕ → TenantStart) (state : State) (worker tenant : ℕ) (job : Job)
    → HasBegun openings (came config state worker tenant job) worker (first worker tenant (state.tenant_states tenant).quota config.pool job) (length (sealed_of openings state tenant))
came_begun config openings state worker tenant job = record {
  sits = ap (λ (worker_state : WorkerState). worker_state.actor) (upd_here state.worker_states worker _);
  ask = length (state.tenant_states tenant).lines;
  came = ap (slice_get (now.tenant_states tenant).lines) refl ∙ ap (λ (lines : List (Option Mark)). slice_get lines (length (state.tenant_states tenant).lines)) lines
      ∙ got_last (state.tenant_states tenant).lines (Some (Ask (state.tenant_states tenant).asked job))
      ∙ ap (λ (n : ℕ). Some (Some (Ask n job))) (sym (ap (λ (worker_state : WorkerState). worker_state.request) (upd_here state.worker_states worker _)));
  sealed = ap (λ (closed : List Mark). length (abstract_state_at (after_marks (first_abstract_state (openings tenant).words) closed) (now.tenant_states tenant).lines (length (state.tenant_states tenant).lines)).sealed) closed
      ∙ ap (λ (lines : List (Option Mark)). length (abstract_state_at (start_of openings state tenant) lines (length (state.tenant_states tenant).lines)).sealed) lines
      ∙ ap (λ (at : AbstractState). length at.sealed) (abstract_state_before (start_of openings state tenant) (state.tenant_states tenant).lines (Some (Ask (state.tenant_states tenant).asked job)) (length (state.tenant_states tenant).lines) (omega arith)
      ∙ abstract_state_all (start_of openings state tenant) (state.tenant_states tenant).lines);
}
  where
    now : State
    now = came config state worker tenant job

    tenant_state : (came config state worker tenant job).tenant_states tenant ≡ asked (state.tenant_states tenant) job
    tenant_state = upd_here state.tenant_states tenant _

    lines : ((came config state worker tenant job).tenant_states tenant).lines ≡ more (state.tenant_states tenant).lines (Some (Ask (state.tenant_states tenant).asked job))
    lines = ap (λ (one : TenantState). one.lines) (upd_here state.tenant_states tenant (asked (state.tenant_states tenant) job))

    closed : ((came config state worker tenant job).tenant_states tenant).closed ≡ (state.tenant_states tenant).closed
    closed = ap (λ (one : TenantState). one.closed) (upd_here state.tenant_states tenant (asked (state.tenant_states tenant) job))

pub requests_begin : RequestsBegin
requests_begin config openings state next worker tenant job is =
    come_comes (λ (one : State). HasBegun openings one worker (first worker tenant (state.tenant_states tenant).quota config.pool job) (length (sealed_of openings state tenant))) config state next worker tenant job
    (λ may. came_begun config openings state worker tenant job) is

-- Of runs.

same_start : (openings : ℕ → TenantStart) (state next : State) (tenant : ℕ) → (next.tenant_states tenant).closed ≡ (state.tenant_states tenant).closed → start_of openings next tenant ≡ start_of openings state tenant
same_start openings state next tenant closed = ap (after_marks (first_abstract_state (openings tenant).words)) closed

asks_stand_once : AsksStandOnce
asks_stand_once = histories.asks_stand_once runs_are_simulated

seals_fit : SealsFit
seals_fit = histories.seals_fit runs_are_simulated

replies_have_places : RepliesHavePlaces
replies_have_places = histories.replies_have_places runs_are_simulated

seals_stay : SealsStay
seals_stay = histories.seals_stay runs_are_simulated events_are_simulated

seals_stay_long : SealsStayLong
seals_stay_long = histories.seals_stay_long runs_are_simulated events_are_simulated

its_tenant : (config : Config) (openings : ℕ → TenantStart) (events : List WorldEvent) (state : State) (worker : ℕ) (actor : ActorState) → IsExecution config openings events state → (state.worker_states worker).actor ≡ Some actor
    → actor.tenant < tenants_of config
its_tenant config openings events state worker actor played sits = ((runs_are_sound config openings events state played).0.counts.worker_states worker actor sits).tenant

-- nothing is sealed at the last start
start_fresh : (config : Config) (openings : ℕ → TenantStart) (events : List WorldEvent) (state : State) (tenant : ℕ) → IsExecution config openings events state → tenant < tenants_of config
    → (start_of openings state tenant).sealed ≡ []
start_fresh config openings events state tenant played low =
    played_by_events config openings (λ before now. (start_of openings now tenant).sealed ≡ []) refl
    (λ before event now next so_far fresh is. by_event before event now next so_far fresh is) events state played
  where
    stays : (before : List WorldEvent) (event : WorldEvent) (now next : State) → IsExecution config openings before now → (start_of openings now tenant).sealed ≡ [] → IsNoStart event → step config now event ≡ Some next
        → (start_of openings next tenant).sealed ≡ []
    stays before event now next so_far fresh no_start is =
        ap (λ (at : AbstractState). at.sealed) (same_start openings now next tenant (seals_stay config openings before now next event tenant so_far low no_start is).0) ∙ fresh

    by_event : (before : List WorldEvent) (event : WorldEvent) (now next : State) → IsExecution config openings before now → (start_of openings now tenant).sealed ≡ [] → step config now event ≡ Some next
        → (start_of openings next tenant).sealed ≡ []
    by_event before (Come worker other job) now next so_far fresh is = stays before (Come worker other job) now next so_far fresh tt is
    by_event before (Step worker) now next so_far fresh is = stays before (Step worker) now next so_far fresh tt is
    by_event before (File worker outcome) now next so_far fresh is = stays before (File worker outcome) now next so_far fresh tt is
    by_event before (Hand worker) now next so_far fresh is = stays before (Hand worker) now next so_far fresh tt is
    by_event before (Restart founds) now next so_far fresh is =
        guarded (λ (one : State). (start_of openings one tenant).sealed ≡ []) (may_start config now founds) (restarted config now founds) next
        (λ may. start_seals_nothing config openings now founds tenant) is

pub sealed_go_on : SealedGoOn
sealed_go_on config openings events state next event tenant played low no_start is =
    let on = seals_stay config openings events state next event tenant played low no_start is in
    let same = same_start openings state next tenant on.0 in (
      ap (λ (at : AbstractState). at.words) same,
      elim on.1.one_more [
        | inl none ↦ inl (ap (λ (at : AbstractState). (abstract_state_of at (next.tenant_states tenant).lines).sealed) same ∙ none)
        | inr one ↦ inr (one.0, ap (λ (at : AbstractState). (abstract_state_of at (next.tenant_states tenant).lines).sealed) same ∙ one.1)
      ],
    )

-- no request is sealed at two lines
seals_stand_once : (config : Config) (openings : ℕ → TenantStart) (events : List WorldEvent) (state : State) (tenant : ℕ) → IsExecution config openings events state → tenant < tenants_of config
    → (place other n : ℕ) → slice_get (state.tenant_states tenant).lines place ≡ Some (Some (Seal n)) → slice_get (state.tenant_states tenant).lines other ≡ Some (Some (Seal n)) → place ≡ other
seals_stand_once config openings events state tenant played low place other n here there =
    let history_match = (runs_are_simulated config openings events state tenant played low).simulated.history_match in
    let its = history_match.sealed place n here in
    let stands = history_match.places n its.found _ its.is_asked its.has_reply in
    stands.once place here ∙ sym (stands.once other there)

pub sealed_are_right : SealedAreRight
sealed_are_right config openings events state tenant played low =
    let start = start_of openings state tenant in
    let lines = (state.tenant_states tenant).lines in
    let fresh = start_fresh config openings events state tenant played low in
    let since = asks_stand_once config openings events state tenant played low in
    let fit = seals_fit config openings events state tenant played low in
    record {
      fit = all_fit start lines fresh since.no_start fit.0;
      once = λ place other one another here there same.
          let at = stands_at start lines place one fresh since.no_start here in
          let where_else = stands_at start lines other another fresh since.no_start there in
          let same_line = seals_stand_once config openings events state tenant played low at.line where_else.line one.request at.is
          (where_else.is ∙ ap (λ (n : ℕ). Some (Some (Seal n))) (sym same)) in
          sym at.before ∙ ap (λ (line : ℕ). length (abstract_state_at start lines line).sealed) same_line ∙ where_else.before;
      all = words_at_end start lines fresh since.no_start ∙ fit.1;
    }

pub requests_stay_begun : RequestsStayBegun
requests_stay_begun config openings events state next event worker actor after begun played has no_start is there =
    let same = on_with config state next worker actor has.sits event no_start is after there in
    let on = seals_stay config openings events state next event actor.tenant played (its_tenant config openings events state worker actor played has.sits) no_start is in
    let within : has.ask ≤ length (state.tenant_states actor.tenant).lines = (let low = got_within (state.tenant_states actor.tenant).lines (Some (Ask (state.worker_states worker).request actor.job)) has.ask has.came in omega (arith, low)) in (
      same,
      record {
        sits = there;
        ask = has.ask;
        came = ap (λ (tenant : ℕ). slice_get (next.tenant_states tenant).lines has.ask) same.tenant ∙ on.1.marks has.ask _ has.came
            ∙ ap (λ (n : ℕ). Some (Some (Ask n actor.job))) (sym same.number) ∙ ap (λ (job : Job). Some (Some (Ask (next.worker_states worker).request job))) (sym same.job);
        sealed = ap (λ (tenant : ℕ). length (abstract_state_at (start_of openings next tenant) (next.tenant_states tenant).lines has.ask).sealed) same.tenant
            ∙ ap (λ (at : AbstractState). length (abstract_state_at at (next.tenant_states actor.tenant).lines has.ask).sealed) (same_start openings state next actor.tenant on.0)
            ∙ ap length (on.1.before has.ask within) ∙ has.sealed;
      },
    )

-- Each request has begun.

abbrev AllBegun : (ℕ → TenantStart) → State → Type 0
AllBegun openings state = (worker : ℕ) (actor : ActorState) → (state.worker_states worker).actor ≡ Some actor → (begun : ℕ) × HasBegun openings state worker actor begun

all_begun : (config : Config) (openings : ℕ → TenantStart) (events : List WorldEvent) (event : WorldEvent) (state next : State) → IsExecution config openings events state → AllBegun openings state
    → step config state event ≡ Some next → AllBegun openings next
all_begun config openings events event state next played begun is worker after there = by_worker_state (state.worker_states worker).actor refl
  where
    here : (by tenant : ℕ) (job : Job) → worker ≡ by → step config state (Come by tenant job) ≡ Some next → (begun : ℕ) × HasBegun openings next worker after begun
    here by tenant job same came =
        let new = requests_begin config openings state next by tenant job came in
        let it = same_Some _ after (sym new.sits ∙ ap (λ (n : ℕ). (next.worker_states n).actor) (sym same) ∙ there) in (
          length (sealed_of openings state tenant),
          subst (λ (n : ℕ). HasBegun openings next n after (length (sealed_of openings state tenant))) (sym same)
              (subst (λ (one : ActorState). HasBegun openings next by one (length (sealed_of openings state tenant))) it new),
        )

    new_one : (state.worker_states worker).actor ≡ None → (event : WorldEvent) → step config state event ≡ Some next → (begun : ℕ) × HasBegun openings next worker after begun
    new_one idle (Come by tenant job) is = here by tenant job (come_only config state next worker idle after there by tenant job is) is
    new_one idle (Step by) is = absurd (no_turn config state next worker idle after there by (state.worker_states by).actor refl is)
    new_one idle (File by outcome) is = absurd (no_call config state next worker idle after there by outcome (state.worker_states by).actor refl is)
    new_one idle (Hand by) is = absurd (no_hand config state next worker idle after there by (state.worker_states by).actor refl is)
    new_one idle (Restart founds) is = absurd (no_restart config state next worker idle after there founds is)

    old_one : (actor : ActorState) → (state.worker_states worker).actor ≡ Some actor → (event : WorldEvent) → IsNoStart event → step config state event ≡ Some next → (begun : ℕ) × HasBegun openings next worker after begun
    old_one actor sits event no_start is =
        let was = begun worker actor sits in
        (was.0, (requests_stay_begun config openings events state next event worker actor after was.0 played was.1 no_start is there).1)

    by_event : (actor : ActorState) → (state.worker_states worker).actor ≡ Some actor → (event : WorldEvent) → step config state event ≡ Some next → (begun : ℕ) × HasBegun openings next worker after begun
    by_event actor sits (Come by tenant job) is = old_one actor sits (Come by tenant job) tt is
    by_event actor sits (Step by) is = old_one actor sits (Step by) tt is
    by_event actor sits (File by outcome) is = old_one actor sits (File by outcome) tt is
    by_event actor sits (Hand by) is = old_one actor sits (Hand by) tt is
    by_event actor sits (Restart founds) is = absurd (none_restarted config state next founds worker after is there)

    by_worker_state : (found : Option ActorState) → (state.worker_states worker).actor ≡ found → (begun : ℕ) × HasBegun openings next worker after begun
    by_worker_state None idle = new_one idle event is
    by_worker_state (Some actor) sits = by_event actor sits event is

pub requests_have_begun : RequestsHaveBegun
requests_have_begun config openings events state worker actor played sits =
    played_by_events config openings (λ before now. AllBegun openings now) (λ one who is. absurd (none-some who is))
    (λ before event now next so_far begun is. all_begun config openings before event now next so_far begun is) events state played worker actor sits

-- a line with which a request that has begun came is the only one
ask_once : (config : Config) (openings : ℕ → TenantStart) (events : List WorldEvent) (state : State) (worker : ℕ) (actor : ActorState) (begun : ℕ) → IsExecution config openings events state
    → (has : HasBegun openings state worker actor begun) (other : ℕ) (another : Job) → slice_get (state.tenant_states actor.tenant).lines other ≡ Some (Some (Ask (state.worker_states worker).request another)) → other ≡ has.ask
ask_once config openings events state worker actor begun played has other another at =
    (asks_stand_once config openings events state actor.tenant played (its_tenant config openings events state worker actor played has.sits)).ask_once other has.ask (state.worker_states worker).request another actor.job at has.came

same_job : (n : ℕ) (job another : Job) → Some (Some (Ask n job)) ≡ Some (Some (Ask n another)) → job ≡ another
same_job n job another e = let same : Ask n job ≡ Ask n another = same_Some (Ask n job) (Ask n another) (same_Some (Some (Ask n job)) (Some (Ask n another)) e) in cc

job_at : (config : Config) (openings : ℕ → TenantStart) (events : List WorldEvent) (state : State) (worker : ℕ) (actor : ActorState) (begun : ℕ) → IsExecution config openings events state
    → HasBegun openings state worker actor begun → (other : ℕ) (another : Job) → slice_get (state.tenant_states actor.tenant).lines other ≡ Some (Some (Ask (state.worker_states worker).request another)) → another ≡ actor.job
job_at config openings events state worker actor begun played has other another at =
    same_job (state.worker_states worker).request another actor.job
    (sym at ∙ ap (slice_get (state.tenant_states actor.tenant).lines) (ask_once config openings events state worker actor begun played has other another at) ∙ has.came)

pub asks_tell_their_jobs : AsksTellTheirJobs
asks_tell_their_jobs config openings events state worker place actor played sits asked_before =
    let begun = requests_have_begun config openings events state worker actor played sits in
    job_at config openings events state worker actor begun.0 played begun.1 asked_before.ask asked_before.job asked_before.is_asked

pub replies_are_linearized : RepliesAreLinearized
replies_are_linearized config openings events state worker actor begun reply played has stands =
    let low = its_tenant config openings events state worker actor played has.sits in
    let start = start_of openings state actor.tenant in
    let lines = (state.tenant_states actor.tenant).lines in
    subst (λ (many : ℕ). IsRightSince many start.words (abstract_state_of start lines).sealed (state.worker_states worker).request actor.job reply) has.sealed
    (right_since start lines (state.worker_states worker).request actor.job (start_fresh config openings events state actor.tenant played low)
    (asks_stand_once config openings events state actor.tenant played low).no_start has.ask
    (λ other another at. ask_once config openings events state worker actor begun played has other another at) reply
    (replies_have_places config openings events state worker actor reply played has.sits stands))

-- Over a whole call.
pub calls_keep_their_place : CallsKeepTheirPlace
calls_keep_their_place config openings events later state between last worker tenant by job actor reply played comes none goes sits of_it same_number stands =
    let new = requests_begin config openings state between worker tenant job comes in
    let low = subst (λ (n : ℕ). n < tenants_of config) of_it (its_tenant config openings (events ++ Come worker tenant job ∷ later) last by actor played_last sits) in
    let first_on = seals_stay config openings events state between (Come worker tenant job) tenant played low tt comes in
    let on = seals_stay_long config openings (events ++ Come worker tenant job ∷ []) later between last tenant played_between low none goes in
    let begun = requests_have_begun config openings (events ++ Come worker tenant job ∷ later) last by actor played_last sits in
    let at : slice_get (last.tenant_states actor.tenant).lines new.ask ≡ Some (Some (Ask (last.worker_states by).request job)) =
    ap (λ (n : ℕ). slice_get (last.tenant_states n).lines new.ask) of_it ∙ on.1.marks new.ask _ new.came ∙ ap (λ (n : ℕ). Some (Some (Ask n job))) (sym same_number) in
    let within : new.ask ≤ length (between.tenant_states tenant).lines = (let lower = got_within (between.tenant_states tenant).lines (Some (Ask (between.worker_states worker).request job)) new.ask new.came in omega (arith, lower)) in
    let as_many : begun.0 ≡ length (sealed_of openings state tenant) =
    sym begun.1.sealed ∙ ap (λ (line : ℕ). length (abstract_state_at (start_of openings last actor.tenant) (last.tenant_states actor.tenant).lines line).sealed)
    (sym (ask_once config openings (events ++ Come worker tenant job ∷ later) last by actor begun.0 played_last begun.1 new.ask job at))
    ∙ ap (λ (n : ℕ). length (abstract_state_at (start_of openings last n) (last.tenant_states n).lines new.ask).sealed) of_it
    ∙ ap (λ (start : AbstractState). length (abstract_state_at start (last.tenant_states tenant).lines new.ask).sealed) (same_start openings between last tenant on.0)
    ∙ ap length (on.1.before new.ask within) ∙ new.sealed in
    let same_words : words_at_start openings last tenant ≡ words_at_start openings state tenant =
    ap (λ (start : AbstractState). start.words) (same_start openings between last tenant on.0 ∙ same_start openings state between tenant first_on.0) in
    let its_job = job_at config openings (events ++ Come worker tenant job ∷ later) last by actor begun.0 played_last begun.1 new.ask job at in
    let right = replies_are_linearized config openings (events ++ Come worker tenant job ∷ later) last by actor begun.0 reply played_last begun.1 stands in
    subst (λ (many : ℕ). IsRightSince many (words_at_start openings state tenant) (sealed_of openings last tenant) (last.worker_states by).request job reply) as_many
    (subst (λ (words : List ℕ). IsRightSince begun.0 words (sealed_of openings last tenant) (last.worker_states by).request job reply) same_words
    (subst (λ (one : Job). IsRightSince begun.0 (words_at_start openings last tenant) (sealed_of openings last tenant) (last.worker_states by).request one reply) (sym its_job)
    (subst (λ (n : ℕ). IsRightSince begun.0 (words_at_start openings last n) (sealed_of openings last n) (last.worker_states by).request actor.job reply) of_it right)))
  where
    played_between : IsExecution config openings (events ++ Come worker tenant job ∷ []) between
    played_between = record { made = played.made; starts = played.starts; runs = run_last config (world_at config openings) state between events (Come worker tenant job) played.runs comes }

    played_last : IsExecution config openings (events ++ Come worker tenant job ∷ later) last
    played_last = record { made = played.made; starts = played.starts; runs = run_on config (world_at config openings) state last events (Come worker tenant job ∷ later) played.runs (run_first config state between last (Come worker tenant job) later comes goes) }
