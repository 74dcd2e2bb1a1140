-- In a run with numbers left, each tenant gets the replies and words of its store alone: from each event to the whole run.
-- Used by: mw_law_threads.
use Rattle.std.specs.Prelude.{ℕ, ◌≡◌, ◌≢◌, ◌<◌, ◌++◌, ◌==◌, true, false, All, Bool, if◌then◌else◌, is_none, List, [], ◌∷◌, Option, Some, None}
use Rattle.std.specs.Option.{option_and_then, option_map, option_to_list, unwrap_or}
use Rattle.std.proofs.Common.{refl, sym, ap, subst, ◌∙◌, append_assoc, append-nil}
use Rattle.std.proofs.lemmas.List.Elements.{All-nil, All-cons, All-append}
use Rattle.std.proofs.lemmas.Option.{same_Some, none-some, option_and_then_some}
use Rattle.mw_words.specs.declared.replies.Reply.{Reply}
use Rattle.mw_words.specs.declared.replies.Reply.TheVariants.{Worn}
use Rattle.mw_lone.specs.declared.marks.Mark.{Mark}
use Rattle.mw_lone.specs.declared.marks.Mark.TheVariants.{Restart as IsRestart}
use Rattle.mw_lone.specs.Store.{Store, step as step_of_store, run as run_of_store, replies_from, outgoing as outgoing_mark}
use Rattle.mw_law_store.specs.Late.LateMarks.{IsNumbered}
use Rattle.mw_law_store.proofs.Late.Lines.{empty-place, mark-more, run-append}
use Rattle.mw_look.specs.declared.points.Point.{Point as ReadPoint}
use Rattle.mw_look.specs.declared.points.Point.TheVariants.{Replied as RepliedOfRead}
use Rattle.mw_look.specs.Program.{reply_at as reply_of_read}
use Rattle.mw_actor.specs.declared.points.Point.{Point}
use Rattle.mw_actor.specs.ActorState.{ActorState}
use Rattle.mw_actor.specs.declared.points.Point.TheVariants.{Read, Replied}
use Rattle.mw_actor.specs.Program.{reply_at, replied}
use Rattle.mw_world.specs.declared.config.Config.{Config}
use Rattle.mw_world.specs.Claim.Headline.{IsExecution, IsRun, RepresentsStore, LeavesStore, EveryRunIsDurablyLinearizable}
use Rattle.mw_world.specs.Definition.Events.{Found, WorldEvent, Come, Step, File, Hand, Restart}
use Rattle.mw_world.specs.Definition.Restarts.{restart, restarted, found_of, quota_then, under_way, interrupted_request, doubt_then, takes}
use Rattle.mw_world.specs.Definition.State.{State, IsConfig, IsStart, TenantStart, tenants_of, tenant_at, marks_in, marks_of, store_at, world_at}
use Rattle.mw_world.specs.Definition.World.{step, run, outgoing, reply_for, replies_to}
use Rattle.mw_law_runs.proofs.Counts.Startable.{may_start}
use Rattle.mw_law_store.specs.Simulation.{IsSimulatedBy, SimulatesStep, IsLegalTo}
use Rattle.mw_law_store.specs.RelaxedSteps.{StoreLabel, NoLabel, Says, ReservesPlace, MarksLate, lines_after, RelaxedLabelStep, given_out}
use Rattle.mw_law_runs.specs.Files.{FilesFit}
use Rattle.mw_law_runs.specs.RunInvariant.{IsSound}
use Rattle.mw_law_runs.proofs.RunsAreSound.{runs_are_sound}
use Rattle.mw_law_store.specs.Files.Files.{HasFiles}
use Rattle.mw_law_store.proofs.Files.RunsKeepFiles.{runs_have_files}
use Rattle.mw_law_store.specs.WorldFacts.{HasWorldFacts}
use Rattle.mw_law_store.specs.History.{IsNoStart}
use Rattle.mw_law_store.specs.Laws.{RunsHaveWorldFacts}
use Rattle.mw_law_store.specs.Refinement.{Refines}
use Rattle.mw_law_store.specs.Worn.{RunsAreNotWorn, NoneIsWorn, is_worn_at, is_worn_read, is_worn_reply}
use Rattle.mw_law_store.proofs.Legal.{LatePlace}
use Rattle.mw_law_store.proofs.ReachedPoints.{ArePointsMeant, runs_are_meant}
use Rattle.mw_law_store.proofs.Replies.{replies_append, late_marks_leave_replies}

-- A store simulates a tenant's part of a world, and the tenant's marks are a legal run to that store.
pub record IsServed (openings : ℕ → TenantStart) (state : State) (tenant : ℕ) : Type 0 where
  pub store : Store
  pub simulated : IsSimulatedBy openings state tenant store
  pub legal : IsLegalTo openings state tenant store

-- The marks of the later world hand out these replies after those of the earlier one.
abbrev pub RepliesGoOn : (ℕ → TenantStart) → ℕ → State → State → List (ℕ × Reply) → Type 0
RepliesGoOn openings tenant state next given =
    replies_from (store_at (openings tenant)) (marks_of next tenant) ≡ replies_from (store_at (openings tenant)) (marks_of state tenant) ++ given

-- What is handed out, by the label.

-- after the last mark nothing is handed out
nothing_more : (o : Option Store) → unwrap_or (option_map (λ t. replies_from t []) o) [] ≡ []
nothing_more None = refl
nothing_more (Some t) = refl

-- from the last start on
since_start : (base store after : Store) (lines : List (Option Mark)) (says : StoreLabel) → IsNumbered base → run_of_store base (marks_in lines) ≡ Some store → LatePlace base lines says → RelaxedLabelStep says store after
    → replies_from base (marks_in (lines_after says lines)) ≡ replies_from base (marks_in lines) ++ option_to_list (given_out says store)
since_start base store after lines NoLabel numbered ran late goes = sym (append-nil (replies_from base (marks_in lines)))
since_start base store after lines (Says mark) numbered ran late goes =
    ap (replies_from base) (mark-more lines mark) ∙ replies_append base store (marks_in lines) (mark ∷ []) ran
    ∙ ap (λ (given : List (ℕ × Reply)). replies_from base (marks_in lines) ++ (option_to_list (outgoing_mark store mark) ++ given)) (nothing_more (step_of_store store mark))
    ∙ ap (λ (given : List (ℕ × Reply)). replies_from base (marks_in lines) ++ given) (append-nil (option_to_list (outgoing_mark store mark)))
since_start base store after lines ReservesPlace numbered ran late goes = ap (replies_from base) (empty-place lines) ∙ sym (append-nil (replies_from base (marks_in lines)))
since_start base store after lines (MarksLate place mark n reply) numbered ran late goes =
    late_marks_leave_replies base store lines place mark n goes.found reply numbered late ran goes.is_open ∙ sym (append-nil (replies_from base (marks_in lines)))

-- from the first start on
said_gives : (first base store after : Store) (closed : List Mark) (lines : List (Option Mark)) (says : StoreLabel) → IsNumbered base → run_of_store first closed ≡ Some base → run_of_store base (marks_in lines) ≡ Some store
    → LatePlace base lines says → RelaxedLabelStep says store after
    → replies_from first (closed ++ marks_in (lines_after says lines)) ≡ replies_from first (closed ++ marks_in lines) ++ option_to_list (given_out says store)
said_gives first base store after closed lines says numbered was ran late goes =
    replies_append first base closed (marks_in (lines_after says lines)) was
    ∙ ap (λ (given : List (ℕ × Reply)). replies_from first closed ++ given) (since_start base store after lines says numbered ran late goes)
    ∙ sym (append_assoc (replies_from first closed) (replies_from base (marks_in lines)) (option_to_list (given_out says store)))
    ∙ ap (λ (given : List (ℕ × Reply)). given ++ option_to_list (given_out says store)) (sym (replies_append first base closed (marks_in lines) was))

-- What is known of a world after every event, without a store.
pub record IsWithFactsWorld (config : Config) (state : State) : Type 0 where
  pub sound : IsSound config state
  pub fit : FilesFit state
  pub files : HasFiles config state
  pub world_facts : HasWorldFacts state
  pub meant : ArePointsMeant state

-- An event that is not a start is simulated, and legally.
pub record ServesOn (openings : ℕ → TenantStart) (state next : State) (event : WorldEvent) (tenant : ℕ) (store base : Store) : Type 0 where
  pub on : SimulatesStep openings state next event tenant store
  pub late : LatePlace base (state.tenant_states tenant).lines on.says
  pub legal : IsLegalTo openings next tenant on.after

abbrev pub EventsAreServed : Type 0
EventsAreServed = (config : Config) (openings : ℕ → TenantStart) (state next : State) (event : WorldEvent) (tenant : ℕ) → IsConfig config → IsWithFactsWorld config state → NoneIsWorn state
    → tenant < tenants_of config → (served : IsServed openings state tenant) → IsNoStart event → step config state event ≡ Some next
    → ServesOn openings state next event tenant served.store served.legal.base

abbrev pub RestartsAreServed : Type 0
RestartsAreServed = (config : Config) (openings : ℕ → TenantStart) (state next : State) (founds : List Found) (tenant : ℕ) → IsWithFactsWorld config state → tenant < tenants_of config
    → IsServed openings state tenant → restart config state founds ≡ Some next → IsServed openings next tenant

module _ (events_serve : EventsAreServed) (restarts_serve : RestartsAreServed) (config : Config) (openings : ℕ → TenantStart) (tenant : ℕ) where
  abbrev first : Store
  first = store_at (openings tenant)

  -- all marks so far are a legal run
  pub all_legal : (state : State) (store : Store) → IsLegalTo openings state tenant store → run_of_store first (marks_of state tenant) ≡ Some store
  all_legal state store legal =
      run-append first (state.tenant_states tenant).closed (marks_in (state.tenant_states tenant).lines)
      ∙ ap (option_and_then (λ base. run_of_store base (marks_in (state.tenant_states tenant).lines))) legal.closed ∙ legal.lines

  -- After an event the tenant is served, and its marks have handed out what the event did.
  pub record GivesOn (state next : State) (event : WorldEvent) : Type 0 where
    pub served : IsServed openings next tenant
    pub replies : RepliesGoOn openings tenant state next (option_to_list (outgoing state tenant event))

  no_start : (state next : State) (event : WorldEvent) → NoneIsWorn state → (served : IsServed openings state tenant) → ServesOn openings state next event tenant served.store served.legal.base → GivesOn state next event
  no_start state next event fresh served serves =
      let on = serves.on in
      let tenant_state = state.tenant_states tenant in
      record {
        served = record { store = on.after; simulated = on.simulated; legal = serves.legal };
        replies =
            ap (λ (marks : List Mark). replies_from first (marks ++ marks_in (next.tenant_states tenant).lines)) on.closed
            ∙ ap (λ (lines : List (Option Mark)). replies_from first (tenant_state.closed ++ marks_in lines)) on.lines
            ∙ said_gives first served.legal.base served.store on.after tenant_state.closed tenant_state.lines on.says served.legal.numbered served.legal.closed served.legal.lines serves.late on.goes
            ∙ ap (λ (given : Option (ℕ × Reply)). replies_from first (marks_of state tenant) ++ option_to_list given) (on.hands fresh);
      }

  -- a start hands out nothing
  start_gives : (store : Store) (marks : List Mark) (interrupted : Option ℕ) (found opened : Bool) (quota : ℕ) → run_of_store first marks ≡ Some store
      → replies_from first (marks ++ IsRestart interrupted found opened quota ∷ []) ≡ replies_from first marks ++ []
  start_gives store marks interrupted found opened quota ran =
      replies_append first store marks (IsRestart interrupted found opened quota ∷ []) ran
      ∙ ap (λ (given : List (ℕ × Reply)). replies_from first marks ++ given) (nothing_more (step_of_store store (IsRestart interrupted found opened quota)))

  restarted_gives : (state : State) (founds : List Found) → IsServed openings state tenant → RepliesGoOn openings tenant state (restarted config state founds) []
  restarted_gives state founds served =
      let tenant_state = state.tenant_states tenant in
      let call = under_way config state (found_of founds tenant).interrupted in
      let found = takes tenant_state.file.contents (doubt_then tenant_state.file call) (found_of founds tenant).words in
      let opened = is_none (found_of founds tenant).fails_at in
      let quota = quota_then tenant_state (found_of founds tenant) in
      ap (replies_from first) (append-nil (tenant_state.closed ++ marks_in tenant_state.lines ++ IsRestart (interrupted_request call) found opened quota ∷ []))
      ∙ start_gives served.store (tenant_state.closed ++ marks_in tenant_state.lines) (interrupted_request call) found opened quota (all_legal state served.store served.legal)

  restart_gives : (state next : State) (founds : List Found) → IsWithFactsWorld config state → tenant < tenants_of config → IsServed openings state tenant → restart config state founds ≡ Some next
      → GivesOn state next (Restart founds)
  restart_gives state next founds with_facts low served is = record {
    served = restarts_serve config openings state next founds tenant with_facts low served is;
    replies = by_test (may_start config state founds) is;
  }
    where
      by_test : (test : Bool) → (if test then Some (restarted config state founds) else None) ≡ Some next → RepliesGoOn openings tenant state next []
      by_test true came = subst (λ (one : State). RepliesGoOn openings tenant state one []) (same_Some (restarted config state founds) next came) (restarted_gives state founds served)
      by_test false came = absurd (none-some next came)

  event_gives : (state next : State) (event : WorldEvent) → IsConfig config → IsWithFactsWorld config state → NoneIsWorn state → tenant < tenants_of config → IsServed openings state tenant
      → step config state event ≡ Some next → GivesOn state next event
  event_gives state next (Restart founds) made with_facts fresh low served is = restart_gives state next founds with_facts low served is
  event_gives state next (Come worker asked job) made with_facts fresh low served is = no_start state next (Come worker asked job) fresh served (events_serve config openings state next (Come worker asked job) tenant made with_facts fresh low served tt is)
  event_gives state next (Step worker) made with_facts fresh low served is = no_start state next (Step worker) fresh served (events_serve config openings state next (Step worker) tenant made with_facts fresh low served tt is)
  event_gives state next (File worker outcome) made with_facts fresh low served is = no_start state next (File worker outcome) fresh served (events_serve config openings state next (File worker outcome) tenant made with_facts fresh low served tt is)
  event_gives state next (Hand worker) made with_facts fresh low served is = no_start state next (Hand worker) fresh served (events_serve config openings state next (Hand worker) tenant made with_facts fresh low served tt is)

  -- No event says WORN if no request is on the way to it.
  abbrev pub NotWorn : List (ℕ × Reply) → Type 0
  NotWorn given = All (λ numbered. numbered.1 ≢ Worn) given

  none_given : NotWorn []
  none_given = All-nil (λ numbered. numbered.1 ≢ Worn)

  one_given : (number : ℕ) (reply : Reply) → is_worn_reply reply ≡ false → NotWorn ((number, reply) ∷ [])
  one_given number reply fresh = All-cons (λ numbered. numbered.1 ≢ Worn) (number, reply) [] (λ same. let other : is_worn_reply reply ≡ true = ap is_worn_reply same in absurd (cc)) none_given

  read_not_worn : (point : ReadPoint) (number : ℕ) → is_worn_read point ≡ false → NotWorn (option_to_list (option_map (λ (reply : Reply). (number, reply)) (reply_of_read point)))
  read_not_worn (RepliedOfRead reply) number fresh = one_given number reply fresh
  read_not_worn point number fresh = none_given

  reply_not_worn : (point : Point) (number : ℕ) → is_worn_at point ≡ false → NotWorn (option_to_list (option_map (λ (reply : Reply). (number, reply)) (reply_at point)))
  reply_not_worn (Read look) number fresh = read_not_worn look.point number fresh
  reply_not_worn (Replied reply) number fresh = one_given number reply fresh
  reply_not_worn point number fresh = none_given

  hand_not_worn : (state : State) (worker : ℕ) (actor : Option ActorState) → ((one : ActorState) → actor ≡ Some one → is_worn_at one.point ≡ false) → NotWorn (option_to_list (reply_for state tenant worker actor))
  hand_not_worn state worker None fresh = none_given
  hand_not_worn state worker (Some actor) fresh = by_test (actor.tenant == tenant)
    where
      by_test : (test : Bool) → NotWorn (option_to_list (if test then option_map (λ reply. ((state.worker_states worker).request, reply)) (replied actor) else None))
      by_test true = reply_not_worn actor.point (state.worker_states worker).request (fresh actor refl)
      by_test false = none_given

  gives_not_worn : (state : State) (event : WorldEvent) → NoneIsWorn state → NotWorn (option_to_list (outgoing state tenant event))
  gives_not_worn state (Come worker other job) fresh = none_given
  gives_not_worn state (Step worker) fresh = none_given
  gives_not_worn state (File worker outcome) fresh = none_given
  gives_not_worn state (Hand worker) fresh = hand_not_worn state worker (state.worker_states worker).actor (λ one is. fresh.points worker one is)
  gives_not_worn state (Restart founds) fresh = none_given

  -- What holds from one world of a run to a later one: the tenant is served, its marks hand out what the events do, and no reply
  -- is WORN.
  pub record GoesThrough (state last : State) (events : List WorldEvent) : Type 0 where
    pub served : IsServed openings last tenant
    pub replies : RepliesGoOn openings tenant state last (replies_to config tenant state events)
    pub never_worn : NotWorn (replies_to config tenant state events)

  -- what is known of each world from this one on
  abbrev pub KnownOn : State → List WorldEvent → Type 0
  KnownOn state events = (first rest : List WorldEvent) (between : State) → events ≡ first ++ rest → run config state first ≡ Some between → IsWithFactsWorld config between × NoneIsWorn between

  pub goes_through : (events : List WorldEvent) (state last : State) → IsConfig config → tenant < tenants_of config → KnownOn state events → IsServed openings state tenant → run config state events ≡ Some last → GoesThrough state last events
  goes_through [] state last made low known served ran =
      subst (λ (one : State). GoesThrough state one []) (same_Some state last ran)
      (record { served = served; replies = sym (append-nil (replies_from first (marks_of state tenant))); never_worn = All-nil (λ numbered. numbered.1 ≢ Worn) })
  goes_through (event ∷ events) state last made low known served ran =
      option_and_then_some (λ next. run config next events) (step config state event) last ran (λ next at on.
      let now = known [] (event ∷ events) state refl refl in
      let gives = event_gives state next event made now.0 now.1 low served at in
      let later : KnownOn next events = λ early rest between parted came.
      known (event ∷ early) rest between (ap (λ (more : List WorldEvent). event ∷ more) parted) (ap (option_and_then (λ one. run config one early)) at ∙ came) in
      let through = goes_through events next last made low later gives.served on in
      let said : replies_to config tenant state (event ∷ events) ≡ option_to_list (outgoing state tenant event) ++ replies_to config tenant next events =
      ap (λ o. option_to_list (outgoing state tenant event) ++ unwrap_or (option_map (λ one. replies_to config tenant one events) o) []) at in
      record {
        served = through.served;
        replies =
            through.replies ∙ ap (λ (given : List (ℕ × Reply)). given ++ replies_to config tenant next events) gives.replies
            ∙ append_assoc (replies_from first (marks_of state tenant)) (option_to_list (outgoing state tenant event)) (replies_to config tenant next events)
            ∙ ap (λ (given : List (ℕ × Reply)). replies_from first (marks_of state tenant) ++ given) (sym said);
        never_worn =
            subst NotWorn (sym said) (All-append (λ numbered. numbered.1 ≢ Worn) (option_to_list (outgoing state tenant event)) (replies_to config tenant next events) (gives_not_worn state event now.1) through.never_worn);
      })

-- At a start each tenant is served.
abbrev pub StartsAreServed : Type 0
StartsAreServed = (config : Config) (openings : ℕ → TenantStart) (tenant : ℕ) → IsStart config openings → tenant < tenants_of config → IsServed openings (world_at config openings) tenant

-- The shared words of a tenant that is up are those of a store that it refines.
abbrev pub StoresAreShown : Type 0
StoresAreShown = (config : Config) (state : State) (tenant : ℕ) (store : Store) → IsWithFactsWorld config state → tenant < tenants_of config → Refines state tenant store → (state.tenant_states tenant).is_up ≡ true
    → RepresentsStore state tenant (tenant_at config tenant).words store

abbrev pub StoresAreLeft : Type 0
StoresAreLeft = (config : Config) (state : State) (tenant : ℕ) (store : Store) → IsWithFactsWorld config state → tenant < tenants_of config → Refines state tenant store → LeavesStore config state tenant store

module _ (events_serve : EventsAreServed) (restarts_serve : RestartsAreServed) (starts_serve : StartsAreServed) (shown : StoresAreShown) (left : StoresAreLeft) (runs_have_world_facts : RunsHaveWorldFacts) (runs_are_not_worn : RunsAreNotWorn) where
  pub with_facts : (config : Config) (openings : ℕ → TenantStart) (events : List WorldEvent) (state : State) → IsExecution config openings events state → IsWithFactsWorld config state
  with_facts config openings events state played =
      let sound = runs_are_sound config openings events state played in
      record { sound = sound.0; fit = sound.1; files = runs_have_files config openings events state played; world_facts = runs_have_world_facts config openings events state played; meant = runs_are_meant config openings events state played }

  -- a prefix of a run is a run
  begins : (config : Config) (openings : ℕ → TenantStart) (first rest : List WorldEvent) (between last : State) → IsRun config openings (first ++ rest) last → run config (world_at config openings) first ≡ Some between
      → IsRun config openings first between
  begins config openings early rest between last is came = record {
    played = record { made = is.played.made; starts = is.played.starts; runs = came };
    numbers = λ sooner later there parted ran. is.numbers sooner (later ++ rest) there (ap (λ (events : List WorldEvent). events ++ rest) parted ∙ append_assoc sooner later rest) ran;
  }

  through : (config : Config) (openings : ℕ → TenantStart) (events : List WorldEvent) (state : State) (tenant : ℕ) → IsRun config openings events state → tenant < tenants_of config
      → GoesThrough events_serve restarts_serve config openings tenant (world_at config openings) state events
  through config openings events state tenant is low =
      goes_through events_serve restarts_serve config openings tenant events (world_at config openings) state is.played.made low
      (λ first rest between parted came.
      let begun = begins config openings first rest between state (subst (λ (all : List WorldEvent). IsRun config openings all state) parted is) came in
      (with_facts config openings first between begun.played, runs_are_not_worn config openings first between begun))
      (starts_serve config openings tenant is.played.starts low) is.played.runs

  pub every_run_is_durably_linearizable : EveryRunIsDurablyLinearizable
  every_run_is_durably_linearizable config openings events state tenant is low =
      let all = through config openings events state tenant is low in
      let world = with_facts config openings events state is.played in
      record {
        store = all.served.store;
        legal = all_legal events_serve restarts_serve config openings tenant state all.served.store all.served.legal;
        replies = sym all.replies;
        never_worn = all.never_worn;
        shown = shown config state tenant all.served.store world low all.served.simulated.refines;
        left = left config state tenant all.served.store world low all.served.simulated.refines;
        quota = all.served.simulated.refines.holds.quota;
      }
