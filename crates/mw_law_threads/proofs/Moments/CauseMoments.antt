-- BUSY and FAULT have a moment of the call: what the request's own steps found was so in the world at a moment between its
-- arrival and its reply. Used by: MomentLaws.
use Rattle.std.specs.Prelude.{ℕ, zero, suc, ◌≡◌, ◌<◌, ◌⊎◌, ◌++◌, ◌&&◌, if◌then◌else◌, not, Bool, true, false, is_none, is_some, List, [], ◌∷◌, slice_get, Option, Some, None}
use Rattle.std.proofs.Common.{refl, sym, ap, subst, ◌∙◌, inl, inr, arith, append-nil, append_assoc}
use Rattle.std.proofs.lemmas.Option.{none-some, option_and_then_some, same_Some}
use Rattle.mw_words.specs.declared.doors.Door.{Door}
use Rattle.mw_words.specs.declared.jobs.Job.{Job}
use Rattle.mw_words.specs.declared.places.At.{At}
use Rattle.mw_words.specs.declared.places.At.TheVariants.{Door as AtDoor}
use Rattle.mw_words.specs.declared.replies.Reply.{Reply}
use Rattle.mw_words.specs.declared.replies.Reply.TheVariants.{Busy as SaysBusy, Fault as SaysFault}
use Rattle.mw_words.specs.declared.statuses.Status.{Status}
use Rattle.mw_words.specs.Patterns.{unpacked_door}
use Rattle.mw_words.proofs.PatternLaws.{door_round}
use Rattle.mw_look.specs.declared.observations.Got.{Got}
use Rattle.mw_look.specs.declared.observations.Got.TheVariants.{Word as Bits, File as GotFile}
use Rattle.mw_look.specs.declared.observations.Observation.{Observation}
use Rattle.mw_look.specs.declared.observations.Observation.TheVariants.{Filed}
use Rattle.mw_look.specs.declared.steps.Call.{Call}
use Rattle.mw_look.specs.declared.steps.Op.{Op}
use Rattle.mw_look.specs.declared.steps.Op.TheVariants.{Load as LoadBits, File as FileCall}
use Rattle.mw_look.specs.Observations.{observation_of}
use Rattle.mw_look.specs.Places.{pack}
use Rattle.mw_look.specs.Steps.{Step, Load, Change, File as FileStep, op_of, place}
use Rattle.mw_actor.specs.declared.points.Slot.{Slot}
use Rattle.mw_actor.specs.ActorState.{ActorState, first}
use Rattle.mw_actor.specs.Asks.{asks}
use Rattle.mw_actor.specs.Program.{goes, replied, tells}
use Rattle.mw_world.specs.declared.outcomes.Outcome.{Outcome}
use Rattle.mw_world.specs.declared.outcomes.Outcome.TheVariants.{Good, Fail}
use Rattle.mw_world.specs.Files.State.{File}
use Rattle.mw_world.specs.declared.config.Config.{Config}
use Rattle.mw_world.specs.declared.step_labels.StepLabel.{StepLabel}
use Rattle.mw_world.specs.declared.step_labels.StepLabel.TheVariants.{Nothing}
use Rattle.mw_world.specs.Claim.Headline.{IsExecution}
use Rattle.mw_world.specs.Definition.Calls.{Called as CallOn, breaks, call as step_call, call_if, called_at, calling, ends, faults, goes_well, is_made, moved_if, skips}
use Rattle.mw_world.specs.Definition.Cells.{AllFit, Cells, read}
use Rattle.mw_world.specs.Definition.Events.{WorldEvent, Come, Step as StepEvent, File as FileEvent, Hand, Restart}
use Rattle.mw_world.specs.Definition.Extent.{has_slot}
use Rattle.mw_world.specs.Definition.Requests.{came, gave}
use Rattle.mw_world.specs.Definition.State.{State, TenantStart, WorkerState, world_at}
use Rattle.mw_world.specs.Definition.Turns.{Made, made_of, may_make, moved, next_attempt, turn, turned}
use Rattle.mw_world.specs.Definition.World.{may_come, run, step}
use Rattle.mw_law_runs.proofs.GuardedEvents.{first_holds, second_holds}
use Rattle.mw_law_store.proofs.Beginnings.{run_last}
use Rattle.mw_law_store.proofs.MarksOfEvents.{come_comes}
use Rattle.mw_law_store.specs.History.{AreNoStarts, IsNoStart}
use Rattle.mw_rule.specs.Calls.CallEnds.{GoesOnFromCall, IsAfterCall}
use Rattle.mw_rule.specs.Evidence.{FoundFault, HasEvidenceAt, HasEvidenceBy}
use Rattle.mw_rule.specs.Rule.{HasEvidenceFor}
use Rattle.mw_rule.specs.Steps.{actor_after, comes, stepped}
use Rattle.mw_rule.specs.Ways.{finds}
use Rattle.mw_rule.specs.declared.views.Finding.{Finding}
use Rattle.mw_rule.specs.declared.views.WorkerToken.{WorkerToken}
use Rattle.mw_rule.proofs.Calls.EventsOfWorkers.{call_leads, come_leads, hand_leads, let_there, turn_leads}
use Rattle.mw_rule.proofs.Calls.WorldAfterCalls.{calls_change_no_more, requests_go_on_from_calls}
use Rattle.mw_rule.proofs.EvidenceInRuns.{evidence_told, first_with_evidence, quota_so}
use Rattle.mw_rule.proofs.EvidenceSteps.{evidence_of, evidence_on}
use Rattle.mw_rule.proofs.FromLaws.{on_with, runs_are_bit_exact, same_or_other, upd_else, upd_here}
use Rattle.mw_rule.proofs.Words.{cells_after, done_is, observation_after, step_tells}
use Rattle.mw_law_threads.proofs.History.OwnHandOuts.{given_next, lack_after, lack_at_once, new_number, number_is_given}
use Rattle.mw_law_threads.specs.Moments.Moments.{HadFault, IsDuring, WasFull}

-- What a step finds.

-- a load that found this door found the one that is there
door_loaded : (asked : Step) (cells : Cells) (tenant bits : ℕ) (door : Door) → AllFit cells → op_of asked ≡ LoadBits (AtDoor tenant) → finds (op_of asked) (pack (place asked) (read cells (place asked))) ≡ Bits bits
    → unpacked_door bits ≡ Some door → cells.doors tenant ≡ door
door_loaded (Load at) cells tenant bits door fit is got unpacked =
    let here : at ≡ AtDoor tenant = cc in
    let its : pack at (read cells at) ≡ bits = cc in
    let packed : pack (AtDoor tenant) (cells.doors tenant) ≡ bits = ap (λ (one : At). pack one (read cells one)) (sym here) ∙ its in
    same_Some (cells.doors tenant) door (sym (door_round (cells.doors tenant) (fit (AtDoor tenant))) ∙ ap unpacked_door packed ∙ unpacked)
door_loaded (Change kind at from to) cells tenant bits door fit is got unpacked = absurd (cc)
door_loaded (FileStep call slot) cells tenant bits door fit is got unpacked = absurd (cc)

-- a step that is no call on a file is told of no file
no_file : (asked : Step) (cells : Cells) (call : Call) (slot : ℕ) → op_of asked ≡ FileCall call slot → finds (op_of asked) (pack (place asked) (read cells (place asked))) ≡ GotFile false → ⊥
no_file (Load at) cells call slot is got = cc
no_file (Change kind at from to) cells call slot is got = cc
no_file (FileStep one other) cells call slot is got = cc

-- How a call ends: it went well, or it left the fault at the tenant's door.
record IsToldOfCall (tenant : ℕ) (made : Made) : Type 0 where
  went_well : Bool
  is : made.observation ≡ Filed went_well
  fault : went_well ≡ false → (made.cells.doors tenant).fault ≡ true

false_true : true ≡ false → ⊥
false_true e = cc

module _ (state : State) (actor : ActorState) (change : Slot) (file : File) where
  of_faults : (after : File) (label : StepLabel) → IsToldOfCall actor.tenant (faults state actor change file after label)
  of_faults after label = record { went_well = false; is = refl; fault = λ e. ap (λ (door : Door). door.fault) (upd_here state.cells.doors actor.tenant _) }

  module _ (call : Call) (status : Status) (place calls : ℕ) (made : Made) where
    by_fault : (test : Bool) → (if test then Some (breaks state actor change file call place) else None) ≡ Some made → IsToldOfCall actor.tenant made
    by_fault true is = subst (IsToldOfCall actor.tenant) (same_Some _ made is) (of_faults _ _)
    by_fault false is = absurd (none-some made is)

    by_ends : (starts had_failed can : Bool) (outcome : Outcome) → ends state actor change file starts had_failed can call status place calls outcome ≡ Some made → IsToldOfCall actor.tenant made
    by_ends false had_failed can Good is = subst (IsToldOfCall actor.tenant) (same_Some (skips state actor change file) made is) (record { went_well = true; is = refl; fault = λ e. absurd (false_true e) })
    by_ends false had_failed can (Fail number) is = absurd (none-some made is)
    by_ends true true can Good is = subst (IsToldOfCall actor.tenant) (same_Some (faults state actor change file file Nothing) made is) (of_faults file Nothing)
    by_ends true true can (Fail number) is = absurd (none-some made is)
    by_ends true false true Good is = subst (IsToldOfCall actor.tenant) (same_Some (goes_well state actor change file call status place) made is) (record { went_well = true; is = refl; fault = λ e. absurd (false_true e) })
    by_ends true false true (Fail number) is = by_fault (is_made calls number) is
    by_ends true false false outcome is = absurd (none-some made is)

-- BUSY and FAULT have their cause at a moment of the call.
abbrev pub HasCause : Config → State → List WorldEvent → ℕ → Reply → Type 0
HasCause config between later tenant SaysBusy = WasFull config between later tenant
HasCause config between later tenant SaysFault = HadFault config between later tenant
HasCause config between later tenant reply = Unit {0}

-- An own step and an own call, taken apart.

test_holds : {A : Type 0} (test : Bool) (one next : A) → (if test then Some one else None) ≡ Some next → test ≡ true
test_holds true one next is = refl
test_holds false one next is = absurd (none-some next is)

record IsOwnStep (config : Config) (state next : State) (worker : ℕ) (actor : ActorState) : Type 0 where
  may : may_make config (asks actor) ≡ true
  leads : moved state worker actor (made_of state worker actor (cells_after (asks actor) state.cells) (observation_after (asks actor) state.cells)) ≡ next

own_step : (config : Config) (state next : State) (worker : ℕ) (actor : ActorState) → turn config state worker (Some actor) ≡ Some next → IsOwnStep config state next worker actor
own_step config state next worker actor is =
    let test = not (is_some (replied actor)) && may_make config (asks actor) in record {
      may = second_holds (not (is_some (replied actor))) (may_make config (asks actor)) (test_holds test (turned state worker actor) next is);
      leads = sym (done_is (asks actor) state.cells (λ cells observation. moved state worker actor (made_of state worker actor cells observation))) ∙ let_there test (turned state worker actor) next is;
    }

record IsOwnCall (config : Config) (state next : State) (worker : ℕ) (actor : ActorState) (outcome : Outcome) : Type 0 where
  called : CallOn
  comes_to : called_at actor.point ≡ Some called
  made : Made
  is : calling config state actor called outcome ≡ Some made
  leads : moved state worker actor made ≡ next

module _ (config : Config) (state next : State) (worker : ℕ) (actor : ActorState) (outcome : Outcome) where
  in_slot : (test : Bool) (one : Option State) → (if test then one else None) ≡ Some next → one ≡ Some next
  in_slot true one is = is
  in_slot false one is = absurd (none-some next is)

  by_made : (called : CallOn) → called_at actor.point ≡ Some called → (found : Option Made) → calling config state actor called outcome ≡ found → moved_if state worker actor found ≡ Some next
      → IsOwnCall config state next worker actor outcome
  by_made called at None is goes = absurd (none-some next goes)
  by_made called at (Some made) is goes = record { called = called; comes_to = at; made = made; is = is; leads = same_Some (moved state worker actor made) next goes }

  by_called : (found : Option CallOn) → called_at actor.point ≡ found → call_if config state worker actor found outcome ≡ Some next → IsOwnCall config state next worker actor outcome
  by_called None at goes = absurd (none-some next goes)
  by_called (Some called) at goes =
      by_made called at (calling config state actor called outcome) refl
      (in_slot (has_slot config called.change.slot) (moved_if state worker actor (calling config state actor called outcome)) goes)

-- A request can come only to an idle worker.
some_none : (actor : ActorState) → is_none (Some actor) ≡ true → ⊥
some_none actor e = cc

idle_come : (config : Config) (state : State) (worker tenant : ℕ) (job : Job) (actor : ActorState) → may_come config state worker tenant job ≡ true → (state.worker_states worker).actor ≡ Some actor → ⊥
idle_come config state worker tenant job actor may sits =
    some_none actor (ap is_none (sym sits) ∙ second_holds _ (is_none (state.worker_states worker).actor) (first_holds _ _ may))

-- what is in a list with one more is in the list, or is that one
got_either : {A : Type 0} (all : List A) (last : A) (place : ℕ) (it : A) → slice_get (all ++ last ∷ []) place ≡ Some it → (slice_get all place ≡ Some it) ⊎ (last ≡ it)
got_either [] last zero it at = inr (same_Some last it at)
got_either [] last (suc place) it at = absurd (none-some it at)
got_either (x ∷ all) last zero it at = inl at
got_either (x ∷ all) last (suc place) it at = got_either all last place it at

-- A call: a request came to this worker, and events follow that are not starts.
module _ (config : Config) (openings : ℕ → TenantStart) (call : List WorldEvent) (between : State) (later : List WorldEvent) (played : IsExecution config openings call between) (worker tenant quota : ℕ) where
  -- At a moment of the call the tenant's door was this, and its quota was the request's.
  record DoorWas (door : Door) : Type 0 where
    moment : State
    during : IsDuring config between later moment
    is : moment.cells.doors tenant ≡ door
    its_quota : (moment.tenant_states tenant).quota ≡ quota

  -- What was found was so at a moment of the call.
  record WasSo (found : List Finding) : Type 0 where
    doors : (index bits : ℕ) (door : Door) → slice_get found index ≡ Some (record { op = LoadBits (AtDoor tenant); got = Bits bits }) → unpacked_door bits ≡ Some door → DoorWas door
    faults : (index slot : ℕ) (called : Call) → slice_get found index ≡ Some (record { op = FileCall called slot; got = GotFile false }) → HadFault config between later tenant

  none_so : WasSo []
  none_so = record { doors = λ index bits door at. absurd (none-some _ at); faults = λ index slot called at. absurd (none-some _ at) }

  more_so : (found : List Finding) (op : Op) (got : Got) → WasSo found → ((bits : ℕ) (door : Door) → op ≡ LoadBits (AtDoor tenant) → got ≡ Bits bits → unpacked_door bits ≡ Some door → DoorWas door)
      → ((slot : ℕ) (called : Call) → op ≡ FileCall called slot → got ≡ GotFile false → HadFault config between later tenant) → WasSo (found ++ record { op = op; got = got } ∷ [])
  more_so found op got so door_so fault_so = record {
    doors = λ index bits door at is. elim (got_either found (record { op = op; got = got }) index _ at) [
      | inl before ↦ so.doors index bits door before is
      | inr here ↦ door_so bits door (ap (λ (one : Finding). one.op) here) (ap (λ (one : Finding). one.got) here) is
    ];
    faults = λ index slot called at. elim (got_either found (record { op = op; got = got }) index _ at) [
      | inl before ↦ so.faults index slot called before
      | inr here ↦ fault_so slot called (ap (λ (one : Finding). one.op) here) (ap (λ (one : Finding). one.got) here)
    ];
  }

  -- The worker has this request, of which the token tells.
  record Carries (state : State) (token : WorkerToken) (actor : ActorState) : Type 0 where
    sits : (state.worker_states worker).actor ≡ Some actor
    attempt : (state.worker_states worker).attempt ≡ token.attempt
    its : actor.tenant ≡ tenant
    own_quota : actor.quota ≡ quota
    whole : token.is_whole ≡ true
    evidence : HasEvidenceFor token (Some actor)
    so : WasSo token.found

  -- if the worker has a request in this world, some token tells of it
  abbrev IsTold : State → Type 0
  IsTold state = (actor : ActorState) → (state.worker_states worker).actor ≡ Some actor → (token : WorkerToken) × Carries state token actor

  -- a world in which the worker has this request, of which this token tells
  told_of : (next : State) (after : ActorState) (now : WorkerToken) → Carries next now after → IsTold next
  told_of next after now has one there = (now, subst (Carries next now) (same_Some after one (sym has.sits ∙ there)) has)

  -- One event of the call.
  module _ (done rest : List WorldEvent) (state : State) (event : WorldEvent) (parted : later ≡ done ++ event ∷ rest) (reached : run config between done ≡ Some state) (played_now : IsExecution config openings (call ++ done) state)
      (token : WorkerToken) (actor : ActorState) (carries : Carries state token actor) where
    -- the world before it and the one after it are moments of the call
    before_it : IsDuring config between later state
    before_it = record { first = done; rest = event ∷ rest; parted = parted; reached = reached }

    after_it : (next : State) → step config state event ≡ Some next → IsDuring config between later next
    after_it next is = record {
      first = done ++ event ∷ [];
      rest = rest;
      parted = parted ∙ sym (append_assoc done (event ∷ []) rest);
      reached = run_last config between state next done event reached is;
    }

    -- another worker's event leaves the worker's state
    still : (next : State) → next.worker_states worker ≡ state.worker_states worker → IsTold next
    still next same after there =
        let it : actor ≡ after = same_Some actor after (sym carries.sits ∙ (sym (ap (λ (one : WorkerState). one.actor) same) ∙ there)) in (
          token,
          subst (Carries next token) it (record {
            sits = ap (λ (one : WorkerState). one.actor) same ∙ carries.sits;
            attempt = ap (λ (one : WorkerState). one.attempt) same ∙ carries.attempt;
            its = carries.its;
            own_quota = carries.own_quota;
            whole = carries.whole;
            evidence = carries.evidence;
            so = carries.so;
          }),
        )

    quota_then : (state.tenant_states tenant).quota ≡ quota
    quota_then = ap (λ (n : ℕ). (state.tenant_states n).quota) (sym carries.its) ∙ (sym (quota_so config openings (call ++ done) state played_now worker actor carries.sits) ∙ carries.own_quota)

    -- the worker's own step
    by_step : (next : State) → IsOwnStep config state next worker actor → IsTold next
    by_step next own = let here = upd_here state.worker_states worker _ in subst IsTold own.leads (told_of after_step next_actor next_token (record {
      sits = ap (λ (one : WorkerState). one.actor) here ∙ (λ i. Some (tells actor (sym told i) (next_attempt actor.point (carries.attempt i))));
      attempt = ap (λ (one : WorkerState). one.attempt) here ∙ ap (next_attempt actor.point) carries.attempt;
      its = carries.its;
      own_quota = carries.own_quota;
      whole = carries.whole;
      evidence = evidence_told config openings (call ++ done) state played_now worker actor carries.sits token got told carries.attempt carries.evidence;
      so = more_so token.found (op_of (asks actor)) got carries.so
          (λ bits door op is unpacked. record { moment = state; during = before_it; is = door_loaded (asks actor) state.cells tenant bits door fit op is unpacked; its_quota = quota_then })
          (λ slot called op is. absurd (no_file (asks actor) state.cells called slot op is));
    }))
      where
        fit : AllFit state.cells
        fit = (runs_are_bit_exact config openings (call ++ done) state played_now).fit

        got : Got
        got = finds (op_of (asks actor)) (pack (place (asks actor)) (read state.cells (place (asks actor))))

        told : observation_of (place (asks actor)) got ≡ observation_after (asks actor) state.cells
        told = step_tells config (asks actor) state.cells own.may (fit (place (asks actor)))

        after_step : State
        after_step = moved state worker actor (made_of state worker actor (cells_after (asks actor) state.cells) (observation_after (asks actor) state.cells))

        next_actor : ActorState
        next_actor = actor_after got token.attempt actor

        next_token : WorkerToken
        next_token = stepped got token actor

    -- the worker's own call on its tenant's file
    by_call : (next : State) (outcome : Outcome) → step config state event ≡ Some next → IsOwnCall config state next worker actor outcome → IsTold next
    by_call next outcome is own = subst IsTold own.leads (told_of after_call next_actor next_token (record {
      sits = ap (λ (one : WorkerState). one.actor) change.worker_state ∙ (λ i. Some (tells actor (told.is i) (carries.attempt i)));
      attempt = ap (λ (one : WorkerState). one.attempt) change.worker_state ∙ carries.attempt;
      its = carries.its;
      own_quota = carries.own_quota;
      whole = carries.whole;
      evidence = evidence;
      so = more_so token.found (op_of (asks actor)) (GotFile told.went_well) carries.so
          (λ bits door op got unpacked. absurd (no_load (sym (ap op_of on.asked) ∙ op)))
          (λ slot called op got. record { moment = after_call; during = subst (IsDuring config between later) (sym own.leads) (after_it next is); fault = fault got });
    }))
      where
        after_call : State
        after_call = moved state worker actor own.made

        change : IsAfterCall state worker actor own.made after_call
        change = calls_change_no_more config state worker actor own.called outcome own.made own.comes_to own.is

        on : GoesOnFromCall actor own.called
        on = requests_go_on_from_calls actor own.called own.comes_to

        told : IsToldOfCall actor.tenant own.made
        told = by_ends state actor own.called.change _ own.called.call _ _ _ own.made _ _ _ outcome own.is

        more : List Finding
        more = record { op = op_of (asks actor); got = GotFile told.went_well } ∷ []

        next_actor : ActorState
        next_actor = tells actor (Filed told.went_well) token.attempt

        next_token : WorkerToken
        next_token = record token { found = token.found ++ more }

        no_load : FileCall own.called.call own.called.change.slot ≡ LoadBits (AtDoor tenant) → ⊥
        no_load e = cc

        fault : GotFile told.went_well ≡ GotFile false → (after_call.cells.doors tenant).fault ≡ true
        fault got =
            let failed : told.went_well ≡ false = cc in
            ap (λ (n : ℕ). (own.made.cells.doors n).fault) (sym carries.its) ∙ told.fault failed

        evidence : HasEvidenceFor next_token (Some next_actor)
        evidence whole =
            subst (λ (observation : Observation). HasEvidenceAt (token.found ++ more) token.attempt actor.tenant actor.quota (goes actor token.attempt actor.point observation))
            (ap (λ (asked : Step). observation_of (place asked) (GotFile told.went_well)) on.asked)
            (evidence_on token.found actor (GotFile told.went_well) token.attempt token.attempt actor.point (omega arith)
            (λ look is. absurd (none-some own.called (sym (ap called_at is) ∙ own.comes_to)))
            (λ door is its. absurd (none-some own.called (sym (ap called_at is) ∙ own.comes_to))) (carries.evidence whole))

  by_event : (done rest : List WorldEvent) (state next : State) (event : WorldEvent) → later ≡ done ++ event ∷ rest → run config between done ≡ Some state → IsExecution config openings (call ++ done) state → IsNoStart event
      → step config state event ≡ Some next → (token : WorkerToken) (actor : ActorState) → Carries state token actor → IsTold next
  by_event done rest state next (Come by other job) parted reached now no_start is token actor carries =
      come_comes IsTold config state next by other job
      (λ may. still done rest state (Come by other job) parted reached now token actor carries (came config state by other job)
      (upd_else state.worker_states by worker _ (λ same. idle_come config state by other job actor may (ap (λ (n : ℕ). (state.worker_states n).actor) (sym same) ∙ carries.sits)))) is
  by_event done rest state next (StepEvent by) parted reached now no_start is token actor carries = elim (same_or_other worker by) [
    | inl same ↦ by_step done rest state (StepEvent by) parted reached now token actor carries next
        (own_step config state next worker actor (ap (turn config state worker) (sym carries.sits) ∙ (ap (λ (n : ℕ). turn config state n (state.worker_states n).actor) same ∙ is)))
    | inr apart ↦ turn_leads config state next by IsTold
        (λ one cells observation sits. still done rest state (StepEvent by) parted reached now token actor carries (moved state by one (made_of state by one cells observation)) (upd_else state.worker_states by worker _ apart))
        (state.worker_states by).actor refl is
  ]
  by_event done rest state next (FileEvent by outcome) parted reached now no_start is token actor carries = elim (same_or_other worker by) [
    | inl same ↦ by_call done rest state (FileEvent by outcome) parted reached now token actor carries next outcome is
        (by_called config state next worker actor outcome (called_at actor.point) refl
        (ap (λ (one : Option ActorState). step_call config state worker one outcome) (sym carries.sits) ∙ (ap (λ (n : ℕ). step_call config state n (state.worker_states n).actor outcome) same ∙ is)))
    | inr apart ↦ call_leads config state next by IsTold
        (λ one made sits. still done rest state (FileEvent by outcome) parted reached now token actor carries (moved state by one made) (upd_else state.worker_states by worker _ apart)) outcome (state.worker_states by).actor refl is
  ]
  by_event done rest state next (Hand by) parted reached now no_start is token actor carries = elim (same_or_other worker by) [
    | inl same ↦ hand_leads config state next by IsTold
        (λ one sits after there. absurd (none-some after (sym (ap (λ (n : ℕ). ((gave state by one.tenant).worker_states n).actor) same ∙ ap (λ (s : WorkerState). s.actor) (upd_here state.worker_states by _)) ∙ there)))
        (state.worker_states by).actor refl is
    | inr apart ↦ hand_leads config state next by IsTold
        (λ one sits. still done rest state (Hand by) parted reached now token actor carries (gave state by one.tenant) (upd_else state.worker_states by worker _ apart)) (state.worker_states by).actor refl is
  ]
  by_event done rest state next (Restart founds) parted reached now no_start is token actor carries = absurd no_start

  -- The worker has the tenant's request of this number.
  record HasIt (n : ℕ) (state : State) : Type 0 where
    actor : ActorState
    sits : (state.worker_states worker).actor ≡ Some actor
    its : actor.tenant ≡ tenant
    number : (state.worker_states worker).request ≡ n

  -- if it has the request after an event, it had it before, since the number was given
  had_before : (n : ℕ) (state next : State) (event : WorldEvent) → IsNoStart event → step config state event ≡ Some next → n < (state.tenant_states tenant).asked → HasIt n next → HasIt n state
  had_before n state next event no_start is given has = by_worker (state.worker_states worker).actor refl
    where
      by_worker : (found : Option ActorState) → (state.worker_states worker).actor ≡ found → HasIt n state
      by_worker None idle =
          let fresh = new_number config state next worker idle event no_start is has.actor has.sits in
          let asked = ap (λ (t : ℕ). (state.tenant_states t).asked) has.its in
          let number = has.number in absurd (omega (arith, fresh, asked, number, given))
      by_worker (Some before) sits =
          let on = on_with config state next worker before sits event no_start is has.actor has.sits in record { actor = before; sits = sits; its = sym on.tenant ∙ has.its; number = sym on.number ∙ has.number }

  played_more : (before : List WorldEvent) (state next : State) (event : WorldEvent) → IsExecution config openings before state → step config state event ≡ Some next → IsExecution config openings (before ++ event ∷ []) next
  played_more before state next event now is = record { made = now.made; starts = now.starts; runs = run_last config (world_at config openings) state next before event now.runs is }

  had : (n : ℕ) (before rest : List WorldEvent) (state last : State) → IsExecution config openings before state → AreNoStarts rest → run config state rest ≡ Some last → n < (state.tenant_states tenant).asked → HasIt n last
      → HasIt n state
  had n before [] state last now none goes given has = subst (HasIt n) (sym (same_Some state last goes)) has
  had n before (event ∷ rest) state last now none goes given has =
      option_and_then_some (λ one. run config one rest) (step config state event) last goes (λ next at on.
      let later_on = played_more before state next event now at in
      had_before n state next event none.0 at given
      (had n (before ++ event ∷ []) rest next last later_on none.1 on (given_next config openings tenant n worker before event state next now later_on given) has))

  -- so at the end a token tells of it
  told_at_end : (n : ℕ) (rest done : List WorldEvent) (state last : State) → later ≡ done ++ rest → run config between done ≡ Some state → IsExecution config openings (call ++ done) state → AreNoStarts rest → run config state rest ≡ Some last
      → n < (state.tenant_states tenant).asked → HasIt n last → (token : WorkerToken) (actor : ActorState) → Carries state token actor → IsTold last
  told_at_end n [] done state last parted reached now none goes given has token actor carries = subst IsTold (same_Some state last goes) (told_of state actor token carries)
  told_at_end n (event ∷ rest) done state last parted reached now none goes given has token actor carries =
      option_and_then_some (λ one. run config one rest) (step config state event) last goes (λ next at on.
      let first_on = played_more (call ++ done) state next event now at in
      let later_on : IsExecution config openings (call ++ (done ++ event ∷ [])) next = subst (λ (events : List WorldEvent). IsExecution config openings events next) (append_assoc call done (event ∷ [])) first_on in
      let given_on = given_next config openings tenant n worker (call ++ done) event state next now first_on given in
      let there = had n (call ++ (done ++ event ∷ [])) rest next last later_on none.1 on given_on has in
      let it = by_event done rest state next event parted reached now none.0 at token actor carries there.actor there.sits in
      told_at_end n rest (done ++ event ∷ []) next last (parted ∙ sym (append_assoc done (event ∷ []) rest)) (run_last config between state next done event reached at) later_on none.1 on given_on has it.0 there.actor it.1)

  -- when the request comes, a token tells of it that found nothing
  begins : (job : Job) → (between.worker_states worker).actor ≡ Some (first worker tenant quota config.pool job)
      → Carries between (comes (first worker tenant quota config.pool job) 0 0 (record { worker = worker; actor = None; attempt = (between.worker_states worker).attempt; made = []; request = 0; begun = 0; found = []; is_whole = true }))
      (first worker tenant quota config.pool job)
  begins job sits = record {
    sits = sits;
    attempt = refl;
    its = refl;
    own_quota = refl;
    whole = refl;
    evidence = first_with_evidence (record { worker = worker; actor = None; attempt = (between.worker_states worker).attempt; made = []; request = 0; begun = 0; found = []; is_whole = true }) 0 0 tenant quota config.pool job;
    so = none_so;
  }

  cause : (found : List Finding) (attempt : ℕ) → WasSo found → (reply : Reply) → HasEvidenceBy found attempt tenant quota reply → HasCause config between later tenant reply
  cause found attempt so SaysBusy busy =
      let was = so.doors busy.there.place busy.there.bits busy.door busy.there.is busy.there.unpacked in
      record {
        moment = was.moment;
        during = was.during;
        full = ap (λ (door : Door). door.used) was.is ∙ (busy.full ∙ sym was.its_quota);
        no_fault = ap (λ (door : Door). door.fault) was.is ∙ busy.no_fault;
      }
  cause found attempt so SaysFault evidence = elim evidence [
    | inl found_it ↦ of_door found_it
    | inr met ↦ so.faults met.place met.slot met.call met.is
  ]
    where
      of_door : FoundFault found tenant → HadFault config between later tenant
      of_door it =
          let was = so.doors it.there.place it.there.bits it.door it.there.is it.there.unpacked in record { moment = was.moment; during = was.during; fault = ap (λ (door : Door). door.fault) was.is ∙ it.fault }
  cause found attempt so reply evidence = tt

-- The worker that has the reply has had the request since it came.
pub has_cause : (config : Config) (openings : ℕ → TenantStart) (events later : List WorldEvent) (state between last : State) (worker tenant by : ℕ) (job : Job) (actor : ActorState) (reply : Reply)
    → IsExecution config openings events state → step config state (Come worker tenant job) ≡ Some between → AreNoStarts later → run config between later ≡ Some last
    → (last.worker_states by).actor ≡ Some actor → actor.tenant ≡ tenant → (last.worker_states by).request ≡ (between.worker_states worker).request → replied actor ≡ Some reply
    → HasCause config between later tenant reply
has_cause config openings events later state between last worker tenant by job actor reply played comes none goes sits its same stands =
    cause config openings call between later played_between worker tenant quota carried.0.found carried.0.attempt carried.1.so reply
    (evidence_of carried.0.found carried.0.attempt tenant quota actor.point reply stands
    (subst (λ (n : ℕ). HasEvidenceAt carried.0.found carried.0.attempt tenant n actor.point) carried.1.own_quota
    (subst (λ (n : ℕ). HasEvidenceAt carried.0.found carried.0.attempt n actor.quota actor.point) carried.1.its (carried.1.evidence carried.1.whole))))
  where
    call : List WorldEvent
    call = events ++ Come worker tenant job ∷ []

    n : ℕ
    n = (between.worker_states worker).request

    quota : ℕ
    quota = (state.tenant_states tenant).quota

    played_between : IsExecution config openings call between
    played_between = record { made = played.made; starts = played.starts; runs = run_last config (world_at config openings) state between events (Come worker tenant job) played.runs comes }

    came_so : came config state worker tenant job ≡ between
    came_so = come_leads config state between worker tenant job comes

    begun : (between.worker_states worker).actor ≡ Some (first worker tenant quota config.pool job)
    begun = subst (λ (one : State). (one.worker_states worker).actor ≡ Some (first worker tenant quota config.pool job)) came_so (ap (λ (one : WorkerState). one.actor) (upd_here state.worker_states worker _))

    number : n ≡ (state.tenant_states tenant).asked
    number = subst (λ (one : State). (one.worker_states worker).request ≡ (state.tenant_states tenant).asked) came_so (ap (λ (one : WorkerState). one.request) (upd_here state.worker_states worker _))

    given : n < (between.tenant_states tenant).asked
    given = number_is_given config openings call between worker (first worker tenant quota config.pool job) played_between begun

    own : by ≡ worker
    own = elim (same_or_other by worker) [
      | inl one ↦ one
      | inr apart ↦ absurd (lack_after config openings tenant n worker call later between last played_between none goes given (lack_at_once config openings tenant n worker events state between job played comes number) by actor apart sits its same)
    ]

    at_worker : (last.worker_states worker).actor ≡ Some actor
    at_worker = subst (λ (k : ℕ). (last.worker_states k).actor ≡ Some actor) own sits

    its_number : (last.worker_states worker).request ≡ n
    its_number = ap (λ (k : ℕ). (last.worker_states k).request) (sym own) ∙ same

    played_first : IsExecution config openings (call ++ []) between
    played_first = subst (λ (all : List WorldEvent). IsExecution config openings all between) (sym (append-nil call)) played_between

    carried : (token : WorkerToken) × Carries config openings call between later played_between worker tenant quota last token actor
    carried =
        told_at_end config openings call between later played_between worker tenant quota n later [] between last refl refl played_first none goes given
        (record { actor = actor; sits = at_worker; its = its; number = its_number }) _ _ (begins config openings call between later played_between worker tenant quota job begun) actor at_worker
