-- After an event that happened, the simulated world represents the run with one event more; after a refused one, the same
-- run.
-- Used by: World::step, World::run.
use Rattle.std.specs.Prelude.{ℕ, ◌≡◌, ◌<◌, ◌==◌, ◌&&◌, ◌+◌, Bool, if◌then◌else◌, List, [], ◌∷◌, ◌++◌, length, take, slice_get, Some, None, Result, Ok, Err}
use Rattle.std.specs.Option.{option_and_then}
use Rattle.std.proofs.Common.{refl, sym, ap, subst, ◌∙◌, inl, inr, arith, get_or, append_assoc}
use Rattle.std.proofs.lemmas.Bool.Decides.{nat_tests}
use Rattle.std.proofs.lemmas.List.{append-nil, take_more}
use Rattle.std.proofs.lemmas.Option.{slice_get_cases, slice_get_read}
use Rattle.mw_world.specs.declared.config.Config.{Config}
use Rattle.mw_world.specs.declared.events.Event.{Event}
use Rattle.mw_world.specs.declared.events.Event.TheVariants.{Come as IsCome, Step as IsStep, File as IsFile, Hand as IsHand, Restart as IsRestart}
use Rattle.mw_world.specs.declared.events.Stop.{Stop}
use Rattle.mw_world.specs.Definition.Events.{WorldEvent, Come, Step, File, Hand, Restart}
use Rattle.mw_world.specs.Definition.Restarts.{may_all_be_found, quotas_then, restarted}
use Rattle.mw_world.proofs.RunsExtend.{run-extends}
use Rattle.mw_world.specs.Definition.State.{State, may_be_quotas, new_world, places_of, tenants_of}
use Rattle.mw_world.specs.Definition.World.{come, run, step}
use Rattle.mw_simulator.specs.declared.faults.WorldFault.{WorldFault}
use Rattle.mw_simulator.specs.declared.faults.WorldFault.TheVariants.{NotEnabled, LastNumber, Memory}
use Rattle.mw_simulator.specs.declared.world.World.{World}
use Rattle.mw_simulator.specs.Events.{AllStep, AllTell, AreTold, Cannot, CannotRestart, ComesLast, GoesOn, Happens, IsRefused, IsAfterRun, IsAfterEvent, Started, Steps, StopsAt, Tells}
use Rattle.mw_simulator.specs.Representation.{IsLast, Leads, Represents}

-- An event in memory has happened: the event of the world that it stands for, and the step that this makes.
record HasHappened (config : Config) (new : World) (state : State) (event : Event) : Type 0 where
  world_event : WorldEvent
  tells : Tells event world_event
  leads : Leads (step config state world_event) new

counted : {A : Type 0} (m n : ℕ) (b d : Bool) (x y : A) → (if (m == n) && b && d then Some x else None) ≡ Some y → m ≡ n
counted m n b d x y e = grind (arith, nat_tests, e)

-- what was found of the tenants' files is what the stops say
all_told : (old new : World) (state : State) (stops : List Stop) → new.config ≡ old.config → (started : Started old new state stops) → AreTold stops started.founds
all_told old new state stops same started tenant lt = elim ((slice_get_cases old.tenant_states.items tenant).1) [
  | inl w ↦ elim ((slice_get_cases new.tenant_states.items tenant).1) [
    | inl v ↦ let found = (started.found tenant w.0 v.0 w.2 v.2).found_so in (found.same_call, found.same_failure, found.same_quota)
    | inr past ↦ absurd (omega (arith, past.0, lt, count, new.tenants, ap tenants_of same))
  ]
  | inr past ↦ absurd (omega (arith, past.0, lt, count, old.tenants))
]
  where
    count : length started.founds ≡ tenants_of old.config
    count = counted (length started.founds) (tenants_of old.config) (may_all_be_found old.config state started.founds (tenants_of old.config))
        (may_be_quotas old.config (quotas_then state started.founds) (places_of state)) (restarted old.config state started.founds) started.leads.state started.leads.is

has_happened : (old new : World) (state : State) (event : Event) (x : Unit {0}) → new.config ≡ old.config → Happens old new state event (Ok x) → HasHappened old.config new state event
has_happened old new state (IsCome worker tenant job) x same comes = record { world_event = Come worker tenant job; tells = refl; leads = comes.1 }
has_happened old new state (IsStep worker) x same leads = record { world_event = Step worker; tells = refl; leads = leads }
has_happened old new state (IsFile worker outcome) x same leads = record { world_event = File worker outcome; tells = refl; leads = leads }
has_happened old new state (IsHand worker) x same leads = record { world_event = Hand worker; tells = refl; leads = leads }
has_happened old new state (IsRestart stops) x same started =
    record { world_event = Restart started.founds; tells = (started.founds, refl, all_told old new state stops.items same started); leads = started.leads }

all_tell_more : (events : List Event) (world_events : List WorldEvent) (event : Event) (world_event : WorldEvent) → AllTell events world_events → Tells event world_event
    → AllTell (events ++ event ∷ []) (world_events ++ world_event ∷ [])
all_tell_more [] [] event world_event all tells = (tells, tt)
all_tell_more [] (first ∷ world_events) event world_event all tells = absurd all
all_tell_more (first ∷ events) [] event world_event all tells = absurd all
all_tell_more (first ∷ events) (one ∷ world_events) event world_event all tells = (all.0, all_tell_more events world_events event world_event all.1 tells)

-- after one event more, the new world is after the longer run
stands_more : (old new : World) (happened more : List WorldEvent) (world_event : WorldEvent) → new.config ≡ old.config → (stands : IsAfterRun old (happened ++ more))
    → Leads (step old.config stands.state world_event) new → IsAfterRun new (happened ++ (more ++ world_event ∷ []))
stands_more old new happened more world_event same stands leads = record {
  state = leads.state;
  runs = subst (λ config. run config (new_world config) (happened ++ (more ++ world_event ∷ [])) ≡ Some leads.state) (sym same) runs_on;
  shows = leads.shows;
}
  where
    runs_on : run old.config (new_world old.config) (happened ++ (more ++ world_event ∷ [])) ≡ Some leads.state
    runs_on =
        ap (λ all. run old.config (new_world old.config) all) (sym (append_assoc happened more (world_event ∷ [])))
        ∙ run-extends old.config (new_world old.config) (happened ++ more) world_event
        ∙ ap (λ o. option_and_then (λ next. step old.config next world_event) o) stands.runs
        ∙ leads.is

-- no event has happened since: the list of further events is empty
pub goes_nowhere : (world : World) (happened : List WorldEvent) → IsAfterRun world happened → GoesOn world happened []
goes_nowhere world happened stands = record { more = []; tell = tt; stands = subst (λ all. IsAfterRun world all) (sym (append-nil happened)) stands }

-- one event more has happened
pub goes_on_more : (old new : World) (happened : List WorldEvent) (events : List Event) (event : Event) (x : Unit {0}) → new.config ≡ old.config
    → ((state : State) → Represents old state → Happens old new state event (Ok x)) → GoesOn old happened events → GoesOn new happened (events ++ event ∷ [])
goes_on_more old new happened events event x same happens goes =
    let now = has_happened old new goes.stands.state event x same (happens goes.stands.state goes.stands.shows) in
    record {
      more = goes.more ++ now.world_event ∷ [];
      tell = all_tell_more events goes.more event now.world_event goes.tell now.tells;
      stands = stands_more old new happened goes.more now.world_event same goes.stands now.leads;
    }

-- after a refused event, the world in memory represents the same world
shown_still : (old new : World) (state : State) (event : Event) (fault : WorldFault) → Represents old state → Happens old new state event (Err fault) → Represents new state
shown_still old new state (IsCome worker tenant job) NotEnabled shows ends = ends.1
shown_still old new state (IsCome worker tenant job) LastNumber shows ends = ends.1
shown_still old new state (IsCome worker tenant job) Memory shows ends = ends.1
shown_still old new state (IsStep worker) NotEnabled shows ends = ends.1
shown_still old new state (IsStep worker) LastNumber shows ends = absurd ends
shown_still old new state (IsStep worker) Memory shows ends = ends
shown_still old new state (IsFile worker outcome) NotEnabled shows ends = ends.1
shown_still old new state (IsFile worker outcome) LastNumber shows ends = absurd ends
shown_still old new state (IsFile worker outcome) Memory shows ends = ends
shown_still old new state (IsHand worker) NotEnabled shows ends = ends.1
shown_still old new state (IsHand worker) LastNumber shows ends = absurd ends
shown_still old new state (IsHand worker) Memory shows ends = ends
shown_still old new state (IsRestart stops) NotEnabled shows ends = subst (λ world. Represents world state) (sym ends.0) shows
shown_still old new state (IsRestart stops) LastNumber shows ends = absurd ends
shown_still old new state (IsRestart stops) Memory shows ends = subst (λ world. Represents world state) (sym ends) shows

-- what can't happen in a world of one configuration can't happen in another of the same configuration
none_told : (old new : World) (state : State) (world_event told : WorldEvent) → new.config ≡ old.config → step old.config state told ≡ None → world_event ≡ told
    → step new.config state world_event ≡ None
none_told old new state world_event told same none is =
    subst (λ config. step config state world_event ≡ None) (sym same) (ap (λ one. step old.config state one) is ∙ none)

-- a request with the last number has it in another world of the same configuration
comes_last : (old new : World) (state : State) (event : Event) → new.config ≡ old.config → Happens old new state event (Err LastNumber) → ComesLast new state event
comes_last old new state (IsCome worker tenant job) same ends = subst (λ config. IsLast state tenant (come config state worker tenant job)) (sym same) ends.0
comes_last old new state (IsStep worker) same ends = absurd ends
comes_last old new state (IsFile worker outcome) same ends = absurd ends
comes_last old new state (IsHand worker) same ends = absurd ends
comes_last old new state (IsRestart stops) same ends = absurd ends

cannot : (old new : World) (state : State) (event : Event) → new.config ≡ old.config → Happens old new state event (Err NotEnabled) → Cannot new state event
cannot old new state (IsCome worker tenant job) same ends = λ world_event is. none_told old new state world_event (Come worker tenant job) same ends.0 is
cannot old new state (IsStep worker) same ends = λ world_event is. none_told old new state world_event (Step worker) same ends.0 is
cannot old new state (IsFile worker outcome) same ends = λ world_event is. none_told old new state world_event (File worker outcome) same ends.0 is
cannot old new state (IsHand worker) same ends = λ world_event is. none_told old new state world_event (Hand worker) same ends.0 is
cannot old new state (IsRestart stops) same ends = subst (λ world. CannotRestart world state stops.items) (sym ends.0) ends.1

refused : (old new : World) (happened : List WorldEvent) (event : Event) (fault : WorldFault) (state : State) → new.config ≡ old.config → Represents old state
    → Happens old new state event (Err fault) → IsRefused new happened (Some event) fault
refused old new happened event Memory state same shows ends = tt
refused old new happened event LastNumber state same shows ends =
    (state, shown_still old new state event LastNumber shows ends, comes_last old new state event same ends)
refused old new happened event NotEnabled state same shows ends =
    (state, shown_still old new state event NotEnabled shows ends, cannot old new state event same ends)

-- the events before the refused one have happened
pub stops_at : (old new : World) (happened : List WorldEvent) (events : List Event) (index : ℕ) (event : Event) (fault : WorldFault) → new.config ≡ old.config
    → slice_get events index ≡ Some event → index < length events
    → ((state : State) → Represents old state → Happens old new state event (Err fault)) → GoesOn old happened (take index events) → StopsAt new happened events index fault
stops_at old new happened events index event fault same here lt happens goes = record {
  there = lt;
  goes = record { more = goes.more; tell = goes.tell; stands = stands };
  refused = subst (λ o. IsRefused new happened o fault) (sym here) (refused old new happened event fault goes.stands.state same goes.stands.shows ends);
}
  where
    ends : Happens old new goes.stands.state event (Err fault)
    ends = happens goes.stands.state goes.stands.shows

    stands : IsAfterRun new (happened ++ goes.more)
    stands = record {
      state = goes.stands.state;
      runs = subst (λ config. run config (new_world config) (happened ++ goes.more) ≡ Some goes.stands.state) (sym same) goes.stands.runs;
      shows = shown_still old new goes.stands.state event fault goes.stands.shows ends;
    }

-- After an event, the world in memory represents the run with this event, or without it if it was refused.
pub stands_after : (old new : World) (happened : List WorldEvent) (event : Event) (result : Result (Unit {0}) WorldFault) → new.config ≡ old.config
    → ((state : State) → Represents old state → Happens old new state event result) → IsAfterRun old happened → IsAfterEvent new happened event result
stands_after old new happened event (Ok x) same happens stands = goes_on_more old new happened [] event x same happens (goes_nowhere old happened stands)
stands_after old new happened event (Err fault) same happens stands = record {
  state = stands.state;
  runs = subst (λ config. run config (new_world config) happened ≡ Some stands.state) (sym same) stands.runs;
  shows = shown_still old new stands.state event fault stands.shows (happens stands.state stands.shows);
}

-- the events before an index and the event there are the events before the next index: so for a run
pub one_event_more : (world : World) (happened : List WorldEvent) (events : List Event) (index : ℕ) (event : Event) → index < length events → event ≡ get_or events index event
    → GoesOn world happened (take index events ++ event ∷ []) → GoesOn world happened (take (index + 1) events)
one_event_more world happened events index event lt is goes =
    subst (λ all. GoesOn world happened all) (ap (λ e. take index events ++ e ∷ []) is ∙ sym (take_more events index event lt)) goes

-- the event that was read is the one at that index
pub event_read : (events : List Event) (index : ℕ) (event : Event) → index < length events → event ≡ get_or events index event → slice_get events index ≡ Some event
event_read events index event lt is = slice_get_read events (length events) index event refl lt is

-- one event after those that were made
steps_more : (old last new : World) (events : List Event) (event : Event) → AllStep old events last → Steps last event new → AllStep old (events ++ event ∷ []) new
steps_more old last new [] event all one = (new, subst (λ world. Steps world event new) all one, refl)
steps_more old last new (first ∷ events) event all one = (all.0, all.1, steps_more all.0 last new events event all.2 one)

-- the same for events that were made step by step
pub one_step_more : (old last new : World) (events : List Event) (index : ℕ) (event : Event) → index < length events → event ≡ get_or events index event → AllStep old (take index events) last
    → Steps last event new → AllStep old (take (index + 1) events) new
one_step_more old last new events index event lt is all one =
    subst (λ made. AllStep old made new) (ap (λ e. take index events ++ e ∷ []) is ∙ sym (take_more events index event lt)) (steps_more old last new (take index events) event all one)
