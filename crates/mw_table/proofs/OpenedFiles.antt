-- A tenant's marks tell whether its file opened at the last start. Used by: AfterRuns.
use Rattle.std.specs.Prelude.{ℕ, ◌≡◌, ◌==◌, ◌&&◌, Bool, true, false, not, if◌then◌else◌, List, [], ◌∷◌, ◌++◌, length, Option, Some, None, is_none, is_some}
use Rattle.std.specs.Option.{option_and_then}
use Rattle.std.proofs.Common.{refl, sym, subst, inl, inr}
use Rattle.std.proofs.lemmas.Bool.{cases_eq}
use Rattle.mw_world.proofs.MapLaws.{upd_here, upd_there}
use Rattle.mw_words.specs.declared.replies.Reply.{Reply}
use Rattle.mw_lone.specs.declared.marks.Mark.{Mark}
use Rattle.mw_lone.specs.declared.marks.Mark.TheVariants.{Restart as MarkOfStart}
use Rattle.mw_look.specs.declared.observations.Observation.{Observation}
use Rattle.mw_actor.specs.ActorState.{ActorState}
use Rattle.mw_actor.specs.Asks.{asks}
use Rattle.mw_actor.specs.Program.{replied}
use Rattle.mw_world.specs.Maps.{upd}
use Rattle.mw_world.specs.declared.outcomes.Outcome.{Outcome}
use Rattle.mw_world.specs.declared.config.Config.{Config}
use Rattle.mw_world.specs.Definition.Calls.{Called, call, call_if, called_at, calling, moved_if}
use Rattle.mw_world.specs.Definition.Cells.{Cells}
use Rattle.mw_world.specs.Definition.Extent.{has_slot}
use Rattle.mw_world.specs.Definition.Events.{WorldEvent, Come, Step, File, Hand, Restart}
use Rattle.mw_world.specs.Definition.Requests.{came, gave}
use Rattle.mw_world.specs.Definition.Restarts.{doubt_then, found_of, interrupted_request, may_all_be_found, quota_then, quotas_then, restarted, takes, under_way}
use Rattle.mw_world.specs.Definition.State.{TenantState, State, marks_in, may_be_quotas, places_of, tenants_of}
use Rattle.mw_world.specs.Definition.Turns.{Made, made_of, may_make, moved, turn, turned}
use Rattle.mw_world.specs.Definition.World.{asked, hand, handed, may_come, run, step}
use Rattle.mw_rule.proofs.Words.{done_is}
use Rattle.mw_table.specs.Runs.{up_after}

-- the state's marks tell whether its file is open, given whether it was open at first
abbrev pub IsTold : Bool → TenantState → Type 0
IsTold first tenant_state = tenant_state.is_up ≡ up_after first tenant_state.closed

abbrev pub AreTold : (ℕ → Bool) → State → Type 0
AreTold firsts state = (tenant : ℕ) → IsTold (firsts tenant) (state.tenant_states tenant)

up_last : (is_up : Bool) (marks : List Mark) (interrupted : Option ℕ) (found opened : Bool) (quota : ℕ) → up_after is_up (marks ++ MarkOfStart interrupted found opened quota ∷ []) ≡ opened
up_last is_up [] interrupted found opened quota = refl
up_last is_up (MarkOfStart one two three four ∷ marks) interrupted found opened quota = up_last three marks interrupted found opened quota
up_last is_up (mark ∷ marks) interrupted found opened quota = up_last is_up marks interrupted found opened quota

some_same : (one next : State) → Some one ≡ Some next → one ≡ next
some_same one next is = cc

-- Given whether each tenant's file was open at first.
module _ (firsts : ℕ → Bool) where
  upd_told : (tenant_states : ℕ → TenantState) (at : ℕ) (tenant_state : TenantState) → ((tenant : ℕ) → IsTold (firsts tenant) (tenant_states tenant)) → IsTold (firsts at) tenant_state → (tenant : ℕ) → IsTold (firsts tenant) (upd tenant_states at tenant_state tenant)
  upd_told tenant_states at tenant_state all is tenant = elim (cases_eq tenant at) [
    | inl same ↦
        subst (λ (one : TenantState). IsTold (firsts tenant) one) (sym (upd_here tenant_states at tenant tenant_state same)) (subst (λ k. IsTold (firsts k) tenant_state) (sym same) is)
    | inr apart ↦ subst (λ (one : TenantState). IsTold (firsts tenant) one) (sym (upd_there tenant_states at tenant tenant_state apart)) (all tenant)
  ]

  if_told : (test : Bool) (one next : State) → AreTold firsts one → (if test then Some one else None) ≡ Some next → AreTold firsts next
  if_told true one next all is = let same : one ≡ next = cc in subst (λ (state : State). AreTold firsts state) same all
  if_told false one next all is = let same : one ≡ next = cc in subst (λ (state : State). AreTold firsts state) same all

  turned_told : (state : State) (worker : ℕ) (actor : ActorState) → AreTold firsts state → AreTold firsts (turned state worker actor)
  turned_told state worker actor all =
      subst (λ (one : State). AreTold firsts one) (sym (done_is (asks actor) state.cells (λ (cells : Cells) (observation : Observation). moved state worker actor (made_of state worker actor cells observation))))
      (upd_told state.tenant_states actor.tenant _ all (all actor.tenant))

  turn_told : (config : Config) (state next : State) (worker : ℕ) (found : Option ActorState) → AreTold firsts state → turn config state worker found ≡ Some next → AreTold firsts next
  turn_told config state next worker None all is = absurd (cc)
  turn_told config state next worker (Some actor) all is =
      if_told (not (is_some (replied actor)) && may_make config (asks actor)) (turned state worker actor) next (turned_told state worker actor all) is

  moved_told : (state next : State) (worker : ℕ) (actor : ActorState) (test : Bool) (made : Option Made) → AreTold firsts state → (if test then moved_if state worker actor made else None) ≡ Some next → AreTold firsts next
  moved_told state next worker actor false made all is = absurd (cc)
  moved_told state next worker actor true None all is = absurd (cc)
  moved_told state next worker actor true (Some made) all is =
      subst (λ (one : State). AreTold firsts one) (some_same (moved state worker actor made) next is) (upd_told state.tenant_states actor.tenant _ all (all actor.tenant))

  called_told : (config : Config) (state next : State) (worker : ℕ) (actor : ActorState) (outcome : Outcome) (found : Option Called) → AreTold firsts state
      → call_if config state worker actor found outcome ≡ Some next → AreTold firsts next
  called_told config state next worker actor outcome None all is = absurd (cc)
  called_told config state next worker actor outcome (Some called) all is =
      moved_told state next worker actor (has_slot config called.change.slot) (calling config state actor called outcome) all is

  call_told : (config : Config) (state next : State) (worker : ℕ) (outcome : Outcome) (found : Option ActorState) → AreTold firsts state → call config state worker found outcome ≡ Some next → AreTold firsts next
  call_told config state next worker outcome None all is = absurd (cc)
  call_told config state next worker outcome (Some actor) all is = called_told config state next worker actor outcome (called_at actor.point) all is

  handed_told : (state next : State) (worker tenant : ℕ) (reply : Option Reply) → AreTold firsts state → handed state worker tenant reply ≡ Some next → AreTold firsts next
  handed_told state next worker tenant None all is = absurd (cc)
  handed_told state next worker tenant (Some reply) all is =
      subst (λ (one : State). AreTold firsts one) (some_same (gave state worker tenant) next is) (upd_told state.tenant_states tenant _ all (all tenant))

  hand_told : (state next : State) (worker : ℕ) (found : Option ActorState) → AreTold firsts state → hand state worker found ≡ Some next → AreTold firsts next
  hand_told state next worker None all is = absurd (cc)
  hand_told state next worker (Some actor) all is = handed_told state next worker actor.tenant (replied actor) all is

  event_told : (config : Config) (state next : State) (event : WorldEvent) → AreTold firsts state → step config state event ≡ Some next → AreTold firsts next
  event_told config state next (Come worker tenant job) all is =
      if_told (may_come config state worker tenant job) (came config state worker tenant job) next (upd_told state.tenant_states tenant (asked (state.tenant_states tenant) job) all (all tenant)) is
  event_told config state next (Step worker) all is = turn_told config state next worker (state.worker_states worker).actor all is
  event_told config state next (File worker outcome) all is = call_told config state next worker outcome (state.worker_states worker).actor all is
  event_told config state next (Hand worker) all is = hand_told state next worker (state.worker_states worker).actor all is
  event_told config state next (Restart founds) all is =
      if_told ((length founds == tenants_of config) && may_all_be_found config state founds (tenants_of config) && may_be_quotas config (quotas_then state founds) (places_of state)) (restarted config state founds) next
      (λ tenant.
      let tenant_state = state.tenant_states tenant in
      let found = found_of founds tenant in
      let under = under_way config state found.interrupted in
      sym (up_last (firsts tenant) (tenant_state.closed ++ marks_in tenant_state.lines) (interrupted_request under) (takes tenant_state.file.contents (doubt_then tenant_state.file under) found.words) (is_none found.fails_at)
      (quota_then tenant_state found)))
      is

  by_step : (config : Config) (next : State) (events : List WorldEvent) → ((one : State) → AreTold firsts one → run config one events ≡ Some next → AreTold firsts next) → (after : Option State)
      → ((one : State) → after ≡ Some one → AreTold firsts one) → option_and_then (λ one. run config one events) after ≡ Some next → AreTold firsts next
  by_step config next events rest None told is = absurd (cc)
  by_step config next events rest (Some one) told is = rest one (told one refl) is

  -- if the marks tell it in one state, they tell it after every run from there
  pub run_told : (config : Config) (events : List WorldEvent) (state next : State) → AreTold firsts state → run config state events ≡ Some next → AreTold firsts next
  run_told config [] state next all is = subst (λ (one : State). AreTold firsts one) (some_same state next is) all
  run_told config (event ∷ events) state next all is =
      by_step config next events (λ one. run_told config events one next) (step config state event) (λ one e. event_told config state one event all e) is
