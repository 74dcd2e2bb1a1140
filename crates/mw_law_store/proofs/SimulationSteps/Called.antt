-- Each tenant's store alone simulates a call on a file, however the call ends. Used by: mw_law_threads.
use Rattle.std.specs.Prelude.{ℕ, ◌≡◌, ◌≢◌, Bool, true, false, Option, Some, None}
use Rattle.std.proofs.Common.{refl, sym, ap, subst, ◌∙◌, inl, inr}
use Rattle.std.proofs.lemmas.Bool.{cases_eq}
use Rattle.mw_words.specs.declared.statuses.Status.{Status}
use Rattle.mw_words.specs.declared.statuses.Status.TheVariants.{No}
use Rattle.mw_lone.specs.Store.{Store}
use Rattle.mw_look.specs.declared.observations.Observation.{Observation}
use Rattle.mw_look.specs.declared.observations.Observation.TheVariants.{Filed}
use Rattle.mw_look.specs.declared.steps.Call.TheVariants.{Prepare as PrepareCall, Seal as SealCall, Settle as SettleCall, Cancel as CancelCall}
use Rattle.mw_actor.specs.declared.points.Point.{Point}
use Rattle.mw_actor.specs.declared.points.Point.TheVariants.{Prepare, Seal, Settle, Cancel}
use Rattle.mw_actor.specs.declared.points.Task.{Task}
use Rattle.mw_actor.specs.ActorState.{ActorState, own_entries}
use Rattle.mw_actor.specs.Program.{goes}
use Rattle.mw_world.specs.declared.outcomes.Outcome.{Outcome}
use Rattle.mw_world.specs.declared.outcomes.Outcome.TheVariants.{Good, Fail}
use Rattle.mw_world.specs.Files.State.{File}
use Rattle.mw_world.specs.declared.config.Config.{Config}
use Rattle.mw_world.specs.Definition.Calls.{Called, breaks, call, call_if, called_at, calling, calls_made, can_be_made, fails_on, goes_well, moved_if, place_for, starts_from}
use Rattle.mw_world.specs.Definition.Cells.{Cells}
use Rattle.mw_world.specs.Definition.Extent.{has_slot}
use Rattle.mw_world.specs.Definition.Events.{File as FileEvent}
use Rattle.mw_world.specs.Definition.State.{State, TenantStart}
use Rattle.mw_world.specs.Definition.Turns.{moved, next_attempt}
use Rattle.mw_law_runs.specs.Moves.StepMoves.{call_observation, next_of}
use Rattle.mw_law_runs.specs.Knowledge.Calls.{told_of_call}
use Rattle.mw_law_runs.specs.Knowledge.Informed.{IsInformed}
use Rattle.mw_law_runs.proofs.Knowledge.Calls.CallGuards.{cancels, seal_guards, settle_guards}
use Rattle.mw_law_runs.proofs.FileCalls.{later, stepped}
use Rattle.mw_law_runs.proofs.Obligations.Pins.{none_some, some_same}
use Rattle.mw_law_runs.proofs.RequestsInWorlds.{have_their_requests}
use Rattle.mw_law_runs.proofs.GuardedEvents.{if_slot}
use Rattle.mw_law_store.specs.Simulation.{IsSimulatedBy}
use Rattle.mw_law_store.specs.ReservedPlaces.{keeps}
use Rattle.mw_law_store.specs.Refinement.{Refines}
use Rattle.mw_law_store.proofs.CallMarks.{IsReadyToSeal, CallEnds, call_ended}
use Rattle.mw_law_store.proofs.Dues.Noted.{call_keeps}
use Rattle.mw_law_store.proofs.ReservedSteps.{ReservesAfterStep, keeps_none}
use Rattle.mw_law_store.proofs.ReachablePoints.{is_reachable}
use Rattle.mw_law_store.proofs.SimulationSteps.EndsOfCalls.{aside_broken, aside_faulted, aside_skipped, aside_well, none_made, own_canceled, own_failed_to_prepare, own_failed_to_seal, own_failed_to_settle, own_faulted, own_prepared, own_sealed, own_settled, own_skipped}
use Rattle.mw_law_store.proofs.SimulationSteps.StepsWithoutPlace.{LeadsOn, leads_met}
use Rattle.mw_law_store.proofs.SimulationSteps.Met.{Met}
use Rattle.mw_law_store.proofs.SimulationSteps.ReadyToSeal.{fits_now, not_fault_decided, same_entries}
use Rattle.mw_law_store.proofs.ServiceLaws.{IsWithFactsWorld}

-- after a call its request has no reserved place
may_keep : (point : Point) (called : Called) (went_well : Bool) → called_at point ≡ Some called → ReservesAfterStep point (Filed went_well)
may_keep (Prepare own) called went_well is = tt
may_keep (Seal task) called went_well is = tt
may_keep (Settle task) called went_well is = tt
may_keep (Cancel task) called went_well is = tt
may_keep point called went_well is = absurd (none_some called is)

-- What it observes is whether the call went well.
record IsToldFiled (observation : Observation) : Type 0 where
  pub went_well : Bool
  pub is : observation ≡ Filed went_well

told_filed : (starts failed : Bool) (outcome : Outcome) → IsToldFiled (call_observation starts failed outcome)
told_filed false failed outcome = record { went_well = true; is = refl }
told_filed true true outcome = record { went_well = false; is = refl }
told_filed true false Good = record { went_well = true; is = refl }
told_filed true false (Fail number) = record { went_well = false; is = refl }

module _ (config : Config) (state next : State) (actor : ActorState) (world : IsWithFactsWorld config state) where
  -- a call, by each of its ends
  by_call : (point : Point) (called : Called) (outcome : Outcome) (P : State → Type 0) → let me = record actor { point = point } in
      let file = (state.tenant_states actor.tenant).file in
      let status = state.cells.statuses called.change.slot in
      let place = place_for called.call file (state.tenant_states actor.tenant).quota called.change.slot in
      CallEnds P state actor.worker me called.change file called.call status place (calls_made called.call status file place) (starts_from called.call status) (fails_on called.call file)
      (can_be_made called.call file (state.tenant_states actor.tenant).quota place (own_entries actor))
      → call_if config state actor.worker me (Some called) outcome ≡ Some next → P next
  by_call point called outcome P all is =
      let me = record actor { point = point } in
      let file = (state.tenant_states actor.tenant).file in
      let places = (state.tenant_states actor.tenant).quota in
      let status = state.cells.statuses called.change.slot in
      let place = place_for called.call file places called.change.slot in
      call_ended P state actor.worker me called.change file called.call status place (calls_made called.call status file place) (starts_from called.call status) (fails_on called.call file)
      (can_be_made called.call file places place (own_entries actor)) outcome next all
      (if_slot (has_slot config called.change.slot) (moved_if state actor.worker me (calling config state me called outcome)) next is)

  -- a call of another tenant's request
  aside_called : (point : Point) (called : Called) (outcome : Outcome) → let me = record actor { point = point } in (tenant : ℕ) (store : Store) → Refines state tenant store → actor.tenant ≢ tenant
      → state.history.tenant called.change.slot called.change.seq ≡ actor.tenant → call_if config state actor.worker me (Some called) outcome ≡ Some next → LeadsOn state next actor.worker tenant store
  aside_called point called outcome tenant store refines differ its is =
      let me = record actor { point = point } in
      let status = state.cells.statuses called.change.slot in
      let place = place_for called.call (state.tenant_states actor.tenant).file (state.tenant_states actor.tenant).quota called.change.slot in
      by_call point called outcome (λ one. LeadsOn state one actor.worker tenant store)
      (record {
        skipped = λ not_so. aside_skipped config state world me tenant store refines differ called.change its;
        faulted = λ so failed. aside_faulted config state world me tenant store refines differ called.change its;
        well = λ so fine can. aside_well config state world me tenant store refines differ called.change its called.call status place;
        broke = λ number so fine can makes. aside_broken config state world me tenant store refines differ called.change its called.call place;
      }) is

  aside_point : (point : Point) (outcome : Outcome) → let me = record actor { point = point } in IsInformed config state me → (tenant : ℕ) (store : Store) → Refines state tenant store → actor.tenant ≢ tenant
      → call_if config state actor.worker me (called_at point) outcome ≡ Some next → LeadsOn state next actor.worker tenant store
  aside_point (Prepare own) outcome informed tenant store refines differ is =
      aside_called (Prepare own) (record { call = PrepareCall; change = own }) outcome tenant store refines differ informed.knows.drafted.own.same_tenant is
  aside_point (Seal task) outcome informed tenant store refines differ is =
      aside_called (Seal task) (record { call = SealCall; change = task.target }) outcome tenant store refines differ informed.knows.0.at_work.target.same_tenant is
  aside_point (Settle task) outcome informed tenant store refines differ is =
      aside_called (Settle task) (record { call = SettleCall; change = task.target }) outcome tenant store refines differ informed.knows.0.at_work.target.same_tenant is
  aside_point (Cancel task) outcome informed tenant store refines differ is =
      aside_called (Cancel task) (record { call = CancelCall; change = task.target }) outcome tenant store refines differ informed.knows.0.at_work.target.same_tenant is
  aside_point point outcome informed tenant store refines differ is = absurd (none_some next is)

module _ (config : Config) (state next : State) (actor : ActorState) (world : IsWithFactsWorld config state) (store : Store) (refines : Refines state actor.tenant store) where
  abbrev its_file : File
  its_file = (state.tenant_states actor.tenant).file

  cancel_leads : (task : Task) (status : Status) → let me = record actor { point = Cancel task } in (state.worker_states actor.worker).actor ≡ Some me → IsInformed config state me
      → state.cells.statuses task.target.slot ≡ status → starts_from CancelCall status ≡ true
      → LeadsOn state (moved state actor.worker me (goes_well state me task.target its_file CancelCall status (its_file.place_of task.target.slot))) actor.worker actor.tenant store
  cancel_leads task (No entry value) sits informed is starts =
      let me = record actor { point = Cancel task } in
      let keeps_on = λ (went_well : Bool). (call_keeps me (next_attempt (Cancel task) (state.worker_states actor.worker).attempt) (Cancel task) (record { call = CancelCall; change = task.target }) went_well refl).0 in
      own_canceled config state world me sits store refines keeps_on task.target entry value (its_file.place_of task.target.slot) (cancels config state actor task (No entry value) informed is).0.refused
  cancel_leads task status sits informed is starts = absurd (not_so starts)
    where
      not_so : false ≡ true → ⊥
      not_so e = cc

  -- a change that is sealed is ready for it
  ready : (task : Task) → let me = record actor { point = Seal task } in (sits : (state.worker_states actor.worker).actor ≡ Some me) → IsInformed config state me → (after : ActorState) (cells : Cells) (observation : Observation)
      (same_tenant : after.tenant ≡ actor.tenant) (same_job : after.job ≡ actor.job) → starts_from SealCall (state.cells.statuses task.target.slot) ≡ true → its_file.has_failed ≡ false
      → IsReadyToSeal state me after cells observation store refines sits same_tenant same_job task.target (its_file.place_of task.target.slot)
  ready task sits informed after cells observation same_tenant same_job starts works =
      let known = informed.knows.0.at_work.target in
      let live = informed.live.1 in
      let decided = (seal_guards config state actor task informed true false Good starts).0.decided in
      record {
        is_claimed = (known.is_claimed, known.same_tenant);
        is_decided = decided;
        fault_not_decided = not_fault_decided config state world actor.tenant task.target known live works;
        file_works = works;
        entries = same_entries config state world actor.tenant task.target known live decided;
        as_expected = fits_now config state world actor.tenant task.target known live decided;
      }

  -- a call of the tenant's own request
  own_point : (point : Point) (outcome : Outcome) → let me = record actor { point = point } in (state.worker_states actor.worker).actor ≡ Some me → IsInformed config state me
      → call_if config state actor.worker me (called_at point) outcome ≡ Some next → LeadsOn state next actor.worker actor.tenant store
  own_point (Prepare own) outcome sits informed is =
      let me = record actor { point = Prepare own } in
      let called : Called = record { call = PrepareCall; change = own } in
      let ends = λ (went_well : Bool). (call_keeps me (next_attempt (Prepare own) (state.worker_states actor.worker).attempt) (Prepare own) called went_well refl).0 in
      let place = place_for PrepareCall its_file (state.tenant_states actor.tenant).quota own.slot in
      by_call config state next actor world (Prepare own) called outcome (λ one. LeadsOn state one actor.worker actor.tenant store)
      (record {
        skipped = λ not_so. own_skipped config state world me sits store refines ends own;
        faulted = λ so failed. own_faulted config state world me sits store refines ends own;
        well = λ so fine can. own_prepared config state world me sits store refines ends own (state.cells.statuses own.slot) place informed.knows.drafted.draft;
        broke = λ number so fine can makes.
            own_failed_to_prepare config state world me sits store refines ends own place fine ((world.files.told actor.tenant informed.worker_state.tenant).certain fine);
      }) is
  own_point (Seal task) outcome sits informed is =
      let me = record actor { point = Seal task } in
      let target = task.target in
      let called : Called = record { call = SealCall; change = target } in
      let ends = λ (went_well : Bool). (call_keeps me (next_attempt (Seal task) (state.worker_states actor.worker).attempt) (Seal task) called went_well refl).0 in
      let place = its_file.place_of target.slot in
      let status = state.cells.statuses target.slot in
      by_call config state next actor world (Seal task) called outcome (λ one. LeadsOn state one actor.worker actor.tenant store)
      (record {
        skipped = λ not_so. own_skipped config state world me sits store refines ends target;
        faulted = λ so failed. own_faulted config state world me sits store refines ends target;
        well = λ so fine can. own_sealed config state world me sits store refines ends target status place
            (ready task sits informed (next_of state actor.worker me (Filed true)) (goes_well state me target its_file SealCall status place).cells (Filed true) refl refl so fine);
        broke = λ number so fine can makes. own_failed_to_seal config state world me sits store refines ends target place
            (ready task sits informed (next_of state actor.worker me (Filed false)) (breaks state me target its_file SealCall place).cells (Filed false) refl refl so fine);
      }) is
  own_point (Settle task) outcome sits informed is =
      let me = record actor { point = Settle task } in
      let target = task.target in
      let called : Called = record { call = SettleCall; change = target } in
      let ends = λ (went_well : Bool). (call_keeps me (next_attempt (Settle task) (state.worker_states actor.worker).attempt) (Settle task) called went_well refl).0 in
      let place = its_file.place_of target.slot in
      let status = state.cells.statuses target.slot in
      by_call config state next actor world (Settle task) called outcome (λ one. LeadsOn state one actor.worker actor.tenant store)
      (record {
        skipped = λ not_so. own_skipped config state world me sits store refines ends target;
        faulted = λ so failed. own_faulted config state world me sits store refines ends target;
        well = λ so fine can. own_settled config state world me sits store refines ends target status place (settle_guards config state actor task informed true false Good so).0.is_made;
        broke = λ number so fine can makes.
            own_failed_to_settle config state world me sits store refines ends target place fine ((world.files.told actor.tenant informed.worker_state.tenant).certain fine);
      }) is
  own_point (Cancel task) outcome sits informed is =
      let me = record actor { point = Cancel task } in
      let target = task.target in
      let called : Called = record { call = CancelCall; change = target } in
      let ends = λ (went_well : Bool). (call_keeps me (next_attempt (Cancel task) (state.worker_states actor.worker).attempt) (Cancel task) called went_well refl).0 in
      let status = state.cells.statuses target.slot in
      by_call config state next actor world (Cancel task) called outcome (λ one. LeadsOn state one actor.worker actor.tenant store)
      (record {
        skipped = λ not_so. own_skipped config state world me sits store refines ends target;
        faulted = λ so failed. own_faulted config state world me sits store refines ends target;
        well = λ so fine can. cancel_leads task status sits informed refl so;
        broke = λ number so fine can makes. absurd (none_made (starts_from CancelCall status) number makes);
      }) is
  own_point point outcome sits informed is = absurd (none_some next is)

-- What a call leads to, for each tenant, and at which point its request is then.
module _ (config : Config) (state next : State) (actor : ActorState) (called : Called) (outcome : Outcome) (world : IsWithFactsWorld config state) (sits : (state.worker_states actor.worker).actor ≡ Some actor)
    (at : called_at actor.point ≡ Some called) (is : call config state actor.worker (Some actor) outcome ≡ Some next) where
  abbrev later_actor : ActorState
  later_actor = next_of state actor.worker actor (told_of_call state actor called outcome)

  informed : IsInformed config state actor
  informed = (have_their_requests config state world.sound actor.worker actor sits).informed

  sits_then : (next.worker_states actor.worker).actor ≡ Some later_actor
  sits_then = (stepped config state next actor called outcome world.sound sits at is).goes_on

  -- it observes how the call ended
  by_observation : (P : Point → Type 0) → ((went_well : Bool) → P (goes actor (next_attempt actor.point (state.worker_states actor.worker).attempt) actor.point (Filed went_well))) → P later_actor.point
  by_observation P each =
      let told = told_filed (starts_from called.call (state.cells.statuses called.change.slot)) (fails_on called.call (state.tenant_states actor.tenant).file) outcome in
      subst (λ (observation : Observation). P (goes actor (next_attempt actor.point (state.worker_states actor.worker).attempt) actor.point observation)) (sym told.is) (each told.went_well)

  leads : (tenant : ℕ) (store : Store) → Refines state tenant store → LeadsOn state next actor.worker tenant store
  leads tenant store refines = elim (cases_eq actor.tenant tenant) [
    | inl same ↦ subst (λ (n : ℕ). Refines state n store → LeadsOn state next actor.worker n store) same
        (λ its. own_point config state next actor world store its actor.point outcome sits informed is) refines
    | inr differ ↦ aside_point config state next actor world actor.point outcome informed tenant store refines differ is
  ]

  served : (openings : ℕ → TenantStart) (tenant : ℕ) (store : Store) → IsSimulatedBy openings state tenant store → Met openings state next (FileEvent actor.worker outcome) tenant store
  served openings tenant store simulated =
      leads_met config openings state next (FileEvent actor.worker outcome) actor.worker later_actor tenant store world.sound simulated (later config state next actor called outcome world.sound sits at is) sits_then
      (by_observation (λ point. keeps point ≡ false)
      (λ went_well. keeps_none actor (next_attempt actor.point (state.worker_states actor.worker).attempt) actor.point (Filed went_well) (may_keep actor.point called went_well at)))
      refl (leads tenant store simulated.refines)

  meant : is_reachable later_actor.point ≡ true
  meant = by_observation (λ point. is_reachable point ≡ true) (λ went_well. (call_keeps actor (next_attempt actor.point (state.worker_states actor.worker).attempt) actor.point called went_well at).1)

-- A request is at a point of a call.
record IsCalling (config : Config) (state next : State) (worker : ℕ) (outcome : Outcome) : Type 0 where
  pub actor : ActorState
  pub called : Called
  pub same_worker : actor.worker ≡ worker
  pub sits : (state.worker_states actor.worker).actor ≡ Some actor
  pub at : called_at actor.point ≡ Some called
  pub is : call config state actor.worker (Some actor) outcome ≡ Some next

by_called : (config : Config) (state next : State) (worker : ℕ) (actor : ActorState) (outcome : Outcome) (found : Option Called) → actor.worker ≡ worker → (state.worker_states actor.worker).actor ≡ Some actor
    → called_at actor.point ≡ found → call config state actor.worker (Some actor) outcome ≡ Some next → IsCalling config state next worker outcome
by_called config state next worker actor outcome None same sits at is =
    absurd (none_some next (subst (λ (found : Option Called). call_if config state actor.worker actor found outcome ≡ Some next) at is))
by_called config state next worker actor outcome (Some called) same sits at is = record { actor = actor; called = called; same_worker = same; sits = sits; at = at; is = is }

by_worker_state : (config : Config) (state next : State) (worker : ℕ) (found : Option ActorState) (outcome : Outcome) → IsWithFactsWorld config state → (state.worker_states worker).actor ≡ found
    → call config state worker found outcome ≡ Some next → IsCalling config state next worker outcome
by_worker_state config state next worker None outcome world sits is = absurd (none_some next is)
by_worker_state config state next worker (Some actor) outcome world sits is =
    let same = (world.sound.counts.worker_states worker actor sits).same_worker in
    by_called config state next worker actor outcome (called_at actor.point) same (subst (λ (n : ℕ). (state.worker_states n).actor ≡ Some actor) (sym same) sits) refl
    (subst (λ (n : ℕ). call config state n (Some actor) outcome ≡ Some next) (sym same) is)

-- A call on a file is simulated for each tenant.
pub call_met : (config : Config) (openings : ℕ → TenantStart) (state next : State) (worker : ℕ) (outcome : Outcome) (tenant : ℕ) (store : Store) → IsWithFactsWorld config state
    → IsSimulatedBy openings state tenant store → call config state worker (state.worker_states worker).actor outcome ≡ Some next → Met openings state next (FileEvent worker outcome) tenant store
call_met config openings state next worker outcome tenant store world simulated is =
    let c = by_worker_state config state next worker (state.worker_states worker).actor outcome world refl is in
    subst (λ (n : ℕ). Met openings state next (FileEvent n outcome) tenant store) c.same_worker (served config state next c.actor c.called outcome world c.sits c.at c.is openings tenant store simulated)

-- After it the request is at a point that it can reach.
pub call_meant : (config : Config) (state next : State) (worker : ℕ) (outcome : Outcome) → IsWithFactsWorld config state → call config state worker (state.worker_states worker).actor outcome ≡ Some next
    → (actor : ActorState) → (next.worker_states worker).actor ≡ Some actor → is_reachable actor.point ≡ true
call_meant config state next worker outcome world is actor sits =
    let c = by_worker_state config state next worker (state.worker_states worker).actor outcome world refl is in
    let goes_there = sits_then config state next c.actor c.called outcome world c.sits c.at c.is in
    let there : (next.worker_states c.actor.worker).actor ≡ Some actor = subst (λ (n : ℕ). (next.worker_states n).actor ≡ Some actor) (sym c.same_worker) sits in
    ap (λ (one : ActorState). is_reachable one.point) (some_same actor _ (sym there ∙ goes_there)) ∙ meant config state next c.actor c.called outcome world c.sits c.at c.is
