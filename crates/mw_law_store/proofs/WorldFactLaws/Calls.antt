-- A call on a file keeps the world facts (`specs/WorldFacts`), however it ends. Used by: WorldFactLaws.
use Rattle.std.specs.Prelude.{ℕ, ◌≡◌, ◌⊎◌, Bool, true, false, List, Option, Some, None}
use Rattle.std.proofs.Common.{refl, sym, ap, subst, ◌∙◌, inl, inr}
use Rattle.mw_words.specs.declared.jobs.Entry.{Entry}
use Rattle.mw_words.specs.declared.statuses.Status.{Status}
use Rattle.mw_words.specs.declared.statuses.Status.TheVariants.{YesDirty, Yes, No}
use Rattle.mw_look.specs.declared.observations.Observation.TheVariants.{Filed}
use Rattle.mw_look.specs.declared.steps.Call.{Call}
use Rattle.mw_look.specs.declared.steps.Call.TheVariants.{Prepare as PrepareCall, Seal as SealCall, Settle as SettleCall, Cancel as CancelCall}
use Rattle.mw_actor.specs.declared.points.Point.{Point}
use Rattle.mw_actor.specs.declared.points.Point.TheVariants.{Prepare, Seal, Settle, Cancel}
use Rattle.mw_actor.specs.declared.points.Slot.{Slot}
use Rattle.mw_actor.specs.declared.points.Task.{Task}
use Rattle.mw_actor.specs.ActorState.{ActorState, own_entries}
use Rattle.mw_lone.specs.Store.{is_cas}
use Rattle.mw_world.specs.declared.outcomes.Outcome.{Outcome}
use Rattle.mw_world.specs.declared.outcomes.Outcome.TheVariants.{Good}
use Rattle.mw_world.specs.Files.State.{File}
use Rattle.mw_world.specs.declared.config.Config.{Config}
use Rattle.mw_world.specs.declared.step_labels.StepLabel.TheVariants.{Nothing}
use Rattle.mw_world.specs.Definition.Calls.{Called, breaks, call, call_if, called_at, calling, calls_made, can_be_made, fails_on, fault_label, faults, filed, goes_well, good_label, moved_if, place_for, skips, starts_from, status_after}
use Rattle.mw_world.specs.Definition.Extent.{has_slot}
use Rattle.mw_world.specs.Definition.LabelEffects.{with_status, with_label}
use Rattle.mw_world.specs.Definition.State.{State, WorkerState}
use Rattle.mw_world.specs.Definition.Turns.{Made, moved, next_attempt}
use Rattle.mw_law_runs.specs.Knowledge.Calls.{told_of_call}
use Rattle.mw_law_runs.specs.Knowledge.Informed.{IsInformed}
use Rattle.mw_law_runs.proofs.Knowledge.Calls.CallGuards.{cancels, seal_guards}
use Rattle.mw_law_runs.proofs.Knowledge.Updates.Preservation.{upd_here}
use Rattle.mw_law_runs.specs.Moves.StepMoves.{next_of}
use Rattle.mw_law_runs.specs.Obligations.{OneStepped}
use Rattle.mw_law_runs.specs.RunInvariant.{IsSound}
use Rattle.mw_law_runs.proofs.FileCalls.{calls_keep_sound, later, stepped}
use Rattle.mw_law_runs.proofs.Obligations.Pins.{none_some, some_same}
use Rattle.mw_law_runs.proofs.RequestsInWorlds.{have_their_requests}
use Rattle.mw_law_runs.proofs.GuardedEvents.{if_slot}
use Rattle.mw_law_store.proofs.Files.CallFiles.{ended}
use Rattle.mw_law_store.specs.WorldFacts.{HasWorldFacts, HasRequestFacts, is_inside, says_fault}
use Rattle.mw_law_store.proofs.WorldFactLaws.Histories.{LeavesIfFaultDecided, FaultFacts, after_spoiling, after_status, failed_of, leaves_at, more_fail, up_of}
use Rattle.mw_law_store.proofs.WorldFactLaws.Inside.{is_of_change, unread}
use Rattle.mw_law_store.proofs.WorldFactLaws.Points.{fault_goes}
use Rattle.mw_law_store.proofs.WorldFactLaws.Requests.{StaysFailed, failed_set, world_facts_go_on, spoils_of, up_set}

-- a call that goes well leaves whether its file has failed
filed_keeps : (call : Call) (file : File) (slot place : ℕ) (entries : List Entry) → (filed call file slot place entries).has_failed ≡ file.has_failed
filed_keeps PrepareCall file slot place entries = refl
filed_keeps SealCall file slot place entries = refl
filed_keeps SettleCall file slot place entries = refl
filed_keeps CancelCall file slot place entries = refl

had_failed : (call : Call) (file : File) → fails_on call file ≡ true → file.has_failed ≡ true
had_failed PrepareCall file is = is
had_failed SealCall file is = is
had_failed SettleCall file is = is
had_failed CancelCall file is = absurd (not_so is)
  where
    not_so : false ≡ true → ⊥
    not_so e = cc

true_filed : Filed true ≡ Filed false → ⊥
true_filed e = cc

-- After a call, files that had failed still have, the facts about decided faults hold, and if the request gives up with FAULT,
-- its tenant's file has failed.
record Leads (state : State) (actor : ActorState) (next : State) : Type 0 where
  pub stays : StaysFailed state next
  pub fault_facts : FaultFacts next.history (failed_of next.tenant_states) (up_of next.tenant_states)
  pub fault : (later_actor : ActorState) → (next.worker_states actor.worker).actor ≡ Some later_actor → says_fault later_actor.point ≡ true → failed_of next.tenant_states actor.tenant ≡ true

-- What a call must have so that a failure of the device may decide FAULT: if it seals a change, that is one of the request's
-- tenant and is decided to be made.
abbrev MayDecideFault : State → ActorState → Slot → Call → Type 0
MayDecideFault state actor change SealCall = (state.history.is_claimed change.slot change.seq ≡ true) × (state.history.tenant change.slot change.seq ≡ actor.tenant) × (state.history.fate change.slot change.seq ≡ YesDirty)
MayDecideFault state actor change call = Unit {0}

module _ (config : Config) (state : State) (actor : ActorState) (world_facts : HasWorldFacts state) (with_facts : HasRequestFacts state actor) where
  abbrev file : File
  file = (state.tenant_states actor.tenant).file

  -- the file of the request's tenant is this one
  mine : (made : Made) → failed_of (moved state actor.worker actor made).tenant_states actor.tenant ≡ made.file.has_failed
  mine made = ap (λ tenant_state. tenant_state.file.has_failed) (upd_here state.tenant_states actor.tenant _)

  module _ (made : Made) (more : file.has_failed ≡ true → made.file.has_failed ≡ true) where
    made_stays : StaysFailed state (moved state actor.worker actor made)
    made_stays = record {
      failed = λ tenant is. failed_set state.tenant_states actor.tenant tenant _ more is;
      up = λ tenant. up_set state.tenant_states actor.tenant tenant _ refl;
    }

    -- whatever a call makes keeps the facts, if its label keeps those about decided faults
    made_leads : (made.observation ≡ Filed false → made.file.has_failed ≡ true)
        → FaultFacts (with_label made.label actor.worker actor (state.worker_states actor.worker).request state.history) (failed_of (moved state actor.worker actor made).tenant_states) (up_of (moved state actor.worker actor made).tenant_states)
        → Leads state actor (moved state actor.worker actor made)
    made_leads tells_fault fault_facts = record {
      stays = made_stays;
      fault_facts = fault_facts;
      fault = λ later_actor sits says.
          let goes_on = some_same _ later_actor (sym (ap (λ (worker_state : WorkerState). worker_state.actor) (upd_here state.worker_states actor.worker _)) ∙ sits) in
          by_fault (fault_goes actor (next_attempt actor.point (state.worker_states actor.worker).attempt) actor.point made.observation (ap (λ (one : ActorState). says_fault one.point) goes_on ∙ says));
    }
      where
        by_fault : (says_fault actor.point ≡ true) ⊎ (made.observation ≡ Filed false) → failed_of (moved state actor.worker actor made).tenant_states actor.tenant ≡ true
        by_fault (inl says) = mine made ∙ more (with_facts.fault says)
        by_fault (inr told) = mine made ∙ tells_fault told

    -- the facts before the step, once its file is known
    before : FaultFacts state.history (failed_of (moved state actor.worker actor made).tenant_states) (up_of (moved state actor.worker actor made).tenant_states)
    before =
        more_fail state.history (failed_of state.tenant_states) (up_of state.tenant_states) (spoils_of state world_facts) (failed_of (moved state actor.worker actor made).tenant_states)
        (up_of (moved state actor.worker actor made).tenant_states) made_stays.failed made_stays.up

  module _ (change : Slot) where
    skipped_leads : Leads state actor (moved state actor.worker actor (skips state actor change file))
    skipped_leads = made_leads (skips state actor change file) (λ is. is) (λ told. absurd (true_filed told)) (before (skips state actor change file) (λ is. is))

    faulted_leads : file.has_failed ≡ true → Leads state actor (moved state actor.worker actor (faults state actor change file file Nothing))
    faulted_leads failed = made_leads (faults state actor change file file Nothing) (λ is. is) (λ told. failed) (before (faults state actor change file file Nothing) (λ is. is))

    -- a call that goes well gives its change another status
    good_labeled : (call : Call) (status : Status) (fails is_up : ℕ → Bool) → ((to : Status) → FaultFacts (with_status state.history change to) fails is_up)
        → FaultFacts (with_label (good_label call change status) actor.worker actor (state.worker_states actor.worker).request state.history) fails is_up
    good_labeled PrepareCall status fails is_up fault_facts = fault_facts status
    good_labeled SealCall status fails is_up fault_facts = fault_facts Yes
    good_labeled SettleCall status fails is_up fault_facts = fault_facts status
    good_labeled CancelCall status fails is_up fault_facts = fault_facts status

    well_leads : (call : Call) (status : Status) (place : ℕ) → LeavesIfFaultDecided state.history change → Leads state actor (moved state actor.worker actor (goes_well state actor change file call status place))
    well_leads call status place leaves =
        let made = goes_well state actor change file call status place in
        let more : file.has_failed ≡ true → made.file.has_failed ≡ true = λ is. filed_keeps call file change.slot place (own_entries actor) ∙ is in
        made_leads made more (λ told. absurd (true_filed told))
        (good_labeled call made_status (failed_of (moved state actor.worker actor made).tenant_states) (up_of (moved state actor.worker actor made).tenant_states)
        (λ to. after_status state.history (failed_of (moved state actor.worker actor made).tenant_states) (up_of (moved state actor.worker actor made).tenant_states) (before made more) change to leaves))
      where
        made_status : Status
        made_status = status_after call status

    -- when the device fails, FAULT is decided for the change that the call should seal
    fault_labeled : (call : Call) (fails is_up : ℕ → Bool) → MayDecideFault state actor change call → fails actor.tenant ≡ true → FaultFacts state.history fails is_up
        → FaultFacts (with_label (fault_label call change) actor.worker actor (state.worker_states actor.worker).request state.history) fails is_up
    fault_labeled SealCall fails is_up may failed fault_facts =
        after_spoiling state.history fails is_up fault_facts change (record { is_claimed = may.0; failed = ap fails may.1 ∙ failed }) (inr may.2)
    fault_labeled PrepareCall fails is_up may failed fault_facts = fault_facts
    fault_labeled SettleCall fails is_up may failed fault_facts = fault_facts
    fault_labeled CancelCall fails is_up may failed fault_facts = fault_facts

    broken_leads : (call : Call) (place : ℕ) → MayDecideFault state actor change call → Leads state actor (moved state actor.worker actor (breaks state actor change file call place))
    broken_leads call place may =
        let made = breaks state actor change file call place in
        made_leads made (λ is. refl) (λ told. refl)
        (fault_labeled call (failed_of (moved state actor.worker actor made).tenant_states) (up_of (moved state actor.worker actor made).tenant_states) may (mine made) (before made (λ is. refl)))

  -- FAULT is not decided for a change of a tenant whose file works
  none_fault_decided : (change : Slot) → state.history.tenant change.slot change.seq ≡ actor.tenant → file.has_failed ≡ false → LeavesIfFaultDecided state.history change
  none_fault_decided change same fine fault_decided = absurd (true_false (sym (world_facts.fault_decided change.slot change.seq fault_decided) ∙ ap (λ (tenant : ℕ). failed_of state.tenant_states tenant) same ∙ fine))
    where
      true_false : true ≡ false → ⊥
      true_false e = cc

module _ (config : Config) (state next : State) (actor : ActorState) (world_facts : HasWorldFacts state) where
  by_call : (point : Point) (called : Called) (outcome : Outcome) → let me = record actor { point = point } in HasRequestFacts state me
      → (starts_from called.call (state.cells.statuses called.change.slot) ≡ true → fails_on called.call (state.tenant_states actor.tenant).file ≡ false
      → LeavesIfFaultDecided state.history called.change × MayDecideFault state me called.change called.call)
      → call_if config state actor.worker me (Some called) outcome ≡ Some next → Leads state me next
  by_call point called outcome here good is =
      let me = record actor { point = point } in
      let file = (state.tenant_states actor.tenant).file in
      let places = (state.tenant_states actor.tenant).quota in
      let status = state.cells.statuses called.change.slot in
      let place = place_for called.call file places called.change.slot in
      ended (Leads state me) state actor.worker me called.change file called.call status place (starts_from called.call status) (fails_on called.call file)
      (can_be_made called.call file places place (own_entries actor)) (calls_made called.call status file place) outcome next
      (record {
        skipped = λ not_so. skipped_leads config state me world_facts here called.change;
        faulted = λ so failed. faulted_leads config state me world_facts here called.change (had_failed called.call file failed);
        well = λ so fine can. well_leads config state me world_facts here called.change called.call status place (good so fine).0;
        broke = λ so fine. broken_leads config state me world_facts here called.change called.call place (good so fine).1;
      })
      (if_slot (has_slot config called.change.slot) (moved_if state actor.worker me (calling config state me called outcome)) next is)

  cancel_leaves : (task : Task) (status : Status) → let me = record actor { point = Cancel task } in IsInformed config state me → state.cells.statuses task.target.slot ≡ status
      → starts_from CancelCall status ≡ true → LeavesIfFaultDecided state.history task.target
  cancel_leaves task (No entry value) informed stands starts =
      leaves_at state.history (failed_of state.tenant_states) (up_of state.tenant_states) (spoils_of state world_facts) task.target (No entry value) (cancels config state actor task (No entry value) informed stands).0.refused (λ is. cc)
  cancel_leaves task status informed stands starts = absurd (not_so starts)
    where
      not_so : false ≡ true → ⊥
      not_so e = cc

  at_point : (point : Point) (outcome : Outcome) → let me = record actor { point = point } in IsInformed config state me → HasRequestFacts state me
      → call_if config state actor.worker me (called_at point) outcome ≡ Some next → Leads state me next × (is_inside point ≡ true) × (is_cas actor.job ≡ true)
  at_point (Prepare own) outcome informed here is = (
    by_call (Prepare own) (record { call = PrepareCall; change = own }) outcome here
        (λ starts fine. (none_fault_decided config state (record actor { point = Prepare own }) world_facts here own informed.knows.drafted.own.same_tenant fine, tt)) is,
    refl,
    is_of_change actor.job (Prepare own) refl informed.for_job,
  )
  at_point (Seal task) outcome informed here is =
      let known = informed.knows.0.at_work.target in (
        by_call (Seal task) (record { call = SealCall; change = task.target }) outcome here
            (λ starts fine. (
              none_fault_decided config state (record actor { point = Seal task }) world_facts here task.target known.same_tenant fine,
              (known.is_claimed, known.same_tenant, (seal_guards config state actor task informed true false Good starts).0.decided),
            )) is,
        refl,
        is_of_change actor.job (Seal task) refl informed.for_job,
      )
  at_point (Settle task) outcome informed here is = (
    by_call (Settle task) (record { call = SettleCall; change = task.target }) outcome here
        (λ starts fine. (none_fault_decided config state (record actor { point = Settle task }) world_facts here task.target informed.knows.0.at_work.target.same_tenant fine, tt)) is,
    refl,
    is_of_change actor.job (Settle task) refl informed.for_job,
  )
  at_point (Cancel task) outcome informed here is = (
    by_call (Cancel task) (record { call = CancelCall; change = task.target }) outcome here
        (λ starts fine. (cancel_leaves task (state.cells.statuses task.target.slot) informed refl starts, tt)) is,
    refl,
    is_of_change actor.job (Cancel task) refl informed.for_job,
  )
  at_point point outcome informed here is = absurd (none_some next is)

module _ (config : Config) (state next : State) (actor : ActorState) (called : Called) (outcome : Outcome) (sound : IsSound config state) (world_facts : HasWorldFacts state)
    (sits : (state.worker_states actor.worker).actor ≡ Some actor) (at : called_at actor.point ≡ Some called) (is : call config state actor.worker (Some actor) outcome ≡ Some next)
    (then_sound : IsSound config next) where
  abbrev later_actor : ActorState
  later_actor = next_of state actor.worker actor (told_of_call state actor called outcome)

  stepped_so : OneStepped state next actor.worker later_actor
  stepped_so = stepped config state next actor called outcome sound sits at is

  leads : Leads state actor next × (is_inside actor.point ≡ true) × (is_cas actor.job ≡ true)
  leads = at_point config state next actor world_facts actor.point outcome (have_their_requests config state sound actor.worker actor sits).informed (world_facts.worker_states actor.worker actor sits) is

  itself : HasRequestFacts next later_actor
  itself = record {
    fault = λ says. leads.0.fault later_actor stepped_so.goes_on says;
    up = λ inside. leads.0.stays.up actor.tenant ∙ (world_facts.worker_states actor.worker actor sits).up leads.1;
    seen = unread next.history actor.job later_actor.point leads.2 (then_sound.requests actor.worker later_actor stepped_so.goes_on).for_job;
  }

  call_keeps_world_facts : HasWorldFacts next
  call_keeps_world_facts =
      world_facts_go_on config state next actor later_actor sound world_facts (later config state next actor called outcome sound sits at is) stepped_so leads.0.stays itself leads.0.fault_facts

by_called : (config : Config) (state next : State) (actor : ActorState) (outcome : Outcome) (found : Option Called) → IsSound config state → HasWorldFacts state → (state.worker_states actor.worker).actor ≡ Some actor
    → called_at actor.point ≡ found → call config state actor.worker (Some actor) outcome ≡ Some next → IsSound config next → HasWorldFacts next
by_called config state next actor outcome None sound world_facts sits at is after =
    absurd (none_some next (subst (λ (found : Option Called). call_if config state actor.worker actor found outcome ≡ Some next) at is))
by_called config state next actor outcome (Some called) sound world_facts sits at is after = call_keeps_world_facts config state next actor called outcome sound world_facts sits at is after

by_worker_state : (config : Config) (state next : State) (worker : ℕ) (found : Option ActorState) (outcome : Outcome) → IsSound config state → HasWorldFacts state → (state.worker_states worker).actor ≡ found
    → call config state worker found outcome ≡ Some next → IsSound config next → HasWorldFacts next
by_worker_state config state next worker None outcome sound world_facts sits is after = absurd (none_some next is)
by_worker_state config state next worker (Some actor) outcome sound world_facts sits is after =
    let same = (sound.counts.worker_states worker actor sits).same_worker in
    by_called config state next actor outcome (called_at actor.point) sound world_facts (subst (λ (n : ℕ). (state.worker_states n).actor ≡ Some actor) (sym same) sits) refl
    (subst (λ (n : ℕ). call config state n (Some actor) outcome ≡ Some next) (sym same) is) after

pub calls_keep_world_facts : (config : Config) (state next : State) (worker : ℕ) (outcome : Outcome) → IsSound config state → HasWorldFacts state
    → call config state worker (state.worker_states worker).actor outcome ≡ Some next → HasWorldFacts next
calls_keep_world_facts config state next worker outcome sound world_facts is =
    by_worker_state config state next worker (state.worker_states worker).actor outcome sound world_facts refl is (calls_keep_sound config state next worker outcome sound is)
