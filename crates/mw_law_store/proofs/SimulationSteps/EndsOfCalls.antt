-- Each end of a call on a file makes at most one addition to the history of its request's tenant, and none to another
-- tenant's. Used by: Called.
use Rattle.std.specs.Prelude.{ℕ, ◌≡◌, ◌≢◌, ◌&&◌, Bool, true, false, not, if◌then◌else◌, List, [], Some}
use Rattle.std.proofs.Common.{refl, sym, ap, subst, ◌∙◌, inl, inr, arith}
use Rattle.std.proofs.lemmas.Bool.{cases_eq}
use Rattle.std.proofs.lemmas.Bool.Decides.{nat_tests}
use Rattle.mw_words.specs.declared.doors.Door.{Door}
use Rattle.mw_words.specs.declared.jobs.Entry.{Entry}
use Rattle.mw_words.specs.declared.statuses.Status.{Status}
use Rattle.mw_words.specs.declared.statuses.Status.TheVariants.{Draft, Open, Yes, No, DoneYes, DoneNo}
use Rattle.mw_lone.specs.declared.marks.Mark.TheVariants.{Seal as Seals, SealFail, FileFail}
use Rattle.mw_lone.specs.Store.{Store}
use Rattle.mw_look.specs.declared.observations.Observation.TheVariants.{Filed}
use Rattle.mw_look.specs.declared.steps.Call.{Call}
use Rattle.mw_look.specs.declared.steps.Call.TheVariants.{Prepare as PrepareCall, Seal as SealCall, Settle as SettleCall, Cancel as CancelCall}
use Rattle.mw_actor.specs.declared.points.Slot.{Slot}
use Rattle.mw_actor.specs.ActorState.{ActorState}
use Rattle.mw_world.specs.Files.State.{File}
use Rattle.mw_world.specs.Maps.{upd}
use Rattle.mw_world.specs.declared.config.Config.{Config}
use Rattle.mw_world.specs.declared.step_labels.StepLabel.TheVariants.{Nothing}
use Rattle.mw_world.specs.Definition.Calls.{breaks, fault_label, faults, good_label, goes_well, is_made, skips, status_after}
use Rattle.mw_world.specs.Definition.State.{State}
use Rattle.mw_world.specs.Definition.Turns.{moved}
use Rattle.mw_law_runs.specs.Moves.StepMoves.{next_of}
use Rattle.mw_law_runs.proofs.Knowledge.Updates.Preservation.{upd_here, upd_else}
use Rattle.mw_law_store.specs.Due.{told}
use Rattle.mw_law_store.specs.Refinement.{Refines}
use Rattle.mw_law_store.proofs.Aside.{IsAside}
use Rattle.mw_law_store.proofs.CallMarks.{IsReadyToSeal, failed_file, failed_to_seal, sealed_it}
use Rattle.mw_law_store.proofs.Ends.{EndsBy, Same}
use Rattle.mw_law_store.proofs.ServiceLaws.{IsWithFactsWorld}
use Rattle.mw_law_store.proofs.UnmarkedSteps.{decided, stands}
use Rattle.mw_law_store.proofs.SimulationSteps.StepsWithoutPlace.{LeadsOn, leads_aside, leads_no_label, leads_store_label}

-- a door counts as many slots when it gets the fault
used_there : (doors : ℕ → Door) (at tenant : ℕ) → (upd doors at (record (doors at) { fault = true }) tenant).used ≡ (doors tenant).used
used_there doors at tenant = elim (cases_eq tenant at) [
  | inl same ↦ subst (λ (n : ℕ). (upd doors at (record (doors at) { fault = true }) n).used ≡ (doors n).used) (sym same) (ap (λ (door : Door). door.used) (upd_here doors at (record (doors at) { fault = true })))
  | inr apart ↦ ap (λ (door : Door). door.used) (upd_else doors at tenant (record (doors at) { fault = true }) apart)
]

-- A change has the same reply when its status goes on by a call that seals nothing.
told_open : (fault_was_decided : Bool) (change : List Entry) → told fault_was_decided Open change ≡ told fault_was_decided Draft change
told_open true change = refl
told_open false change = refl

told_done : (fault_was_decided : Bool) (change : List Entry) → told fault_was_decided DoneYes change ≡ told fault_was_decided Yes change
told_done true change = refl
told_done false change = refl

told_canceled : (fault_was_decided : Bool) (change : List Entry) (entry value : ℕ) → told fault_was_decided (DoneNo entry value) change ≡ told fault_was_decided (No entry value) change
told_canceled true change entry value = refl
told_canceled false change entry value = refl

-- a call that makes no device call makes none that fails
pub none_made : (starts : Bool) (number : ℕ) → is_made (if starts && not false then 0 else 0) number ≡ true → ⊥
none_made true number is = grind (arith, nat_tests, is)
none_made false number is = grind (arith, nat_tests, is)

-- A call of another tenant's request.
module _ (config : Config) (state : State) (world : IsWithFactsWorld config state) (actor : ActorState) (tenant : ℕ) (store : Store) (refines : Refines state tenant store) (differ : actor.tenant ≢ tenant) (change : Slot)
    (its : state.history.tenant change.slot change.seq ≡ actor.tenant) where
  abbrev its_file : File
  its_file = (state.tenant_states actor.tenant).file

  good_aside : (call : Call) (status : Status) → IsAside state.history actor.tenant (good_label call change status)
  good_aside PrepareCall status = its
  good_aside SealCall status = its
  good_aside SettleCall status = its
  good_aside CancelCall status = its

  fault_aside : (call : Call) → IsAside state.history actor.tenant (fault_label call change)
  fault_aside SealCall = its
  fault_aside PrepareCall = tt
  fault_aside SettleCall = tt
  fault_aside CancelCall = tt

  pub aside_skipped : LeadsOn state (moved state actor.worker actor (skips state actor change its_file)) actor.worker tenant store
  aside_skipped = leads_aside state actor (skips state actor change its_file) tenant store config world.sound refines differ (λ slot seq lives claimed. lives) refl tt

  pub aside_faulted : LeadsOn state (moved state actor.worker actor (faults state actor change its_file its_file Nothing)) actor.worker tenant store
  aside_faulted =
      leads_aside state actor (faults state actor change its_file its_file Nothing) tenant store config world.sound refines differ (λ slot seq lives claimed. lives) (used_there state.cells.doors actor.tenant tenant) tt

  pub aside_well : (call : Call) (status : Status) (place : ℕ) → LeadsOn state (moved state actor.worker actor (goes_well state actor change its_file call status place)) actor.worker tenant store
  aside_well call status place =
      leads_aside state actor (goes_well state actor change its_file call status place) tenant store config world.sound refines differ (λ slot seq lives claimed. lives) refl (good_aside call (status_after call status))

  pub aside_broken : (call : Call) (place : ℕ) → LeadsOn state (moved state actor.worker actor (breaks state actor change its_file call place)) actor.worker tenant store
  aside_broken call place =
      leads_aside state actor (breaks state actor change its_file call place) tenant store config world.sound refines differ (λ slot seq lives claimed. lives) (used_there state.cells.doors actor.tenant tenant) (fault_aside call)

-- A call of the tenant's own request.
module _ (config : Config) (state : State) (world : IsWithFactsWorld config state) (actor : ActorState) (sits : (state.worker_states actor.worker).actor ≡ Some actor) (store : Store) (refines : Refines state actor.tenant store)
    (ends : (went_well : Bool) → EndsBy Same actor.point (next_of state actor.worker actor (Filed went_well)).point) (change : Slot) where
  abbrev held : File
  held = (state.tenant_states actor.tenant).file

  abbrev then_goes : Bool → ActorState
  then_goes went_well = next_of state actor.worker actor (Filed went_well)

  pub own_skipped : LeadsOn state (moved state actor.worker actor (skips state actor change held)) actor.worker actor.tenant store
  own_skipped =
      let made = skips state actor change held in
      leads_no_label state actor made store refl (stands state actor (then_goes true) made.cells (Filed true) store refines sits refl refl Nothing tt (ends true) (λ slot seq lives claimed. lives) refl)

  pub own_faulted : LeadsOn state (moved state actor.worker actor (faults state actor change held held Nothing)) actor.worker actor.tenant store
  own_faulted =
      let made = faults state actor change held held Nothing in
      leads_no_label state actor made store refl
      (stands state actor (then_goes false) made.cells (Filed false) store refines sits refl refl Nothing tt (ends false) (λ slot seq lives claimed. lives) (used_there state.cells.doors actor.tenant actor.tenant))

  pub own_prepared : (status : Status) (place : ℕ) → state.history.fate change.slot change.seq ≡ Draft
      → LeadsOn state (moved state actor.worker actor (goes_well state actor change held PrepareCall status place)) actor.worker actor.tenant store
  own_prepared status place draft =
      let past = state.history in
      let made = goes_well state actor change held PrepareCall status place in
      leads_no_label state actor made store refl
      (decided state actor (then_goes true) made.cells (Filed true) store refines sits refl refl change Open
      (told_open (past.is_fault_decided change.slot change.seq) (past.change change.slot change.seq) ∙ ap (λ (s : Status). told (past.is_fault_decided change.slot change.seq) s (past.change change.slot change.seq)) (sym draft))
      (ends true) (λ slot seq lives claimed. lives) refl made.file refl refl refl)

  pub own_settled : (status : Status) (place : ℕ) → state.history.fate change.slot change.seq ≡ Yes
      → LeadsOn state (moved state actor.worker actor (goes_well state actor change held SettleCall status place)) actor.worker actor.tenant store
  own_settled status place is_made =
      let past = state.history in
      let made = goes_well state actor change held SettleCall status place in
      leads_no_label state actor made store refl
      (decided state actor (then_goes true) made.cells (Filed true) store refines sits refl refl change DoneYes
      (told_done (past.is_fault_decided change.slot change.seq) (past.change change.slot change.seq) ∙ ap (λ (s : Status). told (past.is_fault_decided change.slot change.seq) s (past.change change.slot change.seq)) (sym is_made))
      (ends true) (λ slot seq lives claimed. lives) refl made.file refl refl refl)

  pub own_canceled : (entry value place : ℕ) → state.history.fate change.slot change.seq ≡ No entry value
      → LeadsOn state (moved state actor.worker actor (goes_well state actor change held CancelCall (No entry value) place)) actor.worker actor.tenant store
  own_canceled entry value place refused =
      let past = state.history in
      let made = goes_well state actor change held CancelCall (No entry value) place in
      leads_no_label state actor made store refl
      (decided state actor (then_goes true) made.cells (Filed true) store refines sits refl refl change (DoneNo entry value)
      (told_canceled (past.is_fault_decided change.slot change.seq) (past.change change.slot change.seq) entry value
      ∙ ap (λ (s : Status). told (past.is_fault_decided change.slot change.seq) s (past.change change.slot change.seq)) (sym refused))
      (ends true) (λ slot seq lives claimed. lives) refl made.file refl refl refl)

  pub own_sealed : (status : Status) (place : ℕ) → IsReadyToSeal state actor (then_goes true) (goes_well state actor change held SealCall status place).cells (Filed true) store refines sits refl refl change place
      → LeadsOn state (moved state actor.worker actor (goes_well state actor change held SealCall status place)) actor.worker actor.tenant store
  own_sealed status place ready =
      let made = goes_well state actor change held SealCall status place in
      let led = sealed_it state actor (then_goes true) made.cells (Filed true) store refines sits refl refl change place ready (ends true) (λ slot seq lives claimed. lives) refl in
      leads_store_label state actor made store (Seals (state.history.request change.slot change.seq)) led.0 refl (λ start. tt) led.1 led.1 refl led.2

  pub own_failed_to_seal : (place : ℕ) → IsReadyToSeal state actor (then_goes false) (breaks state actor change held SealCall place).cells (Filed false) store refines sits refl refl change place
      → LeadsOn state (moved state actor.worker actor (breaks state actor change held SealCall place)) actor.worker actor.tenant store
  own_failed_to_seal place ready =
      let made = breaks state actor change held SealCall place in
      let led = failed_to_seal state actor (then_goes false) made.cells (Filed false) store refines sits refl refl change place ready (ends false) (λ slot seq lives claimed. lives)
      (used_there state.cells.doors actor.tenant actor.tenant) in
      leads_store_label state actor made store (SealFail (state.history.request change.slot change.seq)) led.0 refl (λ start. tt) led.1 led.1 refl led.2

  -- the file fails in a call that seals nothing
  pub own_failed_to_prepare : (place : ℕ) → held.has_failed ≡ false → held.doubt ≡ [] → LeadsOn state (moved state actor.worker actor (breaks state actor change held PrepareCall place)) actor.worker actor.tenant store
  own_failed_to_prepare place works certain =
      let made = breaks state actor change held PrepareCall place in
      let led = failed_file state actor (then_goes false) made.cells (Filed false) store refines sits refl refl works certain (ends false) (λ slot seq lives claimed. lives)
      (used_there state.cells.doors actor.tenant actor.tenant) in
      leads_store_label state actor made store FileFail led.0 refl (λ start. tt) led.1 led.1 refl led.2

  pub own_failed_to_settle : (place : ℕ) → held.has_failed ≡ false → held.doubt ≡ [] → LeadsOn state (moved state actor.worker actor (breaks state actor change held SettleCall place)) actor.worker actor.tenant store
  own_failed_to_settle place works certain =
      let made = breaks state actor change held SettleCall place in
      let led = failed_file state actor (then_goes false) made.cells (Filed false) store refines sits refl refl works certain (ends false) (λ slot seq lives claimed. lives)
      (used_there state.cells.doors actor.tenant actor.tenant) in
      leads_store_label state actor made store FileFail led.0 refl (λ start. tt) led.1 led.1 refl led.2
