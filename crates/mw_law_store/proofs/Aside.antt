-- An event of one tenant's request keeps each other tenant's part of the world refining its store alone (the reference
-- model). Used by: Come, EndsOfCalls, Handed, among others.
use Rattle.std.specs.Prelude.{ℕ, ◌≡◌, ◌≢◌, Bool, true, false}
use Rattle.std.proofs.Common.{refl, sym, ap, ◌∙◌, inl, inr, subst}
use Rattle.std.proofs.lemmas.Bool.{cases_eq}
use Rattle.std.proofs.lemmas.Option.{same_Some, none-some}
use Rattle.mw_words.specs.declared.jobs.Job.{Job}
use Rattle.mw_words.specs.declared.statuses.Status.{Status}
use Rattle.mw_words.specs.declared.statuses.Status.TheVariants.{Yes, No}
use Rattle.mw_lone.specs.Store.{Store}
use Rattle.mw_actor.specs.declared.points.Slot.{Slot}
use Rattle.mw_actor.specs.ActorState.{ActorState, own_entries, first}
use Rattle.mw_world.specs.Maps.{upd_two}
use Rattle.mw_world.specs.declared.config.Config.{Config}
use Rattle.mw_world.specs.declared.step_labels.StepLabel.{StepLabel}
use Rattle.mw_world.specs.declared.step_labels.StepLabel.TheVariants.{Claimed, Decided, Refused, GaveUp, SealedIt, FailedToSeal}
use Rattle.mw_world.specs.Definition.Cells.{Cells}
use Rattle.mw_world.specs.Definition.History.{History}
use Rattle.mw_world.specs.Definition.LabelEffects.{with_label}
use Rattle.mw_world.specs.Definition.Requests.{came, gave}
use Rattle.mw_world.specs.Definition.State.{State, WorkerState, TenantState}
use Rattle.mw_world.specs.Definition.Turns.{Made, moved_to}
use Rattle.mw_law_runs.proofs.Knowledge.Updates.Preservation.{upd_here, upd_else, upd_two_here, upd_two_next, upd_two_else}
use Rattle.mw_law_runs.specs.RunInvariant.{IsSound}
use Rattle.mw_law_runs.proofs.Obligations.OwnChanges.{own_known}
use Rattle.mw_law_store.proofs.Claims.{OwnsAreClaimed}
use Rattle.mw_law_store.proofs.Elsewhere.{SameTenantChanges, elsewhere}
use Rattle.mw_law_store.specs.Due.{told}
use Rattle.mw_law_store.specs.Refinement.{is_live, told_of, changes_of_tenant, Refines}

-- in a sound world the own change of each request is one of its tenant's
pub owns_are_claimed : (config : Config) (state : State) (tenant : ℕ) → IsSound config state → OwnsAreClaimed (changes_of_tenant state.history tenant) state.worker_states tenant
owns_are_claimed config state tenant sound worker actor mine sits of_it owns =
    let own = own_known state actor mine actor.point (sound.requests worker actor sits).stands.knows owns in
    (own.is_claimed, own.same_tenant ∙ of_it)

-- a map by two numbers that is set at another place
upd_two_apart : {A : Type 0} (f : ℕ → ℕ → A) (i j k l : ℕ) (x : A) → (k ≡ i → l ≡ j → ⊥) → upd_two f i j x k l ≡ f k l
upd_two_apart f i j k l x apart = elim (cases_eq k i) [
  | inl same ↦ subst (λ (n : ℕ). upd_two f i j x n l ≡ f n l) (sym same) (upd_two_next f i j l x (λ too. apart same too))
  | inr other ↦ upd_two_else f i j k l x other
]

-- the change of a step's label is one of its request's tenant
abbrev pub IsAside : History → ℕ → StepLabel → Type 0
IsAside past its (Claimed own) = past.is_claimed own.slot own.seq ≡ false
IsAside past its (Decided target status) = past.tenant target.slot target.seq ≡ its
IsAside past its (Refused target entry value) = past.tenant target.slot target.seq ≡ its
IsAside past its (GaveUp own fault_facts) = past.tenant own.slot own.seq ≡ its
IsAside past its (SealedIt target) = past.tenant target.slot target.seq ≡ its
IsAside past its (FailedToSeal target) = past.tenant target.slot target.seq ≡ its
IsAside past its label = Unit {0}

module _ (past : History) (cells now : Cells) (its tenant : ℕ) (differ : its ≢ tenant)
    (fewer : (slot seq : ℕ) → is_live now slot seq → past.is_claimed slot seq ≡ true → is_live cells slot seq) where
  -- a change of the other tenant is not this one
  not_this : (target : Slot) → past.tenant target.slot target.seq ≡ its → (slot seq : ℕ) → past.tenant slot seq ≡ tenant → slot ≡ target.slot → seq ≡ target.seq → ⊥
  not_this target of_its slot seq of_it same too = differ (sym of_its ∙ sym (ap (λ (i : ℕ). past.tenant i seq) same ∙ ap (past.tenant target.slot) too) ∙ of_it)

  fated_aside : (target : Slot) (status : Status) → past.tenant target.slot target.seq ≡ its
      → SameTenantChanges (is_live cells) (changes_of_tenant past tenant) (told_of past) (is_live now) (changes_of_tenant past tenant) (told_of (record past { fate = upd_two past.fate target.slot target.seq status }))
  fated_aside target status of_its = record {
    was = λ slot seq is. is;
    request = λ slot seq is. refl;
    change = λ slot seq is. refl;
    told = λ slot seq is. ap (λ (s : Status). told (past.is_fault_decided slot seq) s (past.change slot seq))
        (upd_two_apart past.fate target.slot target.seq slot seq status (not_this target of_its slot seq is.1));
    live_else = λ slot seq lives is. fewer slot seq lives is.0;
  }

  fault_decided_aside : (target : Slot) → past.tenant target.slot target.seq ≡ its
      → SameTenantChanges (is_live cells) (changes_of_tenant past tenant) (told_of past) (is_live now) (changes_of_tenant past tenant) (told_of (record past { is_fault_decided = upd_two past.is_fault_decided target.slot target.seq true }))
  fault_decided_aside target of_its = record {
    was = λ slot seq is. is;
    request = λ slot seq is. refl;
    change = λ slot seq is. refl;
    told = λ slot seq is. ap (λ (b : Bool). told b (past.fate slot seq) (past.change slot seq))
        (upd_two_apart past.is_fault_decided target.slot target.seq slot seq true (not_this target of_its slot seq is.1));
    live_else = λ slot seq lives is. fewer slot seq lives is.0;
  }

  -- the new change belongs to its own tenant
  claimed_aside : (own : Slot) (worker : ℕ) (actor : ActorState) (request : ℕ) → actor.tenant ≡ its → past.is_claimed own.slot own.seq ≡ false
      → let after = with_label (Claimed own) worker actor request past in SameTenantChanges (is_live cells) (changes_of_tenant past tenant) (told_of past) (is_live now) (changes_of_tenant after tenant) (told_of after)
  claimed_aside own worker actor request of_its unborn = record {
    was = λ slot seq is.
        let apart = not_new slot seq is.1 in
        (sym (upd_two_apart past.is_claimed own.slot own.seq slot seq true apart) ∙ is.0, sym (upd_two_apart past.tenant own.slot own.seq slot seq actor.tenant apart) ∙ is.1);
    request = λ slot seq is. upd_two_apart past.request own.slot own.seq slot seq request (not_unborn slot seq is.0);
    change = λ slot seq is. upd_two_apart past.change own.slot own.seq slot seq (own_entries actor) (not_unborn slot seq is.0);
    told = λ slot seq is. ap (told (past.is_fault_decided slot seq) (past.fate slot seq)) (upd_two_apart past.change own.slot own.seq slot seq (own_entries actor) (not_unborn slot seq is.0));
    live_else = λ slot seq lives is. fewer slot seq lives is.0;
  }
    where
      false_true : false ≡ true → ⊥
      false_true e = cc

      not_unborn : (slot seq : ℕ) → past.is_claimed slot seq ≡ true → slot ≡ own.slot → seq ≡ own.seq → ⊥
      not_unborn slot seq is same too = false_true (sym unborn ∙ sym (ap (λ (i : ℕ). past.is_claimed i seq) same ∙ ap (past.is_claimed own.slot) too) ∙ is)

      not_new : (slot seq : ℕ) → upd_two past.tenant own.slot own.seq actor.tenant slot seq ≡ tenant → slot ≡ own.slot → seq ≡ own.seq → ⊥
      not_new slot seq is same too = differ (sym of_its ∙ sym (upd_two_here past.tenant own.slot own.seq actor.tenant)
          ∙ sym (ap (λ (i : ℕ). upd_two past.tenant own.slot own.seq actor.tenant i seq) same ∙ ap (upd_two past.tenant own.slot own.seq actor.tenant own.slot) too) ∙ is)

  pub labeled_aside : (label : StepLabel) (worker : ℕ) (actor : ActorState) (request : ℕ) → actor.tenant ≡ its → IsAside past its label
      → let after = with_label label worker actor request past in SameTenantChanges (is_live cells) (changes_of_tenant past tenant) (told_of past) (is_live now) (changes_of_tenant after tenant) (told_of after)
  labeled_aside (Claimed own) worker actor request of_its aside = claimed_aside own worker actor request of_its aside
  labeled_aside (Decided target status) worker actor request of_its aside = fated_aside target status aside
  labeled_aside (Refused target entry value) worker actor request of_its aside = fated_aside target (No entry value) aside
  labeled_aside (GaveUp own true) worker actor request of_its aside =
      let fault_decided = fault_decided_aside own aside in
      record { was = fault_decided.was; request = fault_decided.request; change = fault_decided.change; told = fault_decided.told; live_else = fault_decided.live_else }
  labeled_aside (SealedIt target) worker actor request of_its aside = fated_aside target Yes aside
  labeled_aside (FailedToSeal target) worker actor request of_its aside = fault_decided_aside target aside
  labeled_aside label worker actor request of_its aside = record {
    was = λ slot seq is. is;
    request = λ slot seq is. refl;
    change = λ slot seq is. refl;
    told = λ slot seq is. refl;
    live_else = λ slot seq lives is. fewer slot seq lives is.0;
  }

-- a request of another tenant makes a step
pub moved_aside : (state : State) (worker : ℕ) (actor next : ActorState) (made : Made) (tenant : ℕ) (store : Store) → actor.tenant ≢ tenant → next.tenant ≡ actor.tenant
    → ((slot seq : ℕ) → is_live made.cells slot seq → state.history.is_claimed slot seq ≡ true → is_live state.cells slot seq) → (made.cells.doors tenant).used ≡ (state.cells.doors tenant).used
    → IsAside state.history actor.tenant made.label → OwnsAreClaimed (changes_of_tenant state.history tenant) state.worker_states tenant → Refines state tenant store → Refines (moved_to state worker actor next made) tenant store
moved_aside state worker actor next made tenant store differ same_tenant fewer used aside owns refines =
    let tenant_state : (moved_to state worker actor next made).tenant_states tenant ≡ state.tenant_states tenant = upd_else state.tenant_states actor.tenant tenant _ (λ same. differ (sym same)) in
    let claimed = labeled_aside state.history state.cells made.cells actor.tenant tenant differ fewer made.label worker actor (state.worker_states worker).request refl aside in
    elsewhere state (moved_to state worker actor next made) worker tenant store (record {
      worker_states = λ other apart. upd_else state.worker_states worker other _ apart;
      not_its = λ after is of_it.
          let same = same_Some next after (sym (ap (λ (s : WorkerState). s.actor) (upd_here state.worker_states worker _)) ∙ is) in
          differ (sym same_tenant ∙ ap (λ (a : ActorState). a.tenant) same ∙ of_it);
      file = ap (λ (a : TenantState). a.file) tenant_state;
      quota = ap (λ (a : TenantState). a.quota) tenant_state;
      asked = ap (λ (a : TenantState). a.asked) tenant_state;
      used = used;
      changes = record { was = claimed.was; request = claimed.request; change = claimed.change; told = claimed.told; live_else = claimed.live_else };
    }) owns refines

-- a request of another tenant comes
pub came_aside : (config : Config) (state : State) (worker other tenant : ℕ) (job : Job) (store : Store) → other ≢ tenant → OwnsAreClaimed (changes_of_tenant state.history tenant) state.worker_states tenant
    → Refines state tenant store → Refines (came config state worker other job) tenant store
came_aside config state worker other tenant job store differ owns refines =
    let tenant_state : (came config state worker other job).tenant_states tenant ≡ state.tenant_states tenant = upd_else state.tenant_states other tenant _ (λ same. differ (sym same)) in
    let next = first worker other (state.tenant_states other).quota config.pool job in
    elsewhere state (came config state worker other job) worker tenant store (record {
      worker_states = λ one apart. upd_else state.worker_states worker one _ apart;
      not_its = λ after is of_it.
          let same = same_Some next after (sym (ap (λ (s : WorkerState). s.actor) (upd_here state.worker_states worker _)) ∙ is) in
          differ (ap (λ (a : ActorState). a.tenant) same ∙ of_it);
      file = ap (λ (a : TenantState). a.file) tenant_state;
      quota = ap (λ (a : TenantState). a.quota) tenant_state;
      asked = ap (λ (a : TenantState). a.asked) tenant_state;
      used = refl;
      changes = record { was = λ slot seq is. is; request = λ slot seq is. refl; change = λ slot seq is. refl; told = λ slot seq is. refl; live_else = λ slot seq lives is. lives };
    }) owns refines

-- the reply to a request of another tenant is handed out
pub gave_aside : (state : State) (worker other tenant : ℕ) (store : Store) → other ≢ tenant → OwnsAreClaimed (changes_of_tenant state.history tenant) state.worker_states tenant → Refines state tenant store
    → Refines (gave state worker other) tenant store
gave_aside state worker other tenant store differ owns refines =
    let tenant_state : (gave state worker other).tenant_states tenant ≡ state.tenant_states tenant = upd_else state.tenant_states other tenant _ (λ same. differ (sym same)) in
    elsewhere state (gave state worker other) worker tenant store (record {
      worker_states = λ one apart. upd_else state.worker_states worker one _ apart;
      not_its = λ after is of_it. none-some after (sym (ap (λ (s : WorkerState). s.actor) (upd_here state.worker_states worker _)) ∙ is);
      file = ap (λ (a : TenantState). a.file) tenant_state;
      quota = ap (λ (a : TenantState). a.quota) tenant_state;
      asked = ap (λ (a : TenantState). a.asked) tenant_state;
      used = refl;
      changes = record { was = λ slot seq is. is; request = λ slot seq is. refl; change = λ slot seq is. refl; told = λ slot seq is. refl; live_else = λ slot seq lives is. lives };
    }) owns refines
