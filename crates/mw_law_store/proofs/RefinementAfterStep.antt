-- A tenant's part of the world still refines its store alone after a step, if the tenant's state, requests and changes each
-- still do. Used by: CallMarks, MarkedSteps, Turns, among others.
use Rattle.std.specs.Prelude.{ℕ, ◌≡◌, ◌≢◌, ◌==◌, Bool, true, false, if◌then◌else◌, Option, Some}
use Rattle.std.proofs.Common.{refl, sym, subst, ◌∙◌, arith, inl, inr}
use Rattle.std.proofs.lemmas.Bool.{cases_eq}
use Rattle.std.proofs.lemmas.Bool.Decides.{nat_tests}
use Rattle.mw_words.specs.declared.jobs.Job.{Job}
use Rattle.mw_lone.specs.Store.{Store, RequestState, request}
use Rattle.mw_law_store.specs.Late.LateMarks.{IsNumbered}
use Rattle.mw_look.specs.declared.observations.Observation.{Observation}
use Rattle.mw_actor.specs.ActorState.{ActorState}
use Rattle.mw_world.specs.Files.State.{File}
use Rattle.mw_world.specs.declared.step_labels.StepLabel.{StepLabel}
use Rattle.mw_world.specs.Maps.{upd, upd_two}
use Rattle.mw_world.specs.Definition.Cells.{Cells}
use Rattle.mw_world.specs.Definition.LabelEffects.{with_label, with_labels}
use Rattle.mw_world.specs.Definition.State.{State, WorkerState, TenantState}
use Rattle.mw_world.specs.Definition.Turns.{Made, moved_to, tenant_state_after, goes_on, next_attempt}
use Rattle.mw_law_runs.proofs.Knowledge.Updates.Preservation.{upd_here}
use Rattle.mw_law_runs.specs.Obligations.{own_of}
use Rattle.mw_law_store.proofs.Ends.{OwnGoes}
use Rattle.mw_law_store.proofs.RequestFrames.{Puts, sits, worker_state_goes, refines_actor, apart_goes}
use Rattle.mw_law_store.specs.Due.{due, Retiring, lowers}
use Rattle.mw_law_store.specs.Refinement.{Requests, Live, Tells, TenantChanges, is_live, changes_of_tenant, told_of, WorkerRefines, AreApart, Asking, Holding, Refines}

-- The world after a step: its request goes on so, it leaves these shared words and this file, and it has this observation and
-- this label.
abbrev pub after_step : State → ActorState → ActorState → Cells → Observation → StepLabel → File → State
after_step state actor next cells observation label now = moved_to state actor.worker actor next (record { cells = cells; file = now; observation = observation; label = label })

-- Each slot that is taken for a change after the step was taken for it before.
abbrev pub NoMoreTaken : State → Cells → Type 0
NoMoreTaken state cells = (slot seq : ℕ) → is_live cells slot seq → state.history.is_claimed slot seq ≡ true → is_live state.cells slot seq

-- The tenant's door counts as many slots.
abbrev pub CountsAsMany : State → ℕ → Cells → Type 0
CountsAsMany state tenant cells = (cells.doors tenant).used ≡ (state.cells.doors tenant).used

-- One request that was asked changes, and numbers stay below the next one.
pub numbered_put : (s t : Store) (k : ℕ) (found r : RequestState) → request s k ≡ Some found → Puts (request s) (request t) k r → t.next ≡ s.next → IsNumbered s → IsNumbered t
numbered_put s t k found r is changed next numbered n one asked = elim (cases_eq n k) [
  | inl same ↦ omega (arith, numbered k found is, same, next)
  | inr other ↦ omega (arith, numbered n one (sym (changed.others n other) ∙ asked), next)
]

-- a fact about all places of a map holds after it is set at one place, if it holds there and at all others
pub two_set : {A : Type 0} (P : ℕ → ℕ → A → Type 0) (f : ℕ → ℕ → A) (i j : ℕ) (x : A) → P i j x → ((k l : ℕ) → (k ≡ i → l ≡ j → ⊥) → P k l (f k l)) → (k l : ℕ) → P k l (upd_two f i j x k l)
two_set P f i j x here else_where k l = by_tests (k == i) (l == j) refl refl
  where
    by_tests : (one two : Bool) → (k == i) ≡ one → (l == j) ≡ two → P k l (if one then (if two then x else f k l) else f k l)
    by_tests true true is too = subst (λ (n : ℕ). P n l x) (sym (same k i is)) (subst (λ (n : ℕ). P i n x) (sym (same l j too)) here)
      where
        same : (n m : ℕ) → (n == m) ≡ true → n ≡ m
        same n m e = grind (arith, nat_tests, e)
    by_tests true false is other = else_where k l (λ e d. apart l j other d)
      where
        apart : (n m : ℕ) → (n == m) ≡ false → n ≢ m
        apart n m e d = grind (arith, nat_tests, e, d)
    by_tests false two other is = else_where k l (λ e d. apart k i other e)
      where
        apart : (n m : ℕ) → (n == m) ≡ false → n ≢ m
        apart n m e d = grind (arith, nat_tests, e, d)

-- A request goes on, all that is due of it is as before, and it has reserved a place.
pub goes_reserving : (live : Live) (claimed : TenantChanges) (tells : Tells) (worker_states : ℕ → WorkerState) (tenant : ℕ) (at : Requests) → Asking live claimed tells worker_states tenant at → (worker : ℕ) (actor next : ActorState) (attempt kept : ℕ)
    → (worker_states worker).actor ≡ Some actor → next.tenant ≡ actor.tenant → next.job ≡ actor.job → due next.point ≡ due actor.point → lowers next.point ≢ Retiring → OwnGoes actor.point next.point
    → Asking live claimed tells (upd worker_states worker (record (worker_states worker) { actor = Some next; attempt = attempt; kept = kept })) tenant at
goes_reserving live claimed tells worker_states tenant at asking worker actor next attempt kept is same_tenant same_job same_due lowers_none own_goes =
    let worker_state = worker_states worker in
    let now = record (worker_states worker) { actor = Some next; attempt = attempt; kept = kept } in
    sits live claimed tells worker_states tenant at worker now asking.changes
    (λ of_it. subst (λ (job : Job). WorkerRefines live claimed at worker_state.request worker_state.retiring job (due next.point) (lowers next.point) (own_of next.point)) (sym same_job)
    (worker_state_goes live claimed at worker_state.request worker_state.retiring actor.job (due actor.point) (due next.point) (lowers actor.point) (lowers next.point) (own_of actor.point) (own_of next.point) same_due lowers_none own_goes
    (refines_actor live claimed tenant at worker_state.request worker_state.retiring worker_state.actor actor is (sym same_tenant ∙ of_it) (asking.each worker))))
    (λ other differs. asking.each other) asking.apart
    (λ other differs. apart_goes tenant worker_state now (worker_states other) actor next (worker_states other).actor refl same_tenant (λ two too of_two lowered. absurd (lowers_none lowered))
    (subst (λ (a : Option ActorState). AreApart tenant worker_state (worker_states other) a (worker_states other).actor) is (asking.apart worker other (λ same. differs (sym same)))))

-- The world after a step refines a store, if the tenant's state and its requests agree with that store.
pub moved_refines : (state : State) (actor next : ActorState) (made : Made) (t : Store) → Holding made.cells (tenant_state_after (state.tenant_states actor.tenant) (state.worker_states actor.worker) made state) actor.tenant t
    → Asking (is_live made.cells) (changes_of_tenant (with_label made.label actor.worker actor (state.worker_states actor.worker).request state.history) actor.tenant)
    (told_of (with_label made.label actor.worker actor (state.worker_states actor.worker).request state.history))
    (upd state.worker_states actor.worker (goes_on (with_labels made.label state.history (state.tenant_states actor.tenant).lines (state.worker_states actor.worker)) next (next_attempt actor.point (state.worker_states actor.worker).attempt))) actor.tenant (request t)
    → Refines (moved_to state actor.worker actor next made) actor.tenant t
moved_refines state actor next made t holds asks = record {
  holds = subst (λ (tenant_state : TenantState). Holding made.cells tenant_state actor.tenant t) (sym (upd_here state.tenant_states actor.tenant (tenant_state_after (state.tenant_states actor.tenant) (state.worker_states actor.worker) made state))) holds;
  asks = asks;
}
