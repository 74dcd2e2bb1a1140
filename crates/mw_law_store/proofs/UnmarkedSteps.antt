-- After a step of a request that is no mark, the tenant's part of the world still refines the same store alone.
-- Used by: CallMarks, MarkedSteps, EndsOfCalls, among others.
use Rattle.std.specs.Prelude.{ℕ, ◌≡◌, ◌⊎◌, Bool, true, false, length, Some}
use Rattle.std.proofs.Common.{refl, sym, ap, ◌∙◌, inl, inr}
use Rattle.std.proofs.lemmas.Bool.{cases_eq}
use Rattle.mw_words.specs.declared.jobs.Job.{Job}
use Rattle.mw_words.specs.declared.jobs.Job.TheVariants.{Get, Cas}
use Rattle.mw_words.specs.declared.replies.Reply.{Reply}
use Rattle.mw_words.specs.declared.replies.Reply.TheVariants.{Fault as SaysFault}
use Rattle.mw_words.specs.declared.statuses.Status.{Status}
use Rattle.mw_words.specs.declared.statuses.Status.TheVariants.{Draft, No}
use Rattle.mw_lone.specs.Store.{Store, request, entries_of, is_cas}
use Rattle.mw_look.specs.declared.observations.Observation.{Observation}
use Rattle.mw_actor.specs.declared.points.Slot.{Slot}
use Rattle.mw_actor.specs.ActorState.{ActorState, own_entries, entries_of_job}
use Rattle.mw_world.specs.Files.State.{File}
use Rattle.mw_world.specs.Maps.{upd, upd_two}
use Rattle.mw_world.specs.declared.step_labels.StepLabel.{StepLabel}
use Rattle.mw_world.specs.declared.step_labels.StepLabel.TheVariants.{Nothing, Reserved, Claimed, Decided, Refused, Moved, Freed, GaveUp}
use Rattle.mw_world.specs.Definition.Cells.{Cells}
use Rattle.mw_world.specs.Definition.LabelEffects.{with_claim, with_status, with_fault_decided, left}
use Rattle.mw_world.specs.Definition.History.{History}
use Rattle.mw_world.specs.Definition.State.{State, WorkerState}
use Rattle.mw_world.specs.Definition.Turns.{Made, tenant_state_after, next_attempt}
use Rattle.mw_law_runs.proofs.Knowledge.Updates.Preservation.{upd_two_here}
use Rattle.mw_law_store.proofs.Claims.{OwnsAreClaimed, IsOld, claims, frees}
use Rattle.mw_law_store.proofs.Ends.{EndsBy, Same, Claiming, Freeing, Settles, Quitting}
use Rattle.mw_law_store.proofs.RequestFrames.{fewer_of_its, retold}
use Rattle.mw_law_store.proofs.RefinementAfterStep.{after_step, NoMoreTaken, CountsAsMany, goes_reserving, moved_refines, two_set}
use Rattle.mw_law_store.proofs.Marks.{answers, quits as ends_quitting}
use Rattle.mw_law_store.specs.Due.{due, waits, told}
use Rattle.mw_law_store.specs.Refinement.{Tells, is_live, changes_of_tenant, told_of, Asking, Holding, Refines}

-- labels of steps that say nothing of requests
abbrev pub IsIdle : StepLabel → Type 0
IsIdle Nothing = Unit {0}
IsIdle Reserved = Unit {0}
IsIdle (Moved target address phase) = Unit {0}
IsIdle label = ⊥

-- labels of steps after which a request's own change may have its reply
abbrev pub IsQuiet : StepLabel → Type 0
IsQuiet Nothing = Unit {0}
IsQuiet (Moved target address phase) = Unit {0}
IsQuiet (GaveUp own false) = Unit {0}
IsQuiet label = ⊥

-- two numbers are these two, or are not
pub two_cases : (k l i j : ℕ) → ((k ≡ i) × (l ≡ j)) ⊎ (k ≡ i → l ≡ j → ⊥)
two_cases k l i j = elim (cases_eq k i) [
  | inl same ↦ elim (cases_eq l j) [
    | inl too ↦ inl (same, too)
    | inr other ↦ inr (λ e d. other d)
  ]
  | inr other ↦ inr (λ e d. other e)
]

-- a map that is set for two others
pub two_apart_set : {A : Type 0} (f : ℕ → ℕ → A) (i j : ℕ) (x : A) (k l : ℕ) → (k ≡ i → l ≡ j → ⊥) → upd_two f i j x k l ≡ f k l
two_apart_set f i j x k l apart = two_set (λ k l y. (k ≡ i → l ≡ j → ⊥) → y ≡ f k l) f i j x (λ differ. absurd (differ refl refl)) (λ k l other differ. refl) k l apart

false_true : false ≡ true → ⊥
false_true e = cc

-- a job's entries, by both definitions
same_entries : (job : Job) → entries_of job ≡ entries_of_job job
same_entries (Get address) = refl
same_entries (Cas entries) = refl

module _ (state : State) (actor next : ActorState) (cells : Cells) (observation : Observation) (store : Store) (refines : Refines state actor.tenant store) (sits : (state.worker_states actor.worker).actor ≡ Some actor)
    (same_tenant : next.tenant ≡ actor.tenant) (same_job : next.job ≡ actor.job) where
  abbrev worker_state : WorkerState
  worker_state = state.worker_states actor.worker

  abbrev held : File
  held = (state.tenant_states actor.tenant).file

  abbrev attempt : ℕ
  attempt = next_attempt actor.point (state.worker_states actor.worker).attempt

  abbrev made : StepLabel → File → Made
  made label now = record { cells = cells; file = now; observation = observation; label = label }

  -- the world after a step with this label, with this file
  abbrev after : StepLabel → File → State
  after label now = after_step state actor next cells observation label now

  abbrev Fewer : Type 0
  Fewer = NoMoreTaken state cells

  abbrev SameUsed : Type 0
  SameUsed = CountsAsMany state actor.tenant cells

  -- the tenant's state, if its file has the same contents and doubt, and has failed exactly if it had before
  same_holding : (label : StepLabel) (now : File) → now.contents ≡ held.contents → now.has_failed ≡ held.has_failed → now.doubt ≡ held.doubt → SameUsed
      → Holding cells (tenant_state_after (state.tenant_states actor.tenant) worker_state (made label now) state) actor.tenant store
  same_holding label now contents failed doubt same_used = record {
    words = contents ∙ refines.holds.words;
    quota = refines.holds.quota;
    used = same_used ∙ refines.holds.used;
    faulted = failed ∙ refines.holds.faulted;
    in_doubt = doubt ∙ refines.holds.in_doubt;
    next = refines.holds.next;
    numbered = refines.holds.numbered;
  }

  -- the requests before the step's request goes on, with the slots that are taken then and with the replies that changes have
  -- then
  pub fewer_asks : Fewer → Asking (is_live cells) (changes_of_tenant state.history actor.tenant) (told_of state.history) state.worker_states actor.tenant (request store)
  fewer_asks fewer =
      fewer_of_its (is_live state.cells) (changes_of_tenant state.history actor.tenant) (told_of state.history) state.worker_states actor.tenant (request store) refines.asks (is_live cells)
      (λ slot seq lives is. fewer slot seq lives is.0)

  retold_asks : (says : Tells) → ((slot seq : ℕ) → says slot seq ≡ told_of state.history slot seq) → Fewer
      → Asking (is_live cells) (changes_of_tenant state.history actor.tenant) says state.worker_states actor.tenant (request store)
  retold_asks says same fewer =
      retold (is_live cells) (changes_of_tenant state.history actor.tenant) (told_of state.history) state.worker_states actor.tenant (request store) (fewer_asks fewer) says (λ slot seq is. same slot seq)

  -- and after it, by its end
  going : (says : Tells) → Asking (is_live cells) (changes_of_tenant state.history actor.tenant) says state.worker_states actor.tenant (request store) → (kept : ℕ) → EndsBy Same actor.point next.point
      → Asking (is_live cells) (changes_of_tenant state.history actor.tenant) says (upd state.worker_states actor.worker (record worker_state { actor = Some next; attempt = attempt; kept = kept })) actor.tenant (request store)
  going says asks kept ends =
      goes_reserving (is_live cells) (changes_of_tenant state.history actor.tenant) says state.worker_states actor.tenant (request store) asks actor.worker actor next attempt kept sits same_tenant same_job ends.0 ends.2 ends.1

  answering : (says : Tells) → Asking (is_live cells) (changes_of_tenant state.history actor.tenant) says state.worker_states actor.tenant (request store) → (own : Slot) (reply : Reply)
      → EndsBy (Settles own reply) actor.point next.point → (changes_of_tenant state.history actor.tenant).is_of own.slot own.seq → says own.slot own.seq ≡ Some reply
      → Asking (is_live cells) (changes_of_tenant state.history actor.tenant) says (upd state.worker_states actor.worker (record worker_state { actor = Some next; attempt = attempt })) actor.tenant (request store)
  answering says asks own reply ends is_claimed is_told =
      answers (is_live cells) (changes_of_tenant state.history actor.tenant) says state.worker_states actor.tenant (request store) asks actor.worker actor next attempt own reply sits same_tenant same_job ends.0 ends.1 is_claimed is_told
      ends.2 ends.4 ends.3

  quitting : Fewer → EndsBy Quitting actor.point next.point
      → Asking (is_live cells) (changes_of_tenant state.history actor.tenant) (told_of state.history) (upd state.worker_states actor.worker (record worker_state { actor = Some next; attempt = attempt })) actor.tenant (request store)
  quitting fewer ends =
      ends_quitting (is_live cells) (changes_of_tenant state.history actor.tenant) (told_of state.history) state.worker_states actor.tenant (request store) (fewer_asks fewer) actor.worker actor next attempt sits same_tenant same_job
      ends.1 ends.2 ends.3

  -- A request goes on without a mark.
  pub stands : (label : StepLabel) → IsIdle label → EndsBy Same actor.point next.point → Fewer → SameUsed → Refines (after label held) actor.tenant store
  stands Nothing idle ends fewer same_used =
      moved_refines state actor next (made Nothing held) store (same_holding Nothing held refl refl refl same_used) (going (told_of state.history) (fewer_asks fewer) worker_state.kept ends)
  stands (Moved target address phase) idle ends fewer same_used =
      moved_refines state actor next (made (Moved target address phase) held) store (same_holding (Moved target address phase) held refl refl refl same_used)
      (going (told_of state.history) (fewer_asks fewer) worker_state.kept ends)
  stands Reserved idle ends fewer same_used =
      moved_refines state actor next (made Reserved held) store (same_holding Reserved held refl refl refl same_used)
      (going (told_of state.history) (fewer_asks fewer) (length (state.tenant_states actor.tenant).lines) ends)
  stands label idle ends fewer same_used = absurd idle

  -- Its own change has this reply.
  pub settles : (label : StepLabel) → IsQuiet label → (own : Slot) (reply : Reply) → EndsBy (Settles own reply) actor.point next.point → (changes_of_tenant state.history actor.tenant).is_of own.slot own.seq
      → told_of state.history own.slot own.seq ≡ Some reply → Fewer → SameUsed → Refines (after label held) actor.tenant store
  settles Nothing quiet own reply ends is_claimed is_told fewer same_used =
      moved_refines state actor next (made Nothing held) store (same_holding Nothing held refl refl refl same_used) (answering (told_of state.history) (fewer_asks fewer) own reply ends is_claimed is_told)
  settles (Moved target address phase) quiet own reply ends is_claimed is_told fewer same_used =
      moved_refines state actor next (made (Moved target address phase) held) store (same_holding (Moved target address phase) held refl refl refl same_used)
      (answering (told_of state.history) (fewer_asks fewer) own reply ends is_claimed is_told)
  settles (GaveUp one false) quiet own reply ends is_claimed is_told fewer same_used =
      moved_refines state actor next (made (GaveUp one false) held) store (same_holding (GaveUp one false) held refl refl refl same_used)
      (answering (told_of state.history) (fewer_asks fewer) own reply ends is_claimed is_told)
  settles label quiet own reply ends is_claimed is_told fewer same_used = absurd quiet

  -- It ends because a number is used up.
  pub quits : (label : StepLabel) → IsQuiet label → EndsBy Quitting actor.point next.point → Fewer → SameUsed → Refines (after label held) actor.tenant store
  quits Nothing quiet ends fewer same_used = moved_refines state actor next (made Nothing held) store (same_holding Nothing held refl refl refl same_used) (quitting fewer ends)
  quits (Moved target address phase) quiet ends fewer same_used =
      moved_refines state actor next (made (Moved target address phase) held) store (same_holding (Moved target address phase) held refl refl refl same_used) (quitting fewer ends)
  quits (GaveUp one false) quiet ends fewer same_used =
      moved_refines state actor next (made (GaveUp one false) held) store (same_holding (GaveUp one false) held refl refl refl same_used) (quitting fewer ends)
  quits label quiet ends fewer same_used = absurd quiet

  -- it gives up, and FAULT was decided before for its change
  pub gave_up_again : (own : Slot) → EndsBy (Settles own SaysFault) actor.point next.point → (changes_of_tenant state.history actor.tenant).is_of own.slot own.seq → state.history.is_fault_decided own.slot own.seq ≡ true
      → Fewer → SameUsed → Refines (after (GaveUp own true) held) actor.tenant store
  gave_up_again own ends is_claimed fault_was_decided fewer same_used =
      let past = state.history in
      let says = told_of (with_fault_decided (left past own) own) in
      moved_refines state actor next (made (GaveUp own true) held) store (same_holding (GaveUp own true) held refl refl refl same_used)
      (answering says
      (retold_asks says
      (two_set (λ (k l : ℕ) (b : Bool). told b (past.fate k l) (past.change k l) ≡ told_of past k l) past.is_fault_decided own.slot own.seq true
      (sym (ap (λ (b : Bool). told b (past.fate own.slot own.seq) (past.change own.slot own.seq)) fault_was_decided)) (λ k l apart. refl)) fewer)
      own SaysFault ends is_claimed (ap (λ (b : Bool). told b (past.fate own.slot own.seq) (past.change own.slot own.seq)) (upd_two_here past.is_fault_decided own.slot own.seq true)))

  -- a change gets another status, which gives the same reply; its file has the same contents, and has failed exactly if it had
  -- before
  retold_fate : (target : Slot) (status : Status) → told (state.history.is_fault_decided target.slot target.seq) status (state.history.change target.slot target.seq) ≡ told_of state.history target.slot target.seq
      → (slot seq : ℕ) → told_of (with_status state.history target status) slot seq ≡ told_of state.history slot seq
  retold_fate target status same =
      let past = state.history in
      two_set (λ (k l : ℕ) (s : Status). told (past.is_fault_decided k l) s (past.change k l) ≡ told_of past k l) past.fate target.slot target.seq status same (λ k l apart. refl)

  pub decided : (target : Slot) (status : Status) → told (state.history.is_fault_decided target.slot target.seq) status (state.history.change target.slot target.seq) ≡ told_of state.history target.slot target.seq
      → EndsBy Same actor.point next.point → Fewer → SameUsed → (now : File) → now.contents ≡ held.contents → now.has_failed ≡ held.has_failed → now.doubt ≡ held.doubt
      → Refines (after (Decided target status) now) actor.tenant store
  decided target status same ends fewer same_used now contents failed doubt =
      let says = told_of (with_status state.history target status) in
      moved_refines state actor next (made (Decided target status) now) store (same_holding (Decided target status) now contents failed doubt same_used)
      (going says (retold_asks says (retold_fate target status same) fewer) worker_state.kept ends)

  -- a change is refused for which FAULT was decided before
  pub refused_late : (target : Slot) (entry value : ℕ) → state.history.is_fault_decided target.slot target.seq ≡ true → EndsBy Same actor.point next.point → Fewer → SameUsed
      → Refines (after (Refused target entry value) held) actor.tenant store
  refused_late target entry value fault_was_decided ends fewer same_used =
      let past = state.history in
      let says = told_of (with_status past target (No entry value)) in
      moved_refines state actor next (made (Refused target entry value) held) store (same_holding (Refused target entry value) held refl refl refl same_used)
      (going says
      (retold_asks says
      (retold_fate target (No entry value)
      (ap (λ (b : Bool). told b (No entry value) (past.change target.slot target.seq)) fault_was_decided
      ∙ sym (ap (λ (b : Bool). told b (past.fate target.slot target.seq) (past.change target.slot target.seq)) fault_was_decided)))
      fewer)
      worker_state.kept ends)

  -- the history in which a slot is claimed by this request
  abbrev grown : Slot → History
  grown own = with_claim state.history own.slot own.seq actor.worker actor.tenant worker_state.request (own_entries actor)

  which : (own : Slot) (slot seq : ℕ) → (changes_of_tenant (grown own) actor.tenant).is_of slot seq → ((slot ≡ own.slot) × (seq ≡ own.seq)) ⊎ (slot ≡ own.slot → seq ≡ own.seq → ⊥)
      → IsOld (changes_of_tenant state.history actor.tenant) (told_of state.history) (changes_of_tenant (grown own) actor.tenant) (told_of (grown own)) slot seq ⊎ ((slot ≡ own.slot) × (seq ≡ own.seq))
  which own slot seq is (inl same) = inr same
  which own slot seq is (inr apart) =
      let past = state.history in
      inl (record {
        was = (
          sym (two_apart_set past.is_claimed own.slot own.seq true slot seq apart) ∙ is.0,
          sym (two_apart_set past.tenant own.slot own.seq actor.tenant slot seq apart) ∙ is.1,
        );
        request = two_apart_set past.request own.slot own.seq worker_state.request slot seq apart;
        change = two_apart_set past.change own.slot own.seq (own_entries actor) slot seq apart;
        tells_same = ap (told (past.is_fault_decided slot seq) (past.fate slot seq)) (two_apart_set past.change own.slot own.seq (own_entries actor) slot seq apart);
      })

  same_request : (own : Slot) → state.history.is_claimed own.slot own.seq ≡ false → (slot seq : ℕ) → (changes_of_tenant state.history actor.tenant).is_of slot seq
      → ((slot ≡ own.slot) × (seq ≡ own.seq)) ⊎ (slot ≡ own.slot → seq ≡ own.seq → ⊥) → (grown own).request slot seq ≡ state.history.request slot seq
  same_request own unborn slot seq is (inl same) = absurd (false_true (sym unborn ∙ sym (ap (λ (k : ℕ). state.history.is_claimed k seq) same.0 ∙ ap (state.history.is_claimed own.slot) same.1) ∙ is.0))
  same_request own unborn slot seq is (inr apart) = two_apart_set state.history.request own.slot own.seq worker_state.request slot seq apart

  -- A slot is claimed under a number under which it was never claimed.
  pub claimed : (own : Slot) → EndsBy (Claiming own) actor.point next.point → state.history.is_claimed own.slot own.seq ≡ false → state.history.is_fault_decided own.slot own.seq ≡ false
      → state.history.fate own.slot own.seq ≡ Draft → ((slot seq : ℕ) → is_live cells slot seq → (is_live state.cells slot seq) ⊎ ((slot ≡ own.slot) × (seq ≡ own.seq)))
      → OwnsAreClaimed (changes_of_tenant state.history actor.tenant) state.worker_states actor.tenant → SameUsed → Refines (after (Claimed own) held) actor.tenant store
  claimed own ends unborn fault_not_decided draft live_else owns_claimed same_used =
      let past = state.history in
      moved_refines state actor next (made (Claimed own) held) store (same_holding (Claimed own) held refl refl refl same_used)
      (claims (is_live state.cells) (changes_of_tenant past actor.tenant) (told_of past) state.worker_states actor.tenant (request store) refines.asks (is_live cells) (changes_of_tenant (grown own) actor.tenant) (told_of (grown own)) actor.worker actor next own
      attempt (own_entries actor)
      (record {
        which = λ slot seq is. which own slot seq is (two_cases slot seq own.slot own.seq);
        is_new = (upd_two_here past.is_claimed own.slot own.seq true, upd_two_here past.tenant own.slot own.seq actor.tenant);
        not_before = λ is. false_true (sym unborn ∙ is.0);
        same_request = λ slot seq is. same_request own unborn slot seq is (two_cases slot seq own.slot own.seq);
        request = upd_two_here past.request own.slot own.seq worker_state.request;
        change = upd_two_here past.change own.slot own.seq (own_entries actor);
        tells_nothing =
            ap (λ (b : Bool). told b (past.fate own.slot own.seq) ((grown own).change own.slot own.seq)) fault_not_decided ∙ ap (λ (s : Status). told false s ((grown own).change own.slot own.seq)) draft;
        live_else = live_else;
      })
      owns_claimed (same_entries actor.job) sits refl ends.0 ends.1 ends.3 ends.2 same_job same_tenant)

  -- A slot of a change that is done with is freed. A request that waits for a slot frees none.
  pub freed : (slot : Slot) (reply : Reply) → EndsBy Freeing actor.point next.point → (waits (due actor.point) ≡ true → is_cas actor.job ≡ true → ⊥)
      → (changes_of_tenant state.history actor.tenant).is_of slot.slot slot.seq → is_live state.cells slot.slot slot.seq → (is_live cells slot.slot slot.seq → ⊥)
      → told_of state.history slot.slot slot.seq ≡ Some reply → Fewer → SameUsed → Refines (after (Freed slot) held) actor.tenant store
  freed slot reply ends reads is_claimed lives gone is_told fewer same_used =
      moved_refines state actor next (made (Freed slot) held) store (same_holding (Freed slot) held refl refl refl same_used)
      (frees (is_live state.cells) (changes_of_tenant state.history actor.tenant) (told_of state.history) state.worker_states actor.tenant (request store) refines.asks (is_live cells) actor.worker slot.slot slot.seq actor next reply attempt
      lives is_claimed is_told gone (λ k l still is. fewer k l still is.0) (λ waiting is_change. reads (sym (ap waits ends.0) ∙ waiting) is_change) sits refl ends.2 ends.0 ends.1 same_job same_tenant)
