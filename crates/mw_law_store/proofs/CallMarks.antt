-- Each way in which a call on a tenant's file can end is one mark of the tenant's store alone, or none.
-- Used by: ReachedPoints, Called, EndsOfCalls.
use Rattle.std.specs.Prelude.{ℕ, ◌≡◌, Bool, true, false, if◌then◌else◌, List, [], Some, None}
use Rattle.std.proofs.Common.{refl, sym, ap, subst, ◌∙◌}
use Rattle.mw_words.specs.declared.doors.Door.{Door}
use Rattle.mw_words.specs.declared.replies.Reply.{Reply}
use Rattle.mw_words.specs.declared.replies.Reply.TheVariants.{Yes as SaysYes, Fault as SaysFault}
use Rattle.mw_words.specs.declared.statuses.Status.{Status}
use Rattle.mw_words.specs.declared.statuses.Status.TheVariants.{YesDirty, Yes}
use Rattle.mw_words.specs.Change.{fits, put}
use Rattle.mw_lone.specs.Store.{Store, request, with_reply, entries_of}
use Rattle.mw_law_store.specs.Late.MarkEffects.{Fits, Writes, FailsToWrite, Fails}
use Rattle.mw_look.specs.declared.observations.Observation.{Observation}
use Rattle.mw_look.specs.declared.steps.Call.{Call}
use Rattle.mw_actor.specs.declared.points.Slot.{Slot}
use Rattle.mw_actor.specs.ActorState.{ActorState}
use Rattle.mw_world.specs.declared.outcomes.Outcome.{Outcome}
use Rattle.mw_world.specs.declared.outcomes.Outcome.TheVariants.{Good, Fail}
use Rattle.mw_world.specs.Files.State.{File, entries_at, sealed, broken}
use Rattle.mw_world.specs.Maps.{upd}
use Rattle.mw_world.specs.declared.step_labels.StepLabel.{StepLabel}
use Rattle.mw_world.specs.declared.step_labels.StepLabel.TheVariants.{Nothing, SealedIt, FailedToSeal, FailedFile}
use Rattle.mw_world.specs.Definition.Calls.{breaks, ends, faults, goes_well, is_made, moved_if, skips}
use Rattle.mw_world.specs.Definition.Cells.{Cells}
use Rattle.mw_world.specs.Definition.LabelEffects.{with_status, with_fault_decided}
use Rattle.mw_world.specs.Definition.State.{State, WorkerState}
use Rattle.mw_world.specs.Definition.Turns.{Made, moved, next_attempt}
use Rattle.mw_law_runs.proofs.Knowledge.Updates.Preservation.{upd_here, upd_two_here}
use Rattle.mw_law_runs.proofs.Obligations.Pins.{some_same, none_some}
use Rattle.mw_law_store.proofs.Ends.{EndsBy, Same}
use Rattle.mw_law_store.proofs.RequestFrames.{Puts, puts}
use Rattle.mw_law_store.proofs.RefinementAfterStep.{after_step, NoMoreTaken, CountsAsMany, numbered_put, goes_reserving, moved_refines}
use Rattle.mw_law_store.proofs.Marks.{change_replied}
use Rattle.mw_law_store.proofs.UnmarkedSteps.{two_apart_set, fewer_asks}
use Rattle.mw_law_store.specs.Due.{told}
use Rattle.mw_law_store.specs.Refinement.{Tells, IsOfChange, is_live, changes_of_tenant, told_of, Asking, Refines}

-- How a call may end: it doesn't start, the file had failed, it goes well, or one of its device calls fails.
module _ (P : State → Type 0) (state : State) (worker : ℕ) (actor : ActorState) (change : Slot) (file : File) (call : Call) (status : Status) (place calls : ℕ) where
  pub record CallEnds (starts had_failed can_be : Bool) : Type 0 where
    pub skipped : starts ≡ false → P (moved state worker actor (skips state actor change file))
    pub faulted : starts ≡ true → had_failed ≡ true → P (moved state worker actor (faults state actor change file file Nothing))
    pub well : starts ≡ true → had_failed ≡ false → can_be ≡ true → P (moved state worker actor (goes_well state actor change file call status place))
    pub broke : (number : ℕ) → starts ≡ true → had_failed ≡ false → can_be ≡ true → is_made calls number ≡ true → P (moved state worker actor (breaks state actor change file call place))

  broken_if : (test : Bool) (after : State) → (test ≡ true → P (moved state worker actor (breaks state actor change file call place)))
      → moved_if state worker actor (if test then Some (breaks state actor change file call place) else None) ≡ Some after → P after
  broken_if true after there is = subst P (some_same _ after is) (there refl)
  broken_if false after there is = absurd (none_some after is)

  pub call_ended : (starts had_failed can_be : Bool) (outcome : Outcome) (after : State) → CallEnds starts had_failed can_be
      → moved_if state worker actor (ends state actor change file starts had_failed can_be call status place calls outcome) ≡ Some after → P after
  call_ended false had_failed can_be Good after all is = subst P (some_same _ after is) (all.skipped refl)
  call_ended false had_failed can_be (Fail number) after all is = absurd (none_some after is)
  call_ended true true can_be Good after all is = subst P (some_same _ after is) (all.faulted refl refl)
  call_ended true true can_be (Fail number) after all is = absurd (none_some after is)
  call_ended true false true Good after all is = subst P (some_same _ after is) (all.well refl refl refl)
  call_ended true false true (Fail number) after all is = broken_if (is_made calls number) after (λ makes. all.broke number refl refl refl makes) is
  call_ended true false false outcome after all is = absurd (none_some after is)

-- A door counts as many slots when it gets the fault.
pub fault_counts : (state : State) (actor : ActorState) (change : Slot) (file now : File) (label : StepLabel) → CountsAsMany state actor.tenant (faults state actor change file now label).cells
fault_counts state actor change file now label = ap (λ (door : Door). door.used) (upd_here state.cells.doors actor.tenant _)

module _ (state : State) (actor next : ActorState) (cells : Cells) (observation : Observation) (store : Store) (refines : Refines state actor.tenant store) (sits : (state.worker_states actor.worker).actor ≡ Some actor)
    (same_tenant : next.tenant ≡ actor.tenant) (same_job : next.job ≡ actor.job) where
  abbrev worker_state : WorkerState
  worker_state = state.worker_states actor.worker

  abbrev held : File
  held = (state.tenant_states actor.tenant).file

  abbrev attempt : ℕ
  attempt = next_attempt actor.point (state.worker_states actor.worker).attempt

  abbrev made : StepLabel → File → Made
  made label now = record { cells = cells; file = now; observation = observation; label = label }

  abbrev after : StepLabel → File → State
  after label now = after_step state actor next cells observation label now

  -- A change that is decided to be made and fits its tenant's words, on a file that works.
  pub record IsReadyToSeal (target : Slot) (place : ℕ) : Type 0 where
    pub is_claimed : (changes_of_tenant state.history actor.tenant).is_of target.slot target.seq
    pub is_decided : state.history.fate target.slot target.seq ≡ YesDirty
    pub fault_not_decided : state.history.is_fault_decided target.slot target.seq ≡ false
    pub file_works : held.has_failed ≡ false
    pub entries : entries_at held place ≡ state.history.change target.slot target.seq
    pub as_expected : fits held.contents (state.history.change target.slot target.seq) ≡ true

  module _ (target : Slot) (place : ℕ) (ready : IsReadyToSeal target place) where
    abbrev k : ℕ
    k = state.history.request target.slot target.seq

    of_change : IsOfChange (request store) k (state.history.change target.slot target.seq) (told_of state.history target.slot target.seq)
    of_change = refines.asks.changes.asked target.slot target.seq ready.is_claimed

    untold : told_of state.history target.slot target.seq ≡ None
    untold =
        ap (λ (b : Bool). told b (state.history.fate target.slot target.seq) (state.history.change target.slot target.seq)) ready.fault_not_decided
        ∙ ap (λ (s : Status). told false s (state.history.change target.slot target.seq)) ready.is_decided

    fits_now : Fits store k of_change.found
    fits_now = record {
      is_asked = of_change.is_asked;
      has_slot = of_change.has_slot;
      has_no_reply = of_change.is_placed ∙ untold;
      file_works = sym refines.holds.faulted ∙ ready.file_works;
      as_expected = ap (λ (words : List ℕ). fits words (entries_of of_change.found.job)) (sym refines.holds.words) ∙ ap (fits held.contents) of_change.its_entries ∙ ready.as_expected;
    }

    -- the entries in its place are those of its request in the store
    same_entries : entries_at held place ≡ entries_of of_change.found.job
    same_entries = ready.entries ∙ sym of_change.its_entries

    -- the requests still agree after the change's request gets this reply
    replied_asks : (says : Tells) (reply : Reply) (t : Store) → Puts (request store) (request t) k (record (of_change.found) { placed = Some reply }) → says target.slot target.seq ≡ Some reply
        → ((i j : ℕ) → (i ≡ target.slot → j ≡ target.seq → ⊥) → says i j ≡ told_of state.history i j) → EndsBy Same actor.point next.point → NoMoreTaken state cells
        → Asking (is_live cells) (changes_of_tenant state.history actor.tenant) says (upd state.worker_states actor.worker (record worker_state { actor = Some next; attempt = attempt })) actor.tenant (request t)
    replied_asks says reply t changed is_told others ends fewer =
        goes_reserving (is_live cells) (changes_of_tenant state.history actor.tenant) says state.worker_states actor.tenant (request t)
        (change_replied (is_live cells) (changes_of_tenant state.history actor.tenant) (told_of state.history) state.worker_states actor.tenant (request store)
        (fewer_asks state actor next cells observation store refines sits same_tenant same_job fewer) (request t) says target.slot target.seq of_change.found reply ready.is_claimed of_change.is_asked untold is_told others changed)
        actor.worker actor next attempt worker_state.kept sits same_tenant same_job ends.0 ends.2 ends.1

    -- The change is sealed.
    pub sealed_it : EndsBy Same actor.point next.point → NoMoreTaken state cells → CountsAsMany state actor.tenant cells
        → (t : Store) × Writes store k t × Refines (after (SealedIt target) (sealed held place)) actor.tenant t
    sealed_it ends fewer same_used =
        let past = state.history in
        let r = record (of_change.found) { placed = Some SaysYes } in
        let t = record (with_reply store k of_change.found SaysYes) { words = put store.words (entries_of of_change.found.job) } in
        let changed = puts store t k r refl in (
          t,
          record { found = of_change.found; can_be_written = fits_now; after = refl },
          moved_refines state actor next (made (SealedIt target) (sealed held place)) t
              (record {
                words = ap (put held.contents) same_entries ∙ ap (λ (words : List ℕ). put words (entries_of of_change.found.job)) refines.holds.words;
                quota = refines.holds.quota;
                used = same_used ∙ refines.holds.used;
                faulted = refines.holds.faulted;
                in_doubt = refines.holds.in_doubt;
                next = refines.holds.next;
                numbered = numbered_put store t k of_change.found r of_change.is_asked changed refl refines.holds.numbered;
              })
              (replied_asks (told_of (with_status past target Yes)) SaysYes t changed
              (ap (λ (s : Status). told (past.is_fault_decided target.slot target.seq) s (past.change target.slot target.seq)) (upd_two_here past.fate target.slot target.seq Yes)
              ∙ ap (λ (b : Bool). told b Yes (past.change target.slot target.seq)) ready.fault_not_decided)
              (λ i j apart. ap (λ (s : Status). told (past.is_fault_decided i j) s (past.change i j)) (two_apart_set past.fate target.slot target.seq Yes i j apart)) ends fewer),
        )

    -- The device failed while the change was sealed, and the change is in doubt.
    pub failed_to_seal : EndsBy Same actor.point next.point → NoMoreTaken state cells → CountsAsMany state actor.tenant cells
        → (t : Store) × FailsToWrite store k t × Refines (after (FailedToSeal target) (broken held (entries_at held place))) actor.tenant t
    failed_to_seal ends fewer same_used =
        let past = state.history in
        let r = record (of_change.found) { placed = Some SaysFault } in
        let t = record (with_reply store k of_change.found SaysFault) { faulted = true; in_doubt = entries_of of_change.found.job } in
        let changed = puts store t k r refl in (
          t,
          record { found = of_change.found; can_be_written = fits_now; after = refl },
          moved_refines state actor next (made (FailedToSeal target) (broken held (entries_at held place))) t
              (record {
                words = refines.holds.words;
                quota = refines.holds.quota;
                used = same_used ∙ refines.holds.used;
                faulted = refl;
                in_doubt = same_entries;
                next = refines.holds.next;
                numbered = numbered_put store t k of_change.found r of_change.is_asked changed refl refines.holds.numbered;
              })
              (replied_asks (told_of (with_fault_decided past target)) SaysFault t changed
              (ap (λ (b : Bool). told b (past.fate target.slot target.seq) (past.change target.slot target.seq)) (upd_two_here past.is_fault_decided target.slot target.seq true))
              (λ i j apart. ap (λ (b : Bool). told b (past.fate i j) (past.change i j)) (two_apart_set past.is_fault_decided target.slot target.seq true i j apart)) ends fewer),
        )

  -- The device failed in a call that seals no change.
  pub failed_file : held.has_failed ≡ false → held.doubt ≡ [] → EndsBy Same actor.point next.point → NoMoreTaken state cells → CountsAsMany state actor.tenant cells
      → (t : Store) × Fails store t × Refines (after FailedFile (broken held [])) actor.tenant t
  failed_file works certain ends fewer same_used = (
    record store { faulted = true },
    record { file_works = sym refines.holds.faulted ∙ works; after = refl },
    moved_refines state actor next (made FailedFile (broken held [])) (record store { faulted = true })
        (record {
          words = refines.holds.words;
          quota = refines.holds.quota;
          used = same_used ∙ refines.holds.used;
          faulted = refl;
          in_doubt = sym certain ∙ refines.holds.in_doubt;
          next = refines.holds.next;
          numbered = refines.holds.numbered;
        })
        (goes_reserving (is_live cells) (changes_of_tenant state.history actor.tenant) (told_of state.history) state.worker_states actor.tenant (request store)
        (fewer_asks state actor next cells observation store refines sits same_tenant same_job fewer) actor.worker actor next attempt worker_state.kept sits same_tenant same_job ends.0 ends.2 ends.1),
  )
