-- If a step of a request is a mark, the store alone makes the mark, and the tenant's part of the world refines the store
-- then. Used by: Turns.
use Rattle.std.specs.Prelude.{ℕ, ◌+◌, ◌-◌, ◌<◌, ◌≡◌, Bool, true, false, List, Some, None}
use Rattle.std.proofs.Common.{refl, sym, ap, subst, ◌∙◌}
use Rattle.mw_words.specs.declared.jobs.Job.TheVariants.{Get}
use Rattle.mw_words.specs.declared.replies.Reply.{Reply}
use Rattle.mw_words.specs.declared.replies.Reply.TheVariants.{Val, No as SaysNo, Busy as SaysBusy, Fault as SaysFault}
use Rattle.mw_words.specs.declared.statuses.Status.{Status}
use Rattle.mw_words.specs.declared.statuses.Status.TheVariants.{Open, No}
use Rattle.mw_words.specs.Change.{word_at}
use Rattle.mw_lone.specs.Store.{Store, RequestState, request, with_request, with_reply, is_cas}
use Rattle.mw_law_store.specs.Late.MarkEffects.{Admits, RefusesBusy, GivesUp, Looks, Retires}
use Rattle.mw_look.specs.declared.observations.Observation.{Observation}
use Rattle.mw_actor.specs.declared.points.Slot.{Slot}
use Rattle.mw_actor.specs.ActorState.{ActorState, entry_at}
use Rattle.mw_world.specs.Files.State.{File}
use Rattle.mw_world.specs.Maps.{upd}
use Rattle.mw_world.specs.declared.step_labels.StepLabel.{StepLabel}
use Rattle.mw_world.specs.declared.step_labels.StepLabel.TheVariants.{Admitted, FoundBusy, FoundFault, Looked, LookedBefore, Refused, Lowered as IsLowered, GaveUp}
use Rattle.mw_world.specs.Definition.Cells.{Cells}
use Rattle.mw_world.specs.Definition.LabelEffects.{with_status, with_fault_decided, left}
use Rattle.mw_world.specs.Definition.State.{State, WorkerState}
use Rattle.mw_world.specs.Definition.Turns.{Made, tenant_state_after, next_attempt}
use Rattle.mw_law_runs.proofs.Knowledge.Updates.Preservation.{upd_two_here}
use Rattle.mw_law_runs.specs.Obligations.{own_of}
use Rattle.mw_law_store.proofs.Ends.{EndsBy, Same, Enters, Lowered, Dropped, Settles, Placed}
use Rattle.mw_law_store.proofs.RequestFrames.{Puts, puts}
use Rattle.mw_law_store.proofs.RefinementAfterStep.{after_step, NoMoreTaken, CountsAsMany, numbered_put, goes_reserving, moved_refines}
use Rattle.mw_law_store.proofs.Marks.{waiting, row_of, waiting_put, change_replied, slot_given_back, drops, answers}
use Rattle.mw_law_store.proofs.UnmarkedSteps.{two_apart_set, fewer_asks}
use Rattle.mw_law_store.specs.Due.{Waits, due, waits, lowers, told}
use Rattle.mw_law_store.specs.RelaxedSteps.{GivesBack, Decides}
use Rattle.mw_law_store.specs.Refinement.{IsDue, WorkerRefines, is_live, changes_of_tenant, told_of, Asking, Holding, Refines}

-- the labels of steps at which a request without a change gets its reply
abbrev pub IsPlacing : StepLabel → Type 0
IsPlacing FoundBusy = Unit {0}
IsPlacing FoundFault = Unit {0}
IsPlacing Looked = Unit {0}
IsPlacing LookedBefore = Unit {0}
IsPlacing label = ⊥

module _ (state : State) (actor next : ActorState) (cells : Cells) (observation : Observation) (store : Store) (refines : Refines state actor.tenant store) (sits : (state.worker_states actor.worker).actor ≡ Some actor)
    (same_tenant : next.tenant ≡ actor.tenant) (same_job : next.job ≡ actor.job) where
  abbrev worker_state : WorkerState
  worker_state = state.worker_states actor.worker

  abbrev n : ℕ
  n = worker_state.request

  abbrev held : File
  held = (state.tenant_states actor.tenant).file

  abbrev attempt : ℕ
  attempt = next_attempt actor.point (state.worker_states actor.worker).attempt

  abbrev made : StepLabel → Made
  made label = record { cells = cells; file = held; observation = observation; label = label }

  abbrev after : StepLabel → State
  after label = after_step state actor next cells observation label held

  abbrev Fewer : Type 0
  Fewer = NoMoreTaken state cells

  -- what is known of the request, and of a request that waits
  row : WorkerRefines (is_live state.cells) (changes_of_tenant state.history actor.tenant) (request store) n worker_state.retiring actor.job (due actor.point) (lowers actor.point) (own_of actor.point)
  row = row_of (is_live state.cells) (changes_of_tenant state.history actor.tenant) (told_of state.history) state.worker_states actor.tenant (request store) refines.asks actor.worker actor sits refl

  waits_there : (admitted : Bool) → due actor.point ≡ Waits admitted → request store n ≡ Some (record (waiting actor.job) { admitted = admitted })
  waits_there admitted is = subst (IsDue (request store) n actor.job) is row.is_due

  -- the tenant's state, if one request of the store changes
  put_holding : (label : StepLabel) (t : Store) (k : ℕ) (found r : RequestState) → request store k ≡ Some found → Puts (request store) (request t) k r → t.words ≡ store.words → t.quota ≡ store.quota
      → (cells.doors actor.tenant).used ≡ t.used → t.faulted ≡ store.faulted → t.in_doubt ≡ store.in_doubt → t.next ≡ store.next
      → Holding cells (tenant_state_after (state.tenant_states actor.tenant) worker_state (made label) state) actor.tenant t
  put_holding label t k found r is changed words quota used faulted in_doubt numbers = record {
    words = refines.holds.words ∙ sym words;
    quota = refines.holds.quota ∙ sym quota;
    used = used;
    faulted = refines.holds.faulted ∙ sym faulted;
    in_doubt = refines.holds.in_doubt ∙ sym in_doubt;
    next = refines.holds.next ∙ sym numbers;
    numbered = numbered_put store t k found r is changed numbers refines.holds.numbered;
  }

  -- A slot is counted.
  pub admitted : EndsBy Enters actor.point next.point → is_cas actor.job ≡ true → held.has_failed ≡ false → store.used < store.quota → (cells.doors actor.tenant).used ≡ store.used + 1 → Fewer
      → (t : Store) × Admits store n t × Refines (after Admitted) actor.tenant t
  admitted ends is_change works has_room used fewer =
      let r = record (waiting actor.job) { admitted = true } in
      let t = record (with_request store n r) { used = store.used + 1 } in
      let is = waits_there false ends.0 in
      let changed = puts store t n r refl in (
        t,
        record {
          found = waiting actor.job;
          waits = record { is_asked = is; is_change = is_change; has_no_slot = refl; has_no_reply = refl; file_works = sym refines.holds.faulted ∙ works };
          has_room = has_room;
          after = refl;
        },
        moved_refines state actor next (made Admitted) t (put_holding Admitted t n (waiting actor.job) r is changed refl refl used refl refl refl)
            (waiting_put (is_live cells) (changes_of_tenant state.history actor.tenant) (told_of state.history) state.worker_states actor.tenant (request store)
            (fewer_asks state actor next cells observation store refines sits same_tenant same_job fewer) (request t) actor.worker actor next attempt r sits refl same_tenant same_job ends.0 changed refl
            (subst (IsDue (request t) n actor.job) (sym ends.1) changed.mine) ends.2 ends.3),
      )

  -- a request that waits gets its reply
  placed_holding : (label : StepLabel) (reply : Reply) → EndsBy (Placed reply) actor.point next.point → CountsAsMany state actor.tenant cells
      → Holding cells (tenant_state_after (state.tenant_states actor.tenant) worker_state (made label) state) actor.tenant (with_reply store n (waiting actor.job) reply)
  placed_holding label reply ends same_used =
      let r = record (waiting actor.job) { placed = Some reply } in
      let t = with_reply store n (waiting actor.job) reply in
      put_holding label t n (waiting actor.job) r (waits_there false ends.0) (puts store t n r refl) refl refl (same_used ∙ refines.holds.used) refl refl refl

  placed_asks : (reply : Reply) → EndsBy (Placed reply) actor.point next.point → Fewer
      → Asking (is_live cells) (changes_of_tenant state.history actor.tenant) (told_of state.history) (upd state.worker_states actor.worker (record worker_state { actor = Some next; attempt = attempt })) actor.tenant
      (request (with_reply store n (waiting actor.job) reply))
  placed_asks reply ends fewer =
      let r = record (waiting actor.job) { placed = Some reply } in
      let t = with_reply store n (waiting actor.job) reply in
      let changed = puts store t n r refl in
      waiting_put (is_live cells) (changes_of_tenant state.history actor.tenant) (told_of state.history) state.worker_states actor.tenant (request store)
      (fewer_asks state actor next cells observation store refines sits same_tenant same_job fewer) (request t) actor.worker actor next attempt r sits refl same_tenant same_job ends.0 changed refl
      (subst (IsDue (request t) n actor.job) (sym ends.1) (record { found = r; is_asked = changed.mine; its_job = refl; has_reply = refl; not_handed = refl })) ends.2 ends.3

  placing : (label : StepLabel) → IsPlacing label → (reply : Reply) → EndsBy (Placed reply) actor.point next.point → Fewer → CountsAsMany state actor.tenant cells
      → Refines (after label) actor.tenant (with_reply store n (waiting actor.job) reply)
  placing FoundBusy is reply ends fewer same_used = moved_refines state actor next (made FoundBusy) (with_reply store n (waiting actor.job) reply) (placed_holding FoundBusy reply ends same_used) (placed_asks reply ends fewer)
  placing FoundFault is reply ends fewer same_used = moved_refines state actor next (made FoundFault) (with_reply store n (waiting actor.job) reply) (placed_holding FoundFault reply ends same_used) (placed_asks reply ends fewer)
  placing Looked is reply ends fewer same_used = moved_refines state actor next (made Looked) (with_reply store n (waiting actor.job) reply) (placed_holding Looked reply ends same_used) (placed_asks reply ends fewer)
  placing LookedBefore is reply ends fewer same_used = moved_refines state actor next (made LookedBefore) (with_reply store n (waiting actor.job) reply) (placed_holding LookedBefore reply ends same_used) (placed_asks reply ends fewer)
  placing label is reply ends fewer same_used = absurd is

  pub found_busy : EndsBy (Placed SaysBusy) actor.point next.point → is_cas actor.job ≡ true → held.has_failed ≡ false → store.used ≡ store.quota → Fewer → CountsAsMany state actor.tenant cells
      → (t : Store) × RefusesBusy store n t × Refines (after FoundBusy) actor.tenant t
  found_busy ends is_change works has_no_room fewer same_used = (
    with_reply store n (waiting actor.job) SaysBusy,
    record {
      found = waiting actor.job;
      waits = record { is_asked = waits_there false ends.0; is_change = is_change; has_no_slot = refl; has_no_reply = refl; file_works = sym refines.holds.faulted ∙ works };
      has_no_room = has_no_room;
      after = refl;
    },
    placing FoundBusy tt SaysBusy ends fewer same_used,
  )

  pub found_fault : EndsBy (Placed SaysFault) actor.point next.point → held.has_failed ≡ true → Fewer → CountsAsMany state actor.tenant cells
      → (t : Store) × GivesUp store n t × Refines (after FoundFault) actor.tenant t
  found_fault ends failed fewer same_used = (
    with_reply store n (waiting actor.job) SaysFault,
    record { found = waiting actor.job; is_asked = waits_there false ends.0; has_failed = sym refines.holds.faulted ∙ failed; has_no_reply = refl; after = refl },
    placing FoundFault tt SaysFault ends fewer same_used,
  )

  -- a read takes place
  pub looked : (address value : ℕ) → EndsBy (Placed (Val value)) actor.point next.point → actor.job ≡ Get address → value ≡ word_at held.contents address → Fewer → CountsAsMany state actor.tenant cells
      → (t : Store) × Looks store n t × Refines (after Looked) actor.tenant t
  looked address value ends reads is fewer same_used = (
    with_reply store n (waiting actor.job) (Val value),
    record {
      found = waiting actor.job;
      is_asked = waits_there false ends.0;
      address = address;
      reads = reads;
      has_no_reply = refl;
      after = ap (λ (v : ℕ). with_reply store n (waiting actor.job) (Val v)) (is ∙ ap (λ (words : List ℕ). word_at words address) refines.holds.words);
    },
    placing Looked tt (Val value) ends fewer same_used,
  )

  -- or it took place where it reserved one
  pub looked_before : (value : ℕ) → EndsBy (Placed (Val value)) actor.point next.point → Fewer → CountsAsMany state actor.tenant cells
      → (t : Store) × Decides store n (Val value) t × Refines (after LookedBefore) actor.tenant t
  looked_before value ends fewer same_used = (
    with_reply store n (waiting actor.job) (Val value),
    record { found = waiting actor.job; is_open = record { is_asked = waits_there false ends.0; has_no_reply = refl }; after = refl },
    placing LookedBefore tt (Val value) ends fewer same_used,
  )

  -- A change is refused whose request has no reply yet.
  pub refused : (target : Slot) (entry value : ℕ) → (changes_of_tenant state.history actor.tenant).is_of target.slot target.seq → state.history.fate target.slot target.seq ≡ Open
      → state.history.is_fault_decided target.slot target.seq ≡ false → EndsBy Same actor.point next.point → Fewer → CountsAsMany state actor.tenant cells
      → (t : Store) × Decides store (state.history.request target.slot target.seq) (SaysNo (entry_at (state.history.change target.slot target.seq) entry).addr value) t
      × Refines (after (Refused target entry value)) actor.tenant t
  refused target entry value is_claimed is_open fault_not_decided ends fewer same_used =
      let past = state.history in
      let k = past.request target.slot target.seq in
      let change = past.change target.slot target.seq in
      let reply = SaysNo (entry_at change entry).addr value in
      let of_change = refines.asks.changes.asked target.slot target.seq is_claimed in
      let untold : told_of past target.slot target.seq ≡ None =
      ap (λ (b : Bool). told b (past.fate target.slot target.seq) change) fault_not_decided ∙ ap (λ (s : Status). told false s change) is_open in
      let r = record (of_change.found) { placed = Some reply } in
      let t = with_reply store k of_change.found reply in
      let changed = puts store t k r refl in
      let says = told_of (with_status past target (No entry value)) in (
        t,
        record { found = of_change.found; is_open = record { is_asked = of_change.is_asked; has_no_reply = of_change.is_placed ∙ untold }; after = refl },
        moved_refines state actor next (made (Refused target entry value)) t
            (put_holding (Refused target entry value) t k of_change.found r of_change.is_asked changed refl refl (same_used ∙ refines.holds.used) refl refl refl)
            (goes_reserving (is_live cells) (changes_of_tenant past actor.tenant) says state.worker_states actor.tenant (request t)
            (change_replied (is_live cells) (changes_of_tenant past actor.tenant) (told_of past) state.worker_states actor.tenant (request store)
            (fewer_asks state actor next cells observation store refines sits same_tenant same_job fewer) (request t) says target.slot target.seq of_change.found reply is_claimed of_change.is_asked untold
            (ap (λ (s : Status). told (past.is_fault_decided target.slot target.seq) s change) (upd_two_here past.fate target.slot target.seq (No entry value)) ∙ ap (λ (b : Bool). told b (No entry value) change) fault_not_decided)
            (λ i j apart. ap (λ (s : Status). told (past.is_fault_decided i j) s (past.change i j)) (two_apart_set past.fate target.slot target.seq (No entry value) i j apart))
            changed)
            actor.worker actor next attempt worker_state.kept sits same_tenant same_job ends.0 ends.2 ends.1),
      )

  -- The door is lowered for the request whose slot was freed.
  pub lowered : EndsBy Lowered actor.point next.point → (cells.doors actor.tenant).used ≡ store.used - 1 → Fewer → (t : Store) × Retires store worker_state.retiring t × Refines (after IsLowered) actor.tenant t
  lowered ends used fewer =
      let retiring = row.retires ends.2 in
      let r = record (retiring.found) { retired = true } in
      let t = record (with_request store worker_state.retiring r) { used = store.used - 1 } in
      let changed = puts store t worker_state.retiring r refl in (
        t,
        record {
          found = retiring.found;
          is_asked = retiring.is_asked;
          has_slot = retiring.has_slot;
          reply = retiring.reply;
          has_reply = retiring.has_reply;
          not_retired = retiring.not_retired;
          after = refl;
        },
        moved_refines state actor next (made IsLowered) t (put_holding IsLowered t worker_state.retiring retiring.found r retiring.is_asked changed refl refl used refl refl refl)
            (slot_given_back (is_live cells) (changes_of_tenant state.history actor.tenant) (told_of state.history) state.worker_states actor.tenant (request store)
            (fewer_asks state actor next cells observation store refines sits same_tenant same_job fewer) (request t) actor.worker actor next attempt retiring.found sits refl ends.2 retiring.is_asked changed same_tenant
            same_job ends.0 ends.3 ends.1),
      )

  -- The door is lowered for the own request, which found no slot because a number is used up.
  pub dropped : EndsBy Dropped actor.point next.point → is_cas actor.job ≡ true → (cells.doors actor.tenant).used ≡ store.used - 1 → Fewer
      → (t : Store) × GivesBack store worker_state.retiring t × Refines (after IsLowered) actor.tenant t
  dropped ends is_change used fewer =
      let found = record (waiting actor.job) { admitted = true } in
      let r = record found { retired = true } in
      let t = record (with_request store n r) { used = store.used - 1 } in
      let is = waits_there true ends.0 in
      let changed = puts store t n r refl in
      let gives : GivesBack store n t = record { found = found; is_asked = is; has_slot = refl; not_retired = refl; after = refl } in (
        t,
        subst (λ (k : ℕ). GivesBack store k t) (sym (row.fresh (ap waits ends.0) is_change)) gives,
        moved_refines state actor next (made IsLowered) t (put_holding IsLowered t n found r is changed refl refl used refl refl refl)
            (drops (is_live cells) (changes_of_tenant state.history actor.tenant) (told_of state.history) state.worker_states actor.tenant (request store)
            (fewer_asks state actor next cells observation store refines sits same_tenant same_job fewer) (request t) actor.worker actor next attempt sits refl ends.0 changed same_tenant same_job ends.1 ends.4 ends.2),
      )

  -- A request gives up with FAULT, and its change had no reply.
  pub gave_up_first : (own : Slot) → EndsBy (Settles own SaysFault) actor.point next.point → (changes_of_tenant state.history actor.tenant).is_of own.slot own.seq → told_of state.history own.slot own.seq ≡ None
      → held.has_failed ≡ true → Fewer → CountsAsMany state actor.tenant cells → (t : Store) × GivesUp store n t × Refines (after (GaveUp own true)) actor.tenant t
  gave_up_first own ends is_claimed untold failed fewer same_used =
      let past = state.history in
      let k = past.request own.slot own.seq in
      let of_change = refines.asks.changes.asked own.slot own.seq is_claimed in
      let r = record (of_change.found) { placed = Some SaysFault } in
      let t = with_reply store k of_change.found SaysFault in
      let changed = puts store t k r refl in
      let says = told_of (with_fault_decided (left past own) own) in
      let is_told : says own.slot own.seq ≡ Some SaysFault =
      ap (λ (b : Bool). told b (past.fate own.slot own.seq) (past.change own.slot own.seq)) (upd_two_here past.is_fault_decided own.slot own.seq true) in
      let gives : GivesUp store k t =
      record { found = of_change.found; is_asked = of_change.is_asked; has_failed = sym refines.holds.faulted ∙ failed; has_no_reply = of_change.is_placed ∙ untold; after = refl } in (
        t,
        subst (λ (i : ℕ). GivesUp store i t) (row.its_own own ends.1) gives,
        moved_refines state actor next (made (GaveUp own true)) t
            (put_holding (GaveUp own true) t k of_change.found r of_change.is_asked changed refl refl (same_used ∙ refines.holds.used) refl refl refl)
            (answers (is_live cells) (changes_of_tenant past actor.tenant) says state.worker_states actor.tenant (request t)
            (change_replied (is_live cells) (changes_of_tenant past actor.tenant) (told_of past) state.worker_states actor.tenant (request store)
            (fewer_asks state actor next cells observation store refines sits same_tenant same_job fewer) (request t) says own.slot own.seq of_change.found SaysFault is_claimed of_change.is_asked untold is_told
            (λ i j apart. ap (λ (b : Bool). told b (past.fate i j) (past.change i j)) (two_apart_set past.is_fault_decided own.slot own.seq true i j apart))
            changed)
            actor.worker actor next attempt own SaysFault sits same_tenant same_job ends.0 ends.1 is_claimed is_told ends.2 ends.4 ends.3),
      )
