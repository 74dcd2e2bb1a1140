-- Each kind of mark changes one request of the store alone, and the requests still agree with the tenant's part of the world.
-- Used by: mw_law_threads.
use Rattle.std.specs.Prelude.{ℕ, ◌≡◌, ◌≢◌, Bool, true, false, List, Option, Some, None}
use Rattle.std.proofs.Common.{refl, sym, ap, subst, ◌∙◌}
use Rattle.std.proofs.lemmas.Option.{same_Some, none-some}
use Rattle.mw_words.specs.declared.jobs.Entry.{Entry}
use Rattle.mw_words.specs.declared.jobs.Job.{Job}
use Rattle.mw_words.specs.declared.replies.Reply.{Reply}
use Rattle.mw_lone.specs.Store.{RequestState, entries_of}
use Rattle.mw_actor.specs.declared.points.Slot.{Slot}
use Rattle.mw_actor.specs.ActorState.{ActorState}
use Rattle.mw_world.specs.Maps.{upd}
use Rattle.mw_world.specs.Definition.State.{WorkerState}
use Rattle.mw_law_runs.specs.Obligations.{own_of}
use Rattle.mw_law_store.proofs.Ends.{OwnGoes}
use Rattle.mw_law_store.proofs.RequestFrames.{Puts, change_same, retiring_same, worker_state_put, actor_put, changes_put, sits, worker_state_goes, refines_actor, apart_actors, still_apart, goes_with}
use Rattle.mw_law_store.specs.Due.{Due, Waits, Works, Answers, Quits, due, waits, Elsewhere, Retiring, lowers}
use Rattle.mw_law_store.specs.Refinement.{Requests, Live, Tells, TenantChanges, IsHis, HasReply, IsDue, IsOfChange, IsRetiring, WorkerRefines, OfActor, AreTwo, AreApart, Asking}

-- a request that waits
abbrev pub waiting : Job → RequestState
waiting job = record { job = job; admitted = false; placed = None; retired = false; handed = false }

true_false : true ≡ false → ⊥
true_false e = cc

-- a store has one request of each number
pub one_found : (at : Requests) (n m : ℕ) (x y : RequestState) → n ≡ m → at n ≡ Some x → at m ≡ Some y → x ≡ y
one_found at n m x y same is too = same_Some x y (sym is ∙ ap at same ∙ too)

-- whatever is due of a request, it was asked and its reply was not handed out
pub is_his : (at : Requests) (n : ℕ) (job : Job) (is : Due) → IsDue at n job is → IsHis at n job
is_his at n job (Waits admitted) is =
    record { found = record { job = job; admitted = admitted; placed = None; retired = false; handed = false }; is_asked = is; its_job = refl; not_handed = refl }
is_his at n job Works is = is
is_his at n job (Answers reply) is = record { found = is.found; is_asked = is.is_asked; its_job = is.its_job; not_handed = is.not_handed }
is_his at n job Quits is = is

-- a request has the reply of its change
pub answered : (at : Requests) (n request : ℕ) (job : Job) (change : List Entry) (placed : Option Reply) (reply : Reply) → IsHis at n job → IsOfChange at request change placed → request ≡ n → placed ≡ Some reply
    → HasReply at n job reply
answered at n request job change placed reply his of_change same told = record {
  found = his.found;
  is_asked = his.is_asked;
  its_job = his.its_job;
  has_reply = ap (λ (r : RequestState). r.placed) (one_found at n request his.found of_change.found (sym same) his.is_asked of_change.is_asked) ∙ of_change.is_placed ∙ told;
  not_handed = his.not_handed;
}

-- A request may change into this without harm to its change, to who retires it, and to the slot that is taken for it.
pub record IsSpared (at : Requests) (n : ℕ) (now : RequestState) : Type 0 where
  pub changes : (change : List Entry) (placed : Option Reply) → IsOfChange at n change placed → (now.admitted ≡ true) × (entries_of now.job ≡ change) × (now.placed ≡ placed)
  pub retiring : IsRetiring at n → (now.admitted ≡ true) × (now.retired ≡ false) × ((reply : Reply) × (now.placed ≡ Some reply))
  pub kept : (r : RequestState) → at n ≡ Some r → r.retired ≡ false → now.retired ≡ false

-- that holds of a request that has no slot
pub spared_waiting : (at : Requests) (n : ℕ) (found now : RequestState) → at n ≡ Some found → found.admitted ≡ false → now.retired ≡ false → IsSpared at n now
spared_waiting at n found now is no_slot kept = record {
  changes = λ change placed of_change. absurd (slotless of_change.found of_change.is_asked of_change.has_slot);
  retiring = λ retires. absurd (slotless retires.found retires.is_asked retires.has_slot);
  kept = λ r asked not. kept;
}
  where
    slotless : (x : RequestState) → at n ≡ Some x → x.admitted ≡ true → ⊥
    slotless x asked has = true_false (sym has ∙ ap (λ (r : RequestState). r.admitted) (same_Some x found (sym asked ∙ is)) ∙ no_slot)

-- and of a request that changes only in that it is handed out
pub spared_handed : (at : Requests) (n : ℕ) (found : RequestState) → at n ≡ Some found → IsSpared at n (record found { handed = true })
spared_handed at n found is = record {
  changes = λ change placed of_change.
      let same = same_Some found of_change.found (sym is ∙ of_change.is_asked) in (
        ap (λ (r : RequestState). r.admitted) same ∙ of_change.has_slot,
        ap (λ (r : RequestState). entries_of r.job) same ∙ of_change.its_entries,
        ap (λ (r : RequestState). r.placed) same ∙ of_change.is_placed,
      );
  retiring = λ retires.
      let same = same_Some found retires.found (sym is ∙ retires.is_asked) in (
        ap (λ (r : RequestState). r.admitted) same ∙ retires.has_slot,
        ap (λ (r : RequestState). r.retired) same ∙ retires.not_retired,
        (retires.reply, ap (λ (r : RequestState). r.placed) same ∙ retires.has_reply),
      );
  kept = λ r asked not. ap (λ (s : RequestState). s.retired) (same_Some found r (sym is ∙ asked)) ∙ not;
}

module _ (live : Live) (claimed : TenantChanges) (tells : Tells) (worker_states : ℕ → WorkerState) (tenant : ℕ) (at : Requests) (asking : Asking live claimed tells worker_states tenant at) where
  -- what is known of a worker's request
  pub row_of : (worker : ℕ) (actor : ActorState) → (worker_states worker).actor ≡ Some actor → actor.tenant ≡ tenant
      → WorkerRefines live claimed at (worker_states worker).request (worker_states worker).retiring actor.job (due actor.point) (lowers actor.point) (own_of actor.point)
  row_of worker actor is of_it = refines_actor live claimed tenant at (worker_states worker).request (worker_states worker).retiring (worker_states worker).actor actor is of_it (asking.each worker)

  -- two workers' requests are two
  pub two_of : (worker other : ℕ) (actor another : ActorState) → worker ≢ other → (worker_states worker).actor ≡ Some actor → (worker_states other).actor ≡ Some another → actor.tenant ≡ tenant → another.tenant ≡ tenant
      → AreTwo (worker_states worker).request (worker_states other).request (worker_states worker).retiring (worker_states other).retiring (lowers actor.point) (lowers another.point)
  two_of worker other actor another differ is too of_it of_two =
      apart_actors tenant (worker_states worker) (worker_states other) (worker_states worker).actor (worker_states other).actor actor another is too of_it of_two (asking.apart worker other differ)

  -- the own change of a request gets this reply
  pub answers : (worker : ℕ) (actor next : ActorState) (attempt : ℕ) (own : Slot) (reply : Reply) → (worker_states worker).actor ≡ Some actor → next.tenant ≡ actor.tenant → next.job ≡ actor.job → due actor.point ≡ Works
      → own_of actor.point ≡ Some own → claimed.is_of own.slot own.seq → tells own.slot own.seq ≡ Some reply → due next.point ≡ Answers reply → lowers next.point ≢ Retiring
      → ((mine : Slot) → own_of next.point ≡ Some mine → mine ≡ own) → Asking live claimed tells (upd worker_states worker (record (worker_states worker) { actor = Some next; attempt = attempt })) tenant at
  answers worker actor next attempt own reply is same_tenant same_job works owns is_claimed told has lowers_none goes =
      goes_with live claimed tells worker_states tenant at asking worker actor next attempt is same_tenant same_job lowers_none (λ row. record {
        is_due = subst (IsDue at (worker_states worker).request actor.job) (sym has)
            (answered at (worker_states worker).request (claimed.request own.slot own.seq) actor.job (claimed.change own.slot own.seq) (tells own.slot own.seq) reply
            (is_his at (worker_states worker).request actor.job (due actor.point) row.is_due) (asking.changes.asked own.slot own.seq is_claimed) (row.its_own own owns) told);
        unclaimed = λ waiting. absurd (true_false (sym waiting ∙ ap waits has));
        fresh = λ waiting. absurd (true_false (sym waiting ∙ ap waits has));
        its_own = λ mine owns_it. ap (λ (slot : Slot). claimed.request slot.slot slot.seq) (goes mine owns_it) ∙ row.its_own own owns;
        retires = λ lowered. absurd (lowers_none lowered);
        retires_else = λ lowered. absurd (lowers_none lowered);
      })

  -- a request ends because a number is used up
  pub quits : (worker : ℕ) (actor next : ActorState) (attempt : ℕ) → (worker_states worker).actor ≡ Some actor → next.tenant ≡ actor.tenant → next.job ≡ actor.job → due next.point ≡ Quits
      → own_of next.point ≡ None → lowers next.point ≢ Retiring → Asking live claimed tells (upd worker_states worker (record (worker_states worker) { actor = Some next; attempt = attempt })) tenant at
  quits worker actor next attempt is same_tenant same_job ends owns_none lowers_none =
      goes_with live claimed tells worker_states tenant at asking worker actor next attempt is same_tenant same_job lowers_none (λ row. record {
        is_due = subst (IsDue at (worker_states worker).request actor.job) (sym ends) (is_his at (worker_states worker).request actor.job (due actor.point) row.is_due);
        unclaimed = λ waiting. absurd (true_false (sym waiting ∙ ap waits ends));
        fresh = λ waiting. absurd (true_false (sym waiting ∙ ap waits ends));
        its_own = λ mine owns. absurd (none-some mine (sym owns_none ∙ owns));
        retires = λ lowered. absurd (lowers_none lowered);
        retires_else = λ lowered. absurd (lowers_none lowered);
      })

  -- A mark about a worker's own request that harms no change and no slot.
  pub own_put : (now : Requests) (worker n : ℕ) (r : RequestState) (worker_state : WorkerState) → Puts at now n r → IsSpared at n r
      → ((other : ℕ) → other ≢ worker → (one : ActorState) → (worker_states other).actor ≡ Some one → one.tenant ≡ tenant → (worker_states other).request ≢ n)
      → OfActor live claimed tenant now worker_state.request worker_state.retiring worker_state.actor
      → ((other : ℕ) → other ≢ worker → AreApart tenant worker_state (worker_states other) worker_state.actor (worker_states other).actor) → Asking live claimed tells (upd worker_states worker worker_state) tenant now
  own_put now worker n r worker_state changed spared other_numbers mine apart =
      sits live claimed tells worker_states tenant now worker worker_state
      (changes_put at now n r changed live claimed tells tells
      (λ slot seq is same.
      let of_change = change_same at at (claimed.request slot seq) n (ap at (sym same)) (claimed.change slot seq) (tells slot seq) (asking.changes.asked slot seq is) in
      let minds = spared.changes (claimed.change slot seq) (tells slot seq) of_change in
      record { found = r; is_asked = changed.mine; has_slot = minds.0; its_entries = minds.1; is_placed = minds.2 })
      (λ slot seq is other. refl)
      (λ slot seq lives is same.
      let of_change = asking.changes.asked slot seq is in
      spared.kept of_change.found (ap at (sym same) ∙ of_change.is_asked) (asking.changes.kept slot seq lives is of_change.found of_change.is_asked))
      asking.changes)
      mine
      (λ other differs. actor_put at now n r changed live claimed tenant (worker_states other).request (worker_states other).retiring (worker_states other).actor
      (λ one sits_there of_it row. (
        λ same. absurd (other_numbers other differs one sits_there of_it same),
        λ same lowered.
            let minds = spared.retiring (retiring_same at at (worker_states other).retiring n (ap at (sym same)) (row.retires lowered)) in
            record { found = r; is_asked = ap now same ∙ changed.mine; has_slot = minds.0; reply = minds.2.0; has_reply = minds.2.1; not_retired = minds.1 },
      ))
      (asking.each other))
      asking.apart apart

  -- The same of a request that waits and has no slot.
  pub waiting_put : (now : Requests) (worker : ℕ) (actor next : ActorState) (attempt : ℕ) (r : RequestState) → (worker_states worker).actor ≡ Some actor → actor.tenant ≡ tenant → next.tenant ≡ actor.tenant
      → next.job ≡ actor.job → due actor.point ≡ Waits false → Puts at now (worker_states worker).request r → r.retired ≡ false → IsDue now (worker_states worker).request actor.job (due next.point)
      → own_of next.point ≡ None → lowers next.point ≢ Retiring → Asking live claimed tells (upd worker_states worker (record (worker_states worker) { actor = Some next; attempt = attempt })) tenant now
  waiting_put now worker actor next attempt r is of_it same_tenant same_job waits_there changed kept is_due owns_none lowers_none =
      own_put now worker (worker_states worker).request r (record (worker_states worker) { actor = Some next; attempt = attempt }) changed
      (spared_waiting at (worker_states worker).request (waiting actor.job) r (subst (IsDue at (worker_states worker).request actor.job) waits_there row.is_due) refl kept)
      (λ other differs one sits_there of_one same. (two_of worker other actor one (λ e. differs (sym e)) is sits_there of_it of_one).numbers (sym same))
      (λ of_next. subst (λ (job : Job). WorkerRefines live claimed now (worker_states worker).request (worker_states worker).retiring job (due next.point) (lowers next.point) (own_of next.point)) (sym same_job) (record {
        is_due = is_due;
        unclaimed = λ waiting. row.unclaimed (ap waits waits_there);
        fresh = λ waiting. row.fresh (ap waits waits_there);
        its_own = λ mine owns. absurd (none-some mine (sym owns_none ∙ owns));
        retires = λ lowered. absurd (lowers_none lowered);
        retires_else = λ lowered. absurd (lowers_none lowered);
      }))
      (λ other. still_apart live claimed tells worker_states tenant at asking worker other actor next attempt is same_tenant lowers_none)
    where
      row : WorkerRefines live claimed at (worker_states worker).request (worker_states worker).retiring actor.job (due actor.point) (lowers actor.point) (own_of actor.point)
      row = row_of worker actor is of_it

  -- A change gets its reply, whoever makes the step.
  pub change_replied : (now : Requests) (says : Tells) (slot seq : ℕ) (found : RequestState) (reply : Reply) → claimed.is_of slot seq → at (claimed.request slot seq) ≡ Some found → tells slot seq ≡ None
      → says slot seq ≡ Some reply → ((k l : ℕ) → (k ≡ slot → l ≡ seq → ⊥) → says k l ≡ tells k l) → Puts at now (claimed.request slot seq) (record found { placed = Some reply }) → Asking live claimed says worker_states tenant now
  change_replied now says slot seq found reply is_claimed is_found untold told same changed = record {
    changes = changes_put at now n (record found { placed = Some reply }) changed live claimed tells says
        (λ k l is mine.
        let of_change = asking.changes.asked k l is in
        let alike = one_found at (claimed.request k l) n of_change.found found mine of_change.is_asked is_found in
        let which = asking.changes.apart k l slot seq is is_claimed mine in
        record {
          found = record found { placed = Some reply };
          is_asked = changed.mine;
          has_slot = sym (ap (λ (r : RequestState). r.admitted) alike) ∙ of_change.has_slot;
          its_entries = sym (ap (λ (r : RequestState). entries_of r.job) alike) ∙ of_change.its_entries;
          is_placed = sym (ap (λ (i : ℕ). says i l) which.0 ∙ ap (says slot) which.1 ∙ told);
        })
        (λ k l is other. same k l (λ e f. other (ap (λ (i : ℕ). claimed.request i l) e ∙ ap (claimed.request slot) f)))
        (λ k l lives is mine. asking.changes.kept k l lives is found (ap at mine ∙ is_found))
        asking.changes;
    each = λ worker. actor_put at now n (record found { placed = Some reply }) changed live claimed tenant (worker_states worker).request (worker_states worker).retiring (worker_states worker).actor
        (λ one sits_there of_it row. (
          λ mine. due_replied (worker_states worker).request one.job (due one.point) mine (λ waiting same_number. row.unclaimed waiting slot seq is_claimed (sym same_number)) row.is_due,
          λ mine lowered. absurd (unplaced (worker_states worker).retiring (row.retires lowered) mine),
        ))
        (asking.each worker);
    apart = asking.apart;
  }
    where
      n : ℕ
      n = claimed.request slot seq

      -- it has no reply yet
      nothing : found.placed ≡ None
      nothing =
          let of_change = asking.changes.asked slot seq is_claimed in
          ap (λ (r : RequestState). r.placed) (same_Some found of_change.found (sym is_found ∙ of_change.is_asked)) ∙ of_change.is_placed ∙ untold

      no_reply : (k : ℕ) (x : RequestState) (other : Reply) → k ≡ claimed.request slot seq → at k ≡ Some x → x.placed ≡ Some other → ⊥
      no_reply k x other mine is has = none-some other (sym nothing ∙ sym (ap (λ (r : RequestState). r.placed) (one_found at k (claimed.request slot seq) x found mine is is_found)) ∙ has)

      unplaced : (k : ℕ) → IsRetiring at k → k ≡ claimed.request slot seq → ⊥
      unplaced k retires mine = no_reply k retires.found retires.reply mine retires.is_asked retires.has_reply

      his_replied : (k : ℕ) (job : Job) → k ≡ claimed.request slot seq → IsHis at k job → IsHis now k job
      his_replied k job mine his =
          let alike = one_found at k (claimed.request slot seq) his.found found mine his.is_asked is_found in
          record {
            found = record found { placed = Some reply };
            is_asked = ap now mine ∙ changed.mine;
            its_job = sym (ap (λ (r : RequestState). r.job) alike) ∙ his.its_job;
            not_handed = sym (ap (λ (r : RequestState). r.handed) alike) ∙ his.not_handed;
          }

      due_replied : (k : ℕ) (job : Job) (is : Due) → k ≡ claimed.request slot seq → (waits is ≡ true → k ≡ claimed.request slot seq → ⊥) → IsDue at k job is → IsDue now k job is
      due_replied k job (Waits admitted) mine unclaimed was = absurd (unclaimed refl mine)
      due_replied k job Works mine unclaimed was = his_replied k job mine was
      due_replied k job (Answers other) mine unclaimed was = absurd (no_reply k was.found other mine was.is_asked was.has_reply)
      due_replied k job Quits mine unclaimed was = his_replied k job mine was

  -- The slot of the request that a worker freed last is given back.
  pub slot_given_back : (now : Requests) (worker : ℕ) (actor next : ActorState) (attempt : ℕ) (found : RequestState) → (worker_states worker).actor ≡ Some actor → actor.tenant ≡ tenant → lowers actor.point ≡ Retiring
      → at (worker_states worker).retiring ≡ Some found → Puts at now (worker_states worker).retiring (record found { retired = true }) → next.tenant ≡ actor.tenant → next.job ≡ actor.job → due next.point ≡ due actor.point
      → lowers next.point ≢ Retiring → OwnGoes actor.point next.point → Asking live claimed tells (upd worker_states worker (record (worker_states worker) { actor = Some next; attempt = attempt })) tenant now
  slot_given_back now worker actor next attempt found is of_it lowered is_found changed same_tenant same_job same_due lowers_none own_goes =
      sits live claimed tells worker_states tenant now worker (record (worker_states worker) { actor = Some next; attempt = attempt })
      (changes_put at now n (record found { retired = true }) changed live claimed tells tells
      (λ k l is_claimed mine.
      let of_change = asking.changes.asked k l is_claimed in
      let alike = one_found at (claimed.request k l) n of_change.found found mine of_change.is_asked is_found in
      record {
        found = record found { retired = true };
        is_asked = changed.mine;
        has_slot = sym (ap (λ (r : RequestState). r.admitted) alike) ∙ of_change.has_slot;
        its_entries = sym (ap (λ (r : RequestState). entries_of r.job) alike) ∙ of_change.its_entries;
        is_placed = sym (ap (λ (r : RequestState). r.placed) alike) ∙ of_change.is_placed;
      })
      (λ k l is_claimed other. refl)
      (λ k l lives is_claimed mine. absurd (row.retires_else lowered k l lives is_claimed mine))
      asking.changes)
      (λ of_next. subst (λ (job : Job). WorkerRefines live claimed now (worker_states worker).request n job (due next.point) (lowers next.point) (own_of next.point)) (sym same_job)
      (worker_state_goes live claimed now (worker_states worker).request n actor.job (due actor.point) (due next.point) Elsewhere (lowers next.point) (own_of actor.point) (own_of next.point) same_due lowers_none own_goes
      (worker_state_put at now n (record found { retired = true }) changed live claimed (worker_states worker).request n actor.job (due actor.point) Elsewhere (own_of actor.point)
      (λ mine. due_retired (worker_states worker).request actor.job (due actor.point) mine row.is_due) (λ mine none. absurd (elsewhere_not none))
      (record {
        is_due = row.is_due;
        unclaimed = row.unclaimed;
        fresh = row.fresh;
        its_own = row.its_own;
        retires = λ none. absurd (elsewhere_not none);
        retires_else = λ none. absurd (elsewhere_not none);
      }))))
      (λ other differs. actor_put at now n (record found { retired = true }) changed live claimed tenant (worker_states other).request (worker_states other).retiring (worker_states other).actor
      (λ one sits_there of_one its_row. (
        λ mine. due_retired (worker_states other).request one.job (due one.point) mine its_row.is_due,
        λ mine falls. absurd ((two_of worker other actor one (λ e. differs (sym e)) is sits_there of_it of_one).freed_two lowered falls (sym mine)),
      ))
      (asking.each other))
      asking.apart
      (λ other. still_apart live claimed tells worker_states tenant at asking worker other actor next attempt is same_tenant lowers_none)
    where
      n : ℕ
      n = (worker_states worker).retiring

      row : WorkerRefines live claimed at (worker_states worker).request (worker_states worker).retiring actor.job (due actor.point) (lowers actor.point) (own_of actor.point)
      row = row_of worker actor is of_it

      elsewhere_not : Elsewhere ≡ Retiring → ⊥
      elsewhere_not e = cc

      -- it has a reply
      placed_there : (k : ℕ) (x : RequestState) → k ≡ (worker_states worker).retiring → at k ≡ Some x → x.placed ≡ None → ⊥
      placed_there k x mine is_there none =
          let retires = row.retires lowered in
          none-some retires.reply (sym none ∙ ap (λ (r : RequestState). r.placed) (one_found at k (worker_states worker).retiring x retires.found mine is_there retires.is_asked) ∙ retires.has_reply)

      alike : (k : ℕ) (x : RequestState) → k ≡ (worker_states worker).retiring → at k ≡ Some x → x ≡ found
      alike k x mine is_there = one_found at k (worker_states worker).retiring x found mine is_there is_found

      his_retired : (k : ℕ) (job : Job) → k ≡ (worker_states worker).retiring → IsHis at k job → IsHis now k job
      his_retired k job mine his = record {
        found = record found { retired = true };
        is_asked = ap now mine ∙ changed.mine;
        its_job = sym (ap (λ (r : RequestState). r.job) (alike k his.found mine his.is_asked)) ∙ his.its_job;
        not_handed = sym (ap (λ (r : RequestState). r.handed) (alike k his.found mine his.is_asked)) ∙ his.not_handed;
      }

      due_retired : (k : ℕ) (job : Job) (is : Due) → k ≡ (worker_states worker).retiring → IsDue at k job is → IsDue now k job is
      due_retired k job (Waits admitted) mine was = absurd (placed_there k (record { job = job; admitted = admitted; placed = None; retired = false; handed = false }) mine was refl)
      due_retired k job Works mine was = his_retired k job mine was
      due_retired k job (Answers reply) mine was = record {
        found = record found { retired = true };
        is_asked = ap now mine ∙ changed.mine;
        its_job = sym (ap (λ (r : RequestState). r.job) (alike k was.found mine was.is_asked)) ∙ was.its_job;
        has_reply = sym (ap (λ (r : RequestState). r.placed) (alike k was.found mine was.is_asked)) ∙ was.has_reply;
        not_handed = sym (ap (λ (r : RequestState). r.handed) (alike k was.found mine was.is_asked)) ∙ was.not_handed;
      }
      due_retired k job Quits mine was = his_retired k job mine was

  -- The same of a request that found no slot: it is the worker's own, and no change is of it.
  pub drops : (now : Requests) (worker : ℕ) (actor next : ActorState) (attempt : ℕ) → (worker_states worker).actor ≡ Some actor → actor.tenant ≡ tenant → due actor.point ≡ Waits true
      → Puts at now (worker_states worker).request (record { job = actor.job; admitted = true; placed = None; retired = true; handed = false }) → next.tenant ≡ actor.tenant → next.job ≡ actor.job
      → due next.point ≡ Quits → lowers next.point ≢ Retiring → own_of next.point ≡ None → Asking live claimed tells (upd worker_states worker (record (worker_states worker) { actor = Some next; attempt = attempt })) tenant now
  drops now worker actor next attempt is of_it waits_there changed same_tenant same_job ends lowers_none owns_none =
      sits live claimed tells worker_states tenant now worker (record (worker_states worker) { actor = Some next; attempt = attempt })
      (changes_put at now (worker_states worker).request (dropped true) changed live claimed tells tells
      (λ k l is_claimed mine. absurd (no_change k l is_claimed mine)) (λ k l is_claimed other. refl) (λ k l lives is_claimed mine. absurd (no_change k l is_claimed mine)) asking.changes)
      (λ of_next. subst (λ (job : Job). WorkerRefines live claimed now (worker_states worker).request (worker_states worker).retiring job (due next.point) (lowers next.point) (own_of next.point)) (sym same_job) (record {
        is_due = subst (IsDue now (worker_states worker).request actor.job) (sym ends) (record { found = dropped true; is_asked = changed.mine; its_job = refl; not_handed = refl });
        unclaimed = λ waiting. absurd (true_false (sym waiting ∙ ap waits ends));
        fresh = λ waiting. absurd (true_false (sym waiting ∙ ap waits ends));
        its_own = λ mine owns. absurd (none-some mine (sym owns_none ∙ owns));
        retires = λ lowered. absurd (lowers_none lowered);
        retires_else = λ lowered. absurd (lowers_none lowered);
      }))
      (λ other differs. actor_put at now (worker_states worker).request (dropped true) changed live claimed tenant (worker_states other).request (worker_states other).retiring (worker_states other).actor
      (λ one sits_there of_one its_row. (
        λ mine. absurd ((two_of worker other actor one (λ e. differs (sym e)) is sits_there of_it of_one).numbers (sym mine)),
        λ mine falls. absurd (no_reply (worker_states other).retiring (its_row.retires falls) mine),
      ))
      (asking.each other))
      asking.apart
      (λ other. still_apart live claimed tells worker_states tenant at asking worker other actor next attempt is same_tenant lowers_none)
    where
      dropped : Bool → RequestState
      dropped retired = record { job = actor.job; admitted = true; placed = None; retired = retired; handed = false }

      row : WorkerRefines live claimed at (worker_states worker).request (worker_states worker).retiring actor.job (due actor.point) (lowers actor.point) (own_of actor.point)
      row = row_of worker actor is of_it

      asked_so : at (worker_states worker).request ≡ Some (dropped false)
      asked_so = subst (IsDue at (worker_states worker).request actor.job) waits_there row.is_due

      no_change : (k l : ℕ) → claimed.is_of k l → claimed.request k l ≡ (worker_states worker).request → ⊥
      no_change k l is_claimed mine = row.unclaimed (ap waits waits_there) k l is_claimed mine

      no_reply : (k : ℕ) → IsRetiring at k → k ≡ (worker_states worker).request → ⊥
      no_reply k retires mine =
          none-some retires.reply (ap (λ (r : RequestState). r.placed) (one_found at (worker_states worker).request k (dropped false) retires.found (sym mine) asked_so retires.is_asked) ∙ retires.has_reply)
