-- A claim of a slot, and the freeing of one, are no mark: after either, the tenant's requests still agree with its store
-- alone. Used by: Aside, Elsewhere, Turns, among others.
use Rattle.std.specs.Prelude.{ℕ, ◌≡◌, ◌≢◌, ◌⊎◌, true, false, List, Option, Some, None}
use Rattle.std.proofs.Common.{refl, sym, ap, subst, ◌∙◌, inl, inr}
use Rattle.std.proofs.lemmas.Option.{same_Some}
use Rattle.mw_words.specs.declared.jobs.Entry.{Entry}
use Rattle.mw_words.specs.declared.jobs.Job.{Job}
use Rattle.mw_words.specs.declared.replies.Reply.{Reply}
use Rattle.mw_lone.specs.Store.{RequestState, entries_of, is_cas}
use Rattle.mw_actor.specs.declared.points.Slot.{Slot}
use Rattle.mw_actor.specs.ActorState.{ActorState}
use Rattle.mw_world.specs.Maps.{upd}
use Rattle.mw_world.specs.Definition.State.{WorkerState}
use Rattle.mw_law_runs.specs.Obligations.{own_of}
use Rattle.mw_law_store.proofs.Ends.{OwnGoes}
use Rattle.mw_law_store.proofs.RequestFrames.{sits, apart_goes, still_apart, fewer_of_its}
use Rattle.mw_law_store.proofs.Marks.{is_his, one_found, row_of, two_of}
use Rattle.mw_law_store.specs.Due.{Waits, Works, due, waits, Retiring, lowers}
use Rattle.mw_law_store.specs.Refinement.{Requests, Live, Tells, TenantChanges, IsDue, IsOfChange, IsRetiring, IsReserved, WorkerRefines, OfActor, AreApart, Asking}

-- the own change of each of the tenant's requests is one of its changes
abbrev pub OwnsAreClaimed : TenantChanges → (ℕ → WorkerState) → ℕ → Type 0
OwnsAreClaimed claimed worker_states tenant =
    (worker : ℕ) (actor : ActorState) (mine : Slot) → (worker_states worker).actor ≡ Some actor → actor.tenant ≡ tenant → own_of actor.point ≡ Some mine → claimed.is_of mine.slot mine.seq

-- A change was there before, and is as it was.
pub record IsOld (claimed : TenantChanges) (tells : Tells) (grown : TenantChanges) (says : Tells) (slot seq : ℕ) : Type 0 where
  pub was : claimed.is_of slot seq
  pub request : grown.request slot seq ≡ claimed.request slot seq
  pub change : grown.change slot seq ≡ claimed.change slot seq
  pub tells_same : says slot seq ≡ tells slot seq

-- Each change is the new one, of this request and with these entries, or was there before.
pub record WasThere (live : Live) (claimed : TenantChanges) (tells : Tells) (now : Live) (grown : TenantChanges) (says : Tells) (own : Slot) (n : ℕ) (entries : List Entry) : Type 0 where
  pub which : (slot seq : ℕ) → grown.is_of slot seq → IsOld claimed tells grown says slot seq ⊎ ((slot ≡ own.slot) × (seq ≡ own.seq))
  pub is_new : grown.is_of own.slot own.seq
  pub not_before : claimed.is_of own.slot own.seq → ⊥
  pub same_request : (slot seq : ℕ) → claimed.is_of slot seq → grown.request slot seq ≡ claimed.request slot seq
  pub request : grown.request own.slot own.seq ≡ n
  pub change : grown.change own.slot own.seq ≡ entries
  pub tells_nothing : says own.slot own.seq ≡ None
  pub live_else : (slot seq : ℕ) → now slot seq → live slot seq ⊎ ((slot ≡ own.slot) × (seq ≡ own.seq))

-- a fact about two numbers holds of two that are the same
two_same : (P : ℕ → ℕ → Type 0) (k l slot seq : ℕ) → k ≡ slot → l ≡ seq → P slot seq → P k l
two_same P k l slot seq e f p = subst (λ (i : ℕ). P i l) (sym e) (subst (P slot) (sym f) p)

module _ (live : Live) (claimed : TenantChanges) (tells : Tells) (worker_states : ℕ → WorkerState) (tenant : ℕ) (at : Requests) (asking : Asking live claimed tells worker_states tenant at) where
  -- A worker's request, which waits, claims a slot.
  pub claims : (now : Live) (grown : TenantChanges) (says : Tells) (worker : ℕ) (actor next : ActorState) (own : Slot) (attempt : ℕ) (entries : List Entry)
      → WasThere live claimed tells now grown says own (worker_states worker).request entries → OwnsAreClaimed claimed worker_states tenant → entries_of actor.job ≡ entries
      → (worker_states worker).actor ≡ Some actor → actor.tenant ≡ tenant → due actor.point ≡ Waits true → due next.point ≡ Works → lowers next.point ≢ Retiring → own_of next.point ≡ Some own → next.job ≡ actor.job
      → next.tenant ≡ actor.tenant → Asking now grown says (upd worker_states worker (record (worker_states worker) { actor = Some next; attempt = attempt })) tenant at
  claims now grown says worker actor next own attempt entries there owns_claimed its_entries is of_it waits_there works lowers_none owns same_job same_tenant =
      sits now grown says worker_states tenant at worker (record (worker_states worker) { actor = Some next; attempt = attempt })
      (record { asked = λ slot seq is_of. asked slot seq (there.which slot seq is_of); apart = apart; kept = λ slot seq lives is_of. kept slot seq (there.which slot seq is_of) (there.live_else slot seq lives) })
      (λ of_next. subst (λ (job : Job). WorkerRefines now grown at (worker_states worker).request (worker_states worker).retiring job (due next.point) (lowers next.point) (own_of next.point)) (sym same_job) (record {
        is_due = subst (IsDue at (worker_states worker).request actor.job) (sym works) (is_his at (worker_states worker).request actor.job (due actor.point) row.is_due);
        unclaimed = λ waiting. absurd (false_true (sym (ap waits works) ∙ waiting));
        fresh = λ waiting. absurd (false_true (sym (ap waits works) ∙ waiting));
        its_own = λ mine is_mine. ap (λ (slot : Slot). grown.request slot.slot slot.seq) (same_Some mine own (sym is_mine ∙ owns)) ∙ there.request;
        retires = λ lowered. absurd (lowers_none lowered);
        retires_else = λ lowered. absurd (lowers_none lowered);
      }))
      (λ other differs. others other differs (worker_states other).actor refl (asking.each other))
      asking.apart
      (λ other. still_apart live claimed tells worker_states tenant at asking worker other actor next attempt is same_tenant lowers_none)
    where
      false_true : false ≡ true → ⊥
      false_true e = cc

      row : WorkerRefines live claimed at (worker_states worker).request (worker_states worker).retiring actor.job (due actor.point) (lowers actor.point) (own_of actor.point)
      row = row_of live claimed tells worker_states tenant at asking worker actor is of_it

      found : RequestState
      found = record { job = actor.job; admitted = true; placed = None; retired = false; handed = false }

      is_found : at (worker_states worker).request ≡ Some found
      is_found = subst (IsDue at (worker_states worker).request actor.job) waits_there row.is_due

      asked : (slot seq : ℕ) → IsOld claimed tells grown says slot seq ⊎ ((slot ≡ own.slot) × (seq ≡ own.seq)) → IsOfChange at (grown.request slot seq) (grown.change slot seq) (says slot seq)
      asked slot seq (inl old) =
          let was = asking.changes.asked slot seq old.was in
          record {
            found = was.found;
            is_asked = ap at old.request ∙ was.is_asked;
            has_slot = was.has_slot;
            its_entries = was.its_entries ∙ sym old.change;
            is_placed = was.is_placed ∙ sym old.tells_same;
          }
      asked slot seq (inr new) = two_same (λ k l. IsOfChange at (grown.request k l) (grown.change k l) (says k l)) slot seq own.slot own.seq new.0 new.1
          (record { found = found; is_asked = ap at there.request ∙ is_found; has_slot = refl; its_entries = its_entries ∙ sym there.change; is_placed = sym there.tells_nothing })

      request_new : (slot seq : ℕ) → (slot ≡ own.slot) × (seq ≡ own.seq) → grown.request slot seq ≡ (worker_states worker).request
      request_new slot seq new = two_same (λ k l. grown.request k l ≡ (worker_states worker).request) slot seq own.slot own.seq new.0 new.1 there.request

      not_old : (slot seq : ℕ) → IsOld claimed tells grown says slot seq → grown.request slot seq ≡ (worker_states worker).request → ⊥
      not_old slot seq old same = row.unclaimed (ap waits waits_there) slot seq old.was (sym old.request ∙ same)

      apart_by : (slot seq other number : ℕ) → IsOld claimed tells grown says slot seq ⊎ ((slot ≡ own.slot) × (seq ≡ own.seq)) → IsOld claimed tells grown says other number ⊎ ((other ≡ own.slot) × (number ≡ own.seq))
          → grown.request slot seq ≡ grown.request other number → (slot ≡ other) × (seq ≡ number)
      apart_by slot seq other number (inl old) (inl too) same = asking.changes.apart slot seq other number old.was too.was (sym old.request ∙ same ∙ too.request)
      apart_by slot seq other number (inl old) (inr new) same = absurd (not_old slot seq old (same ∙ request_new other number new))
      apart_by slot seq other number (inr new) (inl old) same = absurd (not_old other number old (sym same ∙ request_new slot seq new))
      apart_by slot seq other number (inr new) (inr too) same = (new.0 ∙ sym too.0, new.1 ∙ sym too.1)

      apart : (slot seq other number : ℕ) → grown.is_of slot seq → grown.is_of other number → grown.request slot seq ≡ grown.request other number → (slot ≡ other) × (seq ≡ number)
      apart slot seq other number is_one is_other same = apart_by slot seq other number (there.which slot seq is_one) (there.which other number is_other) same

      kept : (slot seq : ℕ) → IsOld claimed tells grown says slot seq ⊎ ((slot ≡ own.slot) × (seq ≡ own.seq)) → live slot seq ⊎ ((slot ≡ own.slot) × (seq ≡ own.seq)) → IsReserved at (grown.request slot seq)
      kept slot seq (inl old) (inl lives) r asked_there = asking.changes.kept slot seq lives old.was r (ap at (sym old.request) ∙ asked_there)
      kept slot seq (inl old) (inr new) r asked_there = absurd (there.not_before (two_same claimed.is_of own.slot own.seq slot seq (sym new.0) (sym new.1) old.was))
      kept slot seq (inr new) lives r asked_there =
          ap (λ (x : RequestState). x.retired) (one_found at (grown.request slot seq) (worker_states worker).request r found (request_new slot seq new) asked_there is_found)

      others : (other : ℕ) → other ≢ worker → (seated : Option ActorState) → (worker_states other).actor ≡ seated → OfActor live claimed tenant at (worker_states other).request (worker_states other).retiring seated
          → OfActor now grown tenant at (worker_states other).request (worker_states other).retiring seated
      others other differs None sits_there refines = tt
      others other differs (Some one) sits_there refines = λ of_one.
          let its_row = refines of_one in
          let two = two_of live claimed tells worker_states tenant at asking worker other actor one (λ e. differs (sym e)) is sits_there of_it of_one in
          record {
            is_due = its_row.is_due;
            unclaimed = λ waiting slot seq is_of. unclaimed_by (worker_states other).request (λ same. two.numbers same) slot seq (λ was. its_row.unclaimed waiting slot seq was) (there.which slot seq is_of);
            fresh = its_row.fresh;
            its_own = λ mine is_mine. there.same_request mine.slot mine.seq (owns_claimed other one mine sits_there of_one is_mine) ∙ its_row.its_own mine is_mine;
            retires = its_row.retires;
            retires_else = λ lowered slot seq lives is_of. retired_by (worker_states other).retiring (its_row.retires lowered) slot seq (λ was_live was. its_row.retires_else lowered slot seq was_live was)
                (there.which slot seq is_of) (there.live_else slot seq lives);
          }
        where
          unclaimed_by : (number : ℕ) → (worker_states worker).request ≢ number → (slot seq : ℕ) → (claimed.is_of slot seq → claimed.request slot seq ≢ number)
              → IsOld claimed tells grown says slot seq ⊎ ((slot ≡ own.slot) × (seq ≡ own.seq)) → grown.request slot seq ≢ number
          unclaimed_by number apart_numbers slot seq unclaimed (inl old) same = unclaimed old.was (sym old.request ∙ same)
          unclaimed_by number apart_numbers slot seq unclaimed (inr new) same = apart_numbers (sym (request_new slot seq new) ∙ same)

          -- a request that is retired has a reply
          retired_by : (freed : ℕ) → IsRetiring at freed → (slot seq : ℕ) → (live slot seq → claimed.is_of slot seq → claimed.request slot seq ≢ freed)
              → IsOld claimed tells grown says slot seq ⊎ ((slot ≡ own.slot) × (seq ≡ own.seq)) → live slot seq ⊎ ((slot ≡ own.slot) × (seq ≡ own.seq)) → grown.request slot seq ≢ freed
          retired_by freed retires slot seq else_where (inl old) (inl lives) same = else_where lives old.was (sym old.request ∙ same)
          retired_by freed retires slot seq else_where (inl old) (inr new) same = there.not_before (two_same claimed.is_of own.slot own.seq slot seq (sym new.0) (sym new.1) old.was)
          retired_by freed retires slot seq else_where (inr new) lives same = replied retires.reply
              (ap (λ (x : RequestState). x.placed) (one_found at (worker_states worker).request freed found retires.found (sym (request_new slot seq new) ∙ same) is_found retires.is_asked) ∙ retires.has_reply)
            where
              replied : (reply : Reply) → None ≡ Some reply → ⊥
              replied reply e = cc

  -- A worker's request frees the slot of a change that is done with, and will lower the door for the request of that change. A
  -- request that waits for a slot frees none.
  pub frees : (now : Live) (worker slot seq : ℕ) (actor next : ActorState) (reply : Reply) (attempt : ℕ) → live slot seq → claimed.is_of slot seq → tells slot seq ≡ Some reply → (now slot seq → ⊥)
      → ((k l : ℕ) → now k l → claimed.is_of k l → live k l) → (waits (due next.point) ≡ true → is_cas actor.job ≡ true → ⊥) → (worker_states worker).actor ≡ Some actor → actor.tenant ≡ tenant → lowers next.point ≡ Retiring
      → due next.point ≡ due actor.point → OwnGoes actor.point next.point → next.job ≡ actor.job → next.tenant ≡ actor.tenant
      → Asking now claimed tells (upd worker_states worker (record (worker_states worker) { actor = Some next; attempt = attempt; retiring = claimed.request slot seq })) tenant at
  frees now worker slot seq actor next reply attempt lives is_claimed told gone fewer reads is of_it lowered same_due own_goes same_job same_tenant =
      sits now claimed tells worker_states tenant at worker (record (worker_states worker) { actor = Some next; attempt = attempt; retiring = claimed.request slot seq }) left.changes
      (λ of_next. subst (λ (job : Job). WorkerRefines now claimed at (worker_states worker).request (claimed.request slot seq) job (due next.point) (lowers next.point) (own_of next.point)) (sym same_job) (record {
        is_due = subst (IsDue at (worker_states worker).request actor.job) (sym same_due) row.is_due;
        unclaimed = λ waiting. row.unclaimed (sym (ap waits same_due) ∙ waiting);
        fresh = λ waiting is_change. absurd (reads waiting is_change);
        its_own = λ mine is_mine. row.its_own mine (own_goes mine is_mine);
        retires = λ falls. retiring;
        retires_else = λ falls k l still is_of same.
            let which = asking.changes.apart k l slot seq is_of is_claimed same in
            gone (two_same now slot seq k l (sym which.0) (sym which.1) still);
      }))
      (λ other differs. left.each other)
      asking.apart
      (λ other differs. apart_goes tenant (worker_states worker) (record (worker_states worker) { actor = Some next; attempt = attempt; retiring = claimed.request slot seq }) (worker_states other) actor next (worker_states other).actor refl same_tenant
      (λ two sits_there of_two falls too. (row_of live claimed tells worker_states tenant at asking other two sits_there of_two).retires_else too slot seq lives is_claimed)
      (subst (λ (a : Option ActorState). AreApart tenant (worker_states worker) (worker_states other) a (worker_states other).actor) is (asking.apart worker other (λ same. differs (sym same)))))
    where
      left : Asking now claimed tells worker_states tenant at
      left = fewer_of_its live claimed tells worker_states tenant at asking now fewer

      row : WorkerRefines live claimed at (worker_states worker).request (worker_states worker).retiring actor.job (due actor.point) (lowers actor.point) (own_of actor.point)
      row = row_of live claimed tells worker_states tenant at asking worker actor is of_it

      retiring : IsRetiring at (claimed.request slot seq)
      retiring =
          let of_change = asking.changes.asked slot seq is_claimed in
          record {
            found = of_change.found;
            is_asked = of_change.is_asked;
            has_slot = of_change.has_slot;
            reply = reply;
            has_reply = of_change.is_placed ∙ told;
            not_retired = asking.changes.kept slot seq lives is_claimed of_change.found of_change.is_asked;
          }
