-- A tenant's requests still agree with the store alone when one of the store's requests changes and one worker of the tenant
-- goes on. Used by: Arrivals, CallMarks, Claims, among others.
use Rattle.std.specs.Prelude.{ℕ, ◌≡◌, ◌≢◌, false, List, Option, Some, None}
use Rattle.std.specs.FinMap as map
use Rattle.std.proofs.Common.{refl, sym, ap, subst, ◌∙◌, inl, inr}
use Rattle.std.proofs.lemmas.Bool.{cases_eq}
use Rattle.std.proofs.lemmas.Option.{same_Some}
use Rattle.mw_words.specs.declared.jobs.Entry.{Entry}
use Rattle.mw_words.specs.declared.jobs.Job.{Job}
use Rattle.mw_words.specs.declared.replies.Reply.{Reply}
use Rattle.mw_lone.specs.Store.{Store, RequestState, request}
use Rattle.mw_lone.proofs.SoundStores.{get-insert_same, get-insert_other}
use Rattle.mw_actor.specs.declared.points.Slot.{Slot}
use Rattle.mw_actor.specs.ActorState.{ActorState}
use Rattle.mw_world.specs.Maps.{upd}
use Rattle.mw_world.specs.Definition.State.{WorkerState}
use Rattle.mw_law_runs.proofs.Knowledge.Updates.Preservation.{upd_here, upd_else}
use Rattle.mw_law_runs.specs.Obligations.{own_of}
use Rattle.mw_law_store.specs.Due.{Due, Waits, Works, Answers, Quits, due, waits, Lowering, Retiring, lowers}
use Rattle.mw_law_store.proofs.Ends.{OwnGoes}
use Rattle.mw_law_store.specs.Refinement.{Requests, Live, Tells, TenantChanges, IsHis, HasReply, IsDue, IsOfChange, IsRetiring, IsReserved, ChangesRefine, WorkerRefines, OfActor, AreTwo, AreApart, Asking}

-- One request of the store changes into this.
pub record Puts (at now : Requests) (k : ℕ) (r : RequestState) : Type 0 where
  pub mine : now k ≡ Some r
  pub others : (n : ℕ) → n ≢ k → now n ≡ at n

pub puts : (s t : Store) (k : ℕ) (r : RequestState) → t.requests ≡ map.insert s.requests k r → Puts (request s) (request t) k r
puts s t k r is = record {
  mine = ap (λ m. map.get m k) is ∙ get-insert_same s.requests k k r refl;
  others = λ n apart. ap (λ m. map.get m n) is ∙ get-insert_other s.requests k n r apart;
}

-- The same request in two stores.
module _ (at now : Requests) (n m : ℕ) (same : now m ≡ at n) where
  pub his_same : (job : Job) → IsHis at n job → IsHis now m job
  his_same job is = record { found = is.found; is_asked = same ∙ is.is_asked; its_job = is.its_job; not_handed = is.not_handed }

  pub reply_same : (job : Job) (reply : Reply) → HasReply at n job reply → HasReply now m job reply
  reply_same job reply is = record { found = is.found; is_asked = same ∙ is.is_asked; its_job = is.its_job; has_reply = is.has_reply; not_handed = is.not_handed }

  pub due_same : (job : Job) (is : Due) → IsDue at n job is → IsDue now m job is
  due_same job (Waits admitted) is = same ∙ is
  due_same job Works is = his_same job is
  due_same job (Answers reply) is = reply_same job reply is
  due_same job Quits is = his_same job is

  pub change_same : (change : List Entry) (placed : Option Reply) → IsOfChange at n change placed → IsOfChange now m change placed
  change_same change placed is =
      record { found = is.found; is_asked = same ∙ is.is_asked; has_slot = is.has_slot; its_entries = is.its_entries; is_placed = is.is_placed }

  pub retiring_same : IsRetiring at n → IsRetiring now m
  retiring_same is =
      record { found = is.found; is_asked = same ∙ is.is_asked; has_slot = is.has_slot; reply = is.reply; has_reply = is.has_reply; not_retired = is.not_retired }

  pub kept_same : IsReserved at n → IsReserved now m
  kept_same kept r is = kept r (sym same ∙ is)

-- The parts of the refinement that speak of one request, after that request has changed: what is due of it to its worker, who
-- retires it, and its change.
module _ (at now : Requests) (k : ℕ) (r : RequestState) (changed : Puts at now k r) where
  due_put : (n : ℕ) (job : Job) (is : Due) → (n ≡ k → IsDue now n job is) → IsDue at n job is → IsDue now n job is
  due_put n job is here was = elim (cases_eq n k) [
    | inl same ↦ here same
    | inr other ↦ due_same at now n n (changed.others n other) job is was
  ]

  retiring_put : (n : ℕ) → (n ≡ k → IsRetiring now n) → IsRetiring at n → IsRetiring now n
  retiring_put n here was = elim (cases_eq n k) [
    | inl same ↦ here same
    | inr other ↦ retiring_same at now n n (changed.others n other) was
  ]

  pub worker_state_put : (live : Live) (claimed : TenantChanges) (number freed : ℕ) (job : Job) (is : Due) (lowering : Lowering) (own : Option Slot) → (number ≡ k → IsDue now number job is)
      → (freed ≡ k → lowering ≡ Retiring → IsRetiring now freed) → WorkerRefines live claimed at number freed job is lowering own → WorkerRefines live claimed now number freed job is lowering own
  worker_state_put live claimed number freed job is lowering own its retiring refines = record {
    is_due = due_put number job is its refines.is_due;
    unclaimed = refines.unclaimed;
    fresh = refines.fresh;
    its_own = refines.its_own;
    retires = λ lowered. retiring_put freed (λ same. retiring same lowered) (refines.retires lowered);
    retires_else = refines.retires_else;
  }

  pub actor_put : (live : Live) (claimed : TenantChanges) (tenant number freed : ℕ) (actor : Option ActorState)
      → ((one : ActorState) → actor ≡ Some one → one.tenant ≡ tenant → WorkerRefines live claimed at number freed one.job (due one.point) (lowers one.point) (own_of one.point)
      → (number ≡ k → IsDue now number one.job (due one.point)) × (freed ≡ k → lowers one.point ≡ Retiring → IsRetiring now freed))
      → OfActor live claimed tenant at number freed actor → OfActor live claimed tenant now number freed actor
  actor_put live claimed tenant number freed None minds refines = tt
  actor_put live claimed tenant number freed (Some one) minds refines = λ of_it.
      let both = minds one refl of_it (refines of_it) in
      worker_state_put live claimed number freed one.job (due one.point) (lowers one.point) (own_of one.point) both.0 both.1 (refines of_it)

  pub changes_put : (live : Live) (claimed : TenantChanges) (tells says : Tells)
      → ((slot seq : ℕ) → claimed.is_of slot seq → claimed.request slot seq ≡ k → IsOfChange now k (claimed.change slot seq) (says slot seq))
      → ((slot seq : ℕ) → claimed.is_of slot seq → claimed.request slot seq ≢ k → says slot seq ≡ tells slot seq)
      → ((slot seq : ℕ) → live slot seq → claimed.is_of slot seq → claimed.request slot seq ≡ k → r.retired ≡ false)
      → ChangesRefine live claimed tells at → ChangesRefine live claimed says now
  changes_put live claimed tells says here same kept refines = record {
    asked = λ slot seq is. elim (cases_eq (claimed.request slot seq) k) [
      | inl mine ↦ change_same now now k (claimed.request slot seq) (ap now mine) (claimed.change slot seq) (says slot seq) (here slot seq is mine)
      | inr other ↦ subst (λ (placed : Option Reply). IsOfChange now (claimed.request slot seq) (claimed.change slot seq) placed) (sym (same slot seq is other))
          (change_same at now (claimed.request slot seq) (claimed.request slot seq) (changed.others (claimed.request slot seq) other) (claimed.change slot seq) (tells slot seq) (refines.asked slot seq is))
    ];
    apart = refines.apart;
    kept = λ slot seq lives is. elim (cases_eq (claimed.request slot seq) k) [
      | inl mine ↦ kept_here (claimed.request slot seq) mine (kept slot seq lives is mine)
      | inr other ↦ kept_same at now (claimed.request slot seq) (claimed.request slot seq) (changed.others (claimed.request slot seq) other) (refines.kept slot seq lives is)
    ];
  }
    where
      kept_here : (n : ℕ) → n ≡ k → r.retired ≡ false → IsReserved now n
      kept_here n mine not x is = subst (λ (y : RequestState). y.retired ≡ false) (same_Some r x (sym (ap now mine ∙ changed.mine) ∙ is)) not

-- being apart is mutual
pub two_apart : (tenant : ℕ) (worker_state other : WorkerState) (one two : Option ActorState) → AreApart tenant worker_state other one two → AreApart tenant other worker_state two one
two_apart tenant worker_state other None None apart = tt
two_apart tenant worker_state other None (Some actor) apart = tt
two_apart tenant worker_state other (Some actor) None apart = tt
two_apart tenant worker_state other (Some actor) (Some another) apart = λ here there.
    let two = apart there here in
    record { numbers = λ same. two.numbers (sym same); freed_two = λ falling lowering same. two.freed_two lowering falling (sym same) }

-- A worker's state becomes this, and the others are as they were.
pub sits : (live : Live) (claimed : TenantChanges) (tells : Tells) (worker_states : ℕ → WorkerState) (tenant : ℕ) (now : Requests) (worker : ℕ) (worker_state : WorkerState) → ChangesRefine live claimed tells now
    → OfActor live claimed tenant now worker_state.request worker_state.retiring worker_state.actor
    → ((other : ℕ) → other ≢ worker → OfActor live claimed tenant now (worker_states other).request (worker_states other).retiring (worker_states other).actor)
    → ((one other : ℕ) → one ≢ other → AreApart tenant (worker_states one) (worker_states other) (worker_states one).actor (worker_states other).actor)
    → ((other : ℕ) → other ≢ worker → AreApart tenant worker_state (worker_states other) worker_state.actor (worker_states other).actor) → Asking live claimed tells (upd worker_states worker worker_state) tenant now
sits live claimed tells worker_states tenant now worker worker_state changes mine others apart apart_of_mine = record {
  changes = changes;
  each = λ other. elim (cases_eq other worker) [
    | inl same ↦ subst Sits (sym (here other same)) mine
    | inr differs ↦ subst Sits (sym (upd_else worker_states worker other worker_state differs)) (others other differs)
  ];
  apart = λ one other differ. elim (cases_eq one worker) [
    | inl same ↦
        let differs : other ≢ worker = λ too. differ (same ∙ sym too) in
        subst (λ (s : WorkerState). Apart s (upd worker_states worker worker_state other)) (sym (here one same))
        (subst (λ (s : WorkerState). Apart worker_state s) (sym (upd_else worker_states worker other worker_state differs)) (apart_of_mine other differs))
    | inr differs ↦ subst (λ (s : WorkerState). Apart s (upd worker_states worker worker_state other)) (sym (upd_else worker_states worker one worker_state differs)) (elim (cases_eq other worker) [
      | inl same ↦ subst (λ (s : WorkerState). Apart (worker_states one) s) (sym (here other same)) (two_apart tenant worker_state (worker_states one) worker_state.actor (worker_states one).actor (apart_of_mine one differs))
      | inr too ↦ subst (λ (s : WorkerState). Apart (worker_states one) s) (sym (upd_else worker_states worker other worker_state too)) (apart one other differ)
    ])
  ];
}
  where
    Sits : WorkerState → Type 0
    Sits s = OfActor live claimed tenant now s.request s.retiring s.actor

    Apart : WorkerState → WorkerState → Type 0
    Apart s t = AreApart tenant s t s.actor t.actor

    here : (other : ℕ) → other ≡ worker → upd worker_states worker worker_state other ≡ worker_state
    here other same = ap (upd worker_states worker worker_state) same ∙ upd_here worker_states worker worker_state

-- what is known of a worker's request is known of another, if it does not lower the door and no change becomes its own
pub worker_state_goes : (live : Live) (claimed : TenantChanges) (at : Requests) (number freed : ℕ) (job : Job) (is after : Due) (lowering falling : Lowering) (own kept : Option Slot) → after ≡ is → falling ≢ Retiring
    → ((mine : Slot) → kept ≡ Some mine → own ≡ Some mine) → WorkerRefines live claimed at number freed job is lowering own → WorkerRefines live claimed at number freed job after falling kept
worker_state_goes live claimed at number freed job is after lowering falling own kept same lowers_none goes refines = record {
  is_due = subst (IsDue at number job) (sym same) refines.is_due;
  unclaimed = λ waiting. refines.unclaimed (sym (ap waits same) ∙ waiting);
  fresh = λ waiting. refines.fresh (sym (ap waits same) ∙ waiting);
  its_own = λ mine is_mine. refines.its_own mine (goes mine is_mine);
  retires = λ lowered. absurd (lowers_none lowered);
  retires_else = λ lowered. absurd (lowers_none lowered);
}

-- what is known of a worker's request
pub refines_actor : (live : Live) (claimed : TenantChanges) (tenant : ℕ) (at : Requests) (number freed : ℕ) (seated : Option ActorState) (actor : ActorState) → seated ≡ Some actor → actor.tenant ≡ tenant
    → OfActor live claimed tenant at number freed seated → WorkerRefines live claimed at number freed actor.job (due actor.point) (lowers actor.point) (own_of actor.point)
refines_actor live claimed tenant at number freed seated actor is of_it refines = subst (OfActor live claimed tenant at number freed) is refines of_it

-- two requests of the tenant
pub apart_actors : (tenant : ℕ) (worker_state other : WorkerState) (one two : Option ActorState) (actor another : ActorState) → one ≡ Some actor → two ≡ Some another → actor.tenant ≡ tenant → another.tenant ≡ tenant
    → AreApart tenant worker_state other one two → AreTwo worker_state.request other.request worker_state.retiring other.retiring (lowers actor.point) (lowers another.point)
apart_actors tenant worker_state other one two actor another is too of_it of_two apart =
    subst (λ (a : Option ActorState). AreApart tenant worker_state other (Some actor) a) too (subst (λ (a : Option ActorState). AreApart tenant worker_state other a two) is apart) of_it of_two

-- A worker that goes on with the same request is apart from others as before, if what it retires is.
pub apart_goes : (tenant : ℕ) (worker_state now other : WorkerState) (actor next : ActorState) (another : Option ActorState) → now.request ≡ worker_state.request → next.tenant ≡ actor.tenant
    → ((two : ActorState) → another ≡ Some two → two.tenant ≡ tenant → lowers next.point ≡ Retiring → lowers two.point ≡ Retiring → now.retiring ≢ other.retiring)
    → AreApart tenant worker_state other (Some actor) another → AreApart tenant now other (Some next) another
apart_goes tenant worker_state now other actor next None same same_tenant freed apart = tt
apart_goes tenant worker_state now other actor next (Some two) same same_tenant freed apart = λ of_it of_two. record {
  numbers = λ is. (apart (sym same_tenant ∙ of_it) of_two).numbers (sym same ∙ is);
  freed_two = freed two refl of_two;
}

module _ (live : Live) (claimed : TenantChanges) (tells : Tells) (worker_states : ℕ → WorkerState) (tenant : ℕ) (at : Requests) (asking : Asking live claimed tells worker_states tenant at) where
  -- a request that goes on and will not lower the door is apart from others as before
  pub still_apart : (worker other : ℕ) (actor next : ActorState) (attempt : ℕ) → (worker_states worker).actor ≡ Some actor → next.tenant ≡ actor.tenant → lowers next.point ≢ Retiring → other ≢ worker
      → AreApart tenant (record (worker_states worker) { actor = Some next; attempt = attempt }) (worker_states other) (Some next) (worker_states other).actor
  still_apart worker other actor next attempt is same_tenant lowers_none differs =
      apart_goes tenant (worker_states worker) (record (worker_states worker) { actor = Some next; attempt = attempt }) (worker_states other) actor next (worker_states other).actor refl same_tenant
      (λ two too of_two lowered. absurd (lowers_none lowered))
      (subst (λ (a : Option ActorState). AreApart tenant (worker_states worker) (worker_states other) a (worker_states other).actor) is (asking.apart worker other (λ same. differs (sym same))))

  -- A request goes on with this state, and nothing else changes.
  pub goes_with : (worker : ℕ) (actor next : ActorState) (attempt : ℕ) → (worker_states worker).actor ≡ Some actor → next.tenant ≡ actor.tenant → next.job ≡ actor.job → lowers next.point ≢ Retiring
      → (WorkerRefines live claimed at (worker_states worker).request (worker_states worker).retiring actor.job (due actor.point) (lowers actor.point) (own_of actor.point)
      → WorkerRefines live claimed at (worker_states worker).request (worker_states worker).retiring actor.job (due next.point) (lowers next.point) (own_of next.point))
      → Asking live claimed tells (upd worker_states worker (record (worker_states worker) { actor = Some next; attempt = attempt })) tenant at
  goes_with worker actor next attempt is same_tenant same_job lowers_none row =
      sits live claimed tells worker_states tenant at worker (record (worker_states worker) { actor = Some next; attempt = attempt }) asking.changes
      (λ of_it. subst (λ (job : Job). WorkerRefines live claimed at (worker_states worker).request (worker_states worker).retiring job (due next.point) (lowers next.point) (own_of next.point)) (sym same_job)
      (row (refines_actor live claimed tenant at (worker_states worker).request (worker_states worker).retiring (worker_states worker).actor actor is (sym same_tenant ∙ of_it) (asking.each worker))))
      (λ other differs. asking.each other) asking.apart
      (λ other. still_apart worker other actor next attempt is same_tenant lowers_none)

  -- a request goes on, and all that is due of it is as before
  pub goes : (worker : ℕ) (actor next : ActorState) (attempt : ℕ) → (worker_states worker).actor ≡ Some actor → next.tenant ≡ actor.tenant → next.job ≡ actor.job → due next.point ≡ due actor.point
      → lowers next.point ≢ Retiring → OwnGoes actor.point next.point → Asking live claimed tells (upd worker_states worker (record (worker_states worker) { actor = Some next; attempt = attempt })) tenant at
  goes worker actor next attempt is same_tenant same_job same_due lowers_none own_goes =
      goes_with worker actor next attempt is same_tenant same_job lowers_none
      (worker_state_goes live claimed at (worker_states worker).request (worker_states worker).retiring actor.job (due actor.point) (due next.point) (lowers actor.point) (lowers next.point) (own_of actor.point) (own_of next.point)
      same_due lowers_none own_goes)

  -- fewer slots are taken for its changes
  pub fewer_of_its : (now : Live) → ((slot seq : ℕ) → now slot seq → claimed.is_of slot seq → live slot seq) → Asking now claimed tells worker_states tenant at
  fewer_of_its now fewer = record {
    changes = record { asked = asking.changes.asked; apart = asking.changes.apart; kept = λ slot seq lives is. asking.changes.kept slot seq (fewer slot seq lives is) is };
    each = λ worker. fewer_for (worker_states worker).request (worker_states worker).retiring (worker_states worker).actor (asking.each worker);
    apart = asking.apart;
  }
    where
      fewer_for : (number freed : ℕ) (actor : Option ActorState) → OfActor live claimed tenant at number freed actor → OfActor now claimed tenant at number freed actor
      fewer_for number freed None refines = tt
      fewer_for number freed (Some actor) refines = λ of_it.
          let row = refines of_it in
          record {
            is_due = row.is_due;
            unclaimed = row.unclaimed;
            fresh = row.fresh;
            its_own = row.its_own;
            retires = row.retires;
            retires_else = λ lowered slot seq lives is. row.retires_else lowered slot seq (fewer slot seq lives is) is;
          }

  -- changes have the same replies
  pub retold : (says : Tells) → ((slot seq : ℕ) → claimed.is_of slot seq → says slot seq ≡ tells slot seq) → Asking live claimed says worker_states tenant at
  retold says same = record {
    changes = record {
      asked = λ slot seq is. subst (IsOfChange at (claimed.request slot seq) (claimed.change slot seq)) (sym (same slot seq is)) (asking.changes.asked slot seq is);
      apart = asking.changes.apart;
      kept = asking.changes.kept;
    };
    each = asking.each;
    apart = asking.apart;
  }
