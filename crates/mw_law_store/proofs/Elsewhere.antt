-- A step of one tenant's request keeps another tenant's part of the world refining its store alone (the reference model).
-- Used by: Aside, Tenants, Turned.
use Rattle.std.specs.Prelude.{ℕ, ◌≡◌, ◌≢◌, Option, Some, None}
use Rattle.std.proofs.Common.{refl, sym, ap, subst, ◌∙◌, inl, inr}
use Rattle.std.proofs.lemmas.Bool.{cases_eq}
use Rattle.mw_lone.specs.Store.{Store, request}
use Rattle.mw_actor.specs.declared.points.Slot.{Slot}
use Rattle.mw_actor.specs.ActorState.{ActorState}
use Rattle.mw_world.specs.Definition.State.{State, WorkerState}
use Rattle.mw_law_runs.specs.Obligations.{own_of}
use Rattle.mw_law_store.proofs.Claims.{OwnsAreClaimed}
use Rattle.mw_law_store.specs.Refinement.{Requests, Live, is_live, Tells, told_of, TenantChanges, changes_of_tenant, ChangesRefine, OfActor, AreApart, Asking, Refines}

-- A tenant's changes are as they were.
pub record SameTenantChanges (live : Live) (claimed : TenantChanges) (tells : Tells) (now : Live) (after : TenantChanges) (says : Tells) : Type 0 where
  pub was : (slot seq : ℕ) → after.is_of slot seq → claimed.is_of slot seq
  pub request : (slot seq : ℕ) → claimed.is_of slot seq → after.request slot seq ≡ claimed.request slot seq
  pub change : (slot seq : ℕ) → claimed.is_of slot seq → after.change slot seq ≡ claimed.change slot seq
  pub told : (slot seq : ℕ) → claimed.is_of slot seq → says slot seq ≡ tells slot seq
  pub live_else : (slot seq : ℕ) → now slot seq → claimed.is_of slot seq → live slot seq

-- A request of another tenant adds nothing to this tenant's refinement, and is apart from all requests of this tenant.
of_others : (live : Live) (claimed : TenantChanges) (tenant : ℕ) (at : Requests) (number freed : ℕ) (seated : Option ActorState) → ((one : ActorState) → seated ≡ Some one → one.tenant ≢ tenant) → OfActor live claimed tenant at number freed seated
of_others live claimed tenant at number freed None strange = tt
of_others live claimed tenant at number freed (Some one) strange = λ of_it. absurd (strange one refl of_it)

apart_of_others : (tenant : ℕ) (worker_state other : WorkerState) (one two : Option ActorState) → ((actor : ActorState) → one ≡ Some actor → actor.tenant ≢ tenant) → AreApart tenant worker_state other one two
apart_of_others tenant worker_state other None None strange = tt
apart_of_others tenant worker_state other None (Some two) strange = tt
apart_of_others tenant worker_state other (Some one) None strange = tt
apart_of_others tenant worker_state other (Some one) (Some two) strange = λ of_one. absurd (strange one refl of_one)

others_apart : (tenant : ℕ) (worker_state other : WorkerState) (one two : Option ActorState) → ((actor : ActorState) → two ≡ Some actor → actor.tenant ≢ tenant) → AreApart tenant worker_state other one two
others_apart tenant worker_state other None None strange = tt
others_apart tenant worker_state other None (Some two) strange = tt
others_apart tenant worker_state other (Some one) None strange = tt
others_apart tenant worker_state other (Some one) (Some two) strange = λ of_one of_two. absurd (strange two refl of_two)

module _ (live : Live) (claimed : TenantChanges) (tells : Tells) (now : Live) (after : TenantChanges) (says : Tells) (same : SameTenantChanges live claimed tells now after says) (tenant : ℕ) (at : Requests) where
  changes_same : ChangesRefine live claimed tells at → ChangesRefine now after says at
  changes_same refines = record {
    asked = λ slot seq is.
        let was = same.was slot seq is in
        let of_change = refines.asked slot seq was in
        record {
          found = of_change.found;
          is_asked = ap at (same.request slot seq was) ∙ of_change.is_asked;
          has_slot = of_change.has_slot;
          its_entries = of_change.its_entries ∙ sym (same.change slot seq was);
          is_placed = of_change.is_placed ∙ sym (same.told slot seq was);
        };
    apart = λ slot seq other number is too alike.
        let was = same.was slot seq is in
        let were = same.was other number too in
        refines.apart slot seq other number was were (sym (same.request slot seq was) ∙ alike ∙ same.request other number were);
    kept = λ slot seq lives is.
        let was = same.was slot seq is in
        λ r is_asked. refines.kept slot seq (same.live_else slot seq lives was) was r (ap at (sym (same.request slot seq was)) ∙ is_asked);
  }

  of_same : (number freed : ℕ) (seated : Option ActorState) → ((actor : ActorState) (mine : Slot) → seated ≡ Some actor → actor.tenant ≡ tenant → own_of actor.point ≡ Some mine → claimed.is_of mine.slot mine.seq)
      → OfActor live claimed tenant at number freed seated → OfActor now after tenant at number freed seated
  of_same number freed None owns refines = tt
  of_same number freed (Some actor) owns refines = λ of_it.
      let row = refines of_it in
      record {
        is_due = row.is_due;
        unclaimed = λ waiting slot seq is alike.
            let was = same.was slot seq is in
            row.unclaimed waiting slot seq was (sym (same.request slot seq was) ∙ alike);
        fresh = row.fresh;
        its_own = λ mine is_mine. same.request mine.slot mine.seq (owns actor mine refl of_it is_mine) ∙ row.its_own mine is_mine;
        retires = row.retires;
        retires_else = λ lowered slot seq lives is alike.
            let was = same.was slot seq is in
            row.retires_else lowered slot seq (same.live_else slot seq lives was) was (sym (same.request slot seq was) ∙ alike);
      }

  -- Another tenant's request goes on, comes or leaves, and this tenant's requests agree with the store as before.
  pub asking_aside : (worker_states next : ℕ → WorkerState) (worker : ℕ) → ((other : ℕ) → other ≢ worker → next other ≡ worker_states other) → ((actor : ActorState) → (next worker).actor ≡ Some actor → actor.tenant ≢ tenant)
      → OwnsAreClaimed claimed worker_states tenant → Asking live claimed tells worker_states tenant at → Asking now after says next tenant at
  asking_aside worker_states next worker still strange owns asking = record {
    changes = changes_same asking.changes;
    each = λ one. elim (cases_eq one worker) [
      | inl here ↦ of_others now after tenant at (next one).request (next one).retiring (next one).actor (strange_at one here)
      | inr differs ↦ subst (λ (s : WorkerState). OfActor now after tenant at s.request s.retiring s.actor) (sym (still one differs))
          (of_same (worker_states one).request (worker_states one).retiring (worker_states one).actor (λ actor mine. owns one actor mine) (asking.each one))
    ];
    apart = λ one other differ. elim (cases_eq one worker) [
      | inl here ↦ apart_of_others tenant (next one) (next other) (next one).actor (next other).actor (strange_at one here)
      | inr differs ↦ elim (cases_eq other worker) [
        | inl there ↦ others_apart tenant (next one) (next other) (next one).actor (next other).actor (strange_at other there)
        | inr too ↦ subst (λ (s : WorkerState). AreApart tenant s (next other) s.actor (next other).actor) (sym (still one differs))
            (subst (λ (s : WorkerState). AreApart tenant (worker_states one) s (worker_states one).actor s.actor) (sym (still other too)) (asking.apart one other differ))
      ]
    ];
  }
    where
      strange_at : (one : ℕ) → one ≡ worker → (actor : ActorState) → (next one).actor ≡ Some actor → actor.tenant ≢ tenant
      strange_at one here actor is = strange actor (ap (λ (i : ℕ). (next i).actor) (sym here) ∙ is)

-- A step of a worker for another tenant leaves all that this tenant's refinement speaks of as it was.
pub record StepsAside (state next : State) (worker tenant : ℕ) : Type 0 where
  pub worker_states : (other : ℕ) → other ≢ worker → next.worker_states other ≡ state.worker_states other
  pub not_its : (after : ActorState) → (next.worker_states worker).actor ≡ Some after → after.tenant ≢ tenant
  pub file : (next.tenant_states tenant).file ≡ (state.tenant_states tenant).file
  pub quota : (next.tenant_states tenant).quota ≡ (state.tenant_states tenant).quota
  pub asked : (next.tenant_states tenant).asked ≡ (state.tenant_states tenant).asked
  pub used : (next.cells.doors tenant).used ≡ (state.cells.doors tenant).used
  pub changes : SameTenantChanges (is_live state.cells) (changes_of_tenant state.history tenant) (told_of state.history) (is_live next.cells) (changes_of_tenant next.history tenant) (told_of next.history)

pub elsewhere : (state next : State) (worker tenant : ℕ) (store : Store) → StepsAside state next worker tenant → OwnsAreClaimed (changes_of_tenant state.history tenant) state.worker_states tenant → Refines state tenant store → Refines next tenant store
elsewhere state next worker tenant store aside owns refines = record {
  holds = record {
    words = ap (λ f. f.contents) aside.file ∙ refines.holds.words;
    quota = aside.quota ∙ refines.holds.quota;
    used = aside.used ∙ refines.holds.used;
    faulted = ap (λ f. f.has_failed) aside.file ∙ refines.holds.faulted;
    in_doubt = ap (λ f. f.doubt) aside.file ∙ refines.holds.in_doubt;
    next = aside.asked ∙ refines.holds.next;
    numbered = refines.holds.numbered;
  };
  asks = asking_aside (is_live state.cells) (changes_of_tenant state.history tenant) (told_of state.history) (is_live next.cells) (changes_of_tenant next.history tenant) (told_of next.history) aside.changes tenant (request store)
      state.worker_states next.worker_states worker aside.worker_states aside.not_its owns refines.asks;
}
