-- If one worker goes on and one gate or door changes with it, the counts stay right, because both sides of each count change
-- by the same. Used by: Effects, QuietSteps, RequestsAndStarts.
use Rattle.std.specs.Prelude.{ℕ, zero, suc, ◌≡◌, ◌≢◌, ◌<◌, ◌≤◌, ◌+◌, ◌==◌, ◌&&◌, true, false, if◌then◌else◌, Option, Some, None}
use Rattle.std.proofs.Common.{refl, sym, ap, subst, ◌∙◌, inl, inr, arith}
use Rattle.std.proofs.lemmas.Bool.{cases_eq}
use Rattle.std.proofs.lemmas.Bool.Decides.{nat_tests}
use Rattle.mw_actor.specs.ActorState.{ActorState}
use Rattle.mw_world.specs.declared.config.Config.{Config}
use Rattle.mw_world.specs.Definition.Counts.{pins_held, frees_at, waits_for, waits_at, counted, over_workers, slots_taken_for}
use Rattle.mw_world.specs.Claim.Invariant.{IsPinnedAs, IsOfWorker}
use Rattle.mw_world.specs.Maps.{upd}
use Rattle.mw_world.specs.Definition.State.{TenantState, State, WorkerState, QuotasFit, places_of, quotas_of, quotas_together, tenants_of}
use Rattle.mw_law_runs.specs.Counts.Ready.{IsReady}
use Rattle.mw_law_runs.specs.Counts.Sides.{left_pin, idle}
use Rattle.mw_law_runs.specs.Counts.CountInvariant.{CountsStand}
use Rattle.mw_law_runs.proofs.Counts.Points.{PointHolds}
use Rattle.mw_law_runs.proofs.Counts.Sums.{over_update, claimed, slots_update, slots_same}

-- This number for this tenant, and 0 for each other one.
abbrev pub of_tenant : ℕ → ℕ → ℕ → ℕ
of_tenant own waits tenant = if own == tenant then waits else 0

-- What is counted for a worker.
pub record Counts (own : ℕ) (pins frees : ℕ → ℕ) (waits : ℕ) (worker_state : Option ActorState) : Type 0 where
  pub pins_are : (slot : ℕ) → counted (λ actor. pins_held slot actor.point) worker_state ≡ pins slot
  pub frees_are : (slot : ℕ) → counted (λ actor. frees_at slot actor.point) worker_state ≡ frees slot
  pub waits_are : (tenant : ℕ) → counted (waits_for tenant) worker_state ≡ of_tenant own waits tenant

pub of_point : (actor : ActorState) (pins frees : ℕ → ℕ) (waits : ℕ) → PointHolds actor pins frees waits actor.point → Counts actor.tenant pins frees waits (Some actor)
of_point actor pins frees waits on = record {
  pins_are = on.pins_are;
  frees_are = on.frees_are;
  waits_are = λ tenant. ap (λ n. if actor.tenant == tenant then n else 0) on.waits_are;
}

-- what is counted of a request at its point
pub of_request : (actor : ActorState) → Counts actor.tenant (λ slot. pins_held slot actor.point) (λ slot. frees_at slot actor.point) (waits_at actor.point) (Some actor)
of_request actor = record { pins_are = λ slot. refl; frees_are = λ slot. refl; waits_are = λ tenant. refl }

none_of : (own tenant : ℕ) → 0 ≡ of_tenant own 0 tenant
none_of own tenant = grind (arith, nat_tests)

pub of_idle : (own : ℕ) → Counts own (λ slot. 0) (λ slot. 0) 0 None
of_idle own = record { pins_are = λ slot. refl; frees_are = λ slot. refl; waits_are = λ tenant. none_of own tenant }

module _ (config : Config) (state later : State) (own : ℕ) (had freed held frees : ℕ → ℕ) (waited waits : ℕ) where
  -- One worker held so many pins of each slot, was about to free so many and waited for so many. Now it holds, frees and waits for others. Both sides
  -- of each count change by the same.
  pub record Shifts : Type 0 where
    pub pins : (slot : ℕ) → (later.cells.gates slot).pins + had slot + left_pin state slot ≡ (state.cells.gates slot).pins + held slot + left_pin later slot
    pub left : (slot seq : ℕ) → later.history.stays slot seq ≡ true → IsPinnedAs seq (later.cells.gates slot)
    pub frees_one : (slot : ℕ) → idle later slot + freed slot ≡ idle state slot + frees slot
    pub doors : (tenant : ℕ) → tenant < tenants_of config
        → (later.cells.doors tenant).used + of_tenant own waited tenant + slots_taken_for state tenant config.pool
        ≡ (state.cells.doors tenant).used + of_tenant own waits tenant + slots_taken_for later tenant config.pool
    pub quotas : (tenant : ℕ) → tenant < tenants_of config → (later.cells.doors tenant).used ≤ (state.tenant_states tenant).quota
    pub unpinned : (slot : ℕ) → (later.cells.gates slot).taken ≡ false → (later.cells.gates slot).pins ≡ 0
    pub taken_for : (slot : ℕ) → (later.cells.gates slot).taken ≡ true → later.history.tenant slot (later.cells.gates slot).seq < tenants_of config

  -- The same if one gate changes.
  pub record GateShifts (slot : ℕ) : Type 0 where
    pub there : slot < config.pool
    pub gates : (other : ℕ) → other ≢ slot → later.cells.gates other ≡ state.cells.gates other
    pub stays : (other seq : ℕ) → other ≢ slot → later.history.stays other seq ≡ state.history.stays other seq
    pub tenants : (other seq : ℕ) → other ≢ slot → later.history.tenant other seq ≡ state.history.tenant other seq
    pub other_pins : (other : ℕ) → other ≢ slot → held other ≡ had other
    pub other_frees : (other : ℕ) → other ≢ slot → frees other ≡ freed other
    pub pins : (later.cells.gates slot).pins + had slot + left_pin state slot ≡ (state.cells.gates slot).pins + held slot + left_pin later slot
    pub left : (seq : ℕ) → later.history.stays slot seq ≡ true → IsPinnedAs seq (later.cells.gates slot)
    pub frees_one : idle later slot + freed slot ≡ idle state slot + frees slot
    pub doors : (tenant : ℕ) → tenant < tenants_of config
        → (later.cells.doors tenant).used + of_tenant own waited tenant + claimed state tenant slot
        ≡ (state.cells.doors tenant).used + of_tenant own waits tenant + claimed later tenant slot
    pub quotas : (tenant : ℕ) → tenant < tenants_of config → (later.cells.doors tenant).used ≤ (state.tenant_states tenant).quota
    pub unpinned : (later.cells.gates slot).taken ≡ false → (later.cells.gates slot).pins ≡ 0
    pub taken_for : (later.cells.gates slot).taken ≡ true → later.history.tenant slot (later.cells.gates slot).seq < tenants_of config

  -- The same if no gate changes.
  pub record DoorShifts : Type 0 where
    pub gates : (slot : ℕ) → later.cells.gates slot ≡ state.cells.gates slot
    pub stays : (slot seq : ℕ) → later.history.stays slot seq ≡ state.history.stays slot seq
    pub tenants : (slot seq : ℕ) → later.history.tenant slot seq ≡ state.history.tenant slot seq
    pub pins : (slot : ℕ) → held slot ≡ had slot
    pub frees_one : (slot : ℕ) → frees slot ≡ freed slot
    pub doors : (tenant : ℕ) → tenant < tenants_of config
        → (later.cells.doors tenant).used + of_tenant own waited tenant ≡ (state.cells.doors tenant).used + of_tenant own waits tenant
    pub quotas : (tenant : ℕ) → tenant < tenants_of config → (later.cells.doors tenant).used ≤ (state.tenant_states tenant).quota

-- a slot whose gate didn't change, and about whose changes nothing new is known
same_left : (state later : State) (slot : ℕ) → later.cells.gates slot ≡ state.cells.gates slot → ((seq : ℕ) → later.history.stays slot seq ≡ state.history.stays slot seq)
    → left_pin later slot ≡ left_pin state slot
same_left state later slot gate stays =
    ap (λ b. if b then 1 else 0) (stays (later.cells.gates slot).seq) ∙ ap (λ g. if state.history.stays slot g.seq then 1 else 0) gate

same_idle : (state later : State) (slot : ℕ) → later.cells.gates slot ≡ state.cells.gates slot → idle later slot ≡ idle state slot
same_idle state later slot gate = ap (λ g. if g.taken && (g.pins == 0) then 1 else 0) gate

pub same_claimed : (state later : State) (tenant slot : ℕ) → later.cells.gates slot ≡ state.cells.gates slot
    → ((seq : ℕ) → later.history.tenant slot seq ≡ state.history.tenant slot seq) → claimed later tenant slot ≡ claimed state tenant slot
same_claimed state later tenant slot gate tenants =
    ap (λ t. if (later.cells.gates slot).taken && (t == tenant) then 1 else 0) (tenants (later.cells.gates slot).seq)
    ∙ ap (λ g. if g.taken && (state.history.tenant slot g.seq == tenant) then 1 else 0) gate

still_pinned : (state later : State) (slot seq : ℕ) → later.cells.gates slot ≡ state.cells.gates slot → ((seq : ℕ) → later.history.stays slot seq ≡ state.history.stays slot seq)
    → (state.history.stays slot seq ≡ true → IsPinnedAs seq (state.cells.gates slot)) → later.history.stays slot seq ≡ true → IsPinnedAs seq (later.cells.gates slot)
still_pinned state later slot seq gate stays was is = subst (λ g. IsPinnedAs seq g) (sym gate) (was (sym (stays seq) ∙ is))

still_taken_for : (config : Config) (state later : State) (slot : ℕ) → later.cells.gates slot ≡ state.cells.gates slot
    → ((seq : ℕ) → later.history.tenant slot seq ≡ state.history.tenant slot seq)
    → ((state.cells.gates slot).taken ≡ true → state.history.tenant slot (state.cells.gates slot).seq < tenants_of config)
    → (later.cells.gates slot).taken ≡ true → later.history.tenant slot (later.cells.gates slot).seq < tenants_of config
still_taken_for config state later slot gate tenants was is =
    subst (λ g. later.history.tenant slot g.seq < tenants_of config) (sym gate)
    (subst (λ t. t < tenants_of config) (sym (tenants (state.cells.gates slot).seq)) (was (ap (λ g. g.taken) (sym gate) ∙ is)))

module _ (config : Config) (state later : State) (own : ℕ) (had freed held frees : ℕ → ℕ) (waited waits : ℕ) (stand : CountsStand config state) where
  -- if one gate changes, the sum of the slots that are taken for a tenant changes by that slot
  pub of_gate : (slot : ℕ) → GateShifts config state later own had freed held frees waited waits slot → Shifts config state later own had freed held frees waited waits
  of_gate slot on = record {
    pins = λ k. elim (cases_eq k slot) [
      | inl e ↦ subst (λ j. (later.cells.gates j).pins + had j + left_pin state j ≡ (state.cells.gates j).pins + held j + left_pin later j) (sym e) on.pins
      | inr apart ↦
          omega (arith, ap (λ g. g.pins) (on.gates k apart), on.other_pins k apart, same_left state later k (on.gates k apart) (λ seq. on.stays k seq apart))
    ];
    left = λ k seq is. elim (cases_eq k slot) [
      | inl e ↦ subst (λ j. later.history.stays j seq ≡ true → IsPinnedAs seq (later.cells.gates j)) (sym e) (on.left seq) is
      | inr apart ↦ still_pinned state later k seq (on.gates k apart) (λ s. on.stays k s apart) (stand.counts.left k seq) is
    ];
    frees_one = λ k. elim (cases_eq k slot) [
      | inl e ↦ subst (λ j. idle later j + freed j ≡ idle state j + frees j) (sym e) on.frees_one
      | inr apart ↦ omega (arith, same_idle state later k (on.gates k apart), on.other_frees k apart)
    ];
    doors = λ tenant low.
        let sums : slots_taken_for later tenant config.pool + claimed state tenant slot ≡ slots_taken_for state tenant config.pool + claimed later tenant slot =
        slots_update state later tenant slot config.pool on.there (λ k apart. same_claimed state later tenant k (on.gates k apart) (λ s. on.tenants k s apart)) in
        omega (arith, sums, on.doors tenant low);
    quotas = on.quotas;
    unpinned = λ k. elim (cases_eq k slot) [
      | inl e ↦ subst (λ j. (later.cells.gates j).taken ≡ false → (later.cells.gates j).pins ≡ 0) (sym e) on.unpinned
      | inr apart ↦ subst (λ g. g.taken ≡ false → g.pins ≡ 0) (sym (on.gates k apart)) (stand.unpinned k)
    ];
    taken_for = λ k. elim (cases_eq k slot) [
      | inl e ↦ subst (λ j. (later.cells.gates j).taken ≡ true → later.history.tenant j (later.cells.gates j).seq < tenants_of config) (sym e) on.taken_for
      | inr apart ↦ still_taken_for config state later k (on.gates k apart) (λ s. on.tenants k s apart) (stand.tenants k)
    ];
  }

  -- if no gate changes, that sum is the same
  pub of_door : DoorShifts config state later own had freed held frees waited waits → Shifts config state later own had freed held frees waited waits
  of_door on = record {
    pins = λ k. omega (arith, ap (λ g. g.pins) (on.gates k), on.pins k, same_left state later k (on.gates k) (on.stays k));
    left = λ k seq is. still_pinned state later k seq (on.gates k) (on.stays k) (stand.counts.left k seq) is;
    frees_one = λ k. omega (arith, same_idle state later k (on.gates k), on.frees_one k);
    doors = λ tenant low.
        let sums : slots_taken_for later tenant config.pool ≡ slots_taken_for state tenant config.pool =
        slots_same state later tenant config.pool (λ k. same_claimed state later tenant k (on.gates k) (on.tenants k)) in
        omega (arith, sums, on.doors tenant low);
    quotas = on.quotas;
    unpinned = λ k. subst (λ g. g.taken ≡ false → g.pins ≡ 0) (sym (on.gates k)) (stand.unpinned k);
    taken_for = λ k. still_taken_for config state later k (on.gates k) (on.tenants k) (stand.tenants k);
  }

-- a sum over workers of which one went on
over_later : (counts : ActorState → ℕ) (state later : State) (worker : ℕ) (worker_state : WorkerState) (was is n : ℕ) → worker < n → later.worker_states ≡ upd state.worker_states worker worker_state
    → counted counts (state.worker_states worker).actor ≡ was → counted counts worker_state.actor ≡ is
    → over_workers counts later.worker_states n + was ≡ over_workers counts state.worker_states n + is
over_later counts state later worker worker_state was is n low worker_states old new =
    let sums : over_workers counts (upd state.worker_states worker worker_state) n + counted counts (state.worker_states worker).actor ≡ over_workers counts state.worker_states n + counted counts worker_state.actor =
    over_update counts state.worker_states worker worker_state n low in
    let same : over_workers counts later.worker_states n ≡ over_workers counts (upd state.worker_states worker worker_state) n = ap (λ s. over_workers counts s n) worker_states in
    omega (arith, sums, same, old, new)

-- a tenant has the same quota, and its file as many places
abbrev pub SameShare : TenantState → TenantState → Type 0
SameShare one other = (one.quota ≡ other.quota) × (one.places ≡ other.places)

pub same_share : (tenant_states : ℕ → TenantState) (own : ℕ) (tenant_state : TenantState) → SameShare tenant_state (tenant_states own) → (tenant : ℕ) → SameShare (upd tenant_states own tenant_state tenant) (tenant_states tenant)
same_share tenant_states own tenant_state same tenant = (grind (arith, nat_tests, same.0), grind (arith, nat_tests, same.1))

-- what held of the others' requests still holds
still_so : (P : ℕ → ActorState → Type 0) (state later : State) (worker : ℕ) (worker_state : WorkerState) → later.worker_states ≡ upd state.worker_states worker worker_state
    → ((other : ℕ) (actor : ActorState) → (state.worker_states other).actor ≡ Some actor → P other actor)
    → ((actor : ActorState) → worker_state.actor ≡ Some actor → P worker actor)
    → (other : ℕ) (actor : ActorState) → (later.worker_states other).actor ≡ Some actor → P other actor
still_so P state later worker worker_state worker_states were here other actor is = elim (cases_eq other worker) [
  | inl e ↦ subst (λ w. P w actor) (sym e) (here actor (sym (ap (λ s. s.actor) (set_here other e)) ∙ sym (ap (λ s. (s other).actor) worker_states) ∙ is))
  | inr apart ↦ were other actor (sym (ap (λ s. s.actor) (set_else other apart)) ∙ sym (ap (λ s. (s other).actor) worker_states) ∙ is)
]
  where
    set_here : (k : ℕ) → k ≡ worker → upd state.worker_states worker worker_state k ≡ worker_state
    set_here k e = grind (arith, nat_tests, e)

    set_else : (k : ℕ) → k ≢ worker → upd state.worker_states worker worker_state k ≡ state.worker_states k
    set_else k apart = grind (arith, nat_tests, apart)

-- quotas that fit still fit, if they are the same and files have as many places
quotas_fit_still : (config : Config) (old new places still : ℕ → ℕ) → ((tenant : ℕ) → new tenant ≡ old tenant) → ((tenant : ℕ) → still tenant ≡ places tenant)
    → QuotasFit config old places → QuotasFit config new still
quotas_fit_still config old new places still same as_many fit = record {
  each = λ tenant low. (omega (arith, same tenant, (fit.each tenant low).0), omega (arith, same tenant, (fit.each tenant low).1));
  room = λ tenant low. omega (arith, same tenant, as_many tenant, fit.room tenant low);
  together = omega (arith, same_together (tenants_of config), fit.together);
}
  where
    same_together : (n : ℕ) → quotas_together new n ≡ quotas_together old n
    same_together zero = refl
    same_together (suc n) = omega (arith, same n, same_together n)

-- The invariant of counts holds after one worker goes on, if both sides of each count change by the same; quotas and places stay.
pub shifted : (config : Config) (state later : State) (worker own : ℕ) (worker_state : WorkerState) (had freed held frees : ℕ → ℕ) (waited waits : ℕ)
    → CountsStand config state → worker < config.workers → later.worker_states ≡ upd state.worker_states worker worker_state
    → Counts own had freed waited (state.worker_states worker).actor → Counts own held frees waits worker_state.actor
    → ((actor : ActorState) → worker_state.actor ≡ Some actor → IsOfWorker config worker actor) → ((actor : ActorState) → worker_state.actor ≡ Some actor → IsReady actor actor.point)
    → ((actor : ActorState) → worker_state.actor ≡ Some actor → actor.quota ≡ (state.tenant_states actor.tenant).quota) → ((tenant : ℕ) → SameShare (later.tenant_states tenant) (state.tenant_states tenant))
    → Shifts config state later own had freed held frees waited waits → CountsStand config later
shifted config state later worker own worker_state had freed held frees waited waits stand low worker_states old new its ready quota kept on = record {
  counts = record {
    pins = λ slot. omega (arith, stand.counts.pins slot, on.pins slot, over_later (λ actor. pins_held slot actor.point) state later worker worker_state (had slot) (held slot) config.workers low worker_states (old.pins_are slot) (new.pins_are slot));
    left = on.left;
    frees = λ slot. omega (arith, stand.counts.frees slot, on.frees_one slot, over_later (λ actor. frees_at slot actor.point) state later worker worker_state (freed slot) (frees slot) config.workers low worker_states (old.frees_are slot) (new.frees_are slot));
    doors = λ tenant there. omega (
      arith,
      stand.counts.doors tenant there,
      on.doors tenant there,
      over_later (waits_for tenant) state later worker worker_state (of_tenant own waited tenant) (of_tenant own waits tenant) config.workers low worker_states (old.waits_are tenant) (new.waits_are tenant),
    );
    quotas = λ tenant there. omega (arith, on.quotas tenant there, (kept tenant).0);
    limits = quotas_fit_still config (quotas_of state) (quotas_of later) (places_of state) (places_of later) (λ tenant. (kept tenant).0) (λ tenant. (kept tenant).1) stand.counts.limits;
  };
  unpinned = on.unpinned;
  tenants = on.taken_for;
  quotas = still_so (λ other actor. actor.quota ≡ (later.tenant_states actor.tenant).quota) state later worker worker_state worker_states
      (λ other actor is. stand.quotas other actor is ∙ sym (kept actor.tenant).0) (λ actor is. quota actor is ∙ sym (kept actor.tenant).0);
  worker_states = still_so (IsOfWorker config) state later worker worker_state worker_states stand.worker_states its;
  ready = still_so (λ other actor. IsReady actor actor.point) state later worker worker_state worker_states stand.ready ready;
}
