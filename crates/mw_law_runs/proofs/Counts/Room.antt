-- No more slots of the pool are taken than the tenants' doors count. If a worker will free a slot, no other request holds a
-- pin of it or will free it.
-- Used by: pool_has_room, who_frees_is_alone, mw_law_store.
use Rattle.std.specs.Prelude.{ℕ, zero, suc, ◌≡◌, ◌≢◌, ◌<◌, ◌≤◌, ◌+◌, ◌==◌, ◌&&◌, Bool, true, false, if◌then◌else◌, Some}
use Rattle.std.proofs.Common.{refl, ap, ◌∙◌, inl, inr, arith}
use Rattle.std.proofs.lemmas.Bool.{cases_eq}
use Rattle.std.proofs.lemmas.Bool.Decides.{nat_tests}
use Rattle.mw_actor.specs.ActorState.{ActorState}
use Rattle.mw_world.specs.declared.config.Config.{Config}
use Rattle.mw_world.specs.Definition.Counts.{pins_held, frees_at, waits_at, waits_for, counted, over_workers, slots_taken_for, taken_slots, used_slots}
use Rattle.mw_world.specs.Claim.Headline.{FreeSlot}
use Rattle.mw_world.specs.Claim.Invariant.{IsOfWorker}
use Rattle.mw_world.specs.Definition.State.{State, quotas_of, quotas_together, tenants_of}
use Rattle.mw_law_runs.specs.Counts.Alone.{WhoFreesIsAlone, DoorsCountTheTaken, WhoWaitsHasRoom}
use Rattle.mw_law_runs.specs.Counts.CountInvariant.{CountsStand}
use Rattle.mw_law_runs.proofs.Counts.Effects.{none_left, taken_and_unpinned}
use Rattle.mw_law_runs.specs.Counts.Sides.{idle}
use Rattle.mw_law_runs.proofs.Counts.Sums.{over_at, over_two, of_actor, claimed}

abbrev one_if : Bool → ℕ
one_if b = if b then 1 else 0

at_most_one : (b : Bool) → (if b then 1 else 0) ≤ 1
at_most_one true = omega arith
at_most_one false = omega arith

pub who-frees-is-alone : WhoFreesIsAlone
who-frees-is-alone config state worker slot actor stand is some =
    let low : worker < config.workers = (stand.worker_states worker actor is).there in
    let own : 1 ≤ over_workers (λ a. frees_at slot a.point) state.worker_states config.workers =
    omega (arith, some, over_at (λ a. frees_at slot a.point) state.worker_states worker config.workers low, of_actor (λ a. frees_at slot a.point) (state.worker_states worker) actor is) in
    let is_idle : idle state slot ≡ 1 = omega (arith, own, stand.counts.frees slot, at_most_one ((state.cells.gates slot).taken && ((state.cells.gates slot).pins == 0))) in
    let gate : ((state.cells.gates slot).taken ≡ true) × ((state.cells.gates slot).pins ≡ 0) = taken_and_unpinned (state.cells.gates slot) is_idle in
    record {
      taken = gate.0;
      unpinned = gate.1;
      none_left = λ seq. none_left config state state stand 0 slot seq gate.1;
      none_held = λ other request its.
          omega (arith, gate.1, stand.counts.pins slot, over_at (λ a. pins_held slot a.point) state.worker_states other config.workers (stand.worker_states other request its).there, of_actor (λ a. pins_held slot a.point) (state.worker_states other) request its);
      none_frees = λ other request apart its.
          omega (
            arith,
            some,
            is_idle,
            stand.counts.frees slot,
            over_two (λ a. frees_at slot a.point) state.worker_states other worker config.workers (stand.worker_states other request its).there low apart,
            of_actor (λ a. frees_at slot a.point) (state.worker_states other) request its,
            of_actor (λ a. frees_at slot a.point) (state.worker_states worker) actor is,
          );
    }

-- the number of slots that are taken for the first so many tenants
abbrev taken_for_all : State → ℕ → ℕ → ℕ
taken_for_all state zero slots = 0
taken_for_all state (suc tenant) slots = taken_for_all state tenant slots + slots_taken_for state tenant slots

-- 1 if the slot is taken for one of these, else 0
abbrev claimed_for_all : State → ℕ → ℕ → ℕ
claimed_for_all state zero slot = 0
claimed_for_all state (suc tenant) slot = claimed_for_all state tenant slot + claimed state tenant slot

one_slot_more : (state : State) (tenants slot : ℕ) → taken_for_all state tenants (suc slot) ≡ taken_for_all state tenants slot + claimed_for_all state tenants slot
one_slot_more state zero slot = refl
one_slot_more state (suc tenant) slot = omega (arith, one_slot_more state tenant slot)

-- a slot that is taken for one of these is counted at least once
one_of_them : (state : State) (tenants slot : ℕ) → (state.cells.gates slot).taken ≡ true → state.history.tenant slot (state.cells.gates slot).seq < tenants
    → 1 ≤ claimed_for_all state tenants slot
one_of_them state zero slot taken low = absurd (omega (arith, low))
one_of_them state (suc tenant) slot taken low = elim (cases_eq (state.history.tenant slot (state.cells.gates slot).seq) tenant) [
  | inl e ↦ omega (arith, it_is (state.cells.gates slot).taken (state.history.tenant slot (state.cells.gates slot).seq) tenant taken e)
  | inr apart ↦ omega (arith, one_of_them state tenant slot taken (omega (arith, low, apart)))
]
  where
    it_is : (b : Bool) (owner tenant : ℕ) → b ≡ true → owner ≡ tenant → one_if (b && (owner == tenant)) ≡ 1
    it_is b owner tenant is same = grind (arith, nat_tests, is, same)

taken_once : (state : State) (tenants slot : ℕ) (taken : Bool) → (state.cells.gates slot).taken ≡ taken → ((state.cells.gates slot).taken ≡ true → state.history.tenant slot (state.cells.gates slot).seq < tenants)
    → one_if (state.cells.gates slot).taken ≤ claimed_for_all state tenants slot
taken_once state tenants slot true is known = omega (arith, ap one_if is, one_of_them state tenants slot is (known is))
taken_once state tenants slot false is known = omega (arith, ap one_if is)

-- all slots that are taken are taken for one of the tenants
taken_by_tenants : (state : State) (tenants slots : ℕ) → ((slot : ℕ) → (state.cells.gates slot).taken ≡ true → state.history.tenant slot (state.cells.gates slot).seq < tenants)
    → taken_slots state slots ≤ taken_for_all state tenants slots
taken_by_tenants state tenants zero known = omega arith
taken_by_tenants state tenants (suc slot) known =
    omega (arith, taken_by_tenants state tenants slot known, taken_once state tenants slot (state.cells.gates slot).taken refl (known slot), one_slot_more state tenants slot)

-- 1 if this tenant is one of the first so many, else 0
abbrev one_among : ℕ → ℕ → ℕ
one_among tenant zero = 0
one_among tenant (suc tenants) = one_among tenant tenants + (if tenants == tenant then 1 else 0)

among : (tenant tenants : ℕ) → tenant < tenants → 1 ≤ one_among tenant tenants
among tenant zero low = absurd (omega (arith, low))
among tenant (suc tenants) low = elim (cases_eq tenants tenant) [
  | inl e ↦ omega (arith, it_is tenants tenant e)
  | inr apart ↦ omega (arith, among tenant tenants (omega (arith, low, apart)))
]
  where
    it_is : (n m : ℕ) → n ≡ m → one_if (n == m) ≡ 1
    it_is n m e = grind (arith, nat_tests, e)

-- the doors count the slots that are taken, and one more for a request that waits
module _ (config : Config) (state : State) (stand : CountsStand config state) where
  taken_are_used : (tenants : ℕ) → tenants ≤ tenants_of config → taken_for_all state tenants config.pool ≤ used_slots state tenants
  taken_are_used zero few = omega arith
  taken_are_used (suc tenant) few = omega (arith, taken_are_used tenant (omega (arith, few)), stand.counts.doors tenant (omega (arith, few)))

  module _ (worker : ℕ) (actor : ActorState) (is : (state.worker_states worker).actor ≡ Some actor) (its : IsOfWorker config worker actor) (waits : waits_at actor.point ≡ 1) where
    waited : (tenant : ℕ) → (if tenant == actor.tenant then 1 else 0) ≤ over_workers (waits_for tenant) state.worker_states config.workers
    waited tenant = elim (cases_eq tenant actor.tenant) [
      | inl e ↦
          let counts : counted (waits_for tenant) (state.worker_states worker).actor ≡ 1 = of_actor (waits_for tenant) (state.worker_states worker) actor is ∙ waits_here actor.tenant tenant (waits_at actor.point) e ∙ waits in
          omega (arith, at_most_one (tenant == actor.tenant), counts, over_at (waits_for tenant) state.worker_states worker config.workers its.there)
      | inr apart ↦ omega (arith, it_isnt tenant actor.tenant apart)
    ]
      where
        waits_here : (own tenant waits : ℕ) → tenant ≡ own → (if own == tenant then waits else 0) ≡ waits
        waits_here own tenant waits e = grind (arith, nat_tests, e)

        it_isnt : (n m : ℕ) → n ≢ m → one_if (n == m) ≡ 0
        it_isnt n m apart = grind (arith, nat_tests, apart)

    one_more_is_used : (tenants : ℕ) → tenants ≤ tenants_of config → taken_for_all state tenants config.pool + one_among actor.tenant tenants ≤ used_slots state tenants
    one_more_is_used zero few = omega arith
    one_more_is_used (suc tenant) few = omega (arith, one_more_is_used tenant (omega (arith, few)), stand.counts.doors tenant (omega (arith, few)), waited tenant)

pub doors-count-the-taken : DoorsCountTheTaken
doors-count-the-taken config state stand =
    omega (arith, taken_by_tenants state (tenants_of config) config.pool stand.tenants, taken_are_used config state stand (tenants_of config) (omega arith))

-- if no door counts more slots than its quota, the doors together count no more than all quotas
no_more : (state : State) (quotas : ℕ → ℕ) (n : ℕ) → ((tenant : ℕ) → tenant < n → (state.cells.doors tenant).used ≤ quotas tenant) → used_slots state n ≤ quotas_together quotas n
no_more state quotas zero each = omega arith
no_more state quotas (suc n) each = omega (arith, each n (omega arith), no_more state quotas n (λ tenant low. each tenant (omega (arith, low))))

-- if fewer slots are taken than there are, one isn't taken
find_free : (config : Config) (state : State) (slots : ℕ) → slots ≤ config.pool → taken_slots state slots < slots → FreeSlot config state
find_free config state zero few low = absurd (omega (arith, low))
find_free config state (suc slot) few low = look (state.cells.gates slot).taken refl (find_free config state slot (omega (arith, few)))
  where
    look : (taken : Bool) → (state.cells.gates slot).taken ≡ taken → (taken_slots state slot < slot → FreeSlot config state) → FreeSlot config state
    look false is before = record { slot = slot; within = omega (arith, few); free = is }
    look true is before = before (omega (arith, low, ap one_if is))

pub who-waits-has-room : WhoWaitsHasRoom
who-waits-has-room config state worker actor stand is waits =
    let its : IsOfWorker config worker actor = stand.worker_states worker actor is in
    find_free config state config.pool (omega arith)
    (omega (
      arith,
      taken_by_tenants state (tenants_of config) config.pool stand.tenants,
      one_more_is_used config state stand worker actor is its waits (tenants_of config) (omega arith),
      among actor.tenant (tenants_of config) its.tenant,
      no_more state (quotas_of state) (tenants_of config) stand.counts.quotas,
      stand.counts.limits.together,
    ))
