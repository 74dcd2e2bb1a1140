-- Facts that follow from the invariant of counts: a worker that will free a slot is alone with it, and the pool has room.
-- Used by: src/count_laws.rt, mw_law_store.
use Rattle.std.specs.Prelude.{ℕ, ◌≡◌, ◌≢◌, ◌≤◌, true, false, Some}
use Rattle.mw_actor.specs.ActorState.{ActorState}
use Rattle.mw_world.specs.declared.config.Config.{Config}
use Rattle.mw_world.specs.Definition.Counts.{pins_held, frees_at, waits_at, taken_slots, used_slots}
use Rattle.mw_world.specs.Claim.Headline.{FreeSlot}
use Rattle.mw_world.specs.Definition.State.{State, tenants_of}
use Rattle.mw_law_runs.specs.Counts.CountInvariant.{CountsStand}

-- The worker is alone with the slot. The slot is taken and has no pin. No pin of it was left behind, no request of any worker holds one, and no other
-- worker's request will free it.
pub record IsAloneWith (state : State) (worker slot : ℕ) : Type 0 where
  pub taken : (state.cells.gates slot).taken ≡ true
  pub unpinned : (state.cells.gates slot).pins ≡ 0
  pub none_left : (seq : ℕ) → state.history.stays slot seq ≡ false
  pub none_held : (other : ℕ) (actor : ActorState) → (state.worker_states other).actor ≡ Some actor → pins_held slot actor.point ≡ 0
  pub none_frees : (other : ℕ) (actor : ActorState) → other ≢ worker → (state.worker_states other).actor ≡ Some actor → frees_at slot actor.point ≡ 0

-- A worker that will free a slot is alone with it.
abbrev pub WhoFreesIsAlone : Type 0
WhoFreesIsAlone = (config : Config) (state : State) (worker slot : ℕ) (actor : ActorState) → CountsStand config state
    → (state.worker_states worker).actor ≡ Some actor → 1 ≤ frees_at slot actor.point → IsAloneWith state worker slot

-- No more slots are taken than the doors count.
abbrev pub DoorsCountTheTaken : Type 0
DoorsCountTheTaken = (config : Config) (state : State) → CountsStand config state → taken_slots state config.pool ≤ used_slots state (tenants_of config)

-- While a tenant's door counts a slot that a request hasn't taken yet, or has already freed, some slot of the pool isn't taken.
abbrev pub WhoWaitsHasRoom : Type 0
WhoWaitsHasRoom = (config : Config) (state : State) (worker : ℕ) (actor : ActorState) → CountsStand config state
    → (state.worker_states worker).actor ≡ Some actor → waits_at actor.point ≡ 1 → FreeSlot config state
