-- The invariant of counts (`CountsStand`): each gate counts its slot's pins, and each door its tenant's slots. Also what it
-- rests on.
-- Used by: specs/Counts/Alone, specs/Counts/Exact, specs/Counts/Laws.
use Rattle.std.specs.Prelude.{ℕ, ◌≡◌, ◌<◌, true, false, Some}
use Rattle.mw_words.specs.declared.places.At.TheVariants.{Door as AtDoor, Gate as AtGate}
use Rattle.mw_words.specs.Patterns.{packed_door, packed_gate}
use Rattle.mw_look.specs.Steps.{Step, Change}
use Rattle.mw_actor.specs.declared.points.Point.TheVariants.{GiveUp}
use Rattle.mw_actor.specs.declared.points.Slot.{Slot}
use Rattle.mw_words.specs.declared.replies.Reply.{Reply}
use Rattle.mw_actor.specs.ActorState.{ActorState}
use Rattle.mw_actor.specs.Asks.{asks}
use Rattle.mw_world.specs.declared.config.Config.{Config}
use Rattle.mw_world.specs.Definition.Cells.{Cells}
use Rattle.mw_world.specs.Definition.Counts.{frees_at}
use Rattle.mw_world.specs.Claim.Invariant.{CountsAreRight, IsOfWorker}
use Rattle.mw_world.specs.Definition.State.{State, tenants_of}
use Rattle.mw_law_runs.specs.Counts.Ready.{IsReady}

-- The invariant of counts. The counts are right. A gate that isn't taken has no pins. A slot that is taken is taken for one of the tenants. Each
-- request belongs to its worker, to one of the tenants and to that tenant's quota, and is ready for its next step.
pub record CountsStand (config : Config) (state : State) : Type 0 where
  pub counts : CountsAreRight config state
  pub unpinned : (slot : ℕ) → (state.cells.gates slot).taken ≡ false → (state.cells.gates slot).pins ≡ 0
  pub tenants : (slot : ℕ) → (state.cells.gates slot).taken ≡ true → state.history.tenant slot (state.cells.gates slot).seq < tenants_of config
  pub worker_states : (worker : ℕ) (actor : ActorState) → (state.worker_states worker).actor ≡ Some actor → IsOfWorker config worker actor
  pub quotas : (worker : ℕ) (actor : ActorState) → (state.worker_states worker).actor ≡ Some actor → actor.quota ≡ (state.tenant_states actor.tenant).quota
  pub ready : (worker : ℕ) (actor : ActorState) → (state.worker_states worker).actor ≡ Some actor → IsReady actor actor.point

-- An exchange compares bits. If the step changes a door or a gate that has the bits of the expected value, the place has exactly that value. This
-- says nothing useful of a store or a fetch, which expects nothing.
abbrev pub IsExact : Cells → Step → Type 0
IsExact cells (Change kind (AtDoor tenant) from to) = packed_door (cells.doors tenant) ≡ packed_door from → cells.doors tenant ≡ from
IsExact cells (Change kind (AtGate slot) from to) = packed_gate (cells.gates slot) ≡ packed_gate from → cells.gates slot ≡ from
IsExact cells step = Unit {0}

-- The slot's gate has the number under which the request took the slot, and no pin was left behind under that number.
pub record IsFirstToLeave (state : State) (own : Slot) : Type 0 where
  pub number : (state.cells.gates own.slot).seq ≡ own.seq
  pub stays_not : state.history.stays own.slot own.seq ≡ false

-- What the counts rest on. Exchanges of doors and gates find what they expect. A slot is freed by a request of the tenant for which it is taken. A
-- request that is about to leave its pin behind knows the slot by the gate's number, and no pin was left behind under that number before.
pub record CountsRestOn (state : State) : Type 0 where
  pub exact : (worker : ℕ) (actor : ActorState) → (state.worker_states worker).actor ≡ Some actor → IsExact state.cells (asks actor)
  pub freed : (worker slot : ℕ) (actor : ActorState) → (state.worker_states worker).actor ≡ Some actor → frees_at slot actor.point ≡ 1
      → state.history.tenant slot (state.cells.gates slot).seq ≡ actor.tenant
  pub gives_up : (worker : ℕ) (actor : ActorState) (own : Slot) (undecided : Reply) → (state.worker_states worker).actor ≡ Some actor → actor.point ≡ GiveUp own undecided
      → IsFirstToLeave state own
