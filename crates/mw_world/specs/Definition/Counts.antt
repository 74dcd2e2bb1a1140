-- Defines how many pins of a slot requests hold, and how many slots a tenant's door counts.
-- Used by: mw_law_runs, mw_law_store.
use Rattle.std.specs.Prelude.{ℕ, zero, suc, ◌+◌, ◌==◌, ◌&&◌, if◌then◌else◌, Option, Some, None}
use Rattle.mw_look.specs.Runs.{Hold, holds_at, if_same}
use Rattle.mw_look.specs.declared.points.Point.{Point as ReadPoint}
use Rattle.mw_look.specs.declared.points.Point.TheVariants.{FreeSlot as FreeOfRead, LowerDoor as LowerOfRead}
use Rattle.mw_actor.specs.declared.points.Point.{Point}
use Rattle.mw_actor.specs.declared.points.Point.TheVariants.{Read}
use Rattle.mw_actor.specs.ActorState.{ActorState}
use Rattle.mw_actor.specs.Stages.{stage}
use Rattle.mw_actor.specs.Balance.{pins_at, to_free, to_lower}
use Rattle.mw_world.specs.Definition.State.{State, WorkerState}

-- 1 if this pin is one of this slot, else 0
abbrev pub pin_of : ℕ → Option Hold → ℕ
pin_of slot None = 0
pin_of slot (Some hold) = if_same hold.slot slot

-- how many pins of a slot a request holds at a point
abbrev pub pins_held : ℕ → Point → ℕ
pins_held slot (Read look) = pin_of slot (holds_at look.point)
pins_held slot point = pins_at slot (stage point)

-- 1 if a read took back the last pin of this slot and must free the slot, else 0
abbrev pub frees_by_read : ℕ → ReadPoint → ℕ
frees_by_read slot (FreeOfRead other seq next) = if_same other slot
frees_by_read slot point = 0

-- 1 if a request, a read or a change, must free this slot, else 0
abbrev pub frees_at : ℕ → Point → ℕ
frees_at slot (Read look) = frees_by_read slot look.point
frees_at slot point = to_free slot (stage point)

-- 1 if a read has freed a slot that the door still counts, else 0
abbrev pub waits_in_read : ReadPoint → ℕ
waits_in_read (LowerOfRead next) = 1
waits_in_read point = 0

-- 1 if the door counts a slot for a request that isn't taken, else 0: the request still looks for a slot, or has
-- freed one
abbrev pub waits_at : Point → ℕ
waits_at (Read look) = waits_in_read look.point
waits_at point = to_lower (stage point)

-- the same for a request of this tenant; 0 for another's
abbrev pub waits_for : ℕ → ActorState → ℕ
waits_for tenant actor = if actor.tenant == tenant then waits_at actor.point else 0

-- what is counted for a worker's request; 0 for an idle worker
abbrev pub counted : (ActorState → ℕ) → Option ActorState → ℕ
counted counts None = 0
counted counts (Some actor) = counts actor

-- the sum of what is counted for the first so many workers
abbrev pub over_workers : (ActorState → ℕ) → (ℕ → WorkerState) → ℕ → ℕ
over_workers counts worker_states zero = 0
over_workers counts worker_states (suc worker) = over_workers counts worker_states worker + counted counts (worker_states worker).actor

-- how many of the first so many slots are taken
abbrev pub taken_slots : State → ℕ → ℕ
taken_slots state zero = 0
taken_slots state (suc slot) = taken_slots state slot + (if (state.cells.gates slot).taken then 1 else 0)

-- how many of the first so many slots are taken for a tenant
abbrev pub slots_taken_for : State → ℕ → ℕ → ℕ
slots_taken_for state tenant zero = 0
slots_taken_for state tenant (suc slot) =
    slots_taken_for state tenant slot + (if (state.cells.gates slot).taken && (state.history.tenant slot (state.cells.gates slot).seq == tenant) then 1 else 0)

-- how many slots the doors of the first so many tenants count
abbrev pub used_slots : State → ℕ → ℕ
used_slots state zero = 0
used_slots state (suc tenant) = used_slots state tenant + (state.cells.doors tenant).used
