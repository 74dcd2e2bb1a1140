-- Defines by which device calls a call on a tenant's file takes its disk in memory from before the call to after it.
-- Used by: src/laws.rt, src/world/calls.rt, src/world/events.rt.
use Rattle.std.specs.Prelude.{ℕ, ◌≡◌, ◌&&◌, Bool, true, false, not, List, Option, Some, Result, Ok}
use Rattle.mw_words.specs.declared.jobs.Entry.{Entry}
use Rattle.mw_actor.specs.ActorState.{ActorState, own_entries}
use Rattle.mw_world_file.specs.declared.simulated_file.SimulatedFile.{SimulatedFile}
use Rattle.mw_world.specs.declared.outcomes.Outcome.{Outcome}
use Rattle.mw_world_file.specs.DeviceCalls.{CameExactly}
use Rattle.mw_world.specs.declared.events.Event.{Event}
use Rattle.mw_world.specs.declared.events.Event.TheVariants.{File as IsFile}
use Rattle.mw_world.specs.Definition.Calls.{Called, called_at, fails_on, starts_from}
use Rattle.mw_world.specs.Definition.State.{State}
use Rattle.mw_simulator.specs.declared.faults.WorldFault.{WorldFault}
use Rattle.mw_simulator.specs.declared.world.World.{World}
use Rattle.mw_simulator.specs.UnchangedParts.{book_at, served_by}

-- A request's call is made on the file. It starts from the slot's status, and the file has not failed, unless the call can't
-- fail.
abbrev pub is_made_on_file : State → ActorState → Called → Bool
is_made_on_file state actor called =
    starts_from called.call (state.cells.statuses called.change.slot) && not (fails_on called.call (state.tenant_states actor.tenant).file)

-- How a tenant's file in memory came of the one before the call. If the call was made (true): by just its device calls, which all
-- went well, or of which the one that must fail failed. If not (false): it is unchanged.
abbrev pub CameByCall : Bool → Called → List Entry → Outcome → SimulatedFile → SimulatedFile → Type 0
CameByCall true called entries outcome was now = CameExactly was called.call called.change.slot entries outcome (Ok now)
CameByCall false called entries outcome was now = now ≡ was

-- A worker's request was at a call on its tenant's file, and the file in memory came of the one before the call so.
pub record CameByCallOf (state : State) (worker : ℕ) (outcome : Outcome) (was now : SimulatedFile) : Type 0 where
  pub actor : ActorState
  pub is : (state.worker_states worker).actor ≡ Some actor
  pub called : Called
  pub at : called_at actor.point ≡ Some called
  pub came : CameByCall (is_made_on_file state actor called) called (own_entries actor) outcome was now

-- the same of each tenant that a worker serves, in two worlds in memory
abbrev pub FilesComeByCall : World → World → State → ℕ → Outcome → Type 0
FilesComeByCall old new state worker outcome = (tenant : ℕ) (was now : SimulatedFile) → served_by old worker ≡ Some tenant → book_at old tenant ≡ Some was → book_at new tenant ≡ Some now
    → CameByCallOf state worker outcome was now

-- If an event is a call on a file, and happened, the tenant's file came so. Nothing is said of other events: a start opens each
-- file on a new disk, and the others leave all files unchanged.
abbrev pub DisksFollow : World → World → State → Event → Result (Unit {0}) WorldFault → Type 0
DisksFollow old new state (IsFile worker outcome) (Ok x) = FilesComeByCall old new state worker outcome
DisksFollow old new state event result = Unit {0}
