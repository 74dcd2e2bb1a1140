-- Defines how a call on a tenant's file ends in a simulated world.
-- Used by: src/world/calls.rt, src/world/stopped_calls.rt, mwreplay.
use Rattle.std.specs.Prelude.{ℕ, ◌≡◌, ◌⊎◌, Bool, true, false, length, Option, Some, None, Result, Ok, Err}
use Rattle.mw_words.specs.declared.places.At.TheVariants.{Door as AtDoor, Status as AtStatus}
use Rattle.mw_words.specs.declared.statuses.Status.{Status}
use Rattle.mw_look.specs.declared.steps.Call.{Call}
use Rattle.mw_look.specs.declared.steps.Kind.TheVariants.{Fault as FaultKind}
use Rattle.mw_look.specs.declared.observations.Observation.TheVariants.{Filed}
use Rattle.mw_actor.specs.declared.points.Slot.{Slot}
use Rattle.mw_world.specs.declared.outcomes.Outcome.{Outcome}
use Rattle.mw_world.specs.declared.outcomes.Outcome.TheVariants.{Good, Fail}
use Rattle.mw_world_file.specs.declared.faults.BookFault.{BookFault}
use Rattle.mw_world_file.specs.declared.faults.BookFault.TheVariants.{NotEnabled, Memory}
use Rattle.mw_world_file.specs.declared.simulated_file.SimulatedFile.{SimulatedFile}
use Rattle.mw_world_file.specs.Books.{Represents as ShowsFile, places_of_file, quota_of}
use Rattle.mw_world_file.specs.Crashes.{IsCrashSafe as IsCallSafe}
use Rattle.mw_world.specs.Files.State.{File}
use Rattle.mw_world.specs.declared.step_labels.StepLabel.{StepLabel}
use Rattle.mw_world.specs.declared.step_labels.StepLabel.TheVariants.{Nothing}
use Rattle.mw_world.specs.declared.config.Config.{Config}
use Rattle.mw_world.specs.Definition.Calls.{Called, fails_on, good_label, fault_label, starts_from, status_after}
use Rattle.mw_world.specs.Definition.Cells.{Cells, write}
use Rattle.mw_world.specs.Definition.Changes.{fetched}
use Rattle.mw_world.specs.Definition.State.{State, tenant_at}
use Rattle.mw_world.specs.Definition.Turns.{Made}
use Rattle.mw_simulator.specs.declared.world.World.{World}
use Rattle.mw_simulator.specs.declared.world.calls.Called.{Called as CalledInMemory}
use Rattle.mw_simulator.specs.declared.world.calls.Ended.{Ended}
use Rattle.mw_simulator.specs.Representation.{Represents}
use Rattle.mw_simulator.specs.UnchangedParts.{SameBooks, book_at}
use Rattle.mw_simulator.specs.StepParts.{HasRoom, with_cells, with_file}

-- the call on a file that a call in memory represents
abbrev pub called_of : CalledInMemory → Called
called_of called = record { call = called.call; change = called.change }

-- The book represents this file of a tenant. It has the tenant's words, as many places in use as the tenant's quota,
-- and as many places in all as the file.
pub record IsBookOf (config : Config) (state : State) (tenant : ℕ) (book : SimulatedFile) (file : File) : Type 0 where
  pub shows : ShowsFile book file
  pub places : quota_of book ≡ (state.tenant_states tenant).quota
  pub file_places : places_of_file book ≡ (state.tenant_states tenant).places
  pub words : length book.contents.items ≡ (tenant_at config tenant).words

-- no device call fails
abbrev pub is_good : Outcome → Bool
is_good Good = true
is_good (Fail number) = false

-- The end of a call that makes no device call. The outcome that one fails is refused.
abbrev pub makes_none : Ended → Outcome → Result Ended BookFault
makes_none ended Good = Ok ended
makes_none ended (Fail number) = Err NotEnabled

-- the end of a call that does nothing
abbrev pub skipped : Ended
skipped = record { went_well = true; label = Nothing }

-- the end of a call on a file that failed before
abbrev pub refused : Ended
refused = record { went_well = false; label = Nothing }

-- the shared words after a tenant's door got the fault
abbrev pub faulted : Cells → ℕ → Cells
faulted cells tenant = write cells (AtDoor tenant) (fetched FaultKind (AtDoor tenant) (cells.doors tenant))

-- The shared words after a call that started from this status. If no device call failed, the slot has the status after
-- the call, else the tenant's door has the fault.
abbrev pub cells_closed : Cells → ℕ → Call → ℕ → Status → Outcome → Cells
cells_closed cells tenant call slot status Good = write cells (AtStatus slot) (status_after call status)
cells_closed cells tenant call slot status (Fail number) = faulted cells tenant

-- the label of such a call
abbrev pub label_closed : Call → Slot → Status → Outcome → StepLabel
label_closed call change status Good = good_label call change (status_after call status)
label_closed call change status (Fail number) = fault_label call change

-- the end of such a call
abbrev pub ended : Call → Slot → Status → Outcome → Ended
ended call change status outcome = record { went_well = is_good outcome; label = label_closed call change status outcome }

-- All but the shared words and the tenants' files is unchanged. The room for a step's label stays.
pub record SameButFiles (old new : World) : Type 0 where
  pub config : new.config ≡ old.config
  pub worker_states : new.worker_states ≡ old.worker_states
  pub claims : new.claims ≡ old.claims
  pub count : length new.tenant_states.items ≡ length old.tenant_states.items
  pub room : (tenant : ℕ) → HasRoom old.claims old.tenant_states.items tenant → HasRoom new.claims new.tenant_states.items tenant

-- the world after a call left these shared words and this file of a tenant
abbrev pub called : State → ℕ → Made → State
called state tenant made = with_file (with_cells state made.cells) tenant made.file

-- A call was made. The request learns how it ended, its label is the one of that end, and the world in memory
-- represents the world that the call left.
pub record Closed (new : World) (before : State) (tenant : ℕ) (found : Option Made) (end : Ended) : Type 0 where
  pub made : Made
  pub is : found ≡ Some made
  pub observation : made.observation ≡ Filed end.went_well
  pub label : made.label ≡ end.label
  pub shows : Represents new (called before tenant made)

-- How a call ends, for each result. After an error the world in memory represents the same world as before. If the
-- error isn't that memory is out, the call can't end so.
abbrev pub Closes : World → State → ℕ → Option Made → Result Ended BookFault → Type 0
Closes new before tenant found (Ok end) = Closed new before tenant found end
Closes new before tenant found (Err NotEnabled) = (found ≡ None) × Represents new before
Closes new before tenant found (Err Memory) = Represents new before

-- A call was made on a tenant's file for the change of a slot. The books before and after it are safe at a crash, as
-- `IsCallSafe` says.
pub record IsWorked (old new : World) (tenant : ℕ) (call : Call) (slot : ℕ) : Type 0 where
  pub was : SimulatedFile
  pub now : SimulatedFile
  pub is_old : book_at old tenant ≡ Some was
  pub is_new : book_at new tenant ≡ Some now
  pub safe : IsCallSafe was call slot now

-- The same, of a call that starts from this status. The file hasn't failed, unless the call can't fail.
pub record IsStarted (old new : World) (tenant : ℕ) (called : Called) (status : Status) : Type 0 where
  pub starts : starts_from called.call status ≡ true
  pub sound : (state : State) → Represents old state → fails_on called.call (state.tenant_states tenant).file ≡ false
  pub worked : IsWorked old new tenant called.call called.change.slot

-- A call leaves all tenants' files unchanged, or it started and was made on this tenant's file.
abbrev pub TouchesFile : World → World → ℕ → Called → Status → Type 0
TouchesFile old new tenant called status = SameBooks old new ⊎ IsStarted old new tenant called status
