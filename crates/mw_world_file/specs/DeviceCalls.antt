-- Defines the device calls of a call on a simulated file, and the one disk that they lead to.
-- Used by: src/calls.rt, src/laws.rt, mw_simulator. A new call on a file needs its list here.
use Rattle.std.specs.Prelude.{◌≤◌, ℕ, Bool, true, false, List, [], length, slice_index, Option, Some, None, Result, Ok, Err}
use Rattle.mw_words.specs.declared.jobs.Entry.{Entry}
use Rattle.mw_look.specs.declared.steps.Call.{Call}
use Rattle.mw_look.specs.declared.steps.Call.TheVariants.{Prepare as PrepareCall, Seal as SealCall, Settle as SettleCall, Cancel as CancelCall}
use Rattle.mw_disk.specs.DeviceCalls.{DeviceCall, Makes}
use Rattle.mw_memory_disk.specs.Memory.{Memory as Disk, memory_made, NoneRefused}
use Rattle.mw_file.specs.declared.place_states.PlaceState.{PlaceState}
use Rattle.mw_file.specs.DeviceCalls.{prepare_calls, seal_calls, settle_calls}
use Rattle.mw_file.specs.File.{at_of, words_of, states_of}
use Rattle.mw_file.specs.PlaceStates.{free_place, writes_of_place}
use Rattle.mw_world_file.specs.declared.simulated_file.SimulatedFile.{SimulatedFile}
use Rattle.mw_world_file.specs.declared.cut.Cut.{Cut}
use Rattle.mw_world_file.specs.declared.device.Device.{Device}
use Rattle.mw_world_file.specs.declared.device.Device.TheVariants.{Open, Shut}
use Rattle.mw_world_file.specs.declared.faults.BookFault.{BookFault}
use Rattle.mw_world.specs.declared.outcomes.Outcome.{Outcome}
use Rattle.mw_world.specs.declared.outcomes.Outcome.TheVariants.{Good, Fail}
use Rattle.mw_world_file.specs.CallEffects.{failing}
use Rattle.mw_world_file.specs.Devices.{disk_under}

-- the device calls of a prepare into this place; none if no place is free
abbrev pub prepare_into : ℕ → ℕ → Option ℕ → List Entry → List DeviceCall
prepare_into at words None entries = []
prepare_into at words (Some place) entries = prepare_calls at words place entries

-- The device calls of a call on a file whose second layout begins at `at`, with so many words and these states of its places. A
-- prepare takes the lowest free place. A seal and a settle take this place. A cancel makes no device call.
abbrev pub call_list_at : ℕ → ℕ → List PlaceState → Call → ℕ → List Entry → List DeviceCall
call_list_at at words states PrepareCall place entries = prepare_into at words (free_place states) entries
call_list_at at words states SealCall place entries = seal_calls at words place
call_list_at at words states SettleCall place entries = settle_calls at words place (writes_of_place states place)
call_list_at at words states CancelCall place entries = []

-- the same for the file on a device; a shut file takes no call
abbrev pub call_list_on : Device → Call → ℕ → List Entry → List DeviceCall
call_list_on (Open file) call place entries = call_list_at (at_of file) (words_of file) (states_of file) call place entries
call_list_on (Shut disk) call place entries = []

-- the device calls of a call on a book for the change of a slot, which has these entries
abbrev pub call_list : SimulatedFile → Call → ℕ → List Entry → List DeviceCall
call_list book call slot entries = call_list_on book.device call (slice_index book.place_of slot) entries

-- These device calls led from one disk to another: all went well (true), or one failed and none was made after it (false). None of
-- them was refused memory.
pub record LedBy (calls : List DeviceCall) (well : Bool) (before after : Disk) : Type 0 where
  pub made : Makes memory_made calls well before after
  pub granted : 1 ≤ length calls → NoneRefused before after

-- The new book's disk came of the old book's by just the device calls of this call. All went well, or the one that must
-- fail failed. Nothing is said of a call that made no new book.
abbrev pub CameExactly : SimulatedFile → Call → ℕ → List Entry → Outcome → Result SimulatedFile BookFault → Type 0
CameExactly old call slot entries Good (Ok new) = LedBy (call_list old call slot entries) true (disk_under old.device) (disk_under new.device)
CameExactly old call slot entries (Fail number) (Ok new) =
    LedBy (call_list old call slot entries) false (failing (disk_under old.device) number) (disk_under new.device)
CameExactly old call slot entries outcome (Err fault) = Unit {0}

-- the device calls of the call that was under way; none if no call was
abbrev pub cut_list : SimulatedFile → Option Cut → List DeviceCall
cut_list book None = []
cut_list book (Some cut) = call_list book cut.call cut.slot cut.entries.items
