-- Defines why the simulator refuses an event, if a tenant's file refuses it. Used by: src/faults.rt.
use Rattle.mw_world_file.specs.declared.faults.BookFault.{BookFault}
use Rattle.mw_world_file.specs.declared.faults.BookFault.TheVariants.{NotEnabled as FileNotEnabled, Memory as FileMemory}
use Rattle.mw_simulator.specs.declared.faults.WorldFault.{WorldFault}
use Rattle.mw_simulator.specs.declared.faults.WorldFault.TheVariants.{NotEnabled, Memory}

-- the reason of the event's refusal, which is the file's
abbrev pub fault_of : BookFault → WorldFault
fault_of FileNotEnabled = NotEnabled
fault_of FileMemory = Memory
