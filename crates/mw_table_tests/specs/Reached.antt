-- Defines that a world in memory is the end of some run of events.
-- Used by: src/race_tests.rt, src/reading_tests.rt, src/worlds.rt.
use Rattle.std.specs.Prelude.{List}
use Rattle.mw_world.specs.Definition.Events.{WorldEvent}
use Rattle.mw_simulator.specs.declared.world.World.{World}
use Rattle.mw_simulator.specs.Events.{IsAfterRun}

abbrev pub IsReached : World → Type 0
IsReached world = (before : List WorldEvent) × IsAfterRun world before
