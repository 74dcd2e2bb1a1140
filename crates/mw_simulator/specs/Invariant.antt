-- Defines what holds of a simulated world after every run from a new world.
-- Used by: src/world/events.rt, src/world/new_worlds.rt.
use Rattle.std.specs.Prelude.{List}
use Rattle.mw_world.specs.Claim.Headline.{HoldsOfRun}
use Rattle.mw_world.specs.Definition.Events.{WorldEvent}
use Rattle.mw_simulator.specs.declared.world.World.{World}
use Rattle.mw_simulator.specs.Events.{IsAfterRun}

-- For each run from a new world to a world that this one represents, `HoldsOfRun` holds: the whole invariant and room
-- in the pool hold, and the definition's tests refuse nothing that a request asks for.
abbrev pub Holds : World → Type 0
Holds world = (happened : List WorldEvent) (stands : IsAfterRun world happened) → HoldsOfRun world.config stands.state
