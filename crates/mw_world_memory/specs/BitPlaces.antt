-- Defines which shared words a world in memory has bits for. Used by: src/cells/start.rt, mw_simulator.
use Rattle.std.specs.Prelude.{◌≡◌}
use Rattle.mw_words.specs.declared.places.At.{At}
use Rattle.mw_world.specs.declared.config.Config.{Config}
use Rattle.mw_world.specs.Definition.Extent.{has_place}
use Rattle.mw_world_memory.specs.Bits.{Bits, is_there}

-- there are bits for exactly the shared words of this configuration
abbrev pub HasPlacesOf : Config → Bits → Type 0
HasPlacesOf config bits = (at : At) → is_there bits at ≡ has_place config at
