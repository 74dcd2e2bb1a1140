-- Defines when the bits of a world in memory match its shared words. Used by: src/cells.rt, src/cells/start.rt, mw_simulator.
use Rattle.std.specs.Prelude.{◌≡◌, IfSome}
use Rattle.mw_words.specs.declared.places.At.{At}
use Rattle.mw_look.specs.Places.{pack}
use Rattle.mw_world.specs.Definition.Cells.{Cells, read}
use Rattle.mw_world_memory.specs.Bits.{Bits, bits_at}

-- the bits at every existing place are the packed value of the shared word there
abbrev pub BitsMatch : Bits → Cells → Type 0
BitsMatch bits cells = (at : At) → IfSome (bits_at bits at) (λ there. there ≡ pack at (read cells at))
