-- Defines a step on the bits of shared words, and states that it does what the step does to the shared words.
-- Used by: src/cells/steps.rt, mw_simulator.
use Rattle.std.specs.Prelude.{ℕ, ◌≡◌, ◌-◌, ◌==◌, Bool, true, false, cond, Some, None}
use Rattle.std.specs.declared.option.Option.{Option}
use Rattle.std.specs.Option.{option_map_or}
use Rattle.mw_words.specs.declared.places.At.{At}
use Rattle.mw_words.specs.declared.places.At.TheVariants.{Door as AtDoor, Gate as AtGate}
use Rattle.mw_words.specs.Patterns.{packed_door, packed_gate, unpacked_door, unpacked_gate}
use Rattle.mw_pool.specs.Moves.{after_unpin}
use Rattle.mw_look.specs.declared.steps.Kind.{Kind}
use Rattle.mw_look.specs.declared.steps.Kind.TheVariants.{Unpin as UnpinKind, Drop as DropKind, Fault as FaultKind}
use Rattle.mw_look.specs.declared.steps.Op.{Op}
use Rattle.mw_look.specs.declared.steps.Op.TheVariants.{Load as LoadBits, Change as ChangeBits, File as FileCall}
use Rattle.mw_look.specs.declared.observations.Got.{Got}
use Rattle.mw_look.specs.declared.observations.Got.TheVariants.{Word as Found, Won as GotWon, Lost as GotLost}
use Rattle.mw_look.specs.declared.observations.Observation.{Observation}
use Rattle.mw_look.specs.Observations.{observation_of}
use Rattle.mw_look.specs.Steps.{Step, op_of, place}
use Rattle.mw_world.specs.Definition.Cells.{Cells, AllFit}
use Rattle.mw_look.specs.declared.steps.Shape.{Shape}
use Rattle.mw_look.specs.declared.steps.Shape.TheVariants.{Exchange, Store, Fetch}
use Rattle.mw_look.specs.Shapes.{shape_of}
use Rattle.mw_world.specs.Definition.Changes.{done}
use Rattle.mw_look.specs.Steps.{StepFits}
use Rattle.mw_world_memory.specs.Bits.{Bits, bits_at, put_bits, is_there}
use Rattle.mw_world_memory.specs.BitsMatch.{BitsMatch}

-- What a fetch makes of the bits that it finds: a gate with one pin less, a door with one slot less in use, a door with
-- the fault. Bits that are no pattern stay.
abbrev pub fetched_bits : Kind → At → ℕ → ℕ
fetched_bits UnpinKind (AtGate slot) bits = option_map_or (λ gate. packed_gate (after_unpin gate)) (unpacked_gate bits) bits
fetched_bits DropKind (AtDoor tenant) bits = option_map_or (λ door. packed_door (record door { used = door.used - 1 })) (unpacked_door bits) bits
fetched_bits FaultKind (AtDoor tenant) bits = option_map_or (λ door. packed_door (record door { fault = true })) (unpacked_door bits) bits
fetched_bits kind at bits = bits

-- the bits after a change of a place that has the bits `there`
abbrev pub bits_changed : Shape → Kind → At → ℕ → ℕ → Bits → ℕ → Bits
bits_changed Exchange kind at from to bits there = cond (there == from) (put_bits bits at to) bits
bits_changed Store kind at from to bits there = put_bits bits at to
bits_changed Fetch kind at from to bits there = put_bits bits at (fetched_bits kind at there)

-- what the request is told of a change of a place that has the bits `there`
abbrev pub got_by : Shape → ℕ → ℕ → Got
got_by Exchange from there = cond (there == from) GotWon GotLost
got_by Store from there = GotWon
got_by Fetch from there = Found there

-- the bits after a step; a call on a file, and a step at a place that doesn't exist, change nothing
abbrev pub bits_after : Op → Bits → Bits
bits_after (LoadBits at) bits = bits
bits_after (ChangeBits kind at from to) bits = option_map_or (λ there. bits_changed (shape_of kind) kind at from to bits there) (bits_at bits at) bits
bits_after (FileCall call slot) bits = bits

-- what the request is told of a step; nothing of a call on a file, or of a step at a place that doesn't exist
abbrev pub got_after : Op → Bits → Option Got
got_after (LoadBits at) bits = option_map_or (λ there. Some (Found there)) (bits_at bits at) None
got_after (ChangeBits kind at from to) bits = option_map_or (λ there. Some (got_by (shape_of kind) from there)) (bits_at bits at) None
got_after (FileCall call slot) bits = None

-- the step is a load or a change of an existing place
abbrev pub is_step_there : Op → Bits → Bool
is_step_there (LoadBits at) bits = is_there bits at
is_step_there (ChangeBits kind at from to) bits = is_there bits at
is_step_there (FileCall call slot) bits = false

-- the shared words after a step
abbrev pub cells_after : Step → Cells → Cells
cells_after step cells = done step cells (λ after observation. after)

-- what the request is told of a step
abbrev pub observation_after : Step → Cells → Observation
observation_after step cells = done step cells (λ after observation. observation)

-- A step in bits does what the step does to the shared words, for every such step and whatever the words were. The bits
-- after it match those words, all of them are in range, and the request is told the same.
pub record Makes (op : Op) (old new : Bits) (got : Got) : Type 0 where
  pub tie : (cells : Cells) (step : Step) → op ≡ op_of step → BitsMatch old cells → AllFit cells → StepFits step → BitsMatch new (cells_after step cells)
  pub fit : (cells : Cells) (step : Step) → op ≡ op_of step → BitsMatch old cells → AllFit cells → StepFits step → AllFit (cells_after step cells)
  pub observation : (cells : Cells) (step : Step) → op ≡ op_of step → BitsMatch old cells → AllFit cells → StepFits step → observation_of (place step) got ≡ observation_after step cells
