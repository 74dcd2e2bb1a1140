-- Defines what a request is told of its step: the value that the step found at its place.
-- Used by: many crates from mw_actor on, look.rt, observations.rt. A change here changes every request's program.
use Rattle.std.specs.Prelude.{ℕ, ◌^◌, ◌<◌}
use Rattle.std.specs.Option.{option_map_or}
use Rattle.mw_words.specs.declared.places.At.{At}
use Rattle.mw_words.specs.declared.places.At.TheVariants.{Door as AtDoor, Gate as AtGate, Row as AtRow, Data, Status as AtStatus, Count, Addr, Expected, New}
use Rattle.mw_words.specs.Patterns.{IsDoorInRange, IsGateInRange, IsRowInRange, IsWordInRange, IsStatusInRange, unpacked_door, unpacked_gate, unpacked_row, unpacked_word, unpacked_status}
use Rattle.mw_look.specs.declared.observations.Got.{Got}
use Rattle.mw_look.specs.declared.observations.Got.TheVariants.{Word as Bits, Won as GotWon, Lost as GotLost, File as GotFile}
use Rattle.mw_look.specs.declared.observations.Observation.{Observation}
use Rattle.mw_look.specs.declared.observations.Observation.TheVariants.{SawDoor, SawGate, SawWord, SawStatus, SawRow, SawNumber, Won, Lost, Filed, Junk}
use Rattle.mw_look.specs.Places.{Val}

-- the observation of a value at a place
abbrev pub seen : (at : At) → Val at → Observation
seen (AtDoor tenant) door = SawDoor door
seen (AtGate slot) gate = SawGate gate
seen (AtRow worker) row = SawRow row
seen (Data tenant address) word = SawWord word
seen (AtStatus slot) status = SawStatus status
seen (Count slot) number = SawNumber number
seen (Addr slot entry) number = SawNumber number
seen (Expected slot entry) number = SawNumber number
seen (New slot entry) number = SawNumber number

-- the observation of bits at a place; bits that no value of the place's kind has are junk
abbrev pub observation_of_bits : At → ℕ → Observation
observation_of_bits (AtDoor tenant) bits = option_map_or SawDoor (unpacked_door bits) Junk
observation_of_bits (AtGate slot) bits = option_map_or SawGate (unpacked_gate bits) Junk
observation_of_bits (AtRow worker) bits = option_map_or SawRow (unpacked_row bits) Junk
observation_of_bits (Data tenant address) bits = option_map_or SawWord (unpacked_word bits) Junk
observation_of_bits (AtStatus slot) bits = option_map_or SawStatus (unpacked_status bits) Junk
observation_of_bits (Count slot) bits = SawNumber bits
observation_of_bits (Addr slot entry) bits = SawNumber bits
observation_of_bits (Expected slot entry) bits = SawNumber bits
observation_of_bits (New slot entry) bits = SawNumber bits

-- the observation of a step at a place
abbrev pub observation_of : At → Got → Observation
observation_of at (Bits bits) = observation_of_bits at bits
observation_of at GotWon = Won
observation_of at GotLost = Lost
observation_of at (GotFile went_well) = Filed went_well

-- the value that was observed is in range
abbrev pub IsObservationInRange : Observation → Type 0
IsObservationInRange (SawDoor door) = IsDoorInRange door
IsObservationInRange (SawGate gate) = IsGateInRange gate
IsObservationInRange (SawRow row) = IsRowInRange row
IsObservationInRange (SawWord word) = IsWordInRange word
IsObservationInRange (SawStatus status) = IsStatusInRange status
IsObservationInRange (SawNumber number) = number < 2 ^ 64
IsObservationInRange observation = Unit {0}
