-- Defines which values each place of 64 bits that workers share may have, and their bits.
-- Used by: many crates from mw_world on. A new place of a shared word needs a case here, its bits in mw_words, and an index
-- in mw_rule (index_of).
use Rattle.std.specs.Prelude.{ℕ, ◌^◌, ◌<◌, false, Some}
use Rattle.std.specs.declared.option.Option.{Option}
use Rattle.mw_words.specs.declared.places.At.{At}
use Rattle.mw_words.specs.declared.places.At.TheVariants.{Door as AtDoor, Gate as AtGate, Row as AtRow, Data, Status as AtStatus, Count, Addr, Expected, New}
use Rattle.mw_words.specs.declared.doors.Door.{Door}
use Rattle.mw_words.specs.declared.gates.Gate.{Gate}
use Rattle.mw_words.specs.declared.rows.Row.{Row}
use Rattle.mw_words.specs.declared.words.Word.{Word}
use Rattle.mw_words.specs.declared.words.Word.TheVariants.{Plain}
use Rattle.mw_words.specs.declared.statuses.Status.{Status}
use Rattle.mw_words.specs.declared.statuses.Status.TheVariants.{Draft}
use Rattle.mw_words.specs.Patterns.{IsDoorInRange, IsGateInRange, IsRowInRange, IsWordInRange, IsStatusInRange, packed_door, packed_gate, packed_row, packed_word, packed_status, unpacked_door, unpacked_gate, unpacked_row, unpacked_word, unpacked_status}

-- the type of the values at a place
abbrev pub Val : At → Type 0
Val (AtDoor tenant) = Door
Val (AtGate slot) = Gate
Val (AtRow worker) = Row
Val (Data tenant address) = Word
Val (AtStatus slot) = Status
Val (Count slot) = ℕ
Val (Addr slot entry) = ℕ
Val (Expected slot entry) = ℕ
Val (New slot entry) = ℕ

-- the value is in range, so it has bits
abbrev pub Fits : (at : At) → Val at → Type 0
Fits (AtDoor tenant) door = IsDoorInRange door
Fits (AtGate slot) gate = IsGateInRange gate
Fits (AtRow worker) row = IsRowInRange row
Fits (Data tenant address) word = IsWordInRange word
Fits (AtStatus slot) status = IsStatusInRange status
Fits (Count slot) number = number < 2 ^ 64
Fits (Addr slot entry) number = number < 2 ^ 64
Fits (Expected slot entry) number = number < 2 ^ 64
Fits (New slot entry) number = number < 2 ^ 64

-- the bits of a value
abbrev pub pack : (at : At) → Val at → ℕ
pack (AtDoor tenant) door = packed_door door
pack (AtGate slot) gate = packed_gate gate
pack (AtRow worker) row = packed_row row
pack (Data tenant address) word = packed_word word
pack (AtStatus slot) status = packed_status status
pack (Count slot) number = number
pack (Addr slot entry) number = number
pack (Expected slot entry) number = number
pack (New slot entry) number = number

-- the value with these bits; None: no value of the place's kind of word has them
abbrev pub unpack : (at : At) → ℕ → Option (Val at)
unpack (AtDoor tenant) bits = unpacked_door bits
unpack (AtGate slot) bits = unpacked_gate bits
unpack (AtRow worker) bits = unpacked_row bits
unpack (Data tenant address) bits = unpacked_word bits
unpack (AtStatus slot) bits = unpacked_status bits
unpack (Count slot) bits = Some bits
unpack (Addr slot entry) bits = Some bits
unpack (Expected slot entry) bits = Some bits
unpack (New slot entry) bits = Some bits

-- the value whose bits are 0
abbrev pub nil : (at : At) → Val at
nil (AtDoor tenant) = record { fault = false; used = 0 }
nil (AtGate slot) = record { taken = false; pins = 0; seq = 0 }
nil (AtRow worker) = record { slot = 0; entry = 0; seq = 0 }
nil (Data tenant address) = Plain 0
nil (AtStatus slot) = Draft
nil (Count slot) = 0
nil (Addr slot entry) = 0
nil (Expected slot entry) = 0
nil (New slot entry) = 0
