-- Defines the bits of the words of 64 bits that workers share: tenants' words, gates, doors, statuses and rows. Each is a sum
-- of fields at fixed bits. A field may have any value that fits into its bits, if nothing else is said here.
-- Used by: many crates from mw_pool on, doors.rt, gates.rt, rows.rt, statuses.rt, words.rt. No file has these bits: a pattern
-- may change if its value still fits into 64 bits and PatternLaws is proved again. mw_rule (ways.rt) and mw_table have the
-- bit of a pin and that of a fault as numbers, and change with it.
use Rattle.std.specs.Prelude.{◌≡◌, ℕ, ◌+◌, ◌*◌, ◌/◌, ◌%◌, ◌^◌, ◌≤◌, ◌<◌, ◌==◌, ◌&&◌, ◌||◌, Bool, false, cond, nat_lt, Some, None}
use Rattle.std.specs.declared.option.Option.{Option}
use Rattle.mw_words.specs.declared.limits.TheConstants.{MAX_VALUE, WORN_NUMBER, MAX_PINS, MAX_POOL, MAX_WORKERS, MAX_ENTRIES}
use Rattle.mw_words.specs.declared.words.Word.{Word}
use Rattle.mw_words.specs.declared.words.Word.TheVariants.{Plain, Planted, Held, Dirty}
use Rattle.mw_words.specs.declared.gates.Gate.{Gate}
use Rattle.mw_words.specs.declared.doors.Door.{Door}
use Rattle.mw_words.specs.declared.statuses.Status.{Status}
use Rattle.mw_words.specs.declared.statuses.Status.TheVariants.{Draft, Open, YesDirty, Yes, No, DoneYes, DoneNo}
use Rattle.mw_words.specs.declared.rows.Row.{Row}

-- the value of a field that begins at this bit and has so many bits
abbrev pub field : ℕ → ℕ → ℕ → ℕ
field start width bits = bits / 2 ^ start % 2 ^ width

-- a flag as a bit
abbrev pub bit : Bool → ℕ
bit flag = cond flag 1 0

-- The fields of a tenant's word are in range.
abbrev pub IsWordInRange : Word → Type 0
IsWordInRange (Plain value) = value ≤ MAX_VALUE
IsWordInRange (Planted worker attempt) = (worker < MAX_WORKERS) × (attempt ≤ WORN_NUMBER)
IsWordInRange (Held slot seq) = (slot < MAX_POOL) × (seq ≤ WORN_NUMBER)
IsWordInRange (Dirty slot value) = (slot < MAX_POOL) × (value ≤ MAX_VALUE)

-- The bits of a tenant's word: the kind at bit 62, the worker or slot at bit 48, and the value or number at bit 0.
abbrev pub packed_word : Word → ℕ
packed_word (Plain value) = value
packed_word (Planted worker attempt) = 1 * 2 ^ 62 + worker * 2 ^ 48 + attempt
packed_word (Held slot seq) = 2 * 2 ^ 62 + slot * 2 ^ 48 + seq
packed_word (Dirty slot value) = 3 * 2 ^ 62 + slot * 2 ^ 48 + value

-- these are the bits of this word, which is in range
abbrev pub IsWordOf : ℕ → Word → Type 0
IsWordOf bits word = IsWordInRange word × (packed_word word ≡ bits)

-- The word with these bits. None: the worker or the slot isn't in range, or a plain word has one.
abbrev pub unpacked_word : ℕ → Option Word
unpacked_word bits =
    let kind = field 62 2 bits in
    let owner = field 48 14 bits in
    let low = field 0 48 bits in
    cond (kind == 0 && owner == 0) (Some (Plain low))
    (cond (kind == 1 && nat_lt owner MAX_WORKERS) (Some (Planted owner low))
    (cond (kind == 2 && nat_lt owner MAX_POOL) (Some (Held owner low))
    (cond (kind == 3 && nat_lt owner MAX_POOL) (Some (Dirty owner low))
    None)))

-- The fields of a gate are in range, and a gate that isn't taken has no pins.
abbrev pub IsGateInRange : Gate → Type 0
IsGateInRange gate = (gate.pins ≤ MAX_PINS) × (gate.seq ≤ WORN_NUMBER) × (gate.taken ≡ false → gate.pins ≡ 0)

-- The bits of a gate: 1 at bit 63 if it is taken, the pins at bit 48, and the sequence number at bit 0.
abbrev pub packed_gate : Gate → ℕ
packed_gate gate = bit gate.taken * 2 ^ 63 + gate.pins * 2 ^ 48 + gate.seq

-- these are the bits of this gate, which is in range
abbrev pub IsGateOf : ℕ → Gate → Type 0
IsGateOf bits gate = IsGateInRange gate × (packed_gate gate ≡ bits)

-- The gate with these bits. None: the gate isn't taken and has pins.
abbrev pub unpacked_gate : ℕ → Option Gate
unpacked_gate bits =
    let taken = field 63 1 bits == 1 in
    let pins = field 48 15 bits in
    cond (taken || pins == 0) (Some (record { taken = taken; pins = pins; seq = field 0 48 bits })) None

-- The number of slots in use fits into 16 bits.
abbrev pub IsDoorInRange : Door → Type 0
IsDoorInRange door = door.used < 2 ^ 16

-- The bits of a door: the fault at bit 63, and the slots in use at bit 0.
abbrev pub packed_door : Door → ℕ
packed_door door = bit door.fault * 2 ^ 63 + door.used

-- these are the bits of this door, which is in range
abbrev pub IsDoorOf : ℕ → Door → Type 0
IsDoorOf bits door = IsDoorInRange door × (packed_door door ≡ bits)

-- The door with these bits. None: a bit between the fault and the slots in use isn't 0.
abbrev pub unpacked_door : ℕ → Option Door
unpacked_door bits =
    cond (field 16 47 bits == 0) (Some (record { fault = field 63 1 bits == 1; used = field 0 16 bits })) None

-- The fields of a status are in range.
abbrev pub IsStatusInRange : Status → Type 0
IsStatusInRange (No entry value) = (entry < MAX_ENTRIES) × (value ≤ MAX_VALUE)
IsStatusInRange (DoneNo entry value) = (entry < MAX_ENTRIES) × (value ≤ MAX_VALUE)
IsStatusInRange status = Unit {0}

-- The bits of a status: the state at bit 60. If the change is not made, also the entry's index at bit 48, and the
-- value found at bit 0.
abbrev pub packed_status : Status → ℕ
packed_status Draft = 0 * 2 ^ 60
packed_status Open = 1 * 2 ^ 60
packed_status YesDirty = 2 * 2 ^ 60
packed_status Yes = 3 * 2 ^ 60
packed_status (No entry value) = 4 * 2 ^ 60 + entry * 2 ^ 48 + value
packed_status DoneYes = 5 * 2 ^ 60
packed_status (DoneNo entry value) = 6 * 2 ^ 60 + entry * 2 ^ 48 + value

-- these are the bits of this status, which is in range
abbrev pub IsStatusOf : ℕ → Status → Type 0
IsStatusOf bits status = IsStatusInRange status × (packed_status status ≡ bits)

-- The status with these bits. None: the state is unknown, the entry's index isn't in range, or there is an index or a
-- value with a state that has none.
abbrev pub unpacked_status : ℕ → Option Status
unpacked_status bits =
    let state = field 60 4 bits in
    let entry = field 48 12 bits in
    let value = field 0 48 bits in
    let bare = entry == 0 && value == 0 in
    cond (state == 0 && bare) (Some Draft)
    (cond (state == 1 && bare) (Some Open)
    (cond (state == 2 && bare) (Some YesDirty)
    (cond (state == 3 && bare) (Some Yes)
    (cond (state == 4 && nat_lt entry MAX_ENTRIES) (Some (No entry value))
    (cond (state == 5 && bare) (Some DoneYes)
    (cond (state == 6 && nat_lt entry MAX_ENTRIES) (Some (DoneNo entry value))
    None))))))

-- The fields of a row are in range.
abbrev pub IsRowInRange : Row → Type 0
IsRowInRange row = (row.slot < MAX_POOL) × (row.entry < MAX_ENTRIES) × (row.seq ≤ WORN_NUMBER)

-- The bits of a row: the slot at bit 56, the entry's index at bit 48, and the sequence number at bit 0.
abbrev pub packed_row : Row → ℕ
packed_row row = row.slot * 2 ^ 56 + row.entry * 2 ^ 48 + row.seq

-- these are the bits of this row, which is in range
abbrev pub IsRowOf : ℕ → Row → Type 0
IsRowOf bits row = IsRowInRange row × (packed_row row ≡ bits)

-- The row with these bits. None: the entry's index isn't in range.
abbrev pub unpacked_row : ℕ → Option Row
unpacked_row bits =
    let entry = field 48 8 bits in
    cond (nat_lt entry MAX_ENTRIES) (Some (record { slot = field 56 8 bits; entry = entry; seq = field 0 48 bits })) None
