-- Defines the program of a read (a state machine), its algorithm: its step at each point, and where it goes from there.
-- Used by: many crates from mw_actor on, look.rt, points.rt. src/look.rt and laws in the crates above must be proved again
-- after a change.
use Rattle.std.specs.Prelude.{ℕ, ◌+◌, ◌-◌, ◌<◌, ◌==◌, ◌&&◌, not, Bool, true, false, cond, nat_lt, Some, None}
use Rattle.std.specs.declared.option.Option.{Option}
use Rattle.mw_words.specs.declared.limits.TheConstants.{MAX_ENTRIES, WORN_NUMBER}
use Rattle.mw_words.specs.declared.places.At.TheVariants.{Door as AtDoor, Gate as AtGate, Row as AtRow, Data, Status as AtStatus, Addr, Expected, New}
use Rattle.mw_words.specs.declared.gates.Gate.{Gate}
use Rattle.mw_words.specs.declared.words.Word.{Word}
use Rattle.mw_words.specs.declared.words.Word.TheVariants.{Plain, Planted, Held, Dirty}
use Rattle.mw_words.specs.declared.statuses.Status.{Status}
use Rattle.mw_words.specs.declared.statuses.Status.TheVariants.{Yes, DoneYes}
use Rattle.mw_words.specs.declared.replies.Reply.{Reply}
use Rattle.mw_words.specs.declared.replies.Reply.TheVariants.{Val as ValueIs, Fault as HasFailed}
use Rattle.mw_words.specs.Patterns.{IsGateInRange}
use Rattle.mw_pool.specs.Moves.{after_pin}
use Rattle.mw_look.specs.declared.steps.Kind.TheVariants.{Pin as PinKind, Unpin as UnpinKind, Free as FreeKind, Drop as DropKind}
use Rattle.mw_look.specs.declared.observations.Observation.{Observation}
use Rattle.mw_look.specs.declared.observations.Observation.TheVariants.{SawDoor, SawGate, SawWord, SawStatus, SawRow, SawNumber, Won, Lost}
use Rattle.mw_look.specs.declared.points.Trail.{Trail}
use Rattle.mw_look.specs.declared.points.Trail.TheVariants.{Held as ByHeld, Planted as ByPlanted}
use Rattle.mw_look.specs.declared.points.After.{After}
use Rattle.mw_look.specs.declared.points.After.TheVariants.{Again, Answer}
use Rattle.mw_look.specs.declared.points.Point.{Point}
use Rattle.mw_look.specs.declared.points.Point.TheVariants.{ReadDoor, ReadWord, ReadRow, ConfirmWord, ReadGate, Pin, ReadStatus, FindEntry, ReadExpected, ReadNew, RecheckWord, Unpin, FreeSlot, LowerDoor, Replied}
use Rattle.mw_look.specs.Steps.{Step, Load, Change, fetch, store}

-- The state of a read: the tenant and address of its word, and its point.
pub record Reading : Type 0 where
  pub tenant : ℕ
  pub address : ℕ
  pub point : Point

-- a read at its first point
abbrev pub first : ℕ → ℕ → Reading
first tenant address = record { tenant = tenant; address = address; point = ReadDoor }

-- the word with which a trail began
abbrev pub word_of : Trail → Word
word_of (ByHeld slot seq) = Held slot seq
word_of (ByPlanted worker attempt row) = Planted worker attempt

-- the slot to which a trail leads
abbrev pub slot_of : Trail → ℕ
slot_of (ByHeld slot seq) = slot
slot_of (ByPlanted worker attempt row) = row.slot

-- the sequence number that a trail tells for the slot
abbrev pub seq_of : Trail → ℕ
seq_of (ByHeld slot seq) = seq
seq_of (ByPlanted worker attempt row) = row.seq

-- the free gate of a slot after it was used with this number
abbrev pub freed : ℕ → Gate
freed seq = record { taken = false; pins = 0; seq = seq + 1 }

-- The step for which a read asks at each point.
abbrev pub asks_at : ℕ → ℕ → Point → Step
asks_at tenant address ReadDoor = Load (AtDoor tenant)
asks_at tenant address ReadWord = Load (Data tenant address)
asks_at tenant address (ReadRow worker attempt) = Load (AtRow worker)
asks_at tenant address (ConfirmWord trail) = Load (Data tenant address)
asks_at tenant address (ReadGate trail) = Load (AtGate (slot_of trail))
asks_at tenant address (Pin trail from to) = Change PinKind (AtGate (slot_of trail)) from to
asks_at tenant address (ReadStatus trail) = Load (AtStatus (slot_of trail))
asks_at tenant address (FindEntry trail status entry) = Load (Addr (slot_of trail) entry)
asks_at tenant address (ReadExpected trail status entry) = Load (Expected (slot_of trail) entry)
asks_at tenant address (ReadNew trail status entry expected) = Load (New (slot_of trail) entry)
asks_at tenant address (RecheckWord trail status expected new) = Load (Data tenant address)
asks_at tenant address (Unpin slot seq after) = fetch UnpinKind (AtGate slot)
asks_at tenant address (FreeSlot slot seq after) = store FreeKind (AtGate slot) (freed seq)
asks_at tenant address (LowerDoor after) = fetch DropKind (AtDoor tenant)
asks_at tenant address (Replied reply) = Load (AtDoor tenant)

-- the step for which a read asks
abbrev pub asks : Reading → Step
asks read = asks_at read.tenant read.address read.point

-- two words are the same
abbrev pub same_word : Word → Word → Bool
same_word (Plain value) (Plain other) = value == other
same_word (Planted worker attempt) (Planted other number) = (worker == other) && (attempt == number)
same_word (Held slot seq) (Held other number) = (slot == other) && (seq == number)
same_word (Dirty slot value) (Dirty other number) = (slot == other) && (value == number)
same_word word other = false

-- Where a read goes from its first load of the word. A plain or a dirty word has its value.
abbrev pub word_seen : Word → Point
word_seen (Plain value) = Replied (ValueIs value)
word_seen (Dirty slot value) = Replied (ValueIs value)
word_seen (Held slot seq) = ReadGate (ByHeld slot seq)
word_seen (Planted worker attempt) = ReadRow worker attempt

-- where a read goes from its slot's gate, given the gate with one pin more, if there is one
abbrev pub pinned : Trail → Gate → Option Gate → Point
pinned trail from (Some to) = Pin trail from to
pinned trail from None = ReadDoor

-- Where a read goes from its slot's gate. It takes a pin if the gate is taken, has a pin, and has the trail's number.
-- Else it begins again. It also does so if the gate has as many pins as it can have, or if the number is worn; the
-- gate of a slot in use has no worn number.
abbrev pub pinning : Trail → Gate → Point
pinning trail gate = cond (nat_lt (seq_of trail) WORN_NUMBER) (pinned trail gate (after_pin gate (seq_of trail))) ReadDoor

-- Where a read looks for its word's entry: the row of an attempt names the entry; for a held word it looks from the
-- first entry on.
abbrev pub first_entry : Trail → Status → Point
first_entry (ByHeld slot seq) status = FindEntry (ByHeld slot seq) status 0
first_entry (ByPlanted worker attempt row) status = ReadExpected (ByPlanted worker attempt row) status row.entry

-- Where a read goes from an entry that isn't its word's: to the next entry. After the last entry that a change may
-- have it begins again. It doesn't come there if the slot has a change that holds the word.
abbrev pub next_entry : Trail → Status → ℕ → Point
next_entry trail status entry = cond (nat_lt entry (MAX_ENTRIES - 1)) (FindEntry trail status (entry + 1)) (Unpin (slot_of trail) (seq_of trail) Again)

-- Where a read goes from an entry's address: if it is the word's, to the entry's values.
abbrev pub address_seen : Trail → Status → ℕ → Bool → Point
address_seen trail status entry is_the_words = cond is_the_words (ReadExpected trail status entry) (next_entry trail status entry)

-- the word is held by a change that is made and done
abbrev pub is_over : Trail → Status → Bool
is_over (ByHeld slot seq) DoneYes = true
is_over trail status = false

-- the word's value: the entry's new value if the word is held by a change with status Yes, else the expected value
abbrev pub value_of : Trail → Status → ℕ → ℕ → ℕ
value_of (ByHeld slot seq) Yes expected new = new
value_of trail status expected new = expected

-- What a read does after its last load of the word. It answers the value if the word is the one that it saw before,
-- and isn't held by a change that is made and done. Else it begins again.
abbrev pub answer : Trail → Word → Status → ℕ → ℕ → After
answer trail word status expected new = cond (same_word word (word_of trail) && not (is_over trail status)) (Answer (value_of trail status expected new)) Again

-- where a read goes when it holds no pin any more
abbrev pub resumed : After → Point
resumed Again = ReadDoor
resumed (Answer value) = Replied (ValueIs value)

-- Where a read of an address goes from each point, by its observation there. At any other observation it stays.
abbrev pub goes : ℕ → Point → Observation → Point
goes address ReadDoor (SawDoor door) = cond door.fault (Replied HasFailed) ReadWord
goes address ReadWord (SawWord word) = word_seen word
goes address (ReadRow worker attempt) (SawRow row) = ConfirmWord (ByPlanted worker attempt row)
goes address (ConfirmWord trail) (SawWord word) = cond (same_word word (word_of trail)) (ReadGate trail) ReadDoor
goes address (ReadGate trail) (SawGate gate) = pinning trail gate
goes address (Pin trail from to) Won = ReadStatus trail
goes address (Pin trail from to) Lost = ReadDoor
goes address (ReadStatus trail) (SawStatus status) = first_entry trail status
goes address (FindEntry trail status entry) (SawNumber number) = address_seen trail status entry (number == address)
goes address (ReadExpected trail status entry) (SawNumber expected) = ReadNew trail status entry expected
goes address (ReadNew trail status entry expected) (SawNumber new) = RecheckWord trail status expected new
goes address (RecheckWord trail status expected new) (SawWord word) = Unpin (slot_of trail) (seq_of trail) (answer trail word status expected new)
goes address (Unpin slot seq after) (SawGate gate) = cond (gate.pins == 1) (FreeSlot slot seq after) (resumed after)
goes address (FreeSlot slot seq after) Won = LowerDoor after
goes address (LowerDoor after) (SawDoor door) = resumed after
goes address point observation = point

-- a read after it was told its observation
abbrev pub tells : Reading → Observation → Reading
tells read observation = record read { point = goes read.address read.point observation }

-- the reply at a point, if it is decided there
abbrev pub reply_at : Point → Option Reply
reply_at (Replied reply) = Some reply
reply_at point = None

-- the reply to a read, if it has one
abbrev pub replied : Reading → Option Reply
replied read = reply_at read.point

-- The numbers that a read stores at each point are in range.
abbrev pub IsPointInRange : Point → Type 0
IsPointInRange (ReadStatus trail) = seq_of trail < WORN_NUMBER
IsPointInRange (FindEntry trail status entry) = seq_of trail < WORN_NUMBER
IsPointInRange (ReadExpected trail status entry) = seq_of trail < WORN_NUMBER
IsPointInRange (ReadNew trail status entry expected) = seq_of trail < WORN_NUMBER
IsPointInRange (RecheckWord trail status expected new) = seq_of trail < WORN_NUMBER
IsPointInRange (Pin trail from to) = (seq_of trail < WORN_NUMBER) × IsGateInRange from × IsGateInRange to
IsPointInRange (Unpin slot seq after) = seq < WORN_NUMBER
IsPointInRange (FreeSlot slot seq after) = seq < WORN_NUMBER
IsPointInRange point = Unit {0}
