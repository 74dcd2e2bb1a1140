-- Defines whole runs of a read, and claims what holds of every run, whatever its steps find.
-- Used by: many crates from mw_actor on, laws.rt. Laws in the crates above rest on it.
use Rattle.std.specs.Prelude.{ℕ, ◌≡◌, ◌+◌, ◌==◌, ◌≤◌, Bool, true, false, cond, List, [], ◌∷◌, ◌⊎◌, Some, None}
use Rattle.std.specs.declared.option.Option.{Option}
use Rattle.mw_words.specs.declared.places.At.{At}
use Rattle.mw_words.specs.declared.places.At.TheVariants.{Door as AtDoor, Gate as AtGate, Row as AtRow, Data, Status as AtStatus, Count, Addr, Expected, New}
use Rattle.mw_words.specs.declared.gates.Gate.{Gate}
use Rattle.mw_words.specs.declared.words.Word.{Word}
use Rattle.mw_words.specs.declared.words.Word.TheVariants.{Plain, Dirty}
use Rattle.mw_words.specs.declared.statuses.Status.{Status}
use Rattle.mw_words.specs.declared.replies.Reply.{Reply}
use Rattle.mw_words.specs.declared.replies.Reply.TheVariants.{Val as ValueIs}
use Rattle.mw_pool.specs.Moves.{Pins}
use Rattle.mw_look.specs.declared.steps.Kind.TheVariants.{Pin as PinKind, Unpin as UnpinKind, Free as FreeKind, Drop as DropKind}
use Rattle.mw_look.specs.declared.observations.Observation.{Observation}
use Rattle.mw_look.specs.declared.observations.Observation.TheVariants.{SawDoor, SawGate, SawWord, SawStatus, SawRow, SawNumber, Won}
use Rattle.mw_look.specs.declared.points.Trail.{Trail}
use Rattle.mw_look.specs.declared.points.Trail.TheVariants.{Held as ByHeld, Planted as ByPlanted}
use Rattle.mw_look.specs.declared.points.Point.{Point}
use Rattle.mw_look.specs.declared.points.Point.TheVariants.{ReadStatus, FindEntry, ReadExpected, ReadNew, RecheckWord, Unpin}
use Rattle.mw_look.specs.Steps.{Step, Load, Change, place, fetch, store}
use Rattle.mw_look.specs.Program.{Reading, first, asks, tells, replied, freed, word_of, slot_of, seq_of, is_over, value_of}

-- A step that was made: what the read asked for, and what it was told.
pub record Event : Type 0 where
  pub asked : Step
  pub told : Observation

-- a read after these observations, the latest first
abbrev pub after : Reading → List Observation → Reading
after read [] = read
after read (latest ∷ earlier) = tells (after read earlier) latest

-- the steps that it has made by then, the latest first
abbrev pub past : Reading → List Observation → List Event
past read [] = []
past read (latest ∷ earlier) = record { asked = asks (after read earlier); told = latest } ∷ past read earlier

-- A step adds a pin to a gate, takes one back, frees a gate, or counts one slot off a door; or it is a load. It is no
-- call on the file.
abbrev pub ChangesOnlyPins : Step → Type 0
ChangesOnlyPins (Load at) = Unit {0}
ChangesOnlyPins (Change PinKind (AtGate slot) from to) = Pins from.seq from to
ChangesOnlyPins (Change UnpinKind (AtGate slot) from to) = Unit {0}
ChangesOnlyPins (Change FreeKind (AtGate slot) from to) = (to.taken ≡ false) × (to.pins ≡ 0) × (1 ≤ to.seq)
ChangesOnlyPins (Change DropKind (AtDoor tenant) from to) = Unit {0}
ChangesOnlyPins step = ⊥

-- every step of every read is such a step
abbrev pub ReadsChangeOnlyPins : Type 0
ReadsChangeOnlyPins = (tenant address : ℕ) (observation : List Observation) → ChangesOnlyPins (asks (after (first tenant address) observation))

-- The place is no door and no word of another tenant, and no word with another address.
abbrev pub IsPlaceFor : ℕ → ℕ → At → Type 0
IsPlaceFor tenant address (AtDoor other) = other ≡ tenant
IsPlaceFor tenant address (Data other place) = (other ≡ tenant) × (place ≡ address)
IsPlaceFor tenant address at = Unit {0}

-- every step of every read is at such a place
abbrev pub ReadsStayAtTheirWord : Type 0
ReadsStayAtTheirWord = (tenant address : ℕ) (observation : List Observation) → IsPlaceFor tenant address (place (asks (after (first tenant address) observation)))

-- A pin that a read holds: its slot, and the sequence number under which it is held.
pub record Hold : Type 0 where
  pub slot : ℕ
  pub seq : ℕ

-- the pin of a trail's slot
abbrev pub hold_of : Trail → Hold
hold_of trail = record { slot = slot_of trail; seq = seq_of trail }

-- the pin that a read holds at a point: from the load of the status to the step that takes the pin back
abbrev pub holds_at : Point → Option Hold
holds_at (ReadStatus trail) = Some (hold_of trail)
holds_at (FindEntry trail status entry) = Some (hold_of trail)
holds_at (ReadExpected trail status entry) = Some (hold_of trail)
holds_at (ReadNew trail status entry expected) = Some (hold_of trail)
holds_at (RecheckWord trail status expected new) = Some (hold_of trail)
holds_at (Unpin slot seq next) = Some (record { slot = slot; seq = seq })
holds_at point = None

-- the pin that a read holds
abbrev pub holds : Reading → Option Hold
holds read = holds_at read.point

-- this is a pin of this slot
abbrev pub IsHeld : ℕ → Option Hold → Type 0
IsHeld slot (Some held) = held.slot ≡ slot
IsHeld slot None = ⊥

-- The step may be made with this pin, or none. A load of a slot's status, count or entries needs a pin of that slot,
-- and so does the step that takes a pin back.
abbrev pub IsUnderPin : Step → Option Hold → Type 0
IsUnderPin (Load (AtStatus slot)) held = IsHeld slot held
IsUnderPin (Load (Count slot)) held = IsHeld slot held
IsUnderPin (Load (Addr slot entry)) held = IsHeld slot held
IsUnderPin (Load (Expected slot entry)) held = IsHeld slot held
IsUnderPin (Load (New slot entry)) held = IsHeld slot held
IsUnderPin (Change UnpinKind (AtGate slot) from to) held = IsHeld slot held
IsUnderPin step held = Unit {0}

-- every step of every read may be made with the pin that the read holds
abbrev pub ReadsAreUnderPin : Type 0
ReadsAreUnderPin = (tenant address : ℕ) (observation : List Observation) → let read = after (first tenant address) observation in IsUnderPin (asks read) (holds read)

-- A step wins a pin: the read held none, it exchanged the gate for one with one pin more, and holds the pin under the
-- gate's number.
pub record WinsPin (before : Option Hold) (step : Step) (told : Observation) (later : Option Hold) : Type 0 where
  pub slot : ℕ
  pub from : Gate
  pub to : Gate
  pub held_none : before ≡ None
  pub asked : step ≡ Change PinKind (AtGate slot) from to
  pub one_more : Pins from.seq from to
  pub won : told ≡ Won
  pub holds_it : later ≡ Some (record { slot = slot; seq = from.seq })

-- A step takes a pin back: the read held it, took it off the slot's gate, and holds none. If the gate had only this
-- pin, the next step frees the slot, with the number after the pin's.
pub record TakesPinBack (before : Option Hold) (step : Step) (told : Observation) (later : Option Hold) (next : Step) : Type 0 where
  pub held : Hold
  pub found : Gate
  pub held_it : before ≡ Some held
  pub asked : step ≡ fetch UnpinKind (AtGate held.slot)
  pub saw : told ≡ SawGate found
  pub holds_none : later ≡ None
  pub frees_last : found.pins ≡ 1 → next ≡ store FreeKind (AtGate held.slot) (freed held.seq)

-- At every step of every read its pin stays the same, is won, or is taken back.
abbrev pub PinsAreHeldUntilTakenBack : Type 0
PinsAreHeldUntilTakenBack = (tenant address : ℕ) (observation : List Observation) (told : Observation) →
    let read = after (first tenant address) observation in
    let next = tells read told in
    (holds next ≡ holds read) ⊎ (WinsPin (holds read) (asks read) told (holds next) ⊎ TakesPinBack (holds read) (asks read) told (holds next) (asks next))

-- 1 if two slots are the same, else 0
abbrev pub if_same : ℕ → ℕ → ℕ
if_same slot other = cond (slot == other) 1 0

-- 1 if the step wins a pin of this slot, else 0
abbrev pub wins_pin : ℕ → Step → Observation → ℕ
wins_pin slot (Change PinKind (AtGate other) from to) Won = if_same other slot
wins_pin slot step told = 0

-- 1 if the step takes back a pin of this slot, else 0
abbrev pub takes_back : ℕ → Step → Observation → ℕ
takes_back slot (Change UnpinKind (AtGate other) from to) (SawGate gate) = if_same other slot
takes_back slot step told = 0

-- 1 if the step takes back the last pin of this slot, else 0
abbrev pub takes_last : ℕ → Step → Observation → ℕ
takes_last slot (Change UnpinKind (AtGate other) from to) (SawGate gate) = cond (gate.pins == 1) (if_same other slot) 0
takes_last slot step told = 0

-- 1 if the step frees this slot, else 0
abbrev pub frees : ℕ → Step → Observation → ℕ
frees slot (Change FreeKind (AtGate other) from to) Won = if_same other slot
frees slot step told = 0

-- 1 if the step frees any slot, else 0
abbrev pub frees_any : Step → Observation → ℕ
frees_any (Change FreeKind (AtGate slot) from to) Won = 1
frees_any step told = 0

-- 1 if the step counts a slot off the door, else 0
abbrev pub lowers : Step → Observation → ℕ
lowers (Change DropKind (AtDoor tenant) from to) (SawDoor door) = 1
lowers step told = 0

-- the sum of what is counted over these steps
abbrev pub times : (Step → Observation → ℕ) → List Event → ℕ
times counts [] = 0
times counts (latest ∷ earlier) = counts latest.asked latest.told + times counts earlier

-- All is given back. For each slot: as many pins were taken back as were won, and the slot was freed as often as its
-- last pin was taken back. The door was lowered as often as a slot was freed.
pub record AllIsGivenBack (events : List Event) : Type 0 where
  pub pins : (slot : ℕ) → times (wins_pin slot) events ≡ times (takes_back slot) events
  pub slots : (slot : ℕ) → times (takes_last slot) events ≡ times (frees slot) events
  pub door : times frees_any events ≡ times lowers events

-- a read that has its reply has given all back
abbrev pub RepliesGiveBack : Type 0
RepliesGiveBack = (tenant address : ℕ) (observation : List Observation) (reply : Reply) → replied (after (first tenant address) observation) ≡ Some reply → AllIsGivenBack (past (first tenant address) observation)

-- a read keeps its reply, whatever it is told
abbrev pub RepliesStay : Type 0
RepliesStay = (read : Reading) (told : Observation) (reply : Reply) → replied read ≡ Some reply → replied (tells read told) ≡ Some reply

-- the step loads a door
abbrev pub loads_door : Step → Bool
loads_door (Load (AtDoor tenant)) = true
loads_door step = false

-- the steps since the last load of the door
abbrev pub this_try : List Event → List Event
this_try [] = []
this_try (latest ∷ earlier) = cond (loads_door latest.asked) [] (latest ∷ this_try earlier)

-- These steps happened in this order, the latest first; other steps may be before, between and after them.
abbrev pub Happened : List Event → List Event → Type 0
Happened [] events = Unit {0}
Happened (event ∷ before) [] = ⊥
Happened (event ∷ before) (latest ∷ earlier) = ((event ≡ latest) × Happened before earlier) ⊎ Happened (event ∷ before) earlier

-- a load of a place, with what the read was told
abbrev pub loaded : At → Observation → Event
loaded at told = record { asked = Load at; told = told }

-- The word itself has this value.
abbrev pub Says : Word → ℕ → Type 0
Says (Plain found) value = found ≡ value
Says (Dirty slot found) value = found ≡ value
Says word value = ⊥

-- The latest step loaded the word, and the word itself has this value.
pub record JustLoaded (tenant address value : ℕ) (latest : Event) : Type 0 where
  pub word : Word
  pub loads_it : latest ≡ loaded (Data tenant address) (SawWord word)
  pub says_it : Says word value

-- The read found the word's entry: the entry's address is the word's, or the row of the word's attempt names the
-- entry.
abbrev pub IsEntryFound : ℕ → Trail → ℕ → List Event → Type 0
IsEntryFound address (ByHeld slot seq) entry events = Happened (loaded (Addr slot entry) (SawNumber address) ∷ []) events
IsEntryFound address (ByPlanted worker attempt row) entry events = (row.entry ≡ entry) × Happened (loaded (AtRow worker) (SawRow row) ∷ []) events

-- The read loaded the word, then its slot's status, its entry's expected value and its new value, and then the same
-- word again. The status doesn't say that the word was held by a change that is made and done. The value is the one
-- that the status and the entry tell.
pub record SeenAgain (tenant address value : ℕ) (events : List Event) : Type 0 where
  pub trail : Trail
  pub status : Status
  pub entry : ℕ
  pub expected : ℕ
  pub new : ℕ
  pub order : Happened (
      loaded (Data tenant address) (SawWord (word_of trail)) ∷
      loaded (New (slot_of trail) entry) (SawNumber new) ∷
      loaded (Expected (slot_of trail) entry) (SawNumber expected) ∷
      loaded (AtStatus (slot_of trail)) (SawStatus status) ∷
      loaded (Data tenant address) (SawWord (word_of trail)) ∷ []) events
  pub entry_found : IsEntryFound address trail entry events
  pub not_over : is_over trail status ≡ false
  pub value_is : value ≡ value_of trail status expected new

-- If a read gets a value as its reply, the word was just loaded and has the value; or, since the last load of the
-- door, the word was seen again after all loads that tell its value.
abbrev pub RepliesAreOfTheWord : Type 0
RepliesAreOfTheWord = (tenant address value : ℕ) (observation : List Observation) (told : Observation) →
    let read = after (first tenant address) observation in
    replied read ≡ None → replied (tells read told) ≡ Some (ValueIs value) →
    JustLoaded tenant address value (record { asked = asks read; told = told }) ⊎ SeenAgain tenant address value (this_try (past (first tenant address) observation))
