-- What the steps of a read have found is evidence for the reason for which it begins again. Used by: ReadRoundLaws.
use Rattle.std.specs.Prelude.{ℕ, ◌≡◌, ◌+◌, ◌-◌, ◌==◌, Bool, true, false, cond, nat_lt, List, [], ◌∷◌, Option, Some, None, IfSome}
use Rattle.std.specs.Option.{option_or}
use Rattle.std.proofs.Common.{refl, inl, inr}
use Rattle.mw_words.specs.declared.limits.TheConstants.{MAX_ENTRIES, WORN_NUMBER}
use Rattle.mw_words.specs.declared.gates.Gate.{Gate}
use Rattle.mw_words.specs.declared.places.At.TheVariants.{Gate as AtGate, Data, Status as AtStatus, Addr}
use Rattle.mw_words.specs.declared.statuses.Status.{Status}
use Rattle.mw_words.specs.declared.words.Word.{Word}
use Rattle.mw_words.specs.declared.words.Word.TheVariants.{Plain, Planted, Held, Dirty}
use Rattle.mw_look.specs.declared.observations.Observation.{Observation}
use Rattle.mw_look.specs.declared.observations.Observation.TheVariants.{SawGate, SawWord, SawStatus, SawNumber, Won, Lost}
use Rattle.mw_look.specs.declared.points.After.{After}
use Rattle.mw_look.specs.declared.points.After.TheVariants.{Again, Answer}
use Rattle.mw_look.specs.declared.points.Point.{Point}
use Rattle.mw_look.specs.declared.points.Point.TheVariants.{ReadDoor, ReadWord, ReadRow, ConfirmWord, ReadGate, Pin, ReadStatus, FindEntry, ReadExpected, ReadNew, RecheckWord, Unpin, FreeSlot, LowerDoor, Replied}
use Rattle.mw_look.specs.declared.points.Trail.{Trail}
use Rattle.mw_look.specs.declared.points.Trail.TheVariants.{Held as ByHeld, Planted as ByPlanted}
use Rattle.mw_look.specs.Places.{pack}
use Rattle.mw_look.specs.Program.{asks_at, first_entry, goes, next_entry, pinned, resumed, same_word, seq_of, slot_of, word_of, word_seen}
use Rattle.mw_look.specs.Runs.{Event, Happened, loaded}
use Rattle.mw_look.proofs.RangeLaws.{either_way}
use Rattle.mw_world.specs.Definition.Cells.{Cells, read}
use Rattle.mw_table.specs.FromRule.{is_as_named}
use Rattle.mw_core.specs.declared.read_rounds.WhyAgain.{WhyAgain}
use Rattle.mw_core.specs.declared.read_rounds.WhyAgain.TheVariants.{WordChanged, GateDiffers, PinLost}
use Rattle.mw_core.specs.ReadRounds.{is_under_way}
use Rattle.mw_core.specs.Reasons.{Because, IsRowLoaded, Names, gate_turns, turns, word_turns}
use Rattle.mw_core.proofs.StepsLeft.{found_at}

-- the step at a point, and what it was told
abbrev pub made_at : ℕ → ℕ → Point → Observation → Event
made_at tenant address point told = record { asked = asks_at tenant address point; told = told }

-- The word that names the slot was loaded, and then the slot's status.
pub record Told (tenant address : ℕ) (trail : Trail) (status : Status) (events : List Event) : Type 0 where
  pub names : Names tenant address trail events
  pub order : Happened (loaded (AtStatus (slot_of trail)) (SawStatus status) ∷ loaded (Data tenant address) (SawWord (word_of trail)) ∷ []) events

-- The gate was loaded too.
pub record AtItsGate (tenant address : ℕ) (trail : Trail) (gate : Gate) (events : List Event) : Type 0 where
  pub names : Names tenant address trail events
  pub gate_loaded : Happened (loaded (AtGate (slot_of trail)) (SawGate gate) ∷ []) events

-- what has been found when the read is at a point
abbrev pub Seen : ℕ → ℕ → Point → List Event → Type 0
Seen tenant address (ReadRow worker attempt) events = Happened (loaded (Data tenant address) (SawWord (Planted worker attempt)) ∷ []) events
Seen tenant address (ConfirmWord trail) events = Names tenant address trail events
Seen tenant address (ReadGate trail) events = Names tenant address trail events
Seen tenant address (Pin trail from to) events = AtItsGate tenant address trail from events
Seen tenant address (ReadStatus trail) events = Names tenant address trail events
Seen tenant address (FindEntry trail status entry) events = Told tenant address trail status events
Seen tenant address (ReadExpected trail status entry) events = Told tenant address trail status events
Seen tenant address (ReadNew trail status entry expected) events = Told tenant address trail status events
Seen tenant address (RecheckWord trail status expected new) events = Told tenant address trail status events
Seen tenant address point events = Unit {0}

row_more : (trail : Trail) (events : List Event) (latest : Event) → IsRowLoaded trail events → IsRowLoaded trail (latest ∷ events)
row_more (ByHeld slot seq) events latest h = tt
row_more (ByPlanted worker attempt row) events latest h = inr h

names_more : (tenant address : ℕ) (trail : Trail) (events : List Event) (latest : Event) → Names tenant address trail events → Names tenant address trail (latest ∷ events)
names_more tenant address trail events latest h = record { word = inr h.word; row = row_more trail events latest h.row }

told_more : (tenant address : ℕ) (trail : Trail) (status : Status) (events : List Event) (latest : Event) → Told tenant address trail status events → Told tenant address trail status (latest ∷ events)
told_more tenant address trail status events latest h = record { names = names_more tenant address trail events latest h.names; order = inr h.order }

word_now : (tenant address : ℕ) (word : Word) (events : List Event) → Seen tenant address (word_seen word) (loaded (Data tenant address) (SawWord word) ∷ events)
word_now tenant address (Plain value) events = tt
word_now tenant address (Dirty slot value) events = tt
word_now tenant address (Held slot seq) events = record { word = inl (refl, tt); row = tt }
word_now tenant address (Planted worker attempt) events = inl (refl, tt)

pinned_now : (tenant address : ℕ) (trail : Trail) (gate : Gate) (to : Option Gate) (events : List Event) → Names tenant address trail events
    → Seen tenant address (pinned trail gate to) (loaded (AtGate (slot_of trail)) (SawGate gate) ∷ events)
pinned_now tenant address trail gate (Some to) events h = record { names = names_more tenant address trail events _ h; gate_loaded = inl (refl, tt) }
pinned_now tenant address trail gate None events h = tt

gate_now : (tenant address : ℕ) (low : Bool) (trail : Trail) (gate : Gate) (to : Option Gate) (events : List Event) → Names tenant address trail events
    → Seen tenant address (cond low (pinned trail gate to) ReadDoor) (loaded (AtGate (slot_of trail)) (SawGate gate) ∷ events)
gate_now tenant address true trail gate to events h = pinned_now tenant address trail gate to events h
gate_now tenant address false trail gate to events h = tt

pin_now : (tenant address : ℕ) (trail : Trail) (from to : Gate) (wins : Bool) (events : List Event) (latest : Event) → AtItsGate tenant address trail from events
    → Seen tenant address (goes address (Pin trail from to) (cond wins Won Lost)) (latest ∷ events)
pin_now tenant address trail from to true events latest h = names_more tenant address trail events latest h.names
pin_now tenant address trail from to false events latest h = tt

first_now : (tenant address : ℕ) (trail : Trail) (status : Status) (events : List Event) → Names tenant address trail events
    → Seen tenant address (first_entry trail status) (loaded (AtStatus (slot_of trail)) (SawStatus status) ∷ events)
first_now tenant address (ByHeld slot seq) status events h = record { names = names_more tenant address (ByHeld slot seq) events _ h; order = inl (refl, h.word) }
first_now tenant address (ByPlanted worker attempt row) status events h = record { names = names_more tenant address (ByPlanted worker attempt row) events _ h; order = inl (refl, h.word) }

entry_now : (tenant address : ℕ) (trail : Trail) (status : Status) (entry number : ℕ) (events : List Event) → Told tenant address trail status events
    → Seen tenant address (goes address (FindEntry trail status entry) (SawNumber number)) (loaded (Addr (slot_of trail) entry) (SawNumber number) ∷ events)
entry_now tenant address trail status entry number events h =
    let now = loaded (Addr (slot_of trail) entry) (SawNumber number) ∷ events in
    either_way (λ point. Seen tenant address point now) (number == address) (ReadExpected trail status entry) (next_entry trail status entry)
    (λ own. told_more tenant address trail status events _ h)
    (λ apart. either_way (λ point. Seen tenant address point now) (nat_lt entry (MAX_ENTRIES - 1)) (FindEntry trail status (entry + 1)) (Unpin (slot_of trail) (seq_of trail) Again)
    (λ more. told_more tenant address trail status events _ h) (λ last. tt))

unpin_now : (tenant address slot seq : ℕ) (next : After) (last : Bool) (events : List Event) → Seen tenant address (cond last (FreeSlot slot seq next) (resumed next)) events
unpin_now tenant address slot seq Again true events = tt
unpin_now tenant address slot seq (Answer value) true events = tt
unpin_now tenant address slot seq Again false events = tt
unpin_now tenant address slot seq (Answer value) false events = tt

resumed_now : (tenant address : ℕ) (next : After) (events : List Event) → Seen tenant address (resumed next) events
resumed_now tenant address Again events = tt
resumed_now tenant address (Answer value) events = tt

-- What was found stays, and what the next step finds is added.
pub sees_on : (tenant address : ℕ) (point : Point) (cells : Cells) (events : List Event) → is_under_way point ≡ true → Seen tenant address point events
    → Seen tenant address (goes address point (found_at tenant address point cells)) (made_at tenant address point (found_at tenant address point cells) ∷ events)
sees_on tenant address ReadDoor cells events on h = absurd (cc)
sees_on tenant address ReadWord cells events on h = word_now tenant address (read cells (Data tenant address)) events
sees_on tenant address (ReadRow worker attempt) cells events on h = record { word = inr h; row = inl (refl, tt) }
sees_on tenant address (ConfirmWord trail) cells events on h =
    let word = read cells (Data tenant address) in
    either_way (λ point. Seen tenant address point (loaded (Data tenant address) (SawWord word) ∷ events)) (same_word word (word_of trail)) (ReadGate trail) ReadDoor
    (λ same. names_more tenant address trail events _ h) (λ apart. tt)
sees_on tenant address (ReadGate trail) cells events on h = gate_now tenant address (nat_lt (seq_of trail) WORN_NUMBER) trail (read cells (AtGate (slot_of trail))) _ events h
sees_on tenant address (Pin trail from to) cells events on h =
    let wins = pack (AtGate (slot_of trail)) (read cells (AtGate (slot_of trail))) == pack (AtGate (slot_of trail)) from in
    pin_now tenant address trail from to wins events (made_at tenant address (Pin trail from to) (cond wins Won Lost)) h
sees_on tenant address (ReadStatus trail) cells events on h = first_now tenant address trail (read cells (AtStatus (slot_of trail))) events h
sees_on tenant address (FindEntry trail status entry) cells events on h = entry_now tenant address trail status entry (read cells (Addr (slot_of trail) entry)) events h
sees_on tenant address (ReadExpected trail status entry) cells events on h = told_more tenant address trail status events _ h
sees_on tenant address (ReadNew trail status entry expected) cells events on h = told_more tenant address trail status events _ h
sees_on tenant address (RecheckWord trail status expected new) cells events on h = tt
sees_on tenant address (Unpin slot seq next) cells events on h = unpin_now tenant address slot seq next ((read cells (AtGate slot)).pins == 1) (made_at tenant address (Unpin slot seq next) (SawGate (read cells (AtGate slot))) ∷ events)
sees_on tenant address (FreeSlot slot seq next) cells events on h = tt
sees_on tenant address (LowerDoor next) cells events on h = resumed_now tenant address next (made_at tenant address (LowerDoor next) (found_at tenant address (LowerDoor next) cells) ∷ events)
sees_on tenant address (Replied reply) cells events on h = absurd (cc)

-- A reason stays one, whatever follows.
pub because_more : (why : WhyAgain) (tenant address : ℕ) (events : List Event) (latest : Event) → Because why tenant address events → Because why tenant address (latest ∷ events)
because_more WordChanged tenant address events latest h = record { first = h.first; later = h.later; order = inr h.order; apart = h.apart }
because_more GateDiffers tenant address events latest h =
    (record { trail = h.0.trail; gate = h.0.gate; names = names_more tenant address h.0.trail events latest h.0.names; loads_it = inr h.0.loads_it }, h.1)
because_more PinLost tenant address events latest h =
    record { trail = h.trail; from = h.from; to = h.to; names = names_more tenant address h.trail events latest h.names; order = inr h.order }

-- what is said of a reason, if there is one
abbrev pub Tells : ℕ → ℕ → List Event → Option WhyAgain → Type 0
Tells tenant address events why = IfSome why (λ one. Because one tenant address events)

gate_because : (tenant address : ℕ) (trail : Trail) (gate : Gate) (events : List Event) → Names tenant address trail events
    → Tells tenant address (loaded (AtGate (slot_of trail)) (SawGate gate) ∷ events) (gate_turns trail gate)
gate_because tenant address trail gate events h =
    let now = loaded (AtGate (slot_of trail)) (SawGate gate) ∷ events in
    either_way (Tells tenant address now) (is_as_named gate (seq_of trail)) None (Some GateDiffers) (λ named. tt)
    (λ differs. (record { trail = trail; gate = gate; names = names_more tenant address trail events _ h; loads_it = inl (refl, tt) }, differs))

pin_because : (tenant address : ℕ) (trail : Trail) (from to : Gate) (wins : Bool) (events : List Event) → AtItsGate tenant address trail from events
    → Tells tenant address (made_at tenant address (Pin trail from to) (cond wins Won Lost) ∷ events) (turns (Pin trail from to) (cond wins Won Lost))
pin_because tenant address trail from to true events h = tt
pin_because tenant address trail from to false events h =
    record { trail = trail; from = from; to = to; names = names_more tenant address trail events _ h.names; order = inl (refl, h.gate_loaded) }

-- The word was loaded again, and was another one.
word_because : (tenant address : ℕ) (trail : Trail) (word : Word) (events : List Event) → Names tenant address trail events
    → Tells tenant address (loaded (Data tenant address) (SawWord word) ∷ events) (word_turns trail word)
word_because tenant address trail word events h =
    either_way (Tells tenant address (loaded (Data tenant address) (SawWord word) ∷ events)) (same_word word (word_of trail)) None (Some WordChanged) (λ same. tt)
    (λ apart. record { first = word_of trail; later = word; order = inl (refl, h.word); apart = apart })

-- If a read turns back, this is why.
pub turns_because : (tenant address : ℕ) (point : Point) (cells : Cells) (events : List Event) → is_under_way point ≡ true → Seen tenant address point events
    → Tells tenant address (made_at tenant address point (found_at tenant address point cells) ∷ events) (turns point (found_at tenant address point cells))
turns_because tenant address ReadDoor cells events on h = absurd (cc)
turns_because tenant address ReadWord cells events on h = tt
turns_because tenant address (ReadRow worker attempt) cells events on h = tt
turns_because tenant address (ConfirmWord trail) cells events on h = word_because tenant address trail (read cells (Data tenant address)) events h
turns_because tenant address (ReadGate trail) cells events on h = gate_because tenant address trail (read cells (AtGate (slot_of trail))) events h
turns_because tenant address (Pin trail from to) cells events on h =
    pin_because tenant address trail from to (pack (AtGate (slot_of trail)) (read cells (AtGate (slot_of trail))) == pack (AtGate (slot_of trail)) from) events h
turns_because tenant address (ReadStatus trail) cells events on h = tt
turns_because tenant address (FindEntry trail status entry) cells events on h = tt
turns_because tenant address (ReadExpected trail status entry) cells events on h = tt
turns_because tenant address (ReadNew trail status entry expected) cells events on h = tt
turns_because tenant address (RecheckWord trail status expected new) cells events on h = word_because tenant address trail (read cells (Data tenant address)) events h.names
turns_because tenant address (Unpin slot seq next) cells events on h = tt
turns_because tenant address (FreeSlot slot seq next) cells events on h = tt
turns_because tenant address (LowerDoor next) cells events on h = tt
turns_because tenant address (Replied reply) cells events on h = absurd (cc)

-- either of two reasons, if there is one
pub tells_either : (tenant address : ℕ) (events : List Event) (one other : Option WhyAgain) → Tells tenant address events one → Tells tenant address events other → Tells tenant address events (option_or one other)
tells_either tenant address events None other first second = second
tells_either tenant address events (Some why) other first second = first

pub tells_more : (tenant address : ℕ) (events : List Event) (latest : Event) (why : Option WhyAgain) → Tells tenant address events why → Tells tenant address (latest ∷ events) why
tells_more tenant address events latest None told = tt
tells_more tenant address events latest (Some why) told = because_more why tenant address events latest told
