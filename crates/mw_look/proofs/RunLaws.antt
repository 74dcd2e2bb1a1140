-- Every run of a read changes only pins and what frees a slot, and stays at its word. It reads under its pin, and gives all
-- back before it replies.
-- Used by: the laws about reads, mw_core.
use Rattle.std.specs.Prelude.{◌≡◌, ℕ, ◌+◌, ◌-◌, ◌==◌, ◌&&◌, ◌⊎◌, Bool, true, false, cond, nat_lt, nat_le, List, [], ◌∷◌, Some, None, IfSome}
use Rattle.std.specs.declared.option.Option.{Option}
use Rattle.std.proofs.Common.{refl, sym, ap, subst, inl, inr, arith}
use Rattle.std.proofs.lemmas.Bool.Decides.{nat_tests}
use Rattle.std.proofs.lemmas.Option.{none-some}
use Rattle.mw_words.specs.declared.limits.TheConstants.{MAX_ENTRIES, MAX_PINS, WORN_NUMBER}
use Rattle.mw_words.specs.declared.gates.Gate.{Gate}
use Rattle.mw_words.specs.declared.words.Word.{Word}
use Rattle.mw_words.specs.declared.words.Word.TheVariants.{Plain, Planted, Held, Dirty}
use Rattle.mw_words.specs.declared.statuses.Status.{Status}
use Rattle.mw_words.specs.declared.replies.Reply.{Reply}
use Rattle.mw_pool.specs.Moves.{Pins, after_pin}
use Rattle.mw_look.specs.declared.observations.Observation.{Observation}
use Rattle.mw_look.specs.declared.observations.Observation.TheVariants.{SawDoor, SawGate, SawWord, SawStatus, SawRow, SawNumber, Won, Lost}
use Rattle.mw_look.specs.declared.points.Trail.{Trail}
use Rattle.mw_look.specs.declared.points.Trail.TheVariants.{Held as ByHeld, Planted as ByPlanted}
use Rattle.mw_look.specs.declared.points.After.{After}
use Rattle.mw_look.specs.declared.points.After.TheVariants.{Again, Answer}
use Rattle.mw_look.specs.declared.points.Point.{Point}
use Rattle.mw_look.specs.declared.points.Point.TheVariants.{ReadDoor, ReadWord, ReadRow, ConfirmWord, ReadGate, Pin, ReadStatus, FindEntry, ReadExpected, ReadNew, RecheckWord, Unpin, FreeSlot, LowerDoor, Replied}
use Rattle.mw_words.specs.declared.places.At.TheVariants.{Gate as AtGate}
use Rattle.mw_look.specs.declared.steps.Kind.TheVariants.{Free as FreeKind}
use Rattle.mw_look.specs.Steps.{Step, place, store}
use Rattle.mw_look.specs.Program.{first, freed, asks_at, asks, reply_at, word_of, slot_of, seq_of, same_word, word_seen, pinned, first_entry, next_entry, resumed, goes}
use Rattle.mw_look.specs.Runs.{after, past, ChangesOnlyPins, ReadsChangeOnlyPins, IsPlaceFor, ReadsStayAtTheirWord, Hold, hold_of, holds_at, IsUnderPin, ReadsAreUnderPin, WinsPin, TakesPinBack, PinsAreHeldUntilTakenBack, if_same, wins_pin, takes_back, takes_last, frees, frees_any, lowers, times, RepliesGiveBack, RepliesStay}
use Rattle.mw_look.proofs.RangeLaws.{either_way}

-- a read keeps its tenant and its address
pub keeps_tenant : (tenant address : ℕ) (observation : List Observation) → (after (first tenant address) observation).tenant ≡ tenant
keeps_tenant tenant address [] = refl
keeps_tenant tenant address (latest ∷ earlier) = keeps_tenant tenant address earlier

pub keeps_address : (tenant address : ℕ) (observation : List Observation) → (after (first tenant address) observation).address ≡ address
keeps_address tenant address [] = refl
keeps_address tenant address (latest ∷ earlier) = keeps_address tenant address earlier

-- the exchange at a Pin has the trail's number and one pin more
abbrev pub PinsOne : Point → Type 0
PinsOne (Pin trail from to) = Pins (seq_of trail) from to
PinsOne point = Unit {0}

some_where : {A : Type 0} (test : Bool) (x : A) (P : A → Type 0) → (test ≡ true → P x) → IfSome (cond test (Some x) None) P
some_where true x P here = here refl
some_where false x P here = tt

pins_after : (gate : Gate) (seq : ℕ) → IfSome (after_pin gate seq) (Pins seq gate)
pins_after gate seq = some_where (gate.taken && nat_le 1 gate.pins && nat_lt gate.pins MAX_PINS && (gate.seq == seq)) _ (Pins seq gate) (λ is. grind (arith, nat_tests, is))

pinned_one : (trail : Trail) (gate : Gate) (next : Option Gate) → IfSome next (Pins (seq_of trail) gate) → PinsOne (pinned trail gate next)
pinned_one trail gate (Some to) is = is
pinned_one trail gate None is = tt

resumed_one : (next : After) → PinsOne (resumed next)
resumed_one Again = tt
resumed_one (Answer value) = tt

word_seen_one : (word : Word) → PinsOne (word_seen word)
word_seen_one (Plain value) = tt
word_seen_one (Dirty slot value) = tt
word_seen_one (Held slot seq) = tt
word_seen_one (Planted worker attempt) = tt

first_entry_one : (trail : Trail) (status : Status) → PinsOne (first_entry trail status)
first_entry_one (ByHeld slot seq) status = tt
first_entry_one (ByPlanted worker attempt row) status = tt

next_entry_one : (trail : Trail) (status : Status) (entry : ℕ) → PinsOne (next_entry trail status entry)
next_entry_one trail status entry = either_way PinsOne (nat_lt entry (MAX_ENTRIES - 1)) _ _ (λ more. tt) (λ last. tt)

goes_one : (address : ℕ) (point : Point) (observation : Observation) → PinsOne point → PinsOne (goes address point observation)
goes_one address ReadDoor (SawDoor door) is = either_way PinsOne door.fault _ _ (λ e. tt) (λ e. tt)
goes_one address ReadWord (SawWord word) is = word_seen_one word
goes_one address (ReadRow worker attempt) (SawRow row) is = tt
goes_one address (ConfirmWord trail) (SawWord word) is = either_way PinsOne (same_word word (word_of trail)) _ _ (λ e. tt) (λ e. tt)
goes_one address (ReadGate trail) (SawGate gate) is =
    either_way PinsOne (nat_lt (seq_of trail) WORN_NUMBER) (pinned trail gate (after_pin gate (seq_of trail))) ReadDoor (λ e. pinned_one trail gate _ (pins_after gate (seq_of trail))) (λ e. tt)
goes_one address (Pin trail from to) Won is = tt
goes_one address (Pin trail from to) Lost is = tt
goes_one address (ReadStatus trail) (SawStatus status) is = first_entry_one trail status
goes_one address (FindEntry trail status entry) (SawNumber number) is =
    either_way PinsOne (number == address) (ReadExpected trail status entry) (next_entry trail status entry) (λ e. tt) (λ e. next_entry_one trail status entry)
goes_one address (ReadExpected trail status entry) (SawNumber expected) is = tt
goes_one address (ReadNew trail status entry expected) (SawNumber new) is = tt
goes_one address (RecheckWord trail status expected new) (SawWord word) is = tt
goes_one address (Unpin slot seq next) (SawGate gate) is = either_way PinsOne (gate.pins == 1) _ _ (λ e. tt) (λ e. resumed_one next)
goes_one address (FreeSlot slot seq next) Won is = tt
goes_one address (LowerDoor next) (SawDoor door) is = resumed_one next
goes_one address point observation is = is

-- the exchanges for which a read asks at a Pin add one pin
pub pins_one : (tenant address : ℕ) (observation : List Observation) → PinsOne (after (first tenant address) observation).point
pins_one tenant address [] = tt
pins_one tenant address (latest ∷ earlier) =
    let read = after (first tenant address) earlier in
    goes_one read.address read.point latest (pins_one tenant address earlier)

own_number : (seq : ℕ) (from to : Gate) → Pins seq from to → Pins from.seq from to
own_number seq from to is = record { was_taken = is.was_taken; was_pinned = is.was_pinned; had_that_number = refl; is_taken = is.is_taken; one_more = is.one_more; same_number = is.same_number }

changes_at : (tenant address : ℕ) (point : Point) → PinsOne point → ChangesOnlyPins (asks_at tenant address point)
changes_at tenant address (Pin trail from to) is = own_number (seq_of trail) from to is
changes_at tenant address (FreeSlot slot seq next) is = (refl, refl, omega arith)
changes_at tenant address point is = tt

pub reads-change-only-pins : ReadsChangeOnlyPins
reads-change-only-pins tenant address observation =
    let read = after (first tenant address) observation in
    changes_at read.tenant read.address read.point (pins_one tenant address observation)

place_at : (tenant address : ℕ) (point : Point) → IsPlaceFor tenant address (place (asks_at tenant address point))
place_at tenant address ReadDoor = refl
place_at tenant address ReadWord = (refl, refl)
place_at tenant address (ConfirmWord trail) = (refl, refl)
place_at tenant address (RecheckWord trail status expected new) = (refl, refl)
place_at tenant address (LowerDoor next) = refl
place_at tenant address (Replied reply) = refl
place_at tenant address point = tt

pub reads-stay-at-their-word : ReadsStayAtTheirWord
reads-stay-at-their-word tenant address observation =
    let read = after (first tenant address) observation in
    let own : IsPlaceFor read.tenant read.address (place (asks read)) = place_at read.tenant read.address read.point in
    let P : ℕ → Type 0 = λ t. IsPlaceFor t read.address (place (asks read)) in
    let Q : ℕ → Type 0 = λ a. IsPlaceFor tenant a (place (asks read)) in
    subst Q (keeps_address tenant address observation) (subst P (keeps_tenant tenant address observation) own)

under_pin_at : (tenant address : ℕ) (point : Point) → IsUnderPin (asks_at tenant address point) (holds_at point)
under_pin_at tenant address (ReadStatus trail) = refl
under_pin_at tenant address (FindEntry trail status entry) = refl
under_pin_at tenant address (ReadExpected trail status entry) = refl
under_pin_at tenant address (ReadNew trail status entry expected) = refl
under_pin_at tenant address (Unpin slot seq next) = refl
under_pin_at tenant address point = tt

pub reads-are-under-pin : ReadsAreUnderPin
reads-are-under-pin tenant address observation =
    let read = after (first tenant address) observation in
    under_pin_at read.tenant read.address read.point

-- how the pin that a read holds goes on after a step
abbrev HoldsOn : Option Hold → Step → Observation → Option Hold → Step → Type 0
HoldsOn before step told later next = (later ≡ before) ⊎ (WinsPin before step told later ⊎ TakesPinBack before step told later next)

resumed_holds : (next : After) → holds_at (resumed next) ≡ None
resumed_holds Again = refl
resumed_holds (Answer value) = refl

word_seen_holds : (word : Word) → holds_at (word_seen word) ≡ None
word_seen_holds (Plain value) = refl
word_seen_holds (Dirty slot value) = refl
word_seen_holds (Held slot seq) = refl
word_seen_holds (Planted worker attempt) = refl

pinned_holds : (trail : Trail) (gate : Gate) (next : Option Gate) → holds_at (pinned trail gate next) ≡ None
pinned_holds trail gate (Some to) = refl
pinned_holds trail gate None = refl

first_entry_holds : (trail : Trail) (status : Status) → holds_at (first_entry trail status) ≡ Some (hold_of trail)
first_entry_holds (ByHeld slot seq) status = refl
first_entry_holds (ByPlanted worker attempt row) status = refl

-- both results of a test hold this pin, so the chosen one does
held_either_way : (held : Option Hold) (test : Bool) (x y : Point) → holds_at x ≡ held → holds_at y ≡ held → holds_at (cond test x y) ≡ held
held_either_way held test x y one other = either_way (λ p. holds_at p ≡ held) test x y (λ e. one) (λ e. other)

unpinned_holds : (gate : Gate) (slot seq : ℕ) (next : After) → holds_at (cond (gate.pins == 1) (FreeSlot slot seq next) (resumed next)) ≡ None
unpinned_holds gate slot seq next = held_either_way None (gate.pins == 1) (FreeSlot slot seq next) (resumed next) refl (resumed_holds next)

unpinned_frees : (tenant address : ℕ) (gate : Gate) (slot seq : ℕ) (next : After) → gate.pins ≡ 1 →
    asks_at tenant address (cond (gate.pins == 1) (FreeSlot slot seq next) (resumed next)) ≡ store FreeKind (AtGate slot) (freed seq)
unpinned_frees tenant address gate slot seq next last =
    either_way (λ p. asks_at tenant address p ≡ store FreeKind (AtGate slot) (freed seq)) (gate.pins == 1) (FreeSlot slot seq next) (resumed next)
    (λ is. refl)
    (λ is_not. absurd (grind (arith, nat_tests, is_not, last)))

holds_on : (tenant address : ℕ) (point : Point) (observation : Observation) → PinsOne point → HoldsOn (holds_at point) (asks_at tenant address point) observation (holds_at (goes address point observation)) (asks_at tenant address (goes address point observation))
holds_on tenant address ReadDoor (SawDoor door) is = inl (held_either_way None door.fault _ _ refl refl)
holds_on tenant address ReadWord (SawWord word) is = inl (word_seen_holds word)
holds_on tenant address (ReadRow worker attempt) (SawRow row) is = inl refl
holds_on tenant address (ConfirmWord trail) (SawWord word) is = inl (held_either_way None (same_word word (word_of trail)) _ _ refl refl)
holds_on tenant address (ReadGate trail) (SawGate gate) is =
    inl (held_either_way None (nat_lt (seq_of trail) WORN_NUMBER) (pinned trail gate (after_pin gate (seq_of trail))) ReadDoor (pinned_holds trail gate _) refl)
holds_on tenant address (Pin trail from to) Won is =
    inr (inl (record { slot = slot_of trail; from = from; to = to; held_none = refl; asked = refl; one_more = own_number (seq_of trail) from to is; won = refl; holds_it = ap (λ n. Some (record { slot = slot_of trail; seq = n })) (sym is.had_that_number) }))
holds_on tenant address (Pin trail from to) Lost is = inl refl
holds_on tenant address (ReadStatus trail) (SawStatus status) is = inl (first_entry_holds trail status)
holds_on tenant address (FindEntry trail status entry) (SawNumber number) is =
    inl (held_either_way (Some (hold_of trail)) (number == address) (ReadExpected trail status entry) (next_entry trail status entry) refl
    (held_either_way (Some (hold_of trail)) (nat_lt entry (MAX_ENTRIES - 1)) (FindEntry trail status (entry + 1)) (Unpin (slot_of trail) (seq_of trail) Again) refl refl))
holds_on tenant address (ReadExpected trail status entry) (SawNumber expected) is = inl refl
holds_on tenant address (ReadNew trail status entry expected) (SawNumber new) is = inl refl
holds_on tenant address (RecheckWord trail status expected new) (SawWord word) is = inl refl
holds_on tenant address (Unpin slot seq next) (SawGate gate) is =
    inr (inr (record { held = record { slot = slot; seq = seq }; found = gate; held_it = refl; asked = refl; saw = refl; holds_none = unpinned_holds gate slot seq next; frees_last = unpinned_frees tenant address gate slot seq next }))
holds_on tenant address (FreeSlot slot seq next) Won is = inl refl
holds_on tenant address (LowerDoor next) (SawDoor door) is = inl (resumed_holds next)
holds_on tenant address point observation is = inl refl

pub pins-are-held-until-taken-back : PinsAreHeldUntilTakenBack
pins-are-held-until-taken-back tenant address observation told =
    let read = after (first tenant address) observation in
    holds_on read.tenant read.address read.point told (pins_one tenant address observation)

-- 1 if the pin is one of this slot, else 0
abbrev held_of : ℕ → Option Hold → ℕ
held_of slot (Some held) = if_same held.slot slot
held_of slot None = 0

-- 1 if the read must free this slot, else 0
abbrev to_free : ℕ → Point → ℕ
to_free slot (FreeSlot other seq next) = if_same other slot
to_free slot point = 0

-- 1 if the read must lower the door, else 0
abbrev to_lower : Point → ℕ
to_lower (LowerDoor next) = 1
to_lower point = 0

-- At a step, what is won and what was held are as many as what is taken back and what is held then.
abbrev Balances : ℕ → ℕ → ℕ → ℕ → Type 0
Balances won was back is = won + was ≡ back + is

balance_same : (n m : ℕ) → n ≡ m → Balances 0 n 0 m
balance_same n m e = ap (λ k. 0 + k) e

pins_balance : (slot tenant address : ℕ) (point : Point) (observation : Observation) →
    Balances (wins_pin slot (asks_at tenant address point) observation) (held_of slot (holds_at point)) (takes_back slot (asks_at tenant address point) observation) (held_of slot (holds_at (goes address point observation)))
pins_balance slot tenant address ReadDoor (SawDoor door) = balance_same _ _ (sym (ap (held_of slot) (held_either_way None door.fault _ _ refl refl)))
pins_balance slot tenant address ReadWord (SawWord word) = balance_same _ _ (sym (ap (held_of slot) (word_seen_holds word)))
pins_balance slot tenant address (ReadRow worker attempt) (SawRow row) = refl
pins_balance slot tenant address (ConfirmWord trail) (SawWord word) = balance_same _ _ (sym (ap (held_of slot) (held_either_way None (same_word word (word_of trail)) _ _ refl refl)))
pins_balance slot tenant address (ReadGate trail) (SawGate gate) =
    balance_same _ _ (sym (ap (held_of slot) (held_either_way None (nat_lt (seq_of trail) WORN_NUMBER) (pinned trail gate (after_pin gate (seq_of trail))) ReadDoor (pinned_holds trail gate _) refl)))
pins_balance slot tenant address (Pin trail from to) Won = omega arith
pins_balance slot tenant address (Pin trail from to) Lost = refl
pins_balance slot tenant address (ReadStatus trail) (SawStatus status) = balance_same _ _ (sym (ap (held_of slot) (first_entry_holds trail status)))
pins_balance slot tenant address (FindEntry trail status entry) (SawNumber number) =
    balance_same _ _ (sym (ap (held_of slot) (held_either_way (Some (hold_of trail)) (number == address) (ReadExpected trail status entry) (next_entry trail status entry) refl
    (held_either_way (Some (hold_of trail)) (nat_lt entry (MAX_ENTRIES - 1)) (FindEntry trail status (entry + 1)) (Unpin (slot_of trail) (seq_of trail) Again) refl refl))))
pins_balance slot tenant address (ReadExpected trail status entry) (SawNumber expected) = refl
pins_balance slot tenant address (ReadNew trail status entry expected) (SawNumber new) = refl
pins_balance slot tenant address (RecheckWord trail status expected new) (SawWord word) = refl
pins_balance slot tenant address (Unpin other seq next) (SawGate gate) =
    let e : held_of slot (holds_at (cond (gate.pins == 1) (FreeSlot other seq next) (resumed next))) ≡ 0 = ap (held_of slot) (unpinned_holds gate other seq next) in
    omega (arith, e)
pins_balance slot tenant address (FreeSlot other seq next) Won = refl
pins_balance slot tenant address (LowerDoor next) (SawDoor door) = balance_same _ _ (sym (ap (held_of slot) (resumed_holds next)))
pins_balance slot tenant address point observation = refl

-- a read has nothing to free where it goes on
none_to_free_resumed : (slot : ℕ) (next : After) → to_free slot (resumed next) ≡ 0
none_to_free_resumed slot Again = refl
none_to_free_resumed slot (Answer value) = refl

none_to_free_seen : (slot : ℕ) (word : Word) → to_free slot (word_seen word) ≡ 0
none_to_free_seen slot (Plain value) = refl
none_to_free_seen slot (Dirty other value) = refl
none_to_free_seen slot (Held other seq) = refl
none_to_free_seen slot (Planted worker attempt) = refl

none_to_free_pinned : (slot : ℕ) (trail : Trail) (gate : Gate) (next : Option Gate) → to_free slot (pinned trail gate next) ≡ 0
none_to_free_pinned slot trail gate (Some to) = refl
none_to_free_pinned slot trail gate None = refl

none_to_free_entry : (slot : ℕ) (trail : Trail) (status : Status) → to_free slot (first_entry trail status) ≡ 0
none_to_free_entry slot (ByHeld other seq) status = refl
none_to_free_entry slot (ByPlanted worker attempt row) status = refl

none_to_free : (slot : ℕ) (test : Bool) (x y : Point) → to_free slot x ≡ 0 → to_free slot y ≡ 0 → to_free slot (cond test x y) ≡ 0
none_to_free slot test x y one other = either_way (λ p. to_free slot p ≡ 0) test x y (λ e. one) (λ e. other)

last_pin_to_free : (slot other seq : ℕ) (next : After) (last : Bool) → Balances (cond last (if_same other slot) 0) 0 0 (to_free slot (cond last (FreeSlot other seq next) (resumed next)))
last_pin_to_free slot other seq next true = omega arith
last_pin_to_free slot other seq next false = balance_same _ _ (sym (none_to_free_resumed slot next))

slots_balance : (slot tenant address : ℕ) (point : Point) (observation : Observation) →
    Balances (takes_last slot (asks_at tenant address point) observation) (to_free slot point) (frees slot (asks_at tenant address point) observation) (to_free slot (goes address point observation))
slots_balance slot tenant address ReadDoor (SawDoor door) = balance_same _ _ (sym (none_to_free slot door.fault _ _ refl refl))
slots_balance slot tenant address ReadWord (SawWord word) = balance_same _ _ (sym (none_to_free_seen slot word))
slots_balance slot tenant address (ReadRow worker attempt) (SawRow row) = refl
slots_balance slot tenant address (ConfirmWord trail) (SawWord word) = balance_same _ _ (sym (none_to_free slot (same_word word (word_of trail)) _ _ refl refl))
slots_balance slot tenant address (ReadGate trail) (SawGate gate) =
    balance_same _ _ (sym (none_to_free slot (nat_lt (seq_of trail) WORN_NUMBER) (pinned trail gate (after_pin gate (seq_of trail))) ReadDoor (none_to_free_pinned slot trail gate _) refl))
slots_balance slot tenant address (Pin trail from to) Won = refl
slots_balance slot tenant address (Pin trail from to) Lost = refl
slots_balance slot tenant address (ReadStatus trail) (SawStatus status) = balance_same _ _ (sym (none_to_free_entry slot trail status))
slots_balance slot tenant address (FindEntry trail status entry) (SawNumber number) =
    balance_same _ _ (sym (none_to_free slot (number == address) (ReadExpected trail status entry) (next_entry trail status entry) refl
    (none_to_free slot (nat_lt entry (MAX_ENTRIES - 1)) (FindEntry trail status (entry + 1)) (Unpin (slot_of trail) (seq_of trail) Again) refl refl)))
slots_balance slot tenant address (ReadExpected trail status entry) (SawNumber expected) = refl
slots_balance slot tenant address (ReadNew trail status entry expected) (SawNumber new) = refl
slots_balance slot tenant address (RecheckWord trail status expected new) (SawWord word) = refl
slots_balance slot tenant address (Unpin other seq next) (SawGate gate) = last_pin_to_free slot other seq next (gate.pins == 1)
slots_balance slot tenant address (FreeSlot other seq next) Won = omega arith
slots_balance slot tenant address (LowerDoor next) (SawDoor door) = balance_same _ _ (sym (none_to_free_resumed slot next))
slots_balance slot tenant address point observation = refl

none_to_lower_resumed : (next : After) → to_lower (resumed next) ≡ 0
none_to_lower_resumed Again = refl
none_to_lower_resumed (Answer value) = refl

none_to_lower_seen : (word : Word) → to_lower (word_seen word) ≡ 0
none_to_lower_seen (Plain value) = refl
none_to_lower_seen (Dirty other value) = refl
none_to_lower_seen (Held other seq) = refl
none_to_lower_seen (Planted worker attempt) = refl

none_to_lower_pinned : (trail : Trail) (gate : Gate) (next : Option Gate) → to_lower (pinned trail gate next) ≡ 0
none_to_lower_pinned trail gate (Some to) = refl
none_to_lower_pinned trail gate None = refl

none_to_lower_entry : (trail : Trail) (status : Status) → to_lower (first_entry trail status) ≡ 0
none_to_lower_entry (ByHeld other seq) status = refl
none_to_lower_entry (ByPlanted worker attempt row) status = refl

none_to_lower : (test : Bool) (x y : Point) → to_lower x ≡ 0 → to_lower y ≡ 0 → to_lower (cond test x y) ≡ 0
none_to_lower test x y one other = either_way (λ p. to_lower p ≡ 0) test x y (λ e. one) (λ e. other)

door_balance : (tenant address : ℕ) (point : Point) (observation : Observation) →
    Balances (frees_any (asks_at tenant address point) observation) (to_lower point) (lowers (asks_at tenant address point) observation) (to_lower (goes address point observation))
door_balance tenant address ReadDoor (SawDoor door) = balance_same _ _ (sym (none_to_lower door.fault _ _ refl refl))
door_balance tenant address ReadWord (SawWord word) = balance_same _ _ (sym (none_to_lower_seen word))
door_balance tenant address (ReadRow worker attempt) (SawRow row) = refl
door_balance tenant address (ConfirmWord trail) (SawWord word) = balance_same _ _ (sym (none_to_lower (same_word word (word_of trail)) _ _ refl refl))
door_balance tenant address (ReadGate trail) (SawGate gate) =
    balance_same _ _ (sym (none_to_lower (nat_lt (seq_of trail) WORN_NUMBER) (pinned trail gate (after_pin gate (seq_of trail))) ReadDoor (none_to_lower_pinned trail gate _) refl))
door_balance tenant address (Pin trail from to) Won = refl
door_balance tenant address (Pin trail from to) Lost = refl
door_balance tenant address (ReadStatus trail) (SawStatus status) = balance_same _ _ (sym (none_to_lower_entry trail status))
door_balance tenant address (FindEntry trail status entry) (SawNumber number) =
    balance_same _ _ (sym (none_to_lower (number == address) (ReadExpected trail status entry) (next_entry trail status entry) refl
    (none_to_lower (nat_lt entry (MAX_ENTRIES - 1)) (FindEntry trail status (entry + 1)) (Unpin (slot_of trail) (seq_of trail) Again) refl refl)))
door_balance tenant address (ReadExpected trail status entry) (SawNumber expected) = refl
door_balance tenant address (ReadNew trail status entry expected) (SawNumber new) = refl
door_balance tenant address (RecheckWord trail status expected new) (SawWord word) = refl
door_balance tenant address (Unpin other seq next) (SawGate gate) = balance_same _ _ (sym (none_to_lower (gate.pins == 1) (FreeSlot other seq next) (resumed next) refl (none_to_lower_resumed next)))
door_balance tenant address (FreeSlot other seq next) Won = refl
door_balance tenant address (LowerDoor next) (SawDoor door) = ap (λ n. 1 + n) (sym (none_to_lower_resumed next))
door_balance tenant address point observation = refl

-- Over a whole run as much was won as was taken back and is held, if this is so at every step.
sums : (gains losses : Step → Observation → ℕ) (open_at : Point → ℕ) →
    ((tenant address : ℕ) (point : Point) (observation : Observation) → Balances (gains (asks_at tenant address point) observation) (open_at point) (losses (asks_at tenant address point) observation) (open_at (goes address point observation))) →
    (tenant address : ℕ) (observation : List Observation) → open_at ReadDoor ≡ 0 →
    times gains (past (first tenant address) observation) ≡ times losses (past (first tenant address) observation) + open_at (after (first tenant address) observation).point
sums gains losses open_at balance tenant address [] none = omega (arith, none)
sums gains losses open_at balance tenant address (latest ∷ earlier) none =
    let read = after (first tenant address) earlier in
    omega (arith, sums gains losses open_at balance tenant address earlier none, balance read.tenant read.address read.point latest)

-- a read that has its reply holds no pin, and has nothing to give back
pin_of_reply : (slot : ℕ) (point : Point) (reply : Reply) → reply_at point ≡ Some reply → held_of slot (holds_at point) ≡ 0
pin_of_reply slot (Replied said) reply is = refl
pin_of_reply slot point reply is = cc

slot_of_reply : (slot : ℕ) (point : Point) (reply : Reply) → reply_at point ≡ Some reply → to_free slot point ≡ 0
slot_of_reply slot (FreeSlot other seq next) reply is = cc
slot_of_reply slot point reply is = refl

door_of_reply : (point : Point) (reply : Reply) → reply_at point ≡ Some reply → to_lower point ≡ 0
door_of_reply (LowerDoor next) reply is = cc
door_of_reply point reply is = refl

pub replies-give-back : RepliesGiveBack
replies-give-back tenant address observation reply is =
    let point = (after (first tenant address) observation).point in
    record {
      pins = λ slot. omega (arith, sums (wins_pin slot) (takes_back slot) (λ p. held_of slot (holds_at p)) (pins_balance slot) tenant address observation refl, pin_of_reply slot point reply is);
      slots = λ slot. omega (arith, sums (takes_last slot) (frees slot) (to_free slot) (slots_balance slot) tenant address observation refl, slot_of_reply slot point reply is);
      door = omega (arith, sums frees_any lowers to_lower door_balance tenant address observation refl, door_of_reply point reply is);
    }

reply_stays : (address : ℕ) (point : Point) (told : Observation) (reply : Reply) → reply_at point ≡ Some reply → reply_at (goes address point told) ≡ Some reply
reply_stays address (Replied said) told reply is = is
reply_stays address point told reply is = absurd (none-some reply is)

pub replies-stay : RepliesStay
replies-stay read told reply is = reply_stays read.address read.point told reply is
