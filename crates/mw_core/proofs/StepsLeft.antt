-- Each step of a read leaves fewer steps to the end of its round, and a read that turns back has a reason.
-- Used by: Core::try_look.
use Rattle.std.specs.Prelude.{ℕ, ◌≡◌, ◌≤◌, ◌<◌, ◌+◌, ◌-◌, ◌==◌, ◌&&◌, Bool, true, false, cond, not, is_some, nat_le, nat_lt, Option, Some, None}
use Rattle.std.specs.Option.{option_or}
use Rattle.std.proofs.Common.{refl, arith}
use Rattle.std.proofs.lemmas.Bool.Decides.{nat_tests}
use Rattle.mw_words.specs.declared.limits.TheConstants.{MAX_ENTRIES, MAX_PINS, WORN_NUMBER}
use Rattle.mw_words.specs.declared.gates.Gate.{Gate}
use Rattle.mw_words.specs.declared.places.At.TheVariants.{Gate as AtGate, Data, Status as AtStatus, Addr}
use Rattle.mw_words.specs.declared.statuses.Status.{Status}
use Rattle.mw_words.specs.declared.words.Word.{Word}
use Rattle.mw_words.specs.declared.words.Word.TheVariants.{Plain, Planted, Held, Dirty}
use Rattle.mw_look.specs.declared.observations.Observation.{Observation}
use Rattle.mw_look.specs.declared.observations.Observation.TheVariants.{Won, Lost}
use Rattle.mw_look.specs.declared.points.After.{After}
use Rattle.mw_look.specs.declared.points.After.TheVariants.{Again, Answer}
use Rattle.mw_look.specs.declared.points.Point.{Point}
use Rattle.mw_look.specs.declared.points.Point.TheVariants.{ReadDoor, ReadWord, ReadRow, ConfirmWord, ReadGate, Pin, ReadStatus, FindEntry, ReadExpected, ReadNew, RecheckWord, Unpin, FreeSlot, LowerDoor, Replied}
use Rattle.mw_look.specs.declared.points.Trail.{Trail}
use Rattle.mw_look.specs.declared.points.Trail.TheVariants.{Held as ByHeld, Planted as ByPlanted}
use Rattle.mw_look.specs.Places.{pack}
use Rattle.mw_look.specs.Program.{asks_at, first_entry, goes, is_over, next_entry, pinned, resumed, same_word, seq_of, slot_of, value_of, word_of, word_seen}
use Rattle.mw_look.proofs.RangeLaws.{either_way}
use Rattle.mw_world.specs.Definition.Cells.{Cells, read}
use Rattle.mw_world.specs.Definition.Changes.{done}
use Rattle.mw_table.specs.FromRule.{FindsItsWay}
use Rattle.mw_core.specs.declared.read_rounds.WhyAgain.{WhyAgain}
use Rattle.mw_core.specs.declared.read_rounds.WhyAgain.TheVariants.{WordChanged, GateDiffers}
use Rattle.mw_core.specs.ReadRounds.{is_under_way}
use Rattle.mw_core.specs.Reasons.{turns}

-- what the step at a point finds in some shared words
abbrev pub found_at : ℕ → ℕ → Point → Cells → Observation
found_at tenant address point cells = done (asks_at tenant address point) cells (λ after observation. observation)

-- how many entries the read may look at
abbrev many : Trail → ℕ
many (ByHeld slot seq) = MAX_ENTRIES
many (ByPlanted worker attempt row) = 0

-- how many steps are left, at the most, until the reply or the first point
abbrev pub left : Point → ℕ
left ReadDoor = 0
left ReadWord = 10 + MAX_ENTRIES
left (ReadRow worker attempt) = 11
left (ConfirmWord trail) = 10 + many trail
left (ReadGate trail) = 9 + many trail
left (Pin trail from to) = 8 + many trail
left (ReadStatus trail) = 7 + many trail
left (FindEntry trail status entry) = 7 + (MAX_ENTRIES - 1 - entry)
left (ReadExpected trail status entry) = 6
left (ReadNew trail status entry expected) = 5
left (RecheckWord trail status expected new) = 4
left (Unpin slot seq next) = 3
left (FreeSlot slot seq next) = 2
left (LowerDoor next) = 1
left (Replied reply) = 0

low_either : (test : Bool) (one other : Point) (n : ℕ) → left one < n → left other < n → left (cond test one other) < n
low_either test one other n low lower = either_way (λ point. left point < n) test one other (λ e. low) (λ e. lower)

low_word : (word : Word) → left (word_seen word) < 10 + MAX_ENTRIES
low_word (Plain value) = omega arith
low_word (Dirty slot value) = omega arith
low_word (Held slot seq) = omega arith
low_word (Planted worker attempt) = omega arith

low_pinned : (trail : Trail) (gate : Gate) (to : Option Gate) → left (pinned trail gate to) < 9 + many trail
low_pinned trail gate (Some to) = omega arith
low_pinned trail gate None = omega arith

low_gate : (low : Bool) (trail : Trail) (gate : Gate) (to : Option Gate) → left (cond low (pinned trail gate to) ReadDoor) < 9 + many trail
low_gate true trail gate to = low_pinned trail gate to
low_gate false trail gate to = omega arith

low_pin : (address : ℕ) (trail : Trail) (from to : Gate) (wins : Bool) → left (goes address (Pin trail from to) (cond wins Won Lost)) < 8 + many trail
low_pin address trail from to true = omega arith
low_pin address trail from to false = omega arith

low_first : (trail : Trail) (status : Status) → left (first_entry trail status) < 7 + many trail
low_first (ByHeld slot seq) status = omega arith
low_first (ByPlanted worker attempt row) status = omega arith

low_next : (trail : Trail) (status : Status) (entry : ℕ) → left (next_entry trail status entry) < 7 + (MAX_ENTRIES - 1 - entry)
low_next trail status entry =
    either_way (λ point. left point < 7 + (MAX_ENTRIES - 1 - entry)) (nat_lt entry (MAX_ENTRIES - 1)) (FindEntry trail status (entry + 1)) (Unpin (slot_of trail) (seq_of trail) Again)
    (λ e. let low : entry < MAX_ENTRIES - 1 = grind (arith, nat_tests, e) in omega (arith, low)) (λ e. omega arith)

low_resumed : (next : After) → left (resumed next) < 1
low_resumed Again = omega arith
low_resumed (Answer value) = omega arith

-- Each step leaves fewer.
pub falls : (tenant address : ℕ) (point : Point) (cells : Cells) → is_under_way point ≡ true → left (goes address point (found_at tenant address point cells)) < left point
falls tenant address ReadDoor cells on = absurd (cc)
falls tenant address ReadWord cells on = low_word (read cells (Data tenant address))
falls tenant address (ReadRow worker attempt) cells on = omega arith
falls tenant address (ConfirmWord trail) cells on = low_either (same_word (read cells (Data tenant address)) (word_of trail)) (ReadGate trail) ReadDoor (10 + many trail) (omega arith) (omega arith)
falls tenant address (ReadGate trail) cells on = low_gate (nat_lt (seq_of trail) WORN_NUMBER) trail (read cells (AtGate (slot_of trail))) _
falls tenant address (Pin trail from to) cells on = low_pin address trail from to (pack (AtGate (slot_of trail)) (read cells (AtGate (slot_of trail))) == pack (AtGate (slot_of trail)) from)
falls tenant address (ReadStatus trail) cells on = low_first trail (read cells (AtStatus (slot_of trail)))
falls tenant address (FindEntry trail status entry) cells on =
    low_either (read cells (Addr (slot_of trail) entry) == address) (ReadExpected trail status entry) (next_entry trail status entry) (7 + (MAX_ENTRIES - 1 - entry)) (omega arith) (low_next trail status entry)
falls tenant address (ReadExpected trail status entry) cells on = omega arith
falls tenant address (ReadNew trail status entry expected) cells on = omega arith
falls tenant address (RecheckWord trail status expected new) cells on = omega arith
falls tenant address (Unpin slot seq next) cells on =
    let low = low_resumed next in low_either ((read cells (AtGate slot)).pins == 1) (FreeSlot slot seq next) (resumed next) 3 (omega arith) (omega (arith, low))
falls tenant address (FreeSlot slot seq next) cells on = omega arith
falls tenant address (LowerDoor next) cells on = low_resumed next
falls tenant address (Replied reply) cells on = absurd (cc)

-- A read is on its way back, or is back.
abbrev pub is_back : Point → Bool
is_back ReadDoor = true
is_back (Unpin slot seq Again) = true
is_back (FreeSlot slot seq Again) = true
is_back (LowerDoor Again) = true
is_back point = false

back_word : (word : Word) → is_back (word_seen word) ≡ true → ⊥
back_word (Plain value) is = cc
back_word (Dirty slot value) is = cc
back_word (Held slot seq) is = cc
back_word (Planted worker attempt) is = cc

back_first : (trail : Trail) (status : Status) → is_back (first_entry trail status) ≡ true → ⊥
back_first (ByHeld slot seq) status is = cc
back_first (ByPlanted worker attempt row) status is = cc

back_confirm : (trail : Trail) (same : Bool) (why : Option WhyAgain) → is_back (cond same (ReadGate trail) ReadDoor) ≡ true → is_some (option_or (cond same None (Some WordChanged)) why) ≡ true
back_confirm trail true why is = absurd (cc)
back_confirm trail false why is = refl

-- The gate of a read has room for a pin, and a number that isn't worn.
back_gate : (trail : Trail) (gate to : Gate) (low taken pinned_once room same : Bool) (why : Option WhyAgain) → low ≡ true → room ≡ true
    → is_back (cond low (pinned trail gate (cond (taken && pinned_once && room && same) (Some to) None)) ReadDoor) ≡ true
    → is_some (option_or (cond (taken && pinned_once && same) None (Some GateDiffers)) why) ≡ true
back_gate trail gate to low false pinned_once room same why is_low has_room is = refl
back_gate trail gate to low true false room same why is_low has_room is = refl
back_gate trail gate to low true true room false why is_low has_room is = refl
back_gate trail gate to true true true true true why is_low has_room is = absurd (cc)
back_gate trail gate to true true true false true why is_low has_room is = absurd (cc)
back_gate trail gate to false true true room true why is_low has_room is = absurd (cc)

back_pin : (address : ℕ) (trail : Trail) (from to : Gate) (wins : Bool) (why : Option WhyAgain) → is_back (goes address (Pin trail from to) (cond wins Won Lost)) ≡ true
    → is_some (option_or (turns (Pin trail from to) (cond wins Won Lost)) why) ≡ true
back_pin address trail from to true why is = absurd (cc)
back_pin address trail from to false why is = refl

-- If the read comes to the last possible entry, that one is the word's.
back_entry : (trail : Trail) (status : Status) (entry : ℕ) (own more : Bool) → (more ≡ false → own ≡ true)
    → is_back (cond own (ReadExpected trail status entry) (cond more (FindEntry trail status (entry + 1)) (Unpin (slot_of trail) (seq_of trail) Again))) ≡ true → ⊥
back_entry trail status entry true more last is = cc
back_entry trail status entry false true last is = cc
back_entry trail status entry false false last is = let own = last refl in cc

-- A word that is still held is held by no change that is done with.
back_recheck : (slot seq value : ℕ) (same over : Bool) (why : Option WhyAgain) → (same ≡ true → over ≡ false) → is_back (Unpin slot seq (cond (same && not over) (Answer value) Again)) ≡ true
    → is_some (option_or (cond same None (Some WordChanged)) why) ≡ true
back_recheck slot seq value false over why held is = refl
back_recheck slot seq value true true why held is = let over = held refl in absurd (cc)
back_recheck slot seq value true false why held is = absurd (cc)

back_unpin : (slot seq : ℕ) (next : After) (last : Bool) (why : Option WhyAgain) → (is_back (Unpin slot seq next) ≡ true → is_some why ≡ true)
    → is_back (cond last (FreeSlot slot seq next) (resumed next)) ≡ true → is_some why ≡ true
back_unpin slot seq Again last why had is = had refl
back_unpin slot seq (Answer value) true why had is = absurd (cc)
back_unpin slot seq (Answer value) false why had is = absurd (cc)

back_free : (slot seq : ℕ) (next : After) (why : Option WhyAgain) → (is_back (FreeSlot slot seq next) ≡ true → is_some why ≡ true) → is_back (LowerDoor next) ≡ true → is_some why ≡ true
back_free slot seq Again why had is = had refl
back_free slot seq (Answer value) why had is = absurd (cc)

back_lower : (next : After) (why : Option WhyAgain) → (is_back (LowerDoor next) ≡ true → is_some why ≡ true) → is_back (resumed next) ≡ true → is_some why ≡ true
back_lower Again why had is = had refl
back_lower (Answer value) why had is = absurd (cc)

is_lower : (n m : ℕ) → n < m → nat_lt n m ≡ true
is_lower n m low = grind (arith, nat_tests, low)

no_lower : (n m : ℕ) → nat_lt n m ≡ false → m ≤ n
no_lower n m is = grind (arith, nat_tests, is)

is_same : (n m : ℕ) → n ≡ m → (n == m) ≡ true
is_same n m same = grind (arith, nat_tests, same)

same_word_is : (word other : Word) → same_word word other ≡ true → word ≡ other
same_word_is (Plain value) (Plain other) is = grind (arith, nat_tests, is)
same_word_is (Planted worker attempt) (Planted other number) is = grind (arith, nat_tests, is)
same_word_is (Held slot seq) (Held other number) is = grind (arith, nat_tests, is)
same_word_is (Dirty slot value) (Dirty other number) is = grind (arith, nat_tests, is)
same_word_is word other is = cc

-- A read that is on its way back has a reason.
pub backs : (tenant address : ℕ) (point : Point) (cells : Cells) (why : Option WhyAgain) → is_under_way point ≡ true → FindsItsWay cells tenant address point → (is_back point ≡ true → is_some why ≡ true)
    → is_back (goes address point (found_at tenant address point cells)) ≡ true → is_some (option_or (turns point (found_at tenant address point cells)) why) ≡ true
backs tenant address ReadDoor cells why on way had is = absurd (cc)
backs tenant address ReadWord cells why on way had is = absurd (back_word (read cells (Data tenant address)) is)
backs tenant address (ReadRow worker attempt) cells why on way had is = absurd (cc)
backs tenant address (ConfirmWord trail) cells why on way had is = back_confirm trail (same_word (read cells (Data tenant address)) (word_of trail)) why is
backs tenant address (ReadGate trail) cells why on way had is =
    let gate = read cells (AtGate (slot_of trail)) in
    back_gate trail gate (record gate { pins = gate.pins + 1 }) (nat_lt (seq_of trail) WORN_NUMBER) gate.taken (nat_le 1 gate.pins) (nat_lt gate.pins MAX_PINS) (gate.seq == seq_of trail) why
    (is_lower (seq_of trail) WORN_NUMBER way.0) (is_lower gate.pins MAX_PINS way.1) is
backs tenant address (Pin trail from to) cells why on way had is =
    back_pin address trail from to (pack (AtGate (slot_of trail)) (read cells (AtGate (slot_of trail))) == pack (AtGate (slot_of trail)) from) why is
backs tenant address (ReadStatus trail) cells why on way had is = absurd (back_first trail (read cells (AtStatus (slot_of trail))) is)
backs tenant address (FindEntry trail status entry) cells why on way had is =
    let number = read cells (Addr (slot_of trail) entry) in
    absurd (back_entry trail status entry (number == address) (nat_lt entry (MAX_ENTRIES - 1)) (λ last. is_same number address (way (no_lower entry (MAX_ENTRIES - 1) last))) is)
backs tenant address (ReadExpected trail status entry) cells why on way had is = absurd (cc)
backs tenant address (ReadNew trail status entry expected) cells why on way had is = absurd (cc)
backs tenant address (RecheckWord trail status expected new) cells why on way had is =
    let word = read cells (Data tenant address) in
    back_recheck (slot_of trail) (seq_of trail) (value_of trail status expected new) (same_word word (word_of trail)) (is_over trail status) why (λ same. way (same_word_is word (word_of trail) same)) is
backs tenant address (Unpin slot seq next) cells why on way had is = back_unpin slot seq next ((read cells (AtGate slot)).pins == 1) why had is
backs tenant address (FreeSlot slot seq next) cells why on way had is = back_free slot seq next why had is
backs tenant address (LowerDoor next) cells why on way had is = back_lower next why had is
backs tenant address (Replied reply) cells why on way had is = absurd (cc)
