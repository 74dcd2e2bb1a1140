-- A read's reply is the value that it just loaded from the word, or that other loads told before it saw the same word again.
-- Used by: replies_are_of_the_word.
use Rattle.std.specs.Prelude.{◌≡◌, ◌≢◌, ℕ, ◌+◌, ◌-◌, ◌==◌, ◌&&◌, ◌⊎◌, not, Bool, true, false, cond, nat_lt, List, [], ◌∷◌, Some, None}
use Rattle.std.specs.declared.option.Option.{Option}
use Rattle.std.proofs.Common.{refl, sym, ap, ◌∙◌, subst, inl, inr, arith}
use Rattle.std.proofs.lemmas.Bool.Decides.{nat_tests}
use Rattle.std.proofs.lemmas.Option.{none-some}
use Rattle.mw_words.specs.declared.limits.TheConstants.{MAX_ENTRIES, WORN_NUMBER}
use Rattle.mw_words.specs.declared.gates.Gate.{Gate}
use Rattle.mw_words.specs.declared.words.Word.{Word}
use Rattle.mw_words.specs.declared.words.Word.TheVariants.{Plain, Planted, Held, Dirty}
use Rattle.mw_words.specs.declared.statuses.Status.{Status}
use Rattle.mw_pool.specs.Moves.{after_pin}
use Rattle.mw_words.specs.declared.places.At.TheVariants.{Row as AtRow, Data, Status as AtStatus, Addr, Expected, New}
use Rattle.mw_words.specs.declared.replies.Reply.TheVariants.{Val as ValueIs}
use Rattle.mw_look.specs.declared.observations.Observation.{Observation}
use Rattle.mw_look.specs.declared.observations.Observation.TheVariants.{SawDoor, SawGate, SawWord, SawStatus, SawRow, SawNumber, Won, Lost}
use Rattle.mw_look.specs.declared.points.Trail.{Trail}
use Rattle.mw_look.specs.declared.points.Trail.TheVariants.{Held as ByHeld, Planted as ByPlanted}
use Rattle.mw_look.specs.declared.points.After.{After}
use Rattle.mw_look.specs.declared.points.After.TheVariants.{Again, Answer}
use Rattle.mw_look.specs.declared.points.Point.{Point}
use Rattle.mw_look.specs.declared.points.Point.TheVariants.{ReadDoor, ReadWord, ReadRow, ConfirmWord, ReadGate, Pin, ReadStatus, FindEntry, ReadExpected, ReadNew, RecheckWord, Unpin, FreeSlot, LowerDoor, Replied}
use Rattle.mw_look.specs.Program.{first, asks_at, asks, reply_at, word_of, slot_of, seq_of, same_word, word_seen, pinned, first_entry, next_entry, answer, resumed, goes}
use Rattle.mw_look.specs.Program.{is_over, value_of}
use Rattle.mw_look.specs.Runs.{Event, after, past, this_try, Happened, loaded, JustLoaded, IsEntryFound, SeenAgain, RepliesAreOfTheWord}
use Rattle.mw_look.proofs.RangeLaws.{either_way}
use Rattle.mw_look.proofs.RunLaws.{keeps_tenant, keeps_address}

-- the row of the attempt was loaded
abbrev IsRowSeen : Trail → List Event → Type 0
IsRowSeen (ByHeld slot seq) events = Unit {0}
IsRowSeen (ByPlanted worker attempt row) events = Happened (loaded (AtRow worker) (SawRow row) ∷ []) events

-- the load of the word
abbrev word_seen_by : ℕ → ℕ → Trail → List Event
word_seen_by tenant address trail = loaded (Data tenant address) (SawWord (word_of trail)) ∷ []

-- the load of the word, and then the load of the status
abbrev status_seen_by : ℕ → ℕ → Trail → Status → List Event
status_seen_by tenant address trail status = loaded (AtStatus (slot_of trail)) (SawStatus status) ∷ word_seen_by tenant address trail

-- the word was loaded, and its row if it has one
record Begun (tenant address : ℕ) (trail : Trail) (events : List Event) : Type 0 where
  word : Happened (word_seen_by tenant address trail) events
  row : IsRowSeen trail events

-- the word and the status were loaded, and the entry is the word's
record Found (tenant address : ℕ) (trail : Trail) (status : Status) (entry : ℕ) (events : List Event) : Type 0 where
  order : Happened (status_seen_by tenant address trail status) events
  entry_found : IsEntryFound address trail entry events

-- the entry's expected value was loaded too
record Half (tenant address : ℕ) (trail : Trail) (status : Status) (entry expected : ℕ) (events : List Event) : Type 0 where
  order : Happened (loaded (Expected (slot_of trail) entry) (SawNumber expected) ∷ status_seen_by tenant address trail status) events
  entry_found : IsEntryFound address trail entry events

-- the entry's new value was loaded too
record Whole (tenant address : ℕ) (trail : Trail) (status : Status) (expected new : ℕ) (events : List Event) : Type 0 where
  entry : ℕ
  order : Happened (loaded (New (slot_of trail) entry) (SawNumber new) ∷ loaded (Expected (slot_of trail) entry) (SawNumber expected) ∷ status_seen_by tenant address trail status) events
  entry_found : IsEntryFound address trail entry events

-- a value that will be the answer was seen again
abbrev Answers : ℕ → ℕ → After → List Event → Type 0
Answers tenant address Again events = Unit {0}
Answers tenant address (Answer value) events = SeenAgain tenant address value events

-- what happened since the load of the door, by the read's point
abbrev Known : ℕ → ℕ → Point → List Event → Type 0
Known tenant address (ReadRow worker attempt) events = Happened (loaded (Data tenant address) (SawWord (Planted worker attempt)) ∷ []) events
Known tenant address (ConfirmWord trail) events = Begun tenant address trail events
Known tenant address (ReadGate trail) events = Begun tenant address trail events
Known tenant address (Pin trail from to) events = Begun tenant address trail events
Known tenant address (ReadStatus trail) events = Begun tenant address trail events
Known tenant address (FindEntry (ByHeld slot seq) status entry) events = Happened (status_seen_by tenant address (ByHeld slot seq) status) events
Known tenant address (FindEntry (ByPlanted worker attempt row) status entry) events = ⊥
Known tenant address (ReadExpected trail status entry) events = Found tenant address trail status entry events
Known tenant address (ReadNew trail status entry expected) events = Half tenant address trail status entry expected events
Known tenant address (RecheckWord trail status expected new) events = Whole tenant address trail status expected new events
Known tenant address (Unpin slot seq next) events = Answers tenant address next events
Known tenant address (FreeSlot slot seq next) events = Answers tenant address next events
Known tenant address (LowerDoor next) events = Answers tenant address next events
Known tenant address point events = Unit {0}

row_more : (trail : Trail) (events : List Event) (latest : Event) → IsRowSeen trail events → IsRowSeen trail (latest ∷ events)
row_more (ByHeld slot seq) events latest h = tt
row_more (ByPlanted worker attempt row) events latest h = inr h

entry_more : (address : ℕ) (trail : Trail) (entry : ℕ) (events : List Event) (latest : Event) → IsEntryFound address trail entry events → IsEntryFound address trail entry (latest ∷ events)
entry_more address (ByHeld slot seq) entry events latest h = inr h
entry_more address (ByPlanted worker attempt row) entry events latest h = (h.0, inr h.1)

begun_more : (tenant address : ℕ) (trail : Trail) (events : List Event) (latest : Event) → Begun tenant address trail events → Begun tenant address trail (latest ∷ events)
begun_more tenant address trail events latest h = record { word = inr h.word; row = row_more trail events latest h.row }

answers_more : (tenant address : ℕ) (next : After) (events : List Event) (latest : Event) → Answers tenant address next events → Answers tenant address next (latest ∷ events)
answers_more tenant address Again events latest h = tt
answers_more tenant address (Answer value) events latest h =
    record { trail = h.trail; status = h.status; entry = h.entry; expected = h.expected; new = h.new; order = inr h.order; entry_found = entry_more address h.trail h.entry events latest h.entry_found; not_over = h.not_over; value_is = h.value_is }

-- what is known stays known after one more step
known_more : (tenant address : ℕ) (point : Point) (events : List Event) (latest : Event) → Known tenant address point events → Known tenant address point (latest ∷ events)
known_more tenant address (ReadRow worker attempt) events latest h = inr h
known_more tenant address (ConfirmWord trail) events latest h = begun_more tenant address trail events latest h
known_more tenant address (ReadGate trail) events latest h = begun_more tenant address trail events latest h
known_more tenant address (Pin trail from to) events latest h = begun_more tenant address trail events latest h
known_more tenant address (ReadStatus trail) events latest h = begun_more tenant address trail events latest h
known_more tenant address (FindEntry (ByHeld slot seq) status entry) events latest h = inr h
known_more tenant address (FindEntry (ByPlanted worker attempt row) status entry) events latest h = h
known_more tenant address (ReadExpected trail status entry) events latest h = record { order = inr h.order; entry_found = entry_more address trail entry events latest h.entry_found }
known_more tenant address (ReadNew trail status entry expected) events latest h = record { order = inr h.order; entry_found = entry_more address trail entry events latest h.entry_found }
known_more tenant address (RecheckWord trail status expected new) events latest h = record { entry = h.entry; order = inr h.order; entry_found = entry_more address trail h.entry events latest h.entry_found }
known_more tenant address (Unpin slot seq next) events latest h = answers_more tenant address next events latest h
known_more tenant address (FreeSlot slot seq next) events latest h = answers_more tenant address next events latest h
known_more tenant address (LowerDoor next) events latest h = answers_more tenant address next events latest h
known_more tenant address point events latest h = tt

-- words that compare as the same are equal
same_word_is : (word other : Word) → same_word word other ≡ true → word ≡ other
same_word_is (Plain value) (Plain other) is = grind (arith, nat_tests, is)
same_word_is (Planted worker attempt) (Planted other number) is = grind (arith, nat_tests, is)
same_word_is (Held slot seq) (Held other number) is = grind (arith, nat_tests, is)
same_word_is (Dirty slot value) (Dirty other number) is = grind (arith, nat_tests, is)
same_word_is word other is = cc

word_seen_known : (tenant address : ℕ) (word : Word) (events : List Event) → Known tenant address (word_seen word) (loaded (Data tenant address) (SawWord word) ∷ events)
word_seen_known tenant address (Plain value) events = tt
word_seen_known tenant address (Dirty slot value) events = tt
word_seen_known tenant address (Held slot seq) events = record { word = inl (refl, tt); row = tt }
word_seen_known tenant address (Planted worker attempt) events = inl (refl, tt)

pinned_known : (tenant address : ℕ) (trail : Trail) (gate : Gate) (next : Option Gate) (events : List Event) → Begun tenant address trail events → Known tenant address (pinned trail gate next) events
pinned_known tenant address trail gate (Some to) events h = h
pinned_known tenant address trail gate None events h = tt

first_entry_known : (tenant address : ℕ) (trail : Trail) (status : Status) (events : List Event) → Begun tenant address trail events → Known tenant address (first_entry trail status) (loaded (AtStatus (slot_of trail)) (SawStatus status) ∷ events)
first_entry_known tenant address (ByHeld slot seq) status events h = inl (refl, h.word)
first_entry_known tenant address (ByPlanted worker attempt row) status events h = record { order = inl (refl, h.word); entry_found = (refl, inr h.row) }

found_known : (tenant address slot seq : ℕ) (status : Status) (entry number : ℕ) (events : List Event) → number ≡ address → Happened (status_seen_by tenant address (ByHeld slot seq) status) events →
    Found tenant address (ByHeld slot seq) status entry (loaded (Addr slot entry) (SawNumber number) ∷ events)
found_known tenant address slot seq status entry number events is h =
    record { order = inr h; entry_found = inl (ap (λ n. loaded (Addr slot entry) (SawNumber n)) (sym is), tt) }

next_entry_known : (tenant address slot seq : ℕ) (status : Status) (entry : ℕ) (events : List Event) → Happened (status_seen_by tenant address (ByHeld slot seq) status) events →
    Known tenant address (next_entry (ByHeld slot seq) status entry) events
next_entry_known tenant address slot seq status entry events h =
    either_way (λ p. Known tenant address p events) (nat_lt entry (MAX_ENTRIES - 1)) (FindEntry (ByHeld slot seq) status (entry + 1)) (Unpin slot seq Again) (λ more. h) (λ last. tt)

resumed_known : (tenant address : ℕ) (next : After) (events : List Event) → Known tenant address (resumed next) events
resumed_known tenant address Again events = tt
resumed_known tenant address (Answer value) events = tt

answer_known : (tenant address : ℕ) (trail : Trail) (word : Word) (status : Status) (expected new : ℕ) (events : List Event) → Whole tenant address trail status expected new events →
    Answers tenant address (answer trail word status expected new) (loaded (Data tenant address) (SawWord word) ∷ events)
answer_known tenant address trail word status expected new events h =
    by_tests (same_word word (word_of trail)) (is_over trail status) refl refl
  where
    by_tests : (same over : Bool) → same_word word (word_of trail) ≡ same → is_over trail status ≡ over →
        Answers tenant address (cond (same && not over) (Answer (value_of trail status expected new)) Again) (loaded (Data tenant address) (SawWord word) ∷ events)
    by_tests true false same over =
        record {
          trail = trail;
          status = status;
          entry = h.entry;
          expected = expected;
          new = new;
          order = inl (ap (λ w. loaded (Data tenant address) (SawWord w)) (sym (same_word_is word (word_of trail) same)), h.order);
          entry_found = entry_more address trail h.entry events _ h.entry_found;
          not_over = over;
          value_is = refl;
        }
    by_tests true true same over = tt
    by_tests false over same is = tt

-- what is known at a point gives what is known at the next
goes_known : (tenant address : ℕ) (point : Point) (observation : Observation) (earlier : List Event) → Known tenant address point (this_try earlier) →
    Known tenant address (goes address point observation) (this_try (record { asked = asks_at tenant address point; told = observation } ∷ earlier))
goes_known tenant address ReadDoor (SawDoor door) earlier h = either_way (λ p. Known tenant address p []) door.fault _ _ (λ e. tt) (λ e. tt)
goes_known tenant address ReadDoor observation earlier h = tt
goes_known tenant address ReadWord (SawWord word) earlier h = word_seen_known tenant address word (this_try earlier)
goes_known tenant address (ReadRow worker attempt) (SawRow row) earlier h = record { word = inr h; row = inl (refl, tt) }
goes_known tenant address (ConfirmWord trail) (SawWord word) earlier h =
    either_way (λ p. Known tenant address p (loaded (Data tenant address) (SawWord word) ∷ this_try earlier)) (same_word word (word_of trail)) (ReadGate trail) ReadDoor
    (λ e. begun_more tenant address trail (this_try earlier) _ h) (λ e. tt)
goes_known tenant address (ReadGate trail) (SawGate gate) earlier h =
    either_way (λ p. Known tenant address p (record { asked = asks_at tenant address (ReadGate trail); told = SawGate gate } ∷ this_try earlier)) (nat_lt (seq_of trail) WORN_NUMBER) (pinned trail gate (after_pin gate (seq_of trail))) ReadDoor
    (λ e. pinned_known tenant address trail gate _ _ (begun_more tenant address trail (this_try earlier) _ h)) (λ e. tt)
goes_known tenant address (Pin trail from to) Won earlier h = begun_more tenant address trail (this_try earlier) _ h
goes_known tenant address (Pin trail from to) Lost earlier h = tt
goes_known tenant address (ReadStatus trail) (SawStatus status) earlier h = first_entry_known tenant address trail status (this_try earlier) h
goes_known tenant address (FindEntry (ByHeld slot seq) status entry) (SawNumber number) earlier h =
    either_way (λ p. Known tenant address p (loaded (Addr slot entry) (SawNumber number) ∷ this_try earlier)) (number == address) (ReadExpected (ByHeld slot seq) status entry) (next_entry (ByHeld slot seq) status entry)
    (λ e. found_known tenant address slot seq status entry number (this_try earlier) (grind (arith, nat_tests, e)) h)
    (λ e. next_entry_known tenant address slot seq status entry _ (inr h))
goes_known tenant address (FindEntry (ByPlanted worker attempt row) status entry) observation earlier h = absurd h
goes_known tenant address (ReadExpected trail status entry) (SawNumber expected) earlier h =
    record { order = inl (refl, h.order); entry_found = entry_more address trail entry (this_try earlier) _ h.entry_found }
goes_known tenant address (ReadNew trail status entry expected) (SawNumber new) earlier h =
    record { entry = entry; order = inl (refl, h.order); entry_found = entry_more address trail entry (this_try earlier) _ h.entry_found }
goes_known tenant address (RecheckWord trail status expected new) (SawWord word) earlier h = answer_known tenant address trail word status expected new (this_try earlier) h
goes_known tenant address (Unpin slot seq next) (SawGate gate) earlier h =
    either_way (λ p. Known tenant address p (record { asked = asks_at tenant address (Unpin slot seq next); told = SawGate gate } ∷ this_try earlier)) (gate.pins == 1) (FreeSlot slot seq next) (resumed next)
    (λ e. answers_more tenant address next (this_try earlier) _ h) (λ e. resumed_known tenant address next _)
goes_known tenant address (FreeSlot slot seq next) Won earlier h = answers_more tenant address next (this_try earlier) _ h
goes_known tenant address (LowerDoor next) (SawDoor door) earlier h = resumed_known tenant address next _
goes_known tenant address (Replied reply) observation earlier h = tt
goes_known tenant address point observation earlier h = known_more tenant address point (this_try earlier) (record { asked = asks_at tenant address point; told = observation }) h

known : (tenant address : ℕ) (observation : List Observation) → let read = after (first tenant address) observation in Known read.tenant read.address read.point (this_try (past (first tenant address) observation))
known tenant address [] = tt
known tenant address (latest ∷ earlier) =
    let read = after (first tenant address) earlier in
    goes_known read.tenant read.address read.point latest (past (first tenant address) earlier) (known tenant address earlier)

-- where a value comes from
abbrev ComesFrom : ℕ → ℕ → ℕ → Point → Observation → List Event → Type 0
ComesFrom tenant address value point observation events =
    JustLoaded tenant address value (record { asked = asks_at tenant address point; told = observation }) ⊎ SeenAgain tenant address value events

same_value : (value other : ℕ) → Some (ValueIs other) ≡ Some (ValueIs value) → other ≡ value
same_value value other is = grind (arith, is)

word_says : (tenant address value : ℕ) (word : Word) (events : List Event) → reply_at (word_seen word) ≡ Some (ValueIs value) → ComesFrom tenant address value ReadWord (SawWord word) events
word_says tenant address value (Plain found) events is = inl (record { word = Plain found; loads_it = refl; says_it = same_value value found is })
word_says tenant address value (Dirty slot found) events is = inl (record { word = Dirty slot found; loads_it = refl; says_it = same_value value found is })
word_says tenant address value (Held slot seq) events is = cc
word_says tenant address value (Planted worker attempt) events is = cc

answers : (tenant address value : ℕ) (next : After) (events : List Event) → Answers tenant address next events → reply_at (resumed next) ≡ Some (ValueIs value) → SeenAgain tenant address value events
answers tenant address value Again events h is = cc
answers tenant address value (Answer other) events h is =
    let P : ℕ → Type 0 = λ n. SeenAgain tenant address n events in subst P (same_value value other is) h

-- neither result of a test has this value, so the chosen one doesn't
none_either_way : (test : Bool) (x y : Point) (value : ℕ) → reply_at x ≢ Some (ValueIs value) → reply_at y ≢ Some (ValueIs value) → reply_at (cond test x y) ≢ Some (ValueIs value)
none_either_way true x y value one other = one
none_either_way false x y value one other = other

pinned_says_none : (trail : Trail) (gate : Gate) (next : Option Gate) (value : ℕ) → reply_at (pinned trail gate next) ≢ Some (ValueIs value)
pinned_says_none trail gate (Some to) value = λ is. cc
pinned_says_none trail gate None value = λ is. cc

first_entry_says_none : (trail : Trail) (status : Status) (value : ℕ) → reply_at (first_entry trail status) ≢ Some (ValueIs value)
first_entry_says_none (ByHeld slot seq) status value = λ is. cc
first_entry_says_none (ByPlanted worker attempt row) status value = λ is. cc

unpinned_says : (tenant address value slot seq : ℕ) (next : After) (last : Bool) (events : List Event) → Answers tenant address next events → reply_at (cond last (FreeSlot slot seq next) (resumed next)) ≡ Some (ValueIs value) → SeenAgain tenant address value events
unpinned_says tenant address value slot seq next true events h is = cc
unpinned_says tenant address value slot seq next false events h is = answers tenant address value next events h is

comes_from : (tenant address value : ℕ) (point : Point) (observation : Observation) (events : List Event) → Known tenant address point events → reply_at point ≡ None → reply_at (goes address point observation) ≡ Some (ValueIs value) →
    ComesFrom tenant address value point observation events
comes_from tenant address value ReadDoor (SawDoor door) events h none is = absurd (none_either_way door.fault _ _ value (λ e. cc) (λ e. cc) is)
comes_from tenant address value ReadWord (SawWord word) events h none is = word_says tenant address value word events is
comes_from tenant address value (ConfirmWord trail) (SawWord word) events h none is = absurd (none_either_way (same_word word (word_of trail)) _ _ value (λ e. cc) (λ e. cc) is)
comes_from tenant address value (ReadGate trail) (SawGate gate) events h none is =
    absurd (none_either_way (nat_lt (seq_of trail) WORN_NUMBER) (pinned trail gate (after_pin gate (seq_of trail))) ReadDoor value (pinned_says_none trail gate _ value) (λ e. cc) is)
comes_from tenant address value (ReadStatus trail) (SawStatus status) events h none is = absurd (first_entry_says_none trail status value is)
comes_from tenant address value (FindEntry trail status entry) (SawNumber number) events h none is =
    absurd (none_either_way (number == address) (ReadExpected trail status entry) (next_entry trail status entry) value (λ e. cc)
    (none_either_way (nat_lt entry (MAX_ENTRIES - 1)) (FindEntry trail status (entry + 1)) (Unpin (slot_of trail) (seq_of trail) Again) value (λ e. cc) (λ e. cc)) is)
comes_from tenant address value (Unpin slot seq next) (SawGate gate) events h none is = inr (unpinned_says tenant address value slot seq next (gate.pins == 1) events h is)
comes_from tenant address value (LowerDoor next) (SawDoor door) events h none is = inr (answers tenant address value next events h is)
comes_from tenant address value (ReadRow worker attempt) (SawRow row) events h none is = absurd (none-some (ValueIs value) is)
comes_from tenant address value (Pin trail from to) Won events h none is = absurd (none-some (ValueIs value) is)
comes_from tenant address value (Pin trail from to) Lost events h none is = absurd (none-some (ValueIs value) is)
comes_from tenant address value (ReadExpected trail status entry) (SawNumber expected) events h none is = absurd (none-some (ValueIs value) is)
comes_from tenant address value (ReadNew trail status entry expected) (SawNumber new) events h none is = absurd (none-some (ValueIs value) is)
comes_from tenant address value (RecheckWord trail status expected new) (SawWord word) events h none is = absurd (none-some (ValueIs value) is)
comes_from tenant address value (FreeSlot slot seq next) Won events h none is = absurd (none-some (ValueIs value) is)
comes_from tenant address value point observation events h none is = absurd (none-some (ValueIs value) (sym none ∙ is))

pub replies-are-of-the-word : RepliesAreOfTheWord
replies-are-of-the-word tenant address value observation told none is =
    let read = after (first tenant address) observation in
    let events = this_try (past (first tenant address) observation) in
    let latest : Event = record { asked = asks read; told = told } in
    let P : ℕ → Type 0 = λ t. JustLoaded t read.address value latest ⊎ SeenAgain t read.address value events in
    let Q : ℕ → Type 0 = λ a. JustLoaded tenant a value latest ⊎ SeenAgain tenant a value events in
    let own : P read.tenant = comes_from read.tenant read.address value read.point told events (known tenant address observation) none is in
    subst Q (keeps_address tenant address observation) (subst P (keeps_tenant tenant address observation) own)
