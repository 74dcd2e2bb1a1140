-- What a read has loaded of the change that it follows stays true over others' steps, and each load adds to it.
-- Used by: DecidedChangesFit, EndsRead, ReadRetryLaws, among others.
use Rattle.std.specs.Prelude.{ℕ, ◌≡◌, ◌≢◌, ◌<◌, ◌+◌, ◌-◌, ◌==◌, Bool, true, false, nat_lt, List, length, Option, Some, None}
use Rattle.std.specs.Option.{option_map_or}
use Rattle.std.proofs.Common.{refl, sym, ap, subst, ◌∙◌, arith}
use Rattle.std.proofs.lemmas.Bool.Decides.{nat_tests}
use Rattle.mw_words.specs.declared.gates.Gate.{Gate}
use Rattle.mw_words.specs.declared.jobs.Entry.{Entry}
use Rattle.mw_words.specs.declared.limits.TheConstants.{MAX_ENTRIES, WORN_NUMBER}
use Rattle.mw_words.specs.declared.statuses.Status.{Status}
use Rattle.mw_words.specs.declared.words.Word.{Word}
use Rattle.mw_words.specs.declared.words.Word.TheVariants.{Plain, Planted, Held, Dirty}
use Rattle.mw_words.specs.Change.{is_change, rises_from}
use Rattle.mw_pool.specs.Moves.{after_pin}
use Rattle.mw_look.specs.declared.observations.Observation.{Observation}
use Rattle.mw_look.specs.declared.observations.Observation.TheVariants.{SawDoor, SawGate, SawRow, SawWord, SawNumber, Won, Lost}
use Rattle.mw_look.specs.declared.points.After.{After}
use Rattle.mw_look.specs.declared.points.After.TheVariants.{Again, Answer}
use Rattle.mw_look.specs.declared.points.Point.{Point}
use Rattle.mw_look.specs.declared.points.Point.TheVariants.{ReadDoor, ReadWord, ReadRow, ConfirmWord, ReadGate, Pin, ReadStatus, FindEntry, ReadExpected, ReadNew, RecheckWord, Unpin, FreeSlot, LowerDoor}
use Rattle.mw_look.specs.declared.points.Trail.{Trail}
use Rattle.mw_look.specs.declared.points.Trail.TheVariants.{Held as ByHeld, Planted as ByPlanted}
use Rattle.mw_look.specs.Program.{asks_at, first_entry, goes, next_entry, pinned, resumed, same_word, seq_of, slot_of, word_of, word_seen}
use Rattle.mw_look.proofs.RangeLaws.{either_way}
use Rattle.mw_actor.specs.declared.points.Slot.{Slot}
use Rattle.mw_actor.specs.declared.points.Point.TheVariants.{Read}
use Rattle.mw_actor.specs.ActorState.{ActorState, entry_at}
use Rattle.mw_actor.specs.declared.points.Point.{Point as PointOfRequest}
use Rattle.mw_world.specs.declared.config.Config.{Config}
use Rattle.mw_world.specs.Claim.Obligations.{IsEntryAt, IsFrom}
use Rattle.mw_world.specs.Definition.History.{History, entry_for, expected, new}
use Rattle.mw_world.specs.Definition.State.{State, tenant_at}
use Rattle.mw_law_runs.specs.Moves.Guards.{IsLive}
use Rattle.mw_law_runs.specs.Moves.Memory.{Memory}
use Rattle.mw_law_runs.specs.Moves.Rely.{Rely}
use Rattle.mw_law_runs.proofs.Moves.EntryValues.{entry_found}
use Rattle.mw_law_runs.specs.Knowledge.Facts.{CameBy, IsKnown}
use Rattle.mw_law_runs.specs.Knowledge.Informed.{ChangesAWord, ChangesNoWord}
use Rattle.mw_law_runs.specs.Knowledge.Live.{AreLiveInRead}
use Rattle.mw_law_runs.specs.Knowledge.Points.{Knows, ReadKnows}
use Rattle.mw_law_runs.proofs.Knowledge.Guards.Memory.{index_of}
use Rattle.mw_law_runs.proofs.Knowledge.Reads.Memory.{entry_told}
use Rattle.mw_law_store.specs.WorldFacts.{HasSeen, HasSeenAt, IsSoughtFrom}

-- It stays so.

-- the change that a trail leads to
abbrev pub change_of : Trail → Slot
change_of trail = record { slot = slot_of trail; seq = seq_of trail }

pub known_by_trail : (state : State) (tenant address : ℕ) (trail : Trail) → CameBy state tenant address trail → IsKnown state tenant (change_of trail)
known_by_trail state tenant address (ByHeld slot seq) came = came.known
known_by_trail state tenant address (ByPlanted worker number row) came = came.known

module _ (by : ℕ) (old new_state : State) (later : Rely by old new_state) (tenant address : ℕ) where
  same_change : (trail : Trail) → CameBy old tenant address trail → old.history.change (slot_of trail) (seq_of trail) ≡ new_state.history.change (slot_of trail) (seq_of trail)
  same_change trail came = sym (later.births (slot_of trail) (seq_of trail) (known_by_trail old tenant address trail came).is_claimed).change

  expected_stays : (trail : Trail) → CameBy old tenant address trail → expected old.history (slot_of trail) (seq_of trail) address ≡ expected new_state.history (slot_of trail) (seq_of trail) address
  expected_stays trail came = ap (λ (change : List Entry). option_map_or (λ (entry : Entry). entry.expected) (entry_for change address) 0) (same_change trail came)

  new_stays : (trail : Trail) → CameBy old tenant address trail → new old.history (slot_of trail) (seq_of trail) address ≡ new new_state.history (slot_of trail) (seq_of trail) address
  new_stays trail came = ap (λ (change : List Entry). option_map_or (λ (entry : Entry). entry.new) (entry_for change address) 0) (same_change trail came)

  pub read_stays : (point : Point) → ReadKnows old tenant address point → HasSeen old.history address point → HasSeen new_state.history address point
  read_stays (FindEntry trail status entry) came seen =
      subst (λ (change : List Entry). (index : ℕ) → index < entry → index < length change → (entry_at change index).addr ≢ address) (same_change trail came) seen
  read_stays (ReadExpected trail status entry) came seen = subst (λ (change : List Entry). IsEntryAt change entry address) (same_change trail came) seen
  read_stays (ReadNew trail status entry was) came seen =
      (subst (λ (change : List Entry). IsEntryAt change entry address) (same_change trail came) seen.0, seen.1 ∙ expected_stays trail came)
  read_stays (RecheckWord trail status was written) came seen = (seen.0 ∙ expected_stays trail came, seen.1 ∙ new_stays trail came)
  read_stays point came seen = tt

pub seen_stays : (by : ℕ) (old new : State) (actor : ActorState) (point : PointOfRequest) → Rely by old new → Knows old actor point → HasSeenAt old.history point → HasSeenAt new.history point
seen_stays by old new actor (Read look) later knows seen = read_stays by old new later look.tenant look.address look.point knows seen
seen_stays by old new actor point later knows seen = tt

-- Each load adds to it.

addresses_rise : (words : ℕ) (entries : List Entry) → is_change words entries ≡ true → rises_from 0 entries ≡ true
addresses_rise words entries is = grind (arith, nat_tests, is)

-- the entry of a word is found by the word's address
pub found_here : (words : ℕ) (entries : List Entry) (index address : ℕ) → is_change words entries ≡ true → IsEntryAt entries index address → entry_for entries address ≡ Some (entry_at entries index)
found_here words entries index address formed at =
    subst (λ (one : ℕ). entry_for entries one ≡ Some (entry_at entries index)) at.same (entry_found entries 0 index (addresses_rise words entries formed) at.within)

-- a change that a trail leads to has an entry of the word
pub entry_by_trail : (state : State) (tenant address : ℕ) (trail : Trail) → CameBy state tenant address trail → IsFrom (state.history.change (slot_of trail) (seq_of trail)) 0 address
entry_by_trail state tenant address (ByHeld slot seq) came = index_of (state.history.change slot seq) address came.entry
entry_by_trail state tenant address (ByPlanted worker number row) came = record { index = row.entry; from = omega arith; entry = came.entry }

module _ (config : Config) (state : State) (memory : Memory config state) (tenant address : ℕ) (trail : Trail) (came : CameBy state tenant address trail)
    (live : IsLive state (change_of trail)) where
  abbrev change : List Entry
  change = state.history.change (slot_of trail) (seq_of trail)

  known : IsKnown state tenant (change_of trail)
  known = known_by_trail state tenant address trail came

  found : (index : ℕ) → IsEntryAt change index address → entry_for change address ≡ Some (entry_at change index)
  found index at =
      let formed = (memory.claims.formed (slot_of trail) (seq_of trail) known.is_claimed).1 in
      found_here (tenant_at config (state.history.tenant (slot_of trail) (seq_of trail))).words change index address formed at

  -- its slot has the values of the change's entry of the word
  expected_stands : (index : ℕ) → IsEntryAt change index address → state.cells.expecteds (slot_of trail) index ≡ expected state.history (slot_of trail) (seq_of trail) address
  expected_stands index at =
      (entry_told config state memory tenant (change_of trail) live known index at.within).expected
      ∙ sym (ap (λ (one : Option Entry). option_map_or (λ (entry : Entry). entry.expected) one 0) (found index at))

  new_stands : (index : ℕ) → IsEntryAt change index address → state.cells.new_values (slot_of trail) index ≡ new state.history (slot_of trail) (seq_of trail) address
  new_stands index at =
      (entry_told config state memory tenant (change_of trail) live known index at.within).new
      ∙ sym (ap (λ (one : Option Entry). option_map_or (λ (entry : Entry). entry.new) one 0) (found index at))

  module _ (status : Status) (entry : ℕ) (sought : IsSoughtFrom state.history trail address entry) where
    -- no entry of the word comes before the one from which it is looked for
    within_change : entry < length change
    within_change = by_index (entry_by_trail state tenant address trail came)
      where
        by_index : IsFrom change 0 address → entry < length change
        by_index from = by_test (nat_lt from.index entry) refl
          where
            by_test : (b : Bool) → nat_lt from.index entry ≡ b → entry < length change
            by_test true is = absurd (sought from.index (grind (arith, nat_tests, is)) from.entry.within from.entry.same)
            by_test false is = grind (arith, nat_tests, is, from.entry.within)

    addr_stands : state.cells.addrs (slot_of trail) entry ≡ (entry_at change entry).addr
    addr_stands = (entry_told config state memory tenant (change_of trail) live known entry within_change).addr

    finds : (state.cells.addrs (slot_of trail) entry == address) ≡ true → IsEntryAt change entry address
    finds is = record { within = within_change; same = sym addr_stands ∙ grind (arith, nat_tests, is) }

    finds_not : (state.cells.addrs (slot_of trail) entry == address) ≡ false → IsSoughtFrom state.history trail address (entry + 1)
    finds_not is index low within same = by_test (index == entry) refl
      where
        by_test : (b : Bool) → (index == entry) ≡ b → ⊥
        by_test true here =
            let at : index ≡ entry = grind (arith, nat_tests, here) in
            let stands = addr_stands ∙ ap (λ (one : ℕ). (entry_at change one).addr) (sym at) ∙ same in
            absurd (grind (arith, nat_tests, is, stands))
        by_test false there = sought index (grind (arith, nat_tests, there, low)) within same

    sees_address : HasSeen state.history address (goes address (FindEntry trail status entry) (SawNumber (state.cells.addrs (slot_of trail) entry)))
    sees_address =
        either_way (HasSeen state.history address) (state.cells.addrs (slot_of trail) entry == address) (ReadExpected trail status entry) (next_entry trail status entry) finds
        (λ other. either_way (HasSeen state.history address) (nat_lt entry (MAX_ENTRIES - 1)) (FindEntry trail status (entry + 1)) (Unpin (slot_of trail) (seq_of trail) Again)
        (λ more. finds_not other) (λ last. tt))

-- the entry is looked for from the first one on
sees_status : (state : State) (tenant address : ℕ) (trail : Trail) (status : Status) → CameBy state tenant address trail → HasSeen state.history address (first_entry trail status)
sees_status state tenant address (ByHeld slot seq) status came = λ index low within. absurd (omega (arith, low))
sees_status state tenant address (ByPlanted worker number row) status came = came.entry

-- At all other points nothing is known to have been read.
module _ (past : History) (address : ℕ) where
  resumed_unseen : (onward : After) → HasSeen past address (resumed onward)
  resumed_unseen Again = tt
  resumed_unseen (Answer value) = tt

  word_unseen : (word : Word) → HasSeen past address (word_seen word)
  word_unseen (Plain value) = tt
  word_unseen (Dirty slot value) = tt
  word_unseen (Held slot seq) = tt
  word_unseen (Planted worker number) = tt

  pinned_unseen : (trail : Trail) (from : Gate) (found : Option Gate) → HasSeen past address (pinned trail from found)
  pinned_unseen trail from (Some to) = tt
  pinned_unseen trail from None = tt

  -- the points from which a load leads to another point at which nothing is known to have been read
  abbrev LeadsOn : Point → Type 0
  LeadsOn (ReadStatus trail) = ⊥
  LeadsOn (FindEntry trail status entry) = ⊥
  LeadsOn (ReadExpected trail status entry) = ⊥
  LeadsOn (ReadNew trail status entry was) = ⊥
  LeadsOn point = Unit {0}

  unseen_goes : (point : Point) (observation : Observation) → LeadsOn point → HasSeen past address point → HasSeen past address (goes address point observation)
  unseen_goes ReadDoor (SawDoor door) leads seen = either_way (HasSeen past address) door.fault _ _ (λ is. tt) (λ is. tt)
  unseen_goes ReadWord (SawWord word) leads seen = word_unseen word
  unseen_goes (ReadRow worker number) (SawRow row) leads seen = tt
  unseen_goes (ConfirmWord trail) (SawWord word) leads seen = either_way (HasSeen past address) (same_word word (word_of trail)) _ _ (λ is. tt) (λ is. tt)
  unseen_goes (ReadGate trail) (SawGate gate) leads seen =
      either_way (HasSeen past address) (nat_lt (seq_of trail) WORN_NUMBER) _ _ (λ is. pinned_unseen trail gate (after_pin gate (seq_of trail))) (λ is. tt)
  unseen_goes (Pin trail from to) Won leads seen = tt
  unseen_goes (Pin trail from to) Lost leads seen = tt
  unseen_goes (RecheckWord trail status was written) (SawWord word) leads seen = tt
  unseen_goes (Unpin slot seq onward) (SawGate gate) leads seen = either_way (HasSeen past address) (gate.pins == 1) _ _ (λ is. tt) (λ is. resumed_unseen onward)
  unseen_goes (FreeSlot slot seq onward) Won leads seen = tt
  unseen_goes (LowerDoor onward) (SawDoor door) leads seen = resumed_unseen onward
  unseen_goes (ReadStatus trail) observation leads seen = absurd leads
  unseen_goes (FindEntry trail status entry) observation leads seen = absurd leads
  unseen_goes (ReadExpected trail status entry) observation leads seen = absurd leads
  unseen_goes (ReadNew trail status entry was) observation leads seen = absurd leads
  unseen_goes point observation leads seen = seen

-- after a step that changes no shared word
pub seen_goes : (config : Config) (state : State) (tenant address : ℕ) (point : Point) (observation : Observation) → Memory config state → AreLiveInRead state point → ReadKnows state tenant address point
    → ChangesNoWord state.cells (asks_at tenant address point) observation → HasSeen state.history address point → HasSeen state.history address (goes address point observation)
seen_goes config state tenant address (ReadStatus trail) observation memory live came is seen =
    subst (λ (one : Observation). HasSeen state.history address (goes address (ReadStatus trail) one)) (sym is) (sees_status state tenant address trail (state.cells.statuses (slot_of trail)) came)
seen_goes config state tenant address (FindEntry trail status entry) observation memory live came is seen =
    subst (λ (one : Observation). HasSeen state.history address (goes address (FindEntry trail status entry) one)) (sym is)
    (sees_address config state memory tenant address trail came live status entry seen)
seen_goes config state tenant address (ReadExpected trail status entry) observation memory live came is seen =
    subst (λ (one : Observation). HasSeen state.history address (goes address (ReadExpected trail status entry) one)) (sym is)
    (seen, expected_stands config state memory tenant address trail came live entry seen)
seen_goes config state tenant address (ReadNew trail status entry was) observation memory live came is seen =
    subst (λ (one : Observation). HasSeen state.history address (goes address (ReadNew trail status entry was) one)) (sym is)
    (seen.1, new_stands config state memory tenant address trail came live entry seen.0)
seen_goes config state tenant address point observation memory live came is seen = unseen_goes state.history address point observation tt seen

-- after a step that changes one
pub seen_anew : (past : History) (state : State) (tenant address : ℕ) (point : Point) (observation : Observation) → ChangesAWord state.cells (asks_at tenant address point) observation → HasSeen past address point
    → HasSeen past address (goes address point observation)
seen_anew past state tenant address (ReadStatus trail) observation is seen = absurd is
seen_anew past state tenant address (FindEntry trail status entry) observation is seen = absurd is
seen_anew past state tenant address (ReadExpected trail status entry) observation is seen = absurd is
seen_anew past state tenant address (ReadNew trail status entry was) observation is seen = absurd is
seen_anew past state tenant address point observation is seen = unseen_goes past address point observation tt seen
