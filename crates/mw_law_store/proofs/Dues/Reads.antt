-- Each step of a read leaves its request as the step's label says. The label is what the step adds to the history.
-- Used by: Steps.
use Rattle.std.specs.Prelude.{ℕ, ◌-◌, ◌+◌, ◌==◌, nat_lt, Option, Some, None}
use Rattle.std.proofs.Common.{refl, sym, subst, inl}
use Rattle.mw_words.specs.declared.limits.TheConstants.{MAX_ENTRIES, WORN_NUMBER}
use Rattle.mw_words.specs.declared.gates.Gate.{Gate}
use Rattle.mw_words.specs.declared.replies.Reply.TheVariants.{Fault as SaysFault}
use Rattle.mw_words.specs.declared.statuses.Status.{Status}
use Rattle.mw_words.specs.declared.words.Word.{Word}
use Rattle.mw_words.specs.declared.words.Word.TheVariants.{Plain, Planted, Held, Dirty}
use Rattle.mw_pool.specs.Moves.{after_pin}
use Rattle.mw_look.proofs.RangeLaws.{either_way}
use Rattle.mw_look.specs.declared.observations.Observation.{Observation}
use Rattle.mw_look.specs.declared.observations.Observation.TheVariants.{SawDoor, SawGate, SawWord, SawStatus, SawRow, SawNumber, Won, Lost}
use Rattle.mw_look.specs.declared.points.After.{After}
use Rattle.mw_look.specs.declared.points.After.TheVariants.{Again, Answer}
use Rattle.mw_look.specs.declared.points.Point.{Point}
use Rattle.mw_look.specs.declared.points.Point.TheVariants.{ReadDoor, ReadWord, ReadRow, ConfirmWord, ReadGate, Pin, ReadStatus, FindEntry, ReadExpected, ReadNew, RecheckWord, Unpin, FreeSlot, LowerDoor, Replied}
use Rattle.mw_look.specs.declared.points.Trail.{Trail}
use Rattle.mw_look.specs.declared.points.Trail.TheVariants.{Held as ByHeld, Planted as ByPlanted}
use Rattle.mw_look.specs.Program.{slot_of, seq_of, word_of, same_word, word_seen, pinned, next_entry, answer, resumed, goes}
use Rattle.mw_actor.specs.declared.points.Point.TheVariants.{Read}
use Rattle.mw_world.specs.declared.step_labels.StepLabel.TheVariants.{Nothing, Freed, Lowered as IsLowered}
use Rattle.mw_world.specs.Definition.StepLabels.{read_door_label, read_word_label, answer_label, read_label}
use Rattle.mw_law_store.proofs.Dues.StepEnds.{IsToldInRead, Stays, StepEnds, elsewhere}
use Rattle.mw_world.specs.declared.step_labels.StepLabel.{StepLabel}

module _ (tenant address : ℕ) where
  -- a step of a read from this point to that one, with this label, ends so
  abbrev ReadEnds : StepLabel → Point → Point → Type 0
  ReadEnds label point after = StepEnds label (Read (record { tenant = tenant; address = address; point = point })) (Read (record { tenant = tenant; address = address; point = after }))

  word_ends : (word : Word) → ReadEnds (read_word_label (word_seen word)) ReadWord (word_seen word)
  word_ends (Plain value) = ((value, (refl, refl, refl, elsewhere)), refl)
  word_ends (Dirty slot value) = ((value, (refl, refl, refl, elsewhere)), refl)
  word_ends (Held slot seq) = (inl (Stays (refl, (λ mine has. has), elsewhere)), refl)
  word_ends (Planted worker attempt) = (inl (Stays (refl, (λ mine has. has), elsewhere)), refl)

  pinned_ends : (trail : Trail) (gate : Gate) (next : Option Gate) → ReadEnds Nothing (ReadGate trail) (pinned trail gate next)
  pinned_ends trail gate (Some to) = (inl (Stays (refl, (λ mine has. has), elsewhere)), refl)
  pinned_ends trail gate None = (inl (Stays (refl, (λ mine has. has), elsewhere)), refl)

  next_entry_ends : (trail : Trail) (status : Status) (entry : ℕ) → ReadEnds Nothing (FindEntry trail status entry) (next_entry trail status entry)
  next_entry_ends trail status entry =
      either_way (ReadEnds Nothing (FindEntry trail status entry)) (nat_lt entry (MAX_ENTRIES - 1)) (FindEntry trail status (entry + 1)) (Unpin (slot_of trail) (seq_of trail) Again)
      (λ e. (inl (Stays (refl, (λ mine has. has), elsewhere)), refl)) (λ e. (inl (Stays (refl, (λ mine has. has), elsewhere)), refl))

  answer_ends : (trail : Trail) (status : Status) (expected new : ℕ) (after : After) → ReadEnds (answer_label trail after) (RecheckWord trail status expected new) (Unpin (slot_of trail) (seq_of trail) after)
  answer_ends trail status expected new Again = (inl (Stays (refl, (λ mine has. has), elsewhere)), refl)
  answer_ends (ByHeld slot seq) status expected new (Answer value) = ((value, (refl, refl, refl, elsewhere)), refl)
  answer_ends (ByPlanted worker attempt row) status expected new (Answer value) = ((value, (refl, refl, refl, elsewhere)), refl)

  resumed_ends : (slot seq : ℕ) (after : After) → ReadEnds Nothing (Unpin slot seq after) (resumed after)
  resumed_ends slot seq Again = (inl (Stays (refl, (λ mine has. has), elsewhere)), refl)
  resumed_ends slot seq (Answer value) = (inl (Stays (refl, (λ mine has. has), elsewhere)), refl)

  lowered_ends : (after : After) → ReadEnds IsLowered (LowerDoor after) (resumed after)
  lowered_ends Again = (inl (refl, (λ mine has. has), refl, elsewhere), refl)
  lowered_ends (Answer value) = (inl (refl, (λ mine has. has), refl, elsewhere), refl)

  pub read_ends : (point : Point) (observation : Observation) → IsToldInRead point observation → ReadEnds (read_label point (goes address point observation)) point (goes address point observation)
  read_ends ReadDoor (SawDoor door) told =
      either_way (λ (after : Point). ReadEnds (read_door_label after) ReadDoor after) door.fault (Replied SaysFault) ReadWord
      (λ e. ((refl, refl, refl, elsewhere), refl)) (λ e. (inl (Stays (refl, (λ mine has. has), elsewhere)), refl))
  read_ends ReadWord (SawWord word) told = word_ends word
  read_ends (ReadRow worker attempt) (SawRow row) told = (inl (Stays (refl, (λ mine has. has), elsewhere)), refl)
  read_ends (ConfirmWord trail) (SawWord word) told =
      either_way (ReadEnds Nothing (ConfirmWord trail)) (same_word word (word_of trail)) (ReadGate trail) ReadDoor
      (λ e. (inl (Stays (refl, (λ mine has. has), elsewhere)), refl)) (λ e. (inl (Stays (refl, (λ mine has. has), elsewhere)), refl))
  read_ends (ReadGate trail) (SawGate gate) told =
      either_way (ReadEnds Nothing (ReadGate trail)) (nat_lt (seq_of trail) WORN_NUMBER) (pinned trail gate (after_pin gate (seq_of trail))) ReadDoor
      (λ e. pinned_ends trail gate (after_pin gate (seq_of trail))) (λ e. (inl (Stays (refl, (λ mine has. has), elsewhere)), refl))
  read_ends (Pin trail from to) Won told = (inl (Stays (refl, (λ mine has. has), elsewhere)), refl)
  read_ends (Pin trail from to) Lost told = (inl (Stays (refl, (λ mine has. has), elsewhere)), refl)
  read_ends (ReadStatus (ByHeld slot seq)) (SawStatus status) told = ((refl, (λ mine has. has), elsewhere), refl)
  read_ends (ReadStatus (ByPlanted worker attempt row)) (SawStatus status) told = (inl (Stays (refl, (λ mine has. has), elsewhere)), refl)
  read_ends (ReadStatus (ByHeld slot seq)) observation told = ((refl, (λ mine has. has), elsewhere), refl)
  read_ends (ReadStatus (ByPlanted worker attempt row)) observation told = (inl (Stays (refl, (λ mine has. has), elsewhere)), refl)
  read_ends (FindEntry trail status entry) (SawNumber number) told =
      either_way (ReadEnds Nothing (FindEntry trail status entry)) (number == address) (ReadExpected trail status entry) (next_entry trail status entry)
      (λ e. (inl (Stays (refl, (λ mine has. has), elsewhere)), refl)) (λ e. next_entry_ends trail status entry)
  read_ends (ReadExpected trail status entry) (SawNumber expected) told = (inl (Stays (refl, (λ mine has. has), elsewhere)), refl)
  read_ends (ReadNew trail status entry expected) (SawNumber new) told = (inl (Stays (refl, (λ mine has. has), elsewhere)), refl)
  read_ends (RecheckWord trail status expected new) (SawWord word) told = answer_ends trail status expected new (answer trail word status expected new)
  read_ends (Unpin slot seq after) (SawGate gate) told =
      either_way (ReadEnds Nothing (Unpin slot seq after)) (gate.pins == 1) (FreeSlot slot seq after) (resumed after)
      (λ e. (inl (Stays (refl, (λ mine has. has), elsewhere)), refl)) (λ e. resumed_ends slot seq after)
  read_ends (FreeSlot slot seq after) observation told =
      subst (λ (one : Observation). ReadEnds (Freed (record { slot = slot; seq = seq })) (FreeSlot slot seq after) (goes address (FreeSlot slot seq after) one)) (sym told) ((refl, (λ mine has. has), refl), refl)
  read_ends (LowerDoor after) observation told =
      subst (λ (one : Observation). ReadEnds IsLowered (LowerDoor after) (goes address (LowerDoor after) one)) (sym told.1) (lowered_ends after)
  read_ends point observation told = (inl (Stays (refl, (λ mine has. has), elsewhere)), refl)
