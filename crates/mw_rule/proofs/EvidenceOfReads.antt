-- A read goes on to FAULT only if it found the fault at its tenant's door. Used by: EvidenceAtPoints, EvidenceSteps.
use Rattle.std.specs.Prelude.{ℕ, ◌-◌, ◌==◌, Bool, nat_lt, List, Option, Some, None}
use Rattle.std.proofs.Common.{inl}
use Rattle.mw_words.specs.declared.doors.Door.{Door}
use Rattle.mw_words.specs.declared.gates.Gate.{Gate}
use Rattle.mw_words.specs.declared.limits.TheConstants.{MAX_ENTRIES, WORN_NUMBER}
use Rattle.mw_words.specs.declared.statuses.Status.{Status}
use Rattle.mw_words.specs.declared.words.Word.{Word}
use Rattle.mw_words.specs.declared.words.Word.TheVariants.{Plain, Planted, Held, Dirty}
use Rattle.mw_look.specs.declared.observations.Observation.{Observation}
use Rattle.mw_look.specs.declared.observations.Observation.TheVariants.{SawDoor, SawGate, SawWord, SawStatus, SawRow, SawNumber, Won, Lost}
use Rattle.mw_look.specs.declared.points.After.{After as AfterRead}
use Rattle.mw_look.specs.declared.points.After.TheVariants.{Again, Answer}
use Rattle.mw_look.specs.declared.points.Point.{Point as ReadPoint}
use Rattle.mw_look.specs.declared.points.Point.TheVariants as look
use Rattle.mw_look.specs.declared.points.Trail.{Trail}
use Rattle.mw_look.specs.declared.points.Trail.TheVariants.{Held as ByHeld, Planted as ByPlanted}
use Rattle.mw_look.specs.Program.{word_of, seq_of, same_word, word_seen, pinned as pinned_read, pinning, first_entry, next_entry, address_seen, resumed as resumed_read, goes as goes_read}
use Rattle.mw_look.proofs.RangeLaws.{either_way}
use Rattle.mw_rule.specs.declared.views.Finding.{Finding}
use Rattle.mw_rule.specs.Evidence.{FoundDoor, HasEvidenceOfRead}

-- If the request is told of a door, the door has this property.
abbrev pub IfDoor : (Door → Type 0) → Observation → Type 0
IfDoor IsSo (SawDoor door) = IsSo door
IfDoor IsSo observation = Unit {0}

-- What a read is told at its first point is what its step found.
abbrev pub IsToldOfRead : List Finding → ℕ → ReadPoint → Observation → Type 0
IsToldOfRead found tenant look.ReadDoor observation = IfDoor (FoundDoor found tenant) observation
IsToldOfRead found tenant point observation = Unit {0}

-- The arguments: what the steps found so far, the number of the worker's next attempt, the tenant and its quota.
module _ (found : List Finding) (next tenant quota : ℕ) where
  abbrev ReadHasIt : ReadPoint → Type 0
  ReadHasIt point = HasEvidenceOfRead found next tenant quota point

  word_seen_so : (word : Word) → ReadHasIt (word_seen word)
  word_seen_so (Plain value) = tt
  word_seen_so (Dirty slot value) = tt
  word_seen_so (Held slot seq) = tt
  word_seen_so (Planted worker attempt) = tt

  pinned_read_so : (trail : Trail) (from : Gate) (next : Option Gate) → ReadHasIt (pinned_read trail from next)
  pinned_read_so trail from (Some to) = tt
  pinned_read_so trail from None = tt

  pinning_so : (trail : Trail) (gate : Gate) → ReadHasIt (pinning trail gate)
  pinning_so trail gate = either_way ReadHasIt (nat_lt (seq_of trail) WORN_NUMBER) _ _ (λ e. pinned_read_so trail gate _) (λ e. tt)

  first_entry_so : (trail : Trail) (status : Status) → ReadHasIt (first_entry trail status)
  first_entry_so (ByHeld slot seq) status = tt
  first_entry_so (ByPlanted worker attempt row) status = tt

  next_entry_so : (trail : Trail) (status : Status) (entry : ℕ) → ReadHasIt (next_entry trail status entry)
  next_entry_so trail status entry = either_way ReadHasIt (nat_lt entry (MAX_ENTRIES - 1)) _ _ (λ e. tt) (λ e. tt)

  address_so : (trail : Trail) (status : Status) (entry : ℕ) (test : Bool) → ReadHasIt (address_seen trail status entry test)
  address_so trail status entry test = either_way ReadHasIt test _ _ (λ e. tt) (λ e. next_entry_so trail status entry)

  resumed_read_so : (after : AfterRead) → ReadHasIt (resumed_read after)
  resumed_read_so Again = tt
  resumed_read_so (Answer value) = tt

  pub read_so : (address : ℕ) (point : ReadPoint) (observation : Observation) → IsToldOfRead found tenant point observation → ReadHasIt point → ReadHasIt (goes_read address point observation)
  read_so address look.ReadDoor (SawDoor door) told has = either_way ReadHasIt door.fault _ _ (λ e. inl (record { door = door; there = told; fault = e })) (λ e. tt)
  read_so address look.ReadWord (SawWord word) told has = word_seen_so word
  read_so address (look.ReadRow worker attempt) (SawRow row) told has = tt
  read_so address (look.ConfirmWord trail) (SawWord word) told has = either_way ReadHasIt (same_word word (word_of trail)) _ _ (λ e. tt) (λ e. tt)
  read_so address (look.ReadGate trail) (SawGate gate) told has = pinning_so trail gate
  read_so address (look.Pin trail from to) Won told has = tt
  read_so address (look.Pin trail from to) Lost told has = tt
  read_so address (look.ReadStatus trail) (SawStatus status) told has = first_entry_so trail status
  read_so address (look.FindEntry trail status entry) (SawNumber number) told has = address_so trail status entry (number == address)
  read_so address (look.ReadExpected trail status entry) (SawNumber expected) told has = tt
  read_so address (look.ReadNew trail status entry expected) (SawNumber new) told has = tt
  read_so address (look.RecheckWord trail status expected new) (SawWord word) told has = tt
  read_so address (look.Unpin slot seq after) (SawGate gate) told has = either_way ReadHasIt (gate.pins == 1) _ _ (λ e. tt) (λ e. resumed_read_so after)
  read_so address (look.FreeSlot slot seq after) Won told has = tt
  read_so address (look.LowerDoor after) (SawDoor door) told has = resumed_read_so after
  read_so address point observation told has = has
