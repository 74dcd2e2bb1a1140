-- A step of a read does not bring it to a point from which it answers WORN, unless it was at one before. Used by: WornNumbers.
use Rattle.std.specs.Prelude.{ℕ, ◌-◌, ◌≡◌, ◌==◌, Bool, false, nat_lt, Option, Some, None}
use Rattle.std.proofs.Common.{refl}
use Rattle.mw_words.specs.declared.gates.Gate.{Gate}
use Rattle.mw_words.specs.declared.limits.TheConstants.{MAX_ENTRIES, WORN_NUMBER}
use Rattle.mw_words.specs.declared.statuses.Status.{Status}
use Rattle.mw_words.specs.declared.words.Word.{Word}
use Rattle.mw_words.specs.declared.words.Word.TheVariants.{Plain, Planted, Held, Dirty}
use Rattle.mw_pool.specs.Moves.{after_pin}
use Rattle.mw_look.specs.declared.observations.Observation.{Observation}
use Rattle.mw_look.specs.declared.observations.Observation.TheVariants.{SawDoor, SawGate, SawWord, SawStatus, SawRow, SawNumber, Won, Lost}
use Rattle.mw_look.specs.declared.points.After.{After as AfterRead}
use Rattle.mw_look.specs.declared.points.After.TheVariants.{Again, Answer}
use Rattle.mw_look.specs.declared.points.Point.{Point as ReadPoint}
use Rattle.mw_look.specs.declared.points.Point.TheVariants as look
use Rattle.mw_look.specs.declared.points.Trail.{Trail}
use Rattle.mw_look.specs.declared.points.Trail.TheVariants.{Held as ByHeld, Planted as ByPlanted}
use Rattle.mw_look.specs.Program.{word_of, seq_of, same_word, word_seen, pinned as pinned_read, pinning, first_entry, next_entry, address_seen, resumed as resumed_read, goes as goes_read}
use Rattle.mw_look.proofs.RangeLaws.{either_way}
use Rattle.mw_law_store.specs.Worn.{is_worn_read}

-- at this point a read is not on the way to WORN
abbrev pub ReadIsFresh : ReadPoint → Type 0
ReadIsFresh point = is_worn_read point ≡ false

word_seen_fresh : (word : Word) → ReadIsFresh (word_seen word)
word_seen_fresh (Plain value) = refl
word_seen_fresh (Dirty slot value) = refl
word_seen_fresh (Held slot seq) = refl
word_seen_fresh (Planted worker attempt) = refl

pinned_read_fresh : (trail : Trail) (from : Gate) (next : Option Gate) → ReadIsFresh (pinned_read trail from next)
pinned_read_fresh trail from (Some to) = refl
pinned_read_fresh trail from None = refl

pinning_fresh : (trail : Trail) (gate : Gate) → ReadIsFresh (pinning trail gate)
pinning_fresh trail gate = either_way ReadIsFresh (nat_lt (seq_of trail) WORN_NUMBER) _ _ (λ e. pinned_read_fresh trail gate (after_pin gate (seq_of trail))) (λ e. refl)

first_entry_fresh : (trail : Trail) (status : Status) → ReadIsFresh (first_entry trail status)
first_entry_fresh (ByHeld slot seq) status = refl
first_entry_fresh (ByPlanted worker attempt row) status = refl

next_entry_fresh : (trail : Trail) (status : Status) (entry : ℕ) → ReadIsFresh (next_entry trail status entry)
next_entry_fresh trail status entry = either_way ReadIsFresh (nat_lt entry (MAX_ENTRIES - 1)) _ _ (λ e. refl) (λ e. refl)

address_fresh : (trail : Trail) (status : Status) (entry : ℕ) (test : Bool) → ReadIsFresh (address_seen trail status entry test)
address_fresh trail status entry test = either_way ReadIsFresh test _ _ (λ e. refl) (λ e. next_entry_fresh trail status entry)

resumed_read_fresh : (after : AfterRead) → ReadIsFresh (resumed_read after)
resumed_read_fresh Again = refl
resumed_read_fresh (Answer value) = refl

pub read_fresh : (address : ℕ) (point : ReadPoint) (observation : Observation) → ReadIsFresh point → ReadIsFresh (goes_read address point observation)
read_fresh address look.ReadDoor (SawDoor door) fresh = either_way ReadIsFresh door.fault _ _ (λ e. refl) (λ e. refl)
read_fresh address look.ReadWord (SawWord word) fresh = word_seen_fresh word
read_fresh address (look.ReadRow worker attempt) (SawRow row) fresh = refl
read_fresh address (look.ConfirmWord trail) (SawWord word) fresh = either_way ReadIsFresh (same_word word (word_of trail)) _ _ (λ e. refl) (λ e. refl)
read_fresh address (look.ReadGate trail) (SawGate gate) fresh = pinning_fresh trail gate
read_fresh address (look.Pin trail from to) Won fresh = refl
read_fresh address (look.Pin trail from to) Lost fresh = refl
read_fresh address (look.ReadStatus trail) (SawStatus status) fresh = first_entry_fresh trail status
read_fresh address (look.FindEntry trail status entry) (SawNumber number) fresh = address_fresh trail status entry (number == address)
read_fresh address (look.ReadExpected trail status entry) (SawNumber expected) fresh = refl
read_fresh address (look.ReadNew trail status entry expected) (SawNumber new) fresh = refl
read_fresh address (look.RecheckWord trail status expected new) (SawWord word) fresh = refl
read_fresh address (look.Unpin slot seq after) (SawGate gate) fresh = either_way ReadIsFresh (gate.pins == 1) _ _ (λ e. refl) (λ e. resumed_read_fresh after)
read_fresh address (look.FreeSlot slot seq after) Won fresh = refl
read_fresh address (look.LowerDoor after) (SawDoor door) fresh = resumed_read_fresh after
read_fresh address point observation fresh = fresh
