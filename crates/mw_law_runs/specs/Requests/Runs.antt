-- Defines the runs of one request (its steps and what each found), and states what holds of every such run: of tenant, pins
-- and slots.
-- Used by: src/request_laws.rt.
use Rattle.std.specs.Prelude.{ℕ, ◌≡◌, ◌+◌, ◌<◌, ◌==◌, false, Some, None, List, [], ◌∷◌, ◌⊎◌}
use Rattle.arrayvec.specs.ArrayVec.{ArrayVec}
use Rattle.mw_words.specs.declared.places.At.{At}
use Rattle.mw_words.specs.declared.places.At.TheVariants.{Door as AtDoor, Gate as AtGate, Data, Status as AtStatus}
use Rattle.mw_words.specs.declared.jobs.Entry.{Entry}
use Rattle.mw_words.specs.declared.jobs.Job.{Job}
use Rattle.mw_words.specs.declared.jobs.Job.TheVariants.{Cas}
use Rattle.mw_words.specs.declared.replies.Reply.{Reply}
use Rattle.mw_pool.specs.Moves.{Claims, Pins}
use Rattle.mw_look.specs.declared.steps.Kind.TheVariants.{Admit as AdmitKind, Claim as ClaimKind, Pin as PinKind, Unpin as UnpinKind, Free as FreeKind, Drop as DropKind}
use Rattle.mw_look.specs.declared.observations.Observation.{Observation}
use Rattle.mw_look.specs.declared.observations.Observation.TheVariants.{SawGate, Won}
use Rattle.mw_look.specs.Steps.{Step, Load, Change, File, place, fetch, store}
use Rattle.mw_look.specs.Program.{freed}
use Rattle.mw_look.specs.Runs.{Event, times, if_same, takes_back, takes_last, frees, frees_any, lowers}
use Rattle.mw_actor.specs.declared.points.Slot.{Slot}
use Rattle.mw_actor.specs.ActorState.{ActorState, first}
use Rattle.mw_actor.specs.Asks.{asks}
use Rattle.mw_actor.specs.Program.{tells, replied}

-- What a request is told of one step: what it found, and the worker's next attempt number.
pub record Heard : Type 0 where
  pub observation : Observation
  pub next : ℕ

-- the request after it was told these, the latest first
abbrev pub after : ActorState → List Heard → ActorState
after actor [] = actor
after actor (latest ∷ earlier) = tells (after actor earlier) latest.observation latest.next

-- the steps that it has made by then, the latest first
abbrev pub past : ActorState → List Heard → List Event
past actor [] = []
past actor (latest ∷ earlier) = record { asked = asks (after actor earlier); told = latest.observation } ∷ past actor earlier

-- the step that a request makes next, if it finds this
abbrev pub made : ActorState → Observation → Event
made actor observation = record { asked = asks actor; told = observation }

-- The place is no door and no word of another tenant.
abbrev pub IsPlaceFor : ℕ → At → Type 0
IsPlaceFor tenant (AtDoor other) = other ≡ tenant
IsPlaceFor tenant (Data other address) = other ≡ tenant
IsPlaceFor tenant at = Unit {0}

-- the step of every request is at such a place
abbrev pub RequestsStayWithTheirTenant : Type 0
RequestsStayWithTheirTenant = (worker tenant quota pool : ℕ) (job : Job) (heard : List Heard) → IsPlaceFor tenant (place (asks (after (first worker tenant quota pool job) heard)))

-- The step wins a slot under its number: its exchange claims or pins the slot's gate, which has that number.
abbrev pub WinsSlot : Slot → Step → Observation → Type 0
WinsSlot slot (Change ClaimKind (AtGate other) from to) Won = (other ≡ slot.slot) × (from.seq ≡ slot.seq) × Claims from to
WinsSlot slot (Change PinKind (AtGate other) from to) Won = (other ≡ slot.slot) × (from.seq ≡ slot.seq) × Pins slot.seq from to
WinsSlot slot step told = ⊥

-- One of these steps won the slot under its number.
abbrev pub WasWon : List Event → Slot → Type 0
WasWon [] slot = ⊥
WasWon (latest ∷ earlier) slot = WinsSlot slot latest.asked latest.told ⊎ WasWon earlier slot

-- The step claims the slot under its number.
abbrev pub ClaimsSlot : Slot → Step → Observation → Type 0
ClaimsSlot slot (Change ClaimKind (AtGate other) from to) Won = (other ≡ slot.slot) × (from.seq ≡ slot.seq) × Claims from to
ClaimsSlot slot step told = ⊥

-- One of these steps claimed the slot under its number, so the slot is the change's own.
abbrev pub WasClaimed : List Event → Slot → Type 0
WasClaimed [] slot = ⊥
WasClaimed (latest ∷ earlier) slot = ClaimsSlot slot latest.asked latest.told ⊎ WasClaimed earlier slot

-- 1 if the step wins a pin of the slot, by a claim or by a pin; else 0
abbrev pub wins_pin : ℕ → Step → Observation → ℕ
wins_pin slot (Change ClaimKind (AtGate other) from to) Won = if_same other slot
wins_pin slot (Change PinKind (AtGate other) from to) Won = if_same other slot
wins_pin slot step told = 0

-- 1 if the step admits a change: its tenant's door counts one slot more; else 0
abbrev pub admits : Step → Observation → ℕ
admits (Change AdmitKind (AtDoor tenant) from to) Won = 1
admits step told = 0

-- 1 if the step claims a slot, else 0
abbrev pub claims : Step → Observation → ℕ
claims (Change ClaimKind (AtGate slot) from to) Won = 1
claims step told = 0

-- A pin of the slot is held: more of its pins were won than were taken back.
abbrev pub IsPinned : List Event → ℕ → Type 0
IsPinned events slot = times (takes_back slot) events < times (wins_pin slot) events

-- If the step is a call on the file, it is for a slot of which a pin is held.
abbrev pub IsOfPinnedSlot : List Event → Step → Type 0
IsOfPinnedSlot events (File call slot) = IsPinned events slot
IsOfPinnedSlot events step = Unit {0}

-- each call on the file, of every request, is for a slot of which the request holds a pin then
abbrev pub FileCallsAreOfPinnedSlots : Type 0
FileCallsAreOfPinnedSlots = (worker tenant quota pool : ℕ) (job : Job) (heard : List Heard) →
    let actor = first worker tenant quota pool job in
    IsOfPinnedSlot (past actor heard) (asks (after actor heard))

-- If the step exchanges a gate, gates allow the exchange: it claims, or it pins under the gate's number.
abbrev pub IsGateMove : Step → Type 0
IsGateMove (Change ClaimKind (AtGate slot) from to) = Claims from to
IsGateMove (Change PinKind (AtGate slot) from to) = Pins from.seq from to
IsGateMove step = Unit {0}

-- a change exchanges gates in no other way
abbrev pub GatesAreMovedByTheRules : Type 0
GatesAreMovedByTheRules = (worker tenant quota pool : ℕ) (entries : ArrayVec Entry) (heard : List Heard) →
    IsGateMove (asks (after (first worker tenant quota pool (Cas entries)) heard))

-- After the last pin of a slot was taken back, the next step frees the slot under the next number: the one after a number under which the slot was won.
-- After a slot was freed, the next step counts it off the tenant's door.
abbrev pub IsFollowed : ℕ → List Event → Step → Observation → Step → Type 0
IsFollowed tenant events (Change UnpinKind (AtGate slot) from to) (SawGate gate) next = gate.pins ≡ 1 → (seq : ℕ) × WasWon events (record { slot = slot; seq = seq }) × (next ≡ store FreeKind (AtGate slot) (freed seq))
IsFollowed tenant events (Change FreeKind at from to) Won next = next ≡ fetch DropKind (AtDoor tenant)
IsFollowed tenant events step told next = Unit {0}

-- a change frees each slot whose last pin it took back, and counts it off the door
abbrev pub LastPinsAreFreed : Type 0
LastPinsAreFreed = (worker tenant quota pool : ℕ) (entries : ArrayVec Entry) (heard : List Heard) (observation : Observation) (next : ℕ) →
    let begun = first worker tenant quota pool (Cas entries) in
    let actor = after begun heard in
    IsFollowed tenant (past begun heard) (asks actor) observation (asks (tells actor observation next))

-- All is given back except so many pins of each slot. The other pins that were won were taken back. A slot was freed as often as a pin that was taken
-- back was its last. The door counts one slot more for each admission. It was lowered as often as a slot was freed, and once more for a change that
-- was admitted and claimed none.
pub record GivesBack (kept : ℕ → ℕ) (events : List Event) : Type 0 where
  pub pins : (slot : ℕ) → times (wins_pin slot) events ≡ times (takes_back slot) events + kept slot
  pub slots : (slot : ℕ) → times (takes_last slot) events ≡ times (frees slot) events
  pub door : times admits events + times frees_any events ≡ times claims events + times lowers events

-- no pin of any slot
abbrev pub none : ℕ → ℕ
none slot = 0

-- one pin of this slot
abbrev pub one_of : ℕ → ℕ → ℕ
one_of slot other = if_same slot other

-- the slot is the change's own: the change claimed it, under some number
abbrev pub IsItsOwn : List Event → ℕ → Type 0
IsItsOwn events slot = (seq : ℕ) × WasClaimed events (record { slot = slot; seq = seq })

-- The step may be the last one of a change, and all is given back after it. It is a load of the door, before anything is taken; or it takes back a
-- pin and others are left; or it counts a slot off the door. If it loads a status, the request gives up: the slot is its own, and it keeps one pin of
-- it.
abbrev pub EndsBy : Step → Observation → List Event → Type 0
EndsBy (Load (AtDoor tenant)) told events = GivesBack none events
EndsBy (Change UnpinKind at from to) (SawGate gate) events = ((gate.pins == 1) ≡ false) × GivesBack none events
EndsBy (Change DropKind at from to) told events = GivesBack none events
EndsBy (Load (AtStatus slot)) told events = GivesBack (one_of slot) events × IsItsOwn events slot
EndsBy step told events = ⊥

-- when a change gets its reply, its latest step is one that may be the last one, and all is given back
abbrev pub RepliesGiveBack : Type 0
RepliesGiveBack = (worker tenant quota pool : ℕ) (entries : ArrayVec Entry) (heard : List Heard) (observation : Observation) (next : ℕ) (reply : Reply) →
    let begun = first worker tenant quota pool (Cas entries) in
    let actor = after begun heard in
    replied actor ≡ None → replied (tells actor observation next) ≡ Some reply → EndsBy (asks actor) observation (made actor observation ∷ past begun heard)
