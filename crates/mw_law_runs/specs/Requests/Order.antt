-- Defines the order of the steps of a change's request: admission, claim of a slot, its entries, prepare, and only then holds
-- and decisions.
-- Used by: src/request_laws.rt.
use Rattle.std.specs.Prelude.{ℕ, zero, suc, ◌≡◌, ◌≤◌, true, List, [], ◌∷◌, length}
use Rattle.arrayvec.specs.ArrayVec.{ArrayVec}
use Rattle.mw_words.specs.declared.doors.Door.{Door}
use Rattle.mw_words.specs.declared.gates.Gate.{Gate}
use Rattle.mw_words.specs.declared.jobs.Entry.{Entry}
use Rattle.mw_words.specs.declared.jobs.Job.TheVariants.{Cas}
use Rattle.mw_words.specs.declared.places.At.{At}
use Rattle.mw_words.specs.declared.places.At.TheVariants.{Door as AtDoor, Gate as AtGate, Status as AtStatus, Count, Addr, Expected, New}
use Rattle.mw_words.specs.declared.statuses.Status.TheVariants.{Draft}
use Rattle.mw_look.specs.declared.steps.Kind.TheVariants.{Admit as AdmitKind, Claim as ClaimKind, Fill as FillKind, Pin as PinKind, Row as RowKind, Plant as PlantKind, Resolve as ResolveKind, DecideYes as DecideYesKind, DecideNo as DecideNoKind, Release as ReleaseKind, Clean as CleanKind}
use Rattle.mw_look.specs.declared.steps.Call.TheVariants.{Prepare as PrepareCall}
use Rattle.mw_look.specs.declared.observations.Observation.TheVariants.{Won, Filed}
use Rattle.mw_look.specs.Steps.{Step, Change, File, store}
use Rattle.mw_look.specs.Runs.{Event, Happened}
use Rattle.mw_actor.specs.declared.points.Slot.{Slot}
use Rattle.mw_actor.specs.ActorState.{first, entry_at}
use Rattle.mw_actor.specs.Asks.{asks}
use Rattle.mw_law_runs.specs.Requests.Runs.{Heard, after, past}

-- a step and that it was won
abbrev pub won : Step → Event
won step = record { asked = step; told = Won }

-- The door and the gate by which a change came in: each as it was read, and as it was left.
pub record Entrance : Type 0 where
  pub door : Door
  pub raised : Door
  pub gate : Gate
  pub taken : Gate

-- What a change does before it is open to all, the latest first. First it is admitted;
abbrev pub admission : ℕ → Entrance → List Event
admission tenant entrance = won (Change AdmitKind (AtDoor tenant) entrance.door entrance.raised) ∷ []

-- then it claims its slot;
abbrev pub claim : ℕ → Slot → Entrance → List Event
claim tenant own entrance = won (Change ClaimKind (AtGate own.slot) entrance.gate entrance.taken) ∷ admission tenant entrance

-- then it writes into the slot that it is a draft,
abbrev pub draft : ℕ → Slot → Entrance → List Event
draft tenant own entrance = won (store FillKind (AtStatus own.slot) Draft) ∷ claim tenant own entrance

-- then the number of its entries, and so many of the entries, in their order;
abbrev pub written : ℕ → List Entry → Slot → ℕ → Entrance → List Event
written tenant entries own zero entrance = won (store FillKind (Count own.slot) (length entries)) ∷ draft tenant own entrance
written tenant entries own (suc entry) entrance =
    won (store FillKind (New own.slot entry) (entry_at entries entry).new) ∷
    won (store FillKind (Expected own.slot entry) (entry_at entries entry).expected) ∷
    won (store FillKind (Addr own.slot entry) (entry_at entries entry).addr) ∷
    written tenant entries own entry entrance

-- and when all entries are written, it calls its file to prepare it, and the call goes well.
abbrev pub prepared : ℕ → List Entry → Slot → Entrance → List Event
prepared tenant entries own entrance = record { asked = File PrepareCall own.slot; told = Filed true } ∷ written tenant entries own (length entries) entrance

-- A change made these steps for its slot, in this order, among its other steps. It claimed the slot under the slot's number.
pub record HasDone (own : Slot) (what : Entrance → List Event) (events : List Event) : Type 0 where
  pub entrance : Entrance
  pub under : entrance.gate.seq ≡ own.seq
  pub order : Happened (what entrance) events

-- The change was admitted.
pub record WasAdmitted (tenant : ℕ) (events : List Event) : Type 0 where
  pub entrance : Entrance
  pub order : Happened (admission tenant entrance) events

-- The change is open to all: it made all of these steps for some slot, which is its own.
pub record IsPrepared (tenant : ℕ) (entries : List Entry) (events : List Event) : Type 0 where
  pub own : Slot
  pub done : HasDone own (prepared tenant entries own) events

-- the place belongs to this slot
abbrev pub IsOfSlot : ℕ → At → Type 0
IsOfSlot slot (AtStatus other) = other ≡ slot
IsOfSlot slot (Count other) = other ≡ slot
IsOfSlot slot (Addr other entry) = other ≡ slot
IsOfSlot slot (Expected other entry) = other ≡ slot
IsOfSlot slot (New other entry) = other ≡ slot
IsOfSlot slot at = ⊥

-- The place belongs to a slot that the change claimed.
pub record IsInItsSlot (tenant : ℕ) (at : At) (events : List Event) : Type 0 where
  pub own : Slot
  pub place : IsOfSlot own.slot at
  pub done : HasDone own (claim tenant own) events

-- The change claimed this slot and wrote all of itself into it.
pub record IsWrittenIn (tenant : ℕ) (entries : List Entry) (slot : ℕ) (events : List Event) : Type 0 where
  pub own : Slot
  pub is : own.slot ≡ slot
  pub done : HasDone own (written tenant entries own (length entries)) events

-- The step comes in its turn. A change claims a slot only after it was admitted. It writes only into the slot that it claimed. It calls its file to
-- prepare it only after it is written completely. It pins a slot, writes a row or a data word, decides a change, or calls its file in any other way,
-- only after it is prepared.
abbrev pub IsInTurn : ℕ → List Entry → List Event → Step → Type 0
IsInTurn tenant entries events (Change ClaimKind at from to) = WasAdmitted tenant events
IsInTurn tenant entries events (Change FillKind at from to) = IsInItsSlot tenant at events
IsInTurn tenant entries events (Change PinKind at from to) = IsPrepared tenant entries events
IsInTurn tenant entries events (Change RowKind at from to) = IsPrepared tenant entries events
IsInTurn tenant entries events (Change PlantKind at from to) = IsPrepared tenant entries events
IsInTurn tenant entries events (Change ResolveKind at from to) = IsPrepared tenant entries events
IsInTurn tenant entries events (Change DecideYesKind at from to) = IsPrepared tenant entries events
IsInTurn tenant entries events (Change DecideNoKind at from to) = IsPrepared tenant entries events
IsInTurn tenant entries events (Change ReleaseKind at from to) = IsPrepared tenant entries events
IsInTurn tenant entries events (Change CleanKind at from to) = IsPrepared tenant entries events
IsInTurn tenant entries events (File PrepareCall slot) = IsWrittenIn tenant entries slot events
IsInTurn tenant entries events (File call slot) = IsPrepared tenant entries events
IsInTurn tenant entries events step = Unit {0}

-- each step of a change with at least one entry comes in its turn
abbrev pub StepsComeInTurn : Type 0
StepsComeInTurn = (worker tenant quota pool : ℕ) (entries : ArrayVec Entry) (heard : List Heard) → 1 ≤ length entries.items →
    let begun = first worker tenant quota pool (Cas entries) in
    IsInTurn tenant entries.items (past begun heard) (asks (after begun heard))
