-- Defines the evidence for the replies BUSY, FAULT and WORN, which depend on no word: what the request's own steps found, or
-- for WORN its worker's next attempt number.
-- Used by: specs/Rule, specs/WholeCalls, mw_law_threads.
use Rattle.std.specs.Prelude.{ℕ, ◌≡◌, ◌≤◌, ◌⊎◌, true, false, List, slice_get, Some}
use Rattle.mw_words.specs.declared.doors.Door.{Door}
use Rattle.mw_words.specs.declared.gates.Gate.{Gate}
use Rattle.mw_words.specs.declared.limits.TheConstants.{WORN_NUMBER}
use Rattle.mw_words.specs.declared.places.At.TheVariants.{Door as AtDoor, Gate as AtGate}
use Rattle.mw_words.specs.declared.replies.Reply.{Reply}
use Rattle.mw_words.specs.declared.replies.Reply.TheVariants.{Busy as SaysBusy, Fault as SaysFault, Worn as SaysWorn}
use Rattle.mw_words.specs.Patterns.{unpacked_door, unpacked_gate}
use Rattle.mw_look.specs.declared.observations.Got.TheVariants.{Word as Bits, File as GotFile}
use Rattle.mw_look.specs.declared.points.Point.{Point as ReadPoint}
use Rattle.mw_look.specs.declared.points.Point.TheVariants.{Replied as RepliedOfRead}
use Rattle.mw_look.specs.declared.steps.Call.{Call}
use Rattle.mw_look.specs.declared.steps.Op.TheVariants.{Load as LoadBits, File as FileCall}
use Rattle.mw_actor.specs.declared.points.After.{After}
use Rattle.mw_actor.specs.declared.points.After.TheVariants.{Work, GiveUp as ThenGiveUp, Reply as ThenReply}
use Rattle.mw_actor.specs.declared.points.Point.{Point}
use Rattle.mw_actor.specs.declared.points.Point.TheVariants.{Read, ScanGate, Claim, Unpin, FreeSlot, LowerDoor, GiveUp, Replied}
use Rattle.mw_rule.specs.declared.views.Finding.{Finding}

-- One of these steps loaded the tenant's door, and found this door there.
pub record FoundDoor (found : List Finding) (tenant : ℕ) (door : Door) : Type 0 where
  pub place : ℕ
  pub bits : ℕ
  pub is : slice_get found place ≡ Some (record { op = LoadBits (AtDoor tenant); got = Bits bits })
  pub unpacked : unpacked_door bits ≡ Some door

-- One of these steps found the tenant's door without the fault, and with as many slots in use as the quota allows.
pub record FoundBusy (found : List Finding) (tenant quota : ℕ) : Type 0 where
  pub door : Door
  pub there : FoundDoor found tenant door
  pub no_fault : door.fault ≡ false
  pub full : door.used ≡ quota

-- One of these steps found the fault at the tenant's door.
pub record FoundFault (found : List Finding) (tenant : ℕ) : Type 0 where
  pub door : Door
  pub there : FoundDoor found tenant door
  pub fault : door.fault ≡ true

-- One of these steps was a call on the tenant's file, and was told that it failed.
pub record MetFault (found : List Finding) : Type 0 where
  pub place : ℕ
  pub call : Call
  pub slot : ℕ
  pub is : slice_get found place ≡ Some (record { op = FileCall call slot; got = GotFile false })

-- One of these steps loaded a slot's gate, and found this gate there.
pub record FoundGate (found : List Finding) (slot : ℕ) (gate : Gate) : Type 0 where
  pub place : ℕ
  pub bits : ℕ
  pub is : slice_get found place ≡ Some (record { op = LoadBits (AtGate slot); got = Bits bits })
  pub unpacked : unpacked_gate bits ≡ Some gate

-- One of these steps found a slot's gate that is not taken and has the last number.
pub record FoundWorn (found : List Finding) : Type 0 where
  pub slot : ℕ
  pub gate : Gate
  pub there : FoundGate found slot gate
  pub not_taken : gate.taken ≡ false
  pub worn : gate.seq ≡ WORN_NUMBER

-- The evidence for a reply to a request of this tenant: what the request's steps found, and the number of its
-- worker's next attempt. BUSY: a door with as many slots in use as the quota. FAULT: a door with the fault, or a call
-- on the file that failed. WORN: a gate with the last number, or an attempt that would have the last number. The
-- other replies rest on words and need none.
abbrev pub HasEvidence : (found : List Finding) (attempt tenant quota : ℕ) → Reply → Type 0
HasEvidence found attempt tenant quota SaysBusy = FoundBusy found tenant quota
HasEvidence found attempt tenant quota SaysFault = FoundFault found tenant ⊎ MetFault found
HasEvidence found attempt tenant quota SaysWorn = FoundWorn found ⊎ (attempt ≡ WORN_NUMBER)
HasEvidence found attempt tenant quota reply = Unit {0}

-- The same, as far as a request knows it on its way to the reply: for WORN the next attempt's number is the last one
-- or a greater one. That no number is greater is known only of whole runs.
abbrev pub HasEvidenceBy : (found : List Finding) (attempt tenant quota : ℕ) → Reply → Type 0
HasEvidenceBy found attempt tenant quota SaysWorn = FoundWorn found ⊎ (WORN_NUMBER ≤ attempt)
HasEvidenceBy found attempt tenant quota reply = HasEvidence found attempt tenant quota reply

-- The same for the reply that comes after a request lets its slot go; with more work to do, nothing is required.
abbrev pub HasEvidenceAfter : (found : List Finding) (attempt tenant quota : ℕ) → After → Type 0
HasEvidenceAfter found attempt tenant quota (Work task) = Unit {0}
HasEvidenceAfter found attempt tenant quota (ThenGiveUp own undecided) = HasEvidenceBy found attempt tenant quota undecided
HasEvidenceAfter found attempt tenant quota (ThenReply reply) = HasEvidenceBy found attempt tenant quota reply

-- The same for the reply that a read has at its point, if it has one.
abbrev pub HasEvidenceOfRead : (found : List Finding) (attempt tenant quota : ℕ) → ReadPoint → Type 0
HasEvidenceOfRead found attempt tenant quota (RepliedOfRead reply) = HasEvidenceBy found attempt tenant quota reply
HasEvidenceOfRead found attempt tenant quota point = Unit {0}

-- The same for the reply to which a request is on its way at its point. While it looks for a free slot: if it says
-- that it saw a worn gate, its steps found one.
abbrev pub HasEvidenceAt : (found : List Finding) (attempt tenant quota : ℕ) → Point → Type 0
HasEvidenceAt found attempt tenant quota (Read look) = HasEvidenceOfRead found attempt tenant quota look.point
HasEvidenceAt found attempt tenant quota (ScanGate slot saw_worn) = saw_worn ≡ true → FoundWorn found
HasEvidenceAt found attempt tenant quota (Claim slot saw_worn from to) = saw_worn ≡ true → FoundWorn found
HasEvidenceAt found attempt tenant quota (Unpin slot onward) = HasEvidenceAfter found attempt tenant quota onward
HasEvidenceAt found attempt tenant quota (FreeSlot slot onward) = HasEvidenceAfter found attempt tenant quota onward
HasEvidenceAt found attempt tenant quota (LowerDoor onward) = HasEvidenceAfter found attempt tenant quota onward
HasEvidenceAt found attempt tenant quota (GiveUp own undecided) = HasEvidenceBy found attempt tenant quota undecided
HasEvidenceAt found attempt tenant quota (Replied reply) = HasEvidenceBy found attempt tenant quota reply
HasEvidenceAt found attempt tenant quota point = Unit {0}
