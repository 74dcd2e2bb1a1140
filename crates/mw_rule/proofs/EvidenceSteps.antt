-- A request on its way to BUSY, FAULT or WORN has evidence for that reply, and keeps it over each further step.
-- Used by: mw_law_threads.
use Rattle.std.specs.Prelude.{ℕ, zero, suc, ◌≡◌, ◌≤◌, Bool, false, List, [], ◌∷◌, ◌++◌, length, slice_get, Option, Some, None}
use Rattle.std.specs.Option.{option_map_or}
use Rattle.std.proofs.Common.{refl, ap, subst, ◌∙◌, inl, inr, arith}
use Rattle.std.proofs.lemmas.Option.{none-some, same_Some}
use Rattle.mw_words.specs.declared.doors.Door.{Door}
use Rattle.mw_words.specs.declared.gates.Gate.{Gate}
use Rattle.mw_words.specs.declared.limits.TheConstants.{WORN_NUMBER}
use Rattle.mw_words.specs.declared.places.At.TheVariants.{Door as AtDoor, Gate as AtGate, Status as AtStatus}
use Rattle.mw_words.specs.declared.replies.Reply.{Reply}
use Rattle.mw_words.specs.declared.replies.Reply.TheVariants.{Busy as SaysBusy, Fault as SaysFault, Worn as SaysWorn}
use Rattle.mw_words.specs.declared.statuses.Status.{Status}
use Rattle.mw_words.specs.Patterns.{unpacked_door, unpacked_gate, unpacked_status}
use Rattle.mw_look.specs.declared.observations.Got.{Got}
use Rattle.mw_look.specs.declared.observations.Got.TheVariants.{Word as Bits, Won as GotWon, Lost as GotLost, File as GotFile}
use Rattle.mw_look.specs.declared.observations.Observation.{Observation}
use Rattle.mw_look.specs.declared.observations.Observation.TheVariants.{SawDoor, SawGate, SawStatus, Filed, Junk}
use Rattle.mw_look.specs.declared.points.Point.{Point as ReadPoint}
use Rattle.mw_look.specs.declared.points.Point.TheVariants.{ReadDoor as DoorOfRead, Replied as RepliedOfRead}
use Rattle.mw_look.specs.declared.steps.Call.{Call}
use Rattle.mw_look.specs.declared.steps.Op.TheVariants.{Load as LoadBits, File as FileCall}
use Rattle.mw_look.specs.Observations.{observation_of}
use Rattle.mw_look.specs.Program.{Reading, asks_at as read_asks_at, reply_at as read_reply_at}
use Rattle.mw_look.specs.Steps.{op_of, place}
use Rattle.mw_actor.specs.declared.points.After.{After}
use Rattle.mw_actor.specs.declared.points.After.TheVariants.{Work, GiveUp as ThenGiveUp, Reply as ThenReply}
use Rattle.mw_actor.specs.declared.points.Point.{Point}
use Rattle.mw_actor.specs.declared.points.Point.TheVariants.{Read, ReadDoor, ScanGate, Claim, Prepare, Seal, Settle, Unpin, FreeSlot, LowerDoor, GiveUp, Replied}
use Rattle.mw_actor.specs.ActorState.{ActorState}
use Rattle.mw_actor.specs.Asks.{asks_at}
use Rattle.mw_actor.specs.Program.{goes, reply_at}
use Rattle.mw_rule.specs.declared.views.Finding.{Finding}
use Rattle.mw_rule.specs.Evidence.{FoundDoor, FoundGate, FoundWorn, HasEvidence, HasEvidenceAfter, HasEvidenceAt, HasEvidenceBy, HasEvidenceOfRead, MetFault}
use Rattle.mw_rule.proofs.EvidenceOfReads.{IfDoor, IsToldOfRead}
use Rattle.mw_rule.proofs.EvidenceAtPoints.{IfFiled, IfGate, IsTold, goes_so}

got_before : {A : Type 0} (all more : List A) (place : ℕ) (one : A) → slice_get all place ≡ Some one → slice_get (all ++ more) place ≡ Some one
got_before [] more place one is = absurd (none-some one is)
got_before (first ∷ rest) more zero one is = is
got_before (first ∷ rest) more (suc place) one is = got_before rest more place one is

got_last : {A : Type 0} (all : List A) (last : A) → slice_get (all ++ last ∷ []) (length all) ≡ Some last
got_last [] last = refl
got_last (first ∷ rest) last = got_last rest last

-- Evidence stays evidence when more is found and the next attempt has a later number.
module _ (found more : List Finding) (attempt next tenant quota : ℕ) (later : attempt ≤ next) where
  door_stays : (door : Door) → FoundDoor found tenant door → FoundDoor (found ++ more) tenant door
  door_stays door there = record { place = there.place; bits = there.bits; is = got_before found more there.place _ there.is; unpacked = there.unpacked }

  worn_stays : FoundWorn found → FoundWorn (found ++ more)
  worn_stays worn =
      let there = worn.there in
      record {
        slot = worn.slot;
        gate = worn.gate;
        there = record { place = there.place; bits = there.bits; is = got_before found more there.place _ there.is; unpacked = there.unpacked };
        not_taken = worn.not_taken;
        worn = worn.worn;
      }

  evidence_stays : (reply : Reply) → HasEvidenceBy found attempt tenant quota reply → HasEvidenceBy (found ++ more) next tenant quota reply
  evidence_stays SaysBusy evidence = record { door = evidence.door; there = door_stays evidence.door evidence.there; no_fault = evidence.no_fault; full = evidence.full }
  evidence_stays SaysFault evidence = elim evidence [
    | inl fault ↦ inl (record { door = fault.door; there = door_stays fault.door fault.there; fault = fault.fault })
    | inr met ↦ inr (record { place = met.place; call = met.call; slot = met.slot; is = got_before found more met.place _ met.is })
  ]
  evidence_stays SaysWorn evidence = elim evidence [
    | inl worn ↦ inl (worn_stays worn)
    | inr last ↦ inr (omega (arith, last, later))
  ]
  evidence_stays reply evidence = tt

  after_stays : (onward : After) → HasEvidenceAfter found attempt tenant quota onward → HasEvidenceAfter (found ++ more) next tenant quota onward
  after_stays (Work task) evidence = tt
  after_stays (ThenGiveUp own undecided) evidence = evidence_stays undecided evidence
  after_stays (ThenReply reply) evidence = evidence_stays reply evidence

  read_stays : (point : ReadPoint) → HasEvidenceOfRead found attempt tenant quota point → HasEvidenceOfRead (found ++ more) next tenant quota point
  read_stays (RepliedOfRead reply) evidence = evidence_stays reply evidence
  read_stays point evidence = tt

  at_stays : (point : Point) → HasEvidenceAt found attempt tenant quota point → HasEvidenceAt (found ++ more) next tenant quota point
  at_stays (Read look) evidence = read_stays look.point evidence
  at_stays (ScanGate slot saw_worn) evidence = λ saw. worn_stays (evidence saw)
  at_stays (Claim slot saw_worn from to) evidence = λ saw. worn_stays (evidence saw)
  at_stays (Unpin slot onward) evidence = after_stays onward evidence
  at_stays (FreeSlot slot onward) evidence = after_stays onward evidence
  at_stays (LowerDoor onward) evidence = after_stays onward evidence
  at_stays (GiveUp own undecided) evidence = evidence_stays undecided evidence
  at_stays (Replied reply) evidence = evidence_stays reply evidence
  at_stays point evidence = tt

-- What a request is told of a door, of a gate or of a call on its file is what its step found.
record SawBits (got : Got) {A : Type 0} (unpacked : ℕ → Option A) (one : A) : Type 0 where
  bits : ℕ
  is : got ≡ Bits bits
  is_of : unpacked bits ≡ Some one

sees_door : (tenant : ℕ) (got : Got) (door : Door) → observation_of (AtDoor tenant) got ≡ SawDoor door → SawBits got unpacked_door door
sees_door tenant (Bits bits) door saw = record { bits = bits; is = refl; is_of = by (unpacked_door bits) saw }
  where
    by : (found : Option Door) → option_map_or SawDoor found Junk ≡ SawDoor door → found ≡ Some door
    by None e = absurd (cc)
    by (Some other) e = ap Some (cc)
sees_door tenant GotWon door saw = absurd (cc)
sees_door tenant GotLost door saw = absurd (cc)
sees_door tenant (GotFile went_well) door saw = absurd (cc)

sees_gate : (slot : ℕ) (got : Got) (gate : Gate) → observation_of (AtGate slot) got ≡ SawGate gate → SawBits got unpacked_gate gate
sees_gate slot (Bits bits) gate saw = record { bits = bits; is = refl; is_of = by (unpacked_gate bits) saw }
  where
    by : (found : Option Gate) → option_map_or SawGate found Junk ≡ SawGate gate → found ≡ Some gate
    by None e = absurd (cc)
    by (Some other) e = ap Some (cc)
sees_gate slot GotWon gate saw = absurd (cc)
sees_gate slot GotLost gate saw = absurd (cc)
sees_gate slot (GotFile went_well) gate saw = absurd (cc)

sees_filed : (slot : ℕ) (got : Got) (went_well : Bool) → observation_of (AtStatus slot) got ≡ Filed went_well → got ≡ GotFile went_well
sees_filed slot (Bits bits) went_well saw = absurd (by (unpacked_status bits) saw)
  where
    by : (found : Option Status) → option_map_or SawStatus found Junk ≡ Filed went_well → ⊥
    by None e = cc
    by (Some status) e = cc
sees_filed slot GotWon went_well saw = absurd (cc)
sees_filed slot GotLost went_well saw = absurd (cc)
sees_filed slot (GotFile other) went_well saw = ap GotFile (cc)

if_door : (IsSo : Door → Type 0) (observation : Observation) → ((door : Door) → observation ≡ SawDoor door → IsSo door) → IfDoor IsSo observation
if_door IsSo (SawDoor door) so = so door refl
if_door IsSo observation so = tt

if_gate : (IsSo : Gate → Type 0) (observation : Observation) → ((gate : Gate) → observation ≡ SawGate gate → IsSo gate) → IfGate IsSo observation
if_gate IsSo (SawGate gate) so = so gate refl
if_gate IsSo observation so = tt

if_filed : (IsSo : Bool → Type 0) (observation : Observation) → ((went_well : Bool) → observation ≡ Filed went_well → IsSo went_well) → IfFiled IsSo observation
if_filed IsSo (Filed went_well) so = so went_well refl
if_filed IsSo observation so = tt

module _ (found : List Finding) (me : ActorState) (got : Got) where
  door_found : (tenant : ℕ) (door : Door) → observation_of (AtDoor tenant) got ≡ SawDoor door → FoundDoor (found ++ record { op = LoadBits (AtDoor tenant); got = got } ∷ []) tenant door
  door_found tenant door saw =
      let seen = sees_door tenant got door saw in
      let one : Finding = record { op = LoadBits (AtDoor tenant); got = got } in
      record { place = length found; bits = seen.bits; is = got_last found one ∙ ap (λ (g : Got). Some (record { op = LoadBits (AtDoor tenant); got = g })) seen.is; unpacked = seen.is_of }

  gate_found : (slot : ℕ) (gate : Gate) → observation_of (AtGate slot) got ≡ SawGate gate → FoundGate (found ++ record { op = LoadBits (AtGate slot); got = got } ∷ []) slot gate
  gate_found slot gate saw =
      let seen = sees_gate slot got gate saw in
      let one : Finding = record { op = LoadBits (AtGate slot); got = got } in
      record { place = length found; bits = seen.bits; is = got_last found one ∙ ap (λ (g : Got). Some (record { op = LoadBits (AtGate slot); got = g })) seen.is; unpacked = seen.is_of }

  call_met : (call : Call) (slot : ℕ) → IfFiled (λ went_well. went_well ≡ false → MetFault (found ++ record { op = FileCall call slot; got = got } ∷ [])) (observation_of (AtStatus slot) got)
  call_met call slot = if_filed _ (observation_of (AtStatus slot) got) (λ went_well saw failed.
      let one : Finding = record { op = FileCall call slot; got = got } in
      record {
        place = length found;
        call = call;
        slot = slot;
        is = got_last found one ∙ ap (λ (g : Got). Some (record { op = FileCall call slot; got = g })) (sees_filed slot got went_well saw ∙ ap GotFile failed);
      })

  read_told : (tenant address : ℕ) (point : ReadPoint) → tenant ≡ me.tenant
      → IsToldOfRead (found ++ record { op = op_of (read_asks_at tenant address point); got = got } ∷ []) me.tenant point (observation_of (place (read_asks_at tenant address point)) got)
  read_told tenant address DoorOfRead same = if_door _ (observation_of (AtDoor tenant) got) (λ door saw.
      subst (λ (one : ℕ). FoundDoor (found ++ record { op = LoadBits (AtDoor tenant); got = got } ∷ []) one door) same (door_found tenant door saw))
  read_told tenant address point same = tt

  told_at : (next : ℕ) (point : Point) → ((look : Reading) → point ≡ Read look → look.tenant ≡ me.tenant) → ((door : Door) → point ≡ ReadDoor → observation_of (AtDoor me.tenant) got ≡ SawDoor door → door.used ≤ me.quota)
      → IsTold (found ++ record { op = op_of (asks_at me point); got = got } ∷ []) next me point (observation_of (place (asks_at me point)) got)
  told_at next (Read look) reads most = read_told look.tenant look.address look.point (reads look refl)
  told_at next ReadDoor reads most = if_door _ (observation_of (AtDoor me.tenant) got) (λ door saw. (door_found me.tenant door saw, most door refl saw))
  told_at next (ScanGate slot saw_worn) reads most = if_gate _ (observation_of (AtGate slot) got) (gate_found slot)
  told_at next (Prepare own) reads most = call_met _ own.slot
  told_at next (Seal task) reads most = call_met _ task.target.slot
  told_at next (Settle task) reads most = call_met _ task.target.slot
  told_at next point reads most = tt

  -- The same after the request is told what its step found.
  pub evidence_on : (attempt next : ℕ) (point : Point) → attempt ≤ next → ((look : Reading) → point ≡ Read look → look.tenant ≡ me.tenant)
      → ((door : Door) → point ≡ ReadDoor → observation_of (AtDoor me.tenant) got ≡ SawDoor door → door.used ≤ me.quota) → HasEvidenceAt found attempt me.tenant me.quota point
      → HasEvidenceAt (found ++ record { op = op_of (asks_at me point); got = got } ∷ []) next me.tenant me.quota (goes me next point (observation_of (place (asks_at me point)) got))
  evidence_on attempt next point later reads most evidence =
      let more = record { op = op_of (asks_at me point); got = got } ∷ [] in
      goes_so (found ++ more) next me point (observation_of (place (asks_at me point)) got) (told_at next point reads most) (at_stays found more attempt next me.tenant me.quota later point evidence)

-- A reply that is there has its evidence.
read_evidence_of : (found : List Finding) (attempt tenant quota : ℕ) (point : ReadPoint) (reply : Reply) → read_reply_at point ≡ Some reply → HasEvidenceOfRead found attempt tenant quota point
    → HasEvidenceBy found attempt tenant quota reply
read_evidence_of found attempt tenant quota (RepliedOfRead other) reply stands evidence = subst (HasEvidenceBy found attempt tenant quota) (same_Some other reply stands) evidence
read_evidence_of found attempt tenant quota point reply stands evidence = absurd (none-some reply stands)

pub evidence_of : (found : List Finding) (attempt tenant quota : ℕ) (point : Point) (reply : Reply) → reply_at point ≡ Some reply → HasEvidenceAt found attempt tenant quota point
    → HasEvidenceBy found attempt tenant quota reply
evidence_of found attempt tenant quota (Read look) reply stands evidence = read_evidence_of found attempt tenant quota look.point reply stands evidence
evidence_of found attempt tenant quota (Replied other) reply stands evidence = subst (HasEvidenceBy found attempt tenant quota) (same_Some other reply stands) evidence
evidence_of found attempt tenant quota point reply stands evidence = absurd (none-some reply stands)

-- No attempt has a number past the last one.
pub whole_evidence : (found : List Finding) (attempt tenant quota : ℕ) (reply : Reply) → attempt ≤ WORN_NUMBER → HasEvidenceBy found attempt tenant quota reply → HasEvidence found attempt tenant quota reply
whole_evidence found attempt tenant quota SaysWorn low evidence = elim evidence [
  | inl worn ↦ inl worn
  | inr last ↦ inr (omega (arith, low, last))
]
whole_evidence found attempt tenant quota reply low evidence = evidence
