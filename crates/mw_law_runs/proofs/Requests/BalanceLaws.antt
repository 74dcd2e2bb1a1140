-- A change's request gives back all that it takes: at each point it holds exactly the pins that it won and has not taken
-- back.
-- Used by: replies_give_back, file_calls_are_of_pinned_slots, gates_are_moved_by_the_rules.
use Rattle.std.specs.Prelude.{ℕ, ◌≡◌, ◌+◌, ◌≤◌, ◌==◌, ◌&&◌, Bool, true, false, cond, Some, None, List, [], ◌∷◌}
use Rattle.std.specs.declared.option.Option.{Option}
use Rattle.std.proofs.Common.{refl, sym, subst, ap, ◌∙◌, arith, inr}
use Rattle.std.proofs.lemmas.Bool.Decides.{nat_tests}
use Rattle.mw_words.specs.declared.doors.Door.{Door}
use Rattle.mw_words.specs.declared.gates.Gate.{Gate}
use Rattle.mw_words.specs.declared.jobs.Entry.{Entry}
use Rattle.mw_words.specs.declared.jobs.Job.{Job}
use Rattle.mw_words.specs.declared.jobs.Job.TheVariants.{Get, Cas}
use Rattle.mw_words.specs.declared.places.At.TheVariants.{Door as AtDoor, Gate as AtGate, Status as AtStatus}
use Rattle.mw_words.specs.declared.replies.Reply.{Reply}
use Rattle.mw_pool.specs.Moves.{Claims, Pins}
use Rattle.mw_look.specs.declared.steps.Kind.TheVariants.{Admit as AdmitKind, Claim as ClaimKind, Pin as PinKind, Unpin as UnpinKind, Free as FreeKind, Drop as DropKind}
use Rattle.mw_look.specs.declared.observations.Observation.{Observation}
use Rattle.mw_look.specs.declared.observations.Observation.TheVariants.{SawDoor, SawGate, SawStatus, Won, Lost, Filed}
use Rattle.mw_look.specs.Steps.{Step, Load, Change, fetch, store}
use Rattle.mw_look.specs.Program.{freed, asks as read_asks}
use Rattle.mw_look.specs.declared.points.Point.{Point as ReadPoint}
use Rattle.mw_look.specs.declared.points.Point.TheVariants.{ReadDoor as ReadDoorOfRead}
use Rattle.mw_look.proofs.RangeLaws.{either_way}
use Rattle.mw_look.specs.Runs.{Event, times, if_same, takes_back, takes_last, frees, frees_any, lowers}
use Rattle.mw_actor.specs.declared.points.Slot.{Slot}
use Rattle.mw_actor.specs.declared.points.Task.{Task}
use Rattle.mw_actor.specs.declared.points.After.{After}
use Rattle.mw_actor.specs.declared.points.After.TheVariants.{Work, GiveUp as ThenGiveUp, Reply as ThenReply}
use Rattle.mw_actor.specs.declared.points.Point.{Point}
use Rattle.mw_actor.specs.declared.points.Point.TheVariants.{Read, ReadDoor, Admit, Claim, Prepare, PinOther, Seal, Settle, Cancel, Unpin, FreeSlot, LowerDoor, GiveUp, Replied}
use Rattle.mw_actor.specs.ActorState.{ActorState, first, is_alone, alone, same_slot}
use Rattle.mw_actor.specs.Asks.{asks, asks_at}
use Rattle.mw_actor.specs.Balance.{task_pins, pins_after, pins_at, to_free, to_lower}
use Rattle.mw_actor.specs.Help.{others_read}
use Rattle.mw_actor.specs.Program.{goes, reply_at}
use Rattle.mw_actor.specs.Stages.{Stage, Reading, Outside, Entering, Seeking, Claiming, WritingStatus, WritingCount, WritingAddr, WritingExpected, WritingNew, Preparing, Checking, Inspecting, Holding, Deciding, Working, Nearing, Pinning, Fetching, Leaving, Freeing, Lowering, GivingUp, Over, stage, Resumes, turned, OnTask, Scans, Leads}
use Rattle.mw_law_runs.proofs.Requests.StageLaws.{both_same, goes_leads}
use Rattle.mw_law_runs.proofs.Requests.RunLaws.{AreAt, runs_are}
use Rattle.mw_law_runs.specs.Requests.Runs.{Heard, after, past, made, WasWon, WasClaimed, wins_pin, admits, claims, IsOfPinnedSlot, FileCallsAreOfPinnedSlots, IsGateMove, GatesAreMovedByTheRules, GivesBack, none, one_of, EndsBy, RepliesGiveBack}

-- So many pins are held, so many slots will be freed, and so many will be counted off the door.
pub record IsBalanced (pins slots : ℕ → ℕ) (door : ℕ) (events : List Event) : Type 0 where
  pub pins_are : (slot : ℕ) → times (wins_pin slot) events ≡ times (takes_back slot) events + pins slot
  pub slots_are : (slot : ℕ) → times (takes_last slot) events ≡ times (frees slot) events + slots slot
  pub door_is : times admits events + times frees_any events ≡ times claims events + times lowers events + door

-- What was taken and isn't given back yet is what the stage says: its pins, the slots that it will free, and the slots that it will count off.
abbrev pub IsBalancedAt : List Event → Stage → Type 0
IsBalancedAt events now = IsBalanced (λ slot. pins_at slot now) (λ slot. to_free slot now) (to_lower now) events

-- The balance at a stage of a change, until it has its reply. Gates allow its exchanges of gates, and a change of which it will take a pin isn't its own.
abbrev pub BalanceAtStage : Type 0 → List Event → Stage → Type 0
BalanceAtStage R events (Reading tenant) = R
BalanceAtStage R events Over = Unit {0}
BalanceAtStage R events (Claiming slot from to) = IsBalancedAt events (Claiming slot from to) × Claims from to
BalanceAtStage R events (Nearing task other) = IsBalancedAt events (Nearing task other) × (same_slot other task.own ≡ false)
BalanceAtStage R events (Pinning task other from to) = IsBalancedAt events (Pinning task other from to) × (same_slot other task.own ≡ false) × Pins other.seq from to
BalanceAtStage R events now = IsBalancedAt events now

-- the step takes nothing and gives nothing back
abbrev pub IsOther : Step → Type 0
IsOther (Change AdmitKind at from to) = ⊥
IsOther (Change ClaimKind at from to) = ⊥
IsOther (Change PinKind at from to) = ⊥
IsOther (Change UnpinKind at from to) = ⊥
IsOther (Change FreeKind at from to) = ⊥
IsOther (Change DropKind at from to) = ⊥
IsOther step = Unit {0}

-- what the step of a stage takes and gives back
abbrev pub IsCounted : ℕ → Stage → Step → Type 0
IsCounted tenant (Reading own) step = Unit {0}
IsCounted tenant Outside step = step ≡ Load (AtDoor tenant)
IsCounted tenant (Entering from to) step = step ≡ Change AdmitKind (AtDoor tenant) from to
IsCounted tenant (Claiming slot from to) step = step ≡ Change ClaimKind (AtGate slot) from to
IsCounted tenant (Pinning task other from to) step = step ≡ Change PinKind (AtGate other.slot) from to
IsCounted tenant (Leaving slot onward) step = step ≡ fetch UnpinKind (AtGate slot.slot)
IsCounted tenant (Freeing slot onward) step = step ≡ store FreeKind (AtGate slot.slot) (freed slot.seq)
IsCounted tenant (Lowering onward) step = step ≡ fetch DropKind (AtDoor tenant)
IsCounted tenant (GivingUp own) step = step ≡ Load (AtStatus own.slot)
IsCounted tenant now step = IsOther step

counted : (actor : ActorState) (point : Point) → IsCounted actor.tenant (stage point) (asks_at actor point)
counted actor (Read look) = tt
counted actor ReadDoor = refl
counted actor (Admit from to) = refl
counted actor (Claim slot saw_worn from to) = refl
counted actor (PinOther task other from to) = refl
counted actor (Unpin slot onward) = refl
counted actor (FreeSlot slot onward) = refl
counted actor (LowerDoor onward) = refl
counted actor (GiveUp own undecided) = refl
counted actor point = tt

wins_none : (slot : ℕ) (step : Step) (observation : Observation) → IsOther step → wins_pin slot step observation ≡ 0
wins_none slot (Change ClaimKind at from to) observation is = absurd is
wins_none slot (Change PinKind at from to) observation is = absurd is
wins_none slot step observation is = refl

takes_none : (slot : ℕ) (step : Step) (observation : Observation) → IsOther step → takes_back slot step observation ≡ 0
takes_none slot (Change UnpinKind at from to) observation is = absurd is
takes_none slot step observation is = refl

takes_no_last : (slot : ℕ) (step : Step) (observation : Observation) → IsOther step → takes_last slot step observation ≡ 0
takes_no_last slot (Change UnpinKind at from to) observation is = absurd is
takes_no_last slot step observation is = refl

frees_none : (slot : ℕ) (step : Step) (observation : Observation) → IsOther step → frees slot step observation ≡ 0
frees_none slot (Change FreeKind at from to) observation is = absurd is
frees_none slot step observation is = refl

frees_not_any : (step : Step) (observation : Observation) → IsOther step → frees_any step observation ≡ 0
frees_not_any (Change FreeKind at from to) observation is = absurd is
frees_not_any step observation is = refl

lowers_none : (step : Step) (observation : Observation) → IsOther step → lowers step observation ≡ 0
lowers_none (Change DropKind at from to) observation is = absurd is
lowers_none step observation is = refl

admits_none : (step : Step) (observation : Observation) → IsOther step → admits step observation ≡ 0
admits_none (Change AdmitKind at from to) observation is = absurd is
admits_none step observation is = refl

claims_none : (step : Step) (observation : Observation) → IsOther step → claims step observation ≡ 0
claims_none (Change ClaimKind at from to) observation is = absurd is
claims_none step observation is = refl

-- what must be given back after a step, by what the step takes and gives back
moved : {p q f g : ℕ → ℕ} {c d : ℕ} (events : List Event) (step : Step) (observation : Observation)
    → ((slot : ℕ) → wins_pin slot step observation + p slot ≡ takes_back slot step observation + q slot)
    → ((slot : ℕ) → takes_last slot step observation + f slot ≡ frees slot step observation + g slot)
    → admits step observation + frees_any step observation + c ≡ claims step observation + lowers step observation + d
    → IsBalanced p f c events → IsBalanced q g d (record { asked = step; told = observation } ∷ events)
moved events step observation pins slots door was = record {
  pins_are = λ slot. omega (arith, was.pins_are slot, pins slot);
  slots_are = λ slot. omega (arith, was.slots_are slot, slots slot);
  door_is = omega (arith, was.door_is, door);
}

-- a step that takes and gives back nothing changes nothing of this
kept : {p q f : ℕ → ℕ} {d : ℕ} (events : List Event) (step : Step) (observation : Observation) → IsOther step → ((slot : ℕ) → p slot ≡ q slot) → IsBalanced p f d events → IsBalanced q f d (record { asked = step; told = observation } ∷ events)
kept events step observation is same was =
    moved events step observation
    (λ slot. omega (arith, wins_none slot step observation is, takes_none slot step observation is, same slot))
    (λ slot. omega (arith, takes_no_last slot step observation is, frees_none slot step observation is))
    (omega (arith, admits_none step observation is, frees_not_any step observation is, claims_none step observation is, lowers_none step observation is))
    was

same_number : (number : ℕ) → (number == number) ≡ true
same_number number = grind (arith, nat_tests)

same_once : (slot : ℕ) → if_same slot slot ≡ 1
same_once slot = ap (λ is. cond is 1 0) (same_number slot)

and_both : (one other : Bool) → one ≡ true → other ≡ true → (one && other) ≡ true
and_both true other is so = so
and_both false other is so = is

pub own_alone : (own : Slot) → is_alone (alone own) ≡ true
own_alone own = and_both (own.slot == own.slot) (own.seq == own.seq) (same_number own.slot) (same_number own.seq)

-- the own change alone is pinned once
pins_alone : (slot : ℕ) (task : Task) → is_alone task ≡ true → task_pins slot task ≡ if_same task.own.slot slot
pins_alone slot task is =
    let e : task_pins slot task ≡ if_same task.own.slot slot + 0 = ap (λ b. if_same task.own.slot slot + cond b 0 (if_same task.target.slot slot)) is in
    omega (arith, e)

pins_both : (slot : ℕ) (task : Task) → is_alone task ≡ false → task_pins slot task ≡ if_same task.own.slot slot + if_same task.target.slot slot
pins_both slot task is = ap (λ b. if_same task.own.slot slot + cond b 0 (if_same task.target.slot slot)) is

-- a pin of the target is held
has_target : (task : Task) → 1 ≤ task_pins task.target.slot task
has_target task =
    let once : ℕ = if_same task.own.slot task.target.slot in
    either_way (λ n. 1 ≤ once + n) (is_alone task) 0 (if_same task.target.slot task.target.slot)
    (λ is. omega (arith, ap (λ s. if_same task.own.slot s) (both_same task.target.slot task.target.seq task.own.slot task.own.seq is).0 ∙ same_once task.own.slot))
    (λ is. omega (arith, same_once task.target.slot))

-- what is held before `onward` is held at the stage to which it leads
resumes : (R : Type 0) (events : List Event) (onward : After) → IsBalanced (λ slot. pins_after slot onward) (λ slot. 0) 0 events → Resumes (BalanceAtStage R events) onward
resumes R events (Work task) was = ((λ is. was), (λ is. was))
resumes R events (ThenGiveUp own undecided) was = was
resumes R events (ThenReply reply) was = tt

-- what is held while a change is worked on is held at each stage to which the work leads
on_task : (R : Type 0) (events : List Event) (step : Step) (observation : Observation) (task : Task) → IsOther step → IsBalanced (λ slot. task_pins slot task) (λ slot. 0) 0 events → OnTask (BalanceAtStage R (record { asked = step; told = observation } ∷ events)) task
on_task R events step observation task is was =
    let later : List Event = record { asked = step; told = observation } ∷ events in
    let back : Task = turned task task.own in
    record {
      checks = kept events step observation is (λ slot. refl) was;
      works = kept events step observation is (λ slot. refl) was;
      nears = λ other apart. (kept events step observation is (λ slot. refl) was, apart);
      turns_back = (
        (λ one. resumes R later (Work back) (kept events step observation is (λ slot. omega (arith, pins_alone slot task one, pins_alone slot back (own_alone task.own))) was)),
        (λ two. kept events step observation is (λ slot. omega (arith, pins_both slot task two, pins_alone slot back (own_alone task.own))) was),
      );
      ends = λ reply one. kept events step observation is (λ slot. omega (arith, pins_alone slot task one)) was;
      gives_up = λ one. kept events step observation is (λ slot. pins_alone slot task one) was;
      leaves_and_gives_up = λ undecided two. kept events step observation is (λ slot. omega (arith, pins_both slot task two)) was;
    }

-- the same from a scan of the gates
scans : (R : Type 0) (events : List Event) → IsBalanced (λ slot. 0) (λ slot. 0) 1 events → Scans (BalanceAtStage R events)
scans R events was = (was, (λ slot from to is. (was, is)), (λ reply. was))

entering : (R : Type 0) (actor : ActorState) (others : List Entry) (events : List Event) (tenant : ℕ) (from to : Door) (observation : Observation) → IsBalancedAt events (Entering from to)
    → Leads (BalanceAtStage R (record { asked = Change AdmitKind (AtDoor tenant) from to; told = observation } ∷ events)) actor others (Entering from to) observation
entering R actor others events tenant from to Won was = moved events (Change AdmitKind (AtDoor tenant) from to) Won (λ slot. refl) (λ slot. refl) refl was
entering R actor others events tenant from to observation was = moved events (Change AdmitKind (AtDoor tenant) from to) observation (λ slot. refl) (λ slot. refl) refl was

claiming_moves : (R : Type 0) (actor : ActorState) (others : List Entry) (events : List Event) (slot : ℕ) (from to : Gate) (observation : Observation) → IsBalancedAt events (Claiming slot from to) → Claims from to
    → Leads (BalanceAtStage R (record { asked = Change ClaimKind (AtGate slot) from to; told = observation } ∷ events)) actor others (Claiming slot from to) observation
claiming_moves R actor others events slot from to Won was is = moved events (Change ClaimKind (AtGate slot) from to) Won (λ k. omega arith) (λ k. refl) refl was
claiming_moves R actor others events slot from to Lost was is = scans R (record { asked = Change ClaimKind (AtGate slot) from to; told = Lost } ∷ events) (moved events (Change ClaimKind (AtGate slot) from to) Lost (λ k. refl) (λ k. refl) refl was)
claiming_moves R actor others events slot from to observation was is = (moved events (Change ClaimKind (AtGate slot) from to) observation (λ k. refl) (λ k. refl) refl was, is)

pinning_moves : (R : Type 0) (actor : ActorState) (others : List Entry) (events : List Event) (task : Task) (other : Slot) (from to : Gate) (observation : Observation) → IsBalancedAt events (Pinning task other from to) → same_slot other task.own ≡ false → Pins other.seq from to
    → Leads (BalanceAtStage R (record { asked = Change PinKind (AtGate other.slot) from to; told = observation } ∷ events)) actor others (Pinning task other from to) observation
pinning_moves R actor others events task other from to Won was apart is =
    let later : List Event = record { asked = Change PinKind (AtGate other.slot) from to; told = Won } ∷ events in
    let next : Task = turned task other in (
      (λ one. resumes R later (Work next) (moved events (Change PinKind (AtGate other.slot) from to) Won (λ k. omega (arith, pins_alone k task one, pins_both k next apart)) (λ k. refl) refl was)),
      (λ two. moved events (Change PinKind (AtGate other.slot) from to) Won (λ k. omega (arith, pins_both k task two, pins_both k next apart)) (λ k. refl) refl was),
    )
pinning_moves R actor others events task other from to Lost was apart is = moved events (Change PinKind (AtGate other.slot) from to) Lost (λ k. refl) (λ k. refl) refl was
pinning_moves R actor others events task other from to observation was apart is = (moved events (Change PinKind (AtGate other.slot) from to) observation (λ k. refl) (λ k. refl) refl was, apart, is)

-- a slot's last pin is counted as the last one
last_counts : (slot other : ℕ) (last : Bool) → last ≡ true → cond last (if_same other slot) 0 + 0 ≡ 0 + if_same other slot
last_counts slot other true is = omega arith
last_counts slot other false is = absurd (grind (arith, is))

not_last : (slot other : ℕ) (last : Bool) → last ≡ false → cond last (if_same other slot) 0 + 0 ≡ 0 + 0
not_last slot other true is = absurd (grind (arith, is))
not_last slot other false is = refl

leaving_moves : (R : Type 0) (actor : ActorState) (others : List Entry) (events : List Event) (given : Slot) (onward : After) (observation : Observation) → IsBalancedAt events (Leaving given onward)
    → Leads (BalanceAtStage R (record { asked = fetch UnpinKind (AtGate given.slot); told = observation } ∷ events)) actor others (Leaving given onward) observation
leaving_moves R actor others events given onward (SawGate gate) was = (
  (λ last. moved events (fetch UnpinKind (AtGate given.slot)) (SawGate gate) (λ k. omega arith) (λ k. last_counts k given.slot (gate.pins == 1) last) refl was),
  (λ more. resumes R (record { asked = fetch UnpinKind (AtGate given.slot); told = SawGate gate } ∷ events) onward (moved events (fetch UnpinKind (AtGate given.slot)) (SawGate gate) (λ k. omega arith) (λ k. not_last k given.slot (gate.pins == 1) more) refl was)),
)
leaving_moves R actor others events given onward observation was = moved events (fetch UnpinKind (AtGate given.slot)) observation (λ k. refl) (λ k. refl) refl was

freeing_moves : (R : Type 0) (actor : ActorState) (others : List Entry) (events : List Event) (given : Slot) (onward : After) (observation : Observation) → IsBalancedAt events (Freeing given onward)
    → Leads (BalanceAtStage R (record { asked = store FreeKind (AtGate given.slot) (freed given.seq); told = observation } ∷ events)) actor others (Freeing given onward) observation
freeing_moves R actor others events given onward Won was = moved events (store FreeKind (AtGate given.slot) (freed given.seq)) Won (λ k. refl) (λ k. omega arith) refl was
freeing_moves R actor others events given onward observation was = moved events (store FreeKind (AtGate given.slot) (freed given.seq)) observation (λ k. refl) (λ k. refl) refl was

lowering_moves : (R : Type 0) (actor : ActorState) (others : List Entry) (events : List Event) (tenant : ℕ) (onward : After) (observation : Observation) → IsBalancedAt events (Lowering onward)
    → Leads (BalanceAtStage R (record { asked = fetch DropKind (AtDoor tenant); told = observation } ∷ events)) actor others (Lowering onward) observation
lowering_moves R actor others events tenant onward (SawDoor door) was = resumes R (record { asked = fetch DropKind (AtDoor tenant); told = SawDoor door } ∷ events) onward (moved events (fetch DropKind (AtDoor tenant)) (SawDoor door) (λ k. refl) (λ k. refl) refl was)
lowering_moves R actor others events tenant onward observation was = moved events (fetch DropKind (AtDoor tenant)) observation (λ k. refl) (λ k. refl) refl was

-- what is held at a stage is held at each stage to which it leads
balance_leads : (R : Type 0) (actor : ActorState) (others : List Entry) (events : List Event) (now : Stage) (step : Step) (observation : Observation) → IsCounted actor.tenant now step → BalanceAtStage R events now
    → Leads (BalanceAtStage R (record { asked = step; told = observation } ∷ events)) actor others now observation
balance_leads R actor others events (Reading tenant) step observation is was = was
balance_leads R actor others events Outside step observation is was =
    let other : IsOther step = subst IsOther (sym is) tt in
    (kept events step observation other (λ slot. refl) was, (λ from to. kept events step observation other (λ slot. refl) was), tt)
balance_leads R actor others events (Entering from to) step observation is was = subst (λ s. Leads (BalanceAtStage R (record { asked = s; told = observation } ∷ events)) actor others (Entering from to) observation) (sym is) (entering R actor others events actor.tenant from to observation was)
balance_leads R actor others events Seeking step observation is was = scans R (record { asked = step; told = observation } ∷ events) (kept events step observation is (λ slot. refl) was)
balance_leads R actor others events (Claiming slot from to) step observation is was = subst (λ s. Leads (BalanceAtStage R (record { asked = s; told = observation } ∷ events)) actor others (Claiming slot from to) observation) (sym is) (claiming_moves R actor others events slot from to observation was.0 was.1)
balance_leads R actor others events (WritingStatus own) step Won is was = kept events step Won is (λ slot. refl) was
balance_leads R actor others events (WritingCount own) step Won is was = kept events step Won is (λ slot. refl) was
balance_leads R actor others events (WritingAddr own entry) step Won is was = kept events step Won is (λ slot. refl) was
balance_leads R actor others events (WritingExpected own entry) step Won is was = kept events step Won is (λ slot. refl) was
balance_leads R actor others events (WritingNew own entry) step Won is was = ((λ more. kept events step Won is (λ slot. refl) was), (λ last. kept events step Won is (λ slot. refl) was))
balance_leads R actor others events (Preparing own) step (Filed went_well) is was = ((λ well. kept events step (Filed went_well) is (λ slot. sym (pins_alone slot (alone own) (own_alone own))) was), (λ badly. kept events step (Filed went_well) is (λ slot. refl) was))
balance_leads R actor others events (Checking task) step observation is was = ((λ opened. kept events step observation is (λ slot. refl) was), on_task R events step observation task is was)
balance_leads R actor others events (Inspecting task entry) step observation is was = (
  kept events step observation is (λ slot. refl) was,
  kept events step observation is (λ slot. refl) was,
  (λ saw more. kept events step observation is (λ slot. refl) was),
  (λ saw last. kept events step observation is (λ slot. refl) was),
  on_task R events step observation task is was,
)
balance_leads R actor others events (Holding task entry) step observation is was = (kept events step observation is (λ slot. refl) was, on_task R events step observation task is was)
balance_leads R actor others events (Deciding task) step observation is was = (kept events step observation is (λ slot. refl) was, on_task R events step observation task is was)
balance_leads R actor others events (Working task) step observation is was = on_task R events step observation task is was
balance_leads R actor others events (Nearing task other) step observation is was =
    ((kept events step observation is (λ slot. refl) was.0, was.1), kept events step observation is (λ slot. refl) was.0, (λ from to pins. (kept events step observation is (λ slot. refl) was.0, was.1, pins)))
balance_leads R actor others events (Pinning task other from to) step observation is was = subst (λ s. Leads (BalanceAtStage R (record { asked = s; told = observation } ∷ events)) actor others (Pinning task other from to) observation) (sym is) (pinning_moves R actor others events task other from to observation was.0 was.1 was.2)
balance_leads R actor others events (Fetching task) step observation is was = (kept events step observation is (λ slot. refl) was, (λ some. kept events step observation is (λ slot. refl) was))
balance_leads R actor others events (Leaving given onward) step observation is was = subst (λ s. Leads (BalanceAtStage R (record { asked = s; told = observation } ∷ events)) actor others (Leaving given onward) observation) (sym is) (leaving_moves R actor others events given onward observation was)
balance_leads R actor others events (Freeing given onward) step observation is was = subst (λ s. Leads (BalanceAtStage R (record { asked = s; told = observation } ∷ events)) actor others (Freeing given onward) observation) (sym is) (freeing_moves R actor others events given onward observation was)
balance_leads R actor others events (Lowering onward) step observation is was = subst (λ s. Leads (BalanceAtStage R (record { asked = s; told = observation } ∷ events)) actor others (Lowering onward) observation) (sym is) (lowering_moves R actor others events actor.tenant onward observation was)
balance_leads R actor others events (GivingUp own) step (SawStatus status) is was = tt
balance_leads R actor others events (GivingUp own) step observation is was = kept events step observation (subst IsOther (sym is) tt) (λ slot. refl) was
balance_leads R actor others events Over step observation is was = tt
balance_leads R actor others events now step observation is was = kept events step observation is (λ slot. refl) was

-- what is held where a request begins is held, stage by stage, through its whole run
pub runs_balanced : (R : Type 0) (begun : ActorState) (heard : List Heard) → BalanceAtStage R [] (stage begun.point) → BalanceAtStage R (past begun heard) (stage (after begun heard).point)
runs_balanced R begun [] start = start
runs_balanced R begun (latest ∷ earlier) start =
    let actor : ActorState = after begun earlier in
    goes_leads (BalanceAtStage R (made actor latest.observation ∷ past begun earlier)) actor latest.next actor.point latest.observation
    (balance_leads R actor (others_read actor.others actor.point latest.observation) (past begun earlier) (stage actor.point) (asks actor) latest.observation (counted actor actor.point) (runs_balanced R begun earlier start))

-- a change begins with nothing
starts_balanced : (R : Type 0) → BalanceAtStage R [] Outside
starts_balanced R = record { pins_are = λ slot. refl; slots_are = λ slot. refl; door_is = refl }

starts : (worker tenant quota pool : ℕ) (job : Job) → BalanceAtStage (Unit {0}) [] (stage (first worker tenant quota pool job).point)
starts worker tenant quota pool (Get address) = tt
starts worker tenant quota pool (Cas entries) = starts_balanced (Unit {0})

file_of : (events : List Event) (actor : ActorState) (point : Point) → BalanceAtStage (Unit {0}) events (stage point) → IsOfPinnedSlot events (asks_at actor point)
file_of events actor (Read look) was = read_makes_no_call events look.tenant look.address look.point
  where
    read_makes_no_call : (events : List Event) (tenant address : ℕ) (point : ReadPoint) → IsOfPinnedSlot events (read_asks (record { tenant = tenant; address = address; point = point }))
    read_makes_no_call events tenant address ReadDoorOfRead = tt
    read_makes_no_call events tenant address point = tt
file_of events actor (Prepare own) was = omega (arith, was.pins_are own.slot, same_once own.slot)
file_of events actor (Seal task) was = omega (arith, was.pins_are task.target.slot, has_target task)
file_of events actor (Settle task) was = omega (arith, was.pins_are task.target.slot, has_target task)
file_of events actor (Cancel task) was = omega (arith, was.pins_are task.target.slot, has_target task)
file_of events actor point was = tt

pub file-calls-are-of-pinned-slots : FileCallsAreOfPinnedSlots
file-calls-are-of-pinned-slots worker tenant quota pool job heard =
    let begun : ActorState = first worker tenant quota pool job in
    file_of (past begun heard) (after begun heard) (after begun heard).point (runs_balanced (Unit {0}) begun heard (starts worker tenant quota pool job))

gate_move : (events : List Event) (actor : ActorState) (point : Point) → BalanceAtStage ⊥ events (stage point) → IsGateMove (asks_at actor point)
gate_move events actor (Read look) was = absurd was
gate_move events actor (Claim slot saw_worn from to) was = was.1
gate_move events actor (PinOther task other from to) was = subst (λ n. Pins n from to) (sym was.2.had_that_number) was.2
gate_move events actor point was = tt

pub gates-are-moved-by-the-rules : GatesAreMovedByTheRules
gates-are-moved-by-the-rules worker tenant quota pool entries heard =
    let begun : ActorState = first worker tenant quota pool (Cas entries) in
    gate_move (past begun heard) (after begun heard) (after begun heard).point (runs_balanced ⊥ begun heard (starts_balanced ⊥))

-- the fact E holds, if the change has its reply at this stage
abbrev IsEnd : Type 0 → Stage → Type 0
IsEnd E (Reading tenant) = ⊥
IsEnd E Over = E
IsEnd E now = Unit {0}

-- the change has no reply yet
abbrev IsGoing : Stage → Type 0
IsGoing Over = ⊥
IsGoing now = Unit {0}

-- if so many pins are held and nothing else, all else is given back
given_back : (kept : ℕ → ℕ) (events : List Event) → IsBalanced kept (λ slot. 0) 0 events → GivesBack kept events
given_back kept events was = record { pins = was.pins_are; slots = λ slot. omega (arith, was.slots_are slot); door = omega (arith, was.door_is) }

on_task_end : (E : Type 0) (task : Task) → OnTask (IsEnd E) task
on_task_end E task = record {
  checks = tt;
  works = tt;
  nears = λ other apart. tt;
  turns_back = ((λ one. ((λ is. tt), (λ is. tt))), (λ two. tt));
  ends = λ reply one. tt;
  gives_up = λ one. tt;
  leaves_and_gives_up = λ undecided two. tt;
}

scans_end : (E : Type 0) → Scans (IsEnd E)
scans_end E = (tt, (λ slot from to is. tt), (λ reply. tt))

resumes_end : (E : Type 0) (onward : After) → ((reply : Reply) → onward ≡ ThenReply reply → E) → Resumes (IsEnd E) onward
resumes_end E (Work task) ends = ((λ is. tt), (λ is. tt))
resumes_end E (ThenGiveUp own undecided) ends = tt
resumes_end E (ThenReply reply) ends = ends reply refl

-- what is held when the reply follows: nothing
reply_pins : (events : List Event) (onward : After) (reply : Reply) → onward ≡ ThenReply reply → IsBalanced (λ slot. pins_after slot onward) (λ slot. 0) 0 events → GivesBack none events
reply_pins events onward reply is was = given_back none events (subst (λ o. IsBalanced (λ slot. pins_after slot o) (λ slot. 0) 0 events) is was)

outside_ends : (actor : ActorState) (others : List Entry) (events : List Event) (tenant : ℕ) (observation : Observation) → IsBalancedAt events Outside → Leads (IsEnd (EndsBy (Load (AtDoor tenant)) observation (record { asked = Load (AtDoor tenant); told = observation } ∷ events))) actor others Outside observation
outside_ends actor others events tenant observation was = (tt, (λ from to. tt), given_back none (record { asked = Load (AtDoor tenant); told = observation } ∷ events) (kept events (Load (AtDoor tenant)) observation tt (λ slot. refl) was))

leaving_ends : (actor : ActorState) (others : List Entry) (events : List Event) (given : Slot) (onward : After) (observation : Observation) → IsBalancedAt events (Leaving given onward)
    → Leads (IsEnd (EndsBy (fetch UnpinKind (AtGate given.slot)) observation (record { asked = fetch UnpinKind (AtGate given.slot); told = observation } ∷ events))) actor others (Leaving given onward) observation
leaving_ends actor others events given onward (SawGate gate) was =
    let later : List Event = record { asked = fetch UnpinKind (AtGate given.slot); told = SawGate gate } ∷ events in (
      (λ last. tt),
      (λ more. resumes_end (((gate.pins == 1) ≡ false) × GivesBack none later) onward
          (λ reply is. (more, reply_pins later onward reply is (moved events (fetch UnpinKind (AtGate given.slot)) (SawGate gate) (λ k. omega arith) (λ k. not_last k given.slot (gate.pins == 1) more) refl was)))),
    )
leaving_ends actor others events given onward observation was = tt

lowering_ends : (actor : ActorState) (others : List Entry) (events : List Event) (tenant : ℕ) (onward : After) (observation : Observation) → IsBalancedAt events (Lowering onward)
    → Leads (IsEnd (EndsBy (fetch DropKind (AtDoor tenant)) observation (record { asked = fetch DropKind (AtDoor tenant); told = observation } ∷ events))) actor others (Lowering onward) observation
lowering_ends actor others events tenant onward (SawDoor door) was =
    let later : List Event = record { asked = fetch DropKind (AtDoor tenant); told = SawDoor door } ∷ events in
    resumes_end (GivesBack none later) onward (λ reply is. reply_pins later onward reply is (moved events (fetch DropKind (AtDoor tenant)) (SawDoor door) (λ k. refl) (λ k. refl) refl was))
lowering_ends actor others events tenant onward observation was = tt

giving_up_ends : (actor : ActorState) (others : List Entry) (events : List Event) (own : Slot) (observation : Observation) → WasClaimed events own → IsBalancedAt events (GivingUp own)
    → Leads (IsEnd (EndsBy (Load (AtStatus own.slot)) observation (record { asked = Load (AtStatus own.slot); told = observation } ∷ events))) actor others (GivingUp own) observation
giving_up_ends actor others events own (SawStatus status) claimed was =
    (given_back (one_of own.slot) (record { asked = Load (AtStatus own.slot); told = SawStatus status } ∷ events) (kept events (Load (AtStatus own.slot)) (SawStatus status) tt (λ slot. refl) was), (own.seq, inr claimed))
giving_up_ends actor others events own observation claimed was = tt

-- when a change gets its reply, all is given back
ends_lead : (actor : ActorState) (others : List Entry) (events : List Event) (now : Stage) (step : Step) (observation : Observation) → IsCounted actor.tenant now step → IsGoing now → AreAt (λ t. ⊥) (WasClaimed events) (WasWon events) now → BalanceAtStage ⊥ events now
    → Leads (IsEnd (EndsBy step observation (record { asked = step; told = observation } ∷ events))) actor others now observation
ends_lead actor others events (Reading tenant) step observation is going are was = absurd was
ends_lead actor others events Outside step observation is going are was = subst (λ s. Leads (IsEnd (EndsBy s observation (record { asked = s; told = observation } ∷ events))) actor others Outside observation) (sym is) (outside_ends actor others events actor.tenant observation was)
ends_lead actor others events (Entering from to) step Won is going are was = tt
ends_lead actor others events (Entering from to) step Lost is going are was = tt
ends_lead actor others events Seeking step observation is going are was = scans_end (EndsBy step observation (record { asked = step; told = observation } ∷ events))
ends_lead actor others events (Claiming slot from to) step Won is going are was = tt
ends_lead actor others events (Claiming slot from to) step Lost is going are was = scans_end (EndsBy step Lost (record { asked = step; told = Lost } ∷ events))
ends_lead actor others events (WritingStatus own) step Won is going are was = tt
ends_lead actor others events (WritingCount own) step Won is going are was = tt
ends_lead actor others events (WritingAddr own entry) step Won is going are was = tt
ends_lead actor others events (WritingExpected own entry) step Won is going are was = tt
ends_lead actor others events (WritingNew own entry) step Won is going are was = ((λ more. tt), (λ last. tt))
ends_lead actor others events (Preparing own) step (Filed went_well) is going are was = ((λ well. tt), (λ badly. tt))
ends_lead actor others events (Checking task) step observation is going are was = ((λ opened. tt), on_task_end (EndsBy step observation (record { asked = step; told = observation } ∷ events)) task)
ends_lead actor others events (Inspecting task entry) step observation is going are was = (tt, tt, (λ saw more. tt), (λ saw last. tt), on_task_end (EndsBy step observation (record { asked = step; told = observation } ∷ events)) task)
ends_lead actor others events (Holding task entry) step observation is going are was = (tt, on_task_end (EndsBy step observation (record { asked = step; told = observation } ∷ events)) task)
ends_lead actor others events (Deciding task) step observation is going are was = (tt, on_task_end (EndsBy step observation (record { asked = step; told = observation } ∷ events)) task)
ends_lead actor others events (Working task) step observation is going are was = on_task_end (EndsBy step observation (record { asked = step; told = observation } ∷ events)) task
ends_lead actor others events (Nearing task other) step observation is going are was = (tt, tt, (λ from to pins. tt))
ends_lead actor others events (Pinning task other from to) step Won is going are was = ((λ one. ((λ so. tt), (λ so. tt))), (λ two. tt))
ends_lead actor others events (Pinning task other from to) step Lost is going are was = tt
ends_lead actor others events (Fetching task) step observation is going are was = (tt, (λ some. tt))
ends_lead actor others events (Leaving given onward) step observation is going are was = subst (λ s. Leads (IsEnd (EndsBy s observation (record { asked = s; told = observation } ∷ events))) actor others (Leaving given onward) observation) (sym is) (leaving_ends actor others events given onward observation was)
ends_lead actor others events (Freeing given onward) step Won is going are was = tt
ends_lead actor others events (Lowering onward) step observation is going are was = subst (λ s. Leads (IsEnd (EndsBy s observation (record { asked = s; told = observation } ∷ events))) actor others (Lowering onward) observation) (sym is) (lowering_ends actor others events actor.tenant onward observation was)
ends_lead actor others events (GivingUp own) step observation is going are was = subst (λ s. Leads (IsEnd (EndsBy s observation (record { asked = s; told = observation } ∷ events))) actor others (GivingUp own) observation) (sym is) (giving_up_ends actor others events own observation are was)
ends_lead actor others events Over step observation is going are was = absurd going
ends_lead actor others events now step observation is going are was = tt

abbrev is_some : Option Reply → Type 0
is_some None = ⊥
is_some (Some reply) = Unit {0}

some_is_none : (reply : Reply) → Some reply ≡ None → ⊥
some_is_none reply e = subst is_some e tt

-- E holds if the change has its reply
stands : (E : Type 0) (point : Point) (reply : Reply) → IsEnd E (stage point) → reply_at point ≡ Some reply → E
stands E (Read look) reply is stood = absurd is
stands E (Replied said) reply is stood = is
stands E point reply is stood = absurd (some_is_none reply (sym stood))

-- a change without a reply is still going
goes_on : (point : Point) → reply_at point ≡ None → IsGoing (stage point)
goes_on (Replied reply) none_yet = some_is_none reply none_yet
goes_on point none_yet = tt

pub replies-give-back : RepliesGiveBack
replies-give-back worker tenant quota pool entries heard observation next reply none_yet stood =
    let begun : ActorState = first worker tenant quota pool (Cas entries) in
    let actor : ActorState = after begun heard in
    let events : List Event = past begun heard in
    let E : Type 0 = EndsBy (asks actor) observation (made actor observation ∷ events) in
    stands E (goes actor next actor.point observation) reply
    (goes_leads (IsEnd E) actor next actor.point observation
    (ends_lead actor (others_read actor.others actor.point observation) events (stage actor.point) (asks actor) observation (counted actor actor.point) (goes_on actor.point none_yet) (runs_are (λ t. ⊥) begun heard tt) (runs_balanced ⊥ begun heard (starts_balanced ⊥))))
    stood
