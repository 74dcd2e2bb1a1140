-- How many pins a change's request holds after each step, case by case. Also which slots it will free, and which its tenant's
-- door counts for it. Used by: Points.
use Rattle.std.specs.Prelude.{ℕ, ◌≡◌, ◌+◌, ◌==◌, Bool, true, false, cond, nat_lt, List}
use Rattle.std.proofs.Common.{refl, sym, ap, arith}
use Rattle.std.proofs.lemmas.Bool.Decides.{nat_tests}
use Rattle.mw_words.specs.declared.doors.Door.{Door}
use Rattle.mw_words.specs.declared.gates.Gate.{Gate}
use Rattle.mw_words.specs.declared.jobs.Entry.{Entry}
use Rattle.mw_words.specs.declared.limits.TheConstants.{WORN_NUMBER}
use Rattle.mw_pool.specs.declared.doors.Admission.TheVariants.{Fault as HasFailed, Busy as IsBusy, To}
use Rattle.mw_look.specs.declared.observations.Observation.{Observation}
use Rattle.mw_look.specs.declared.observations.Observation.TheVariants.{SawDoor, SawGate, SawStatus, Won, Lost, Filed}
use Rattle.mw_look.proofs.RangeLaws.{either_way}
use Rattle.mw_look.specs.Runs.{if_same}
use Rattle.mw_actor.specs.declared.points.Slot.{Slot}
use Rattle.mw_actor.specs.declared.points.Task.{Task}
use Rattle.mw_actor.specs.declared.points.After.{After}
use Rattle.mw_actor.specs.declared.points.After.TheVariants.{Work, GiveUp as ThenGiveUp, Reply as ThenReply}
use Rattle.mw_actor.specs.declared.points.Point.{Point}
use Rattle.mw_actor.specs.declared.points.Point.TheVariants.{ReadDoor, Admit}
use Rattle.mw_actor.specs.ActorState.{ActorState, is_alone, alone}
use Rattle.mw_actor.specs.Admission.{admitted}
use Rattle.mw_actor.specs.Help.{others_read}
use Rattle.mw_actor.specs.Program.{goes}
use Rattle.mw_actor.specs.Stages.{Stage, Reading, Outside, Entering, Seeking, Claiming, WritingStatus, WritingCount, WritingAddr, WritingExpected, WritingNew, Preparing, Checking, Inspecting, Holding, Deciding, Working, Nearing, Pinning, Fetching, Leaving, Freeing, Lowering, GivingUp, stage, Resumes, turned, OnTask, Scans, Leads}
use Rattle.mw_law_runs.proofs.Requests.StageLaws.{goes_leads}
use Rattle.mw_actor.specs.Balance.{task_pins, pins_after, pins_at, to_free, to_lower}
use Rattle.mw_law_runs.proofs.Requests.BalanceLaws.{own_alone}
use Rattle.mw_law_runs.specs.Counts.Ready.{IsReadyAt}
use Rattle.mw_law_runs.specs.Counts.Then.{pins_then, frees_then, waits_then}

-- At this stage a change holds so many pins of each slot, will free so many slots, and its door counts so many for it that aren't taken.
pub record Holds (quota : ℕ) (pins frees : ℕ → ℕ) (waits : ℕ) (now : Stage) : Type 0 where
  pub pins_are : (slot : ℕ) → pins_at slot now ≡ pins slot
  pub frees_are : (slot : ℕ) → to_free slot now ≡ frees slot
  pub waits_are : to_lower now ≡ waits
  pub ready : IsReadyAt quota now

-- the own change alone is pinned once, and another one beside it once more
pins_alone : (slot : ℕ) (task : Task) → is_alone task ≡ true → task_pins slot task ≡ if_same task.own.slot slot
pins_alone slot task is =
    let e : task_pins slot task ≡ if_same task.own.slot slot + 0 = ap (λ b. if_same task.own.slot slot + cond b 0 (if_same task.target.slot slot)) is in
    omega (arith, e)

pins_both : (slot : ℕ) (task : Task) → is_alone task ≡ false → task_pins slot task ≡ if_same task.own.slot slot + if_same task.target.slot slot
pins_both slot task is = ap (λ b. if_same task.own.slot slot + cond b 0 (if_same task.target.slot slot)) is

-- what is held before `onward` is held at the point to which it leads
resumes : (quota : ℕ) (pins frees : ℕ → ℕ) (onward : After) → ((slot : ℕ) → pins_after slot onward ≡ pins slot) → ((slot : ℕ) → 0 ≡ frees slot)
    → Resumes (Holds quota pins frees 0) onward
resumes quota pins frees (Work task) are none = (
  (λ one. record { pins_are = are; frees_are = none; waits_are = refl; ready = tt }),
  (λ two. record { pins_are = are; frees_are = none; waits_are = refl; ready = tt }),
)
resumes quota pins frees (ThenGiveUp own undecided) are none = record { pins_are = are; frees_are = none; waits_are = refl; ready = tt }
resumes quota pins frees (ThenReply reply) are none = record { pins_are = are; frees_are = none; waits_are = refl; ready = tt }

-- what is held while a change is worked on is held at each point to which the work leads
on_task : (quota : ℕ) (task : Task) → OnTask (Holds quota (λ slot. task_pins slot task) (λ slot. 0) 0) task
on_task quota task =
    let back : Task = turned task task.own in
    record {
      checks = record { pins_are = λ slot. refl; frees_are = λ slot. refl; waits_are = refl; ready = tt };
      works = record { pins_are = λ slot. refl; frees_are = λ slot. refl; waits_are = refl; ready = tt };
      nears = λ other apart. record { pins_are = λ slot. refl; frees_are = λ slot. refl; waits_are = refl; ready = apart };
      turns_back = (
        (λ one. resumes quota (λ slot. task_pins slot task) (λ slot. 0) (Work back) (λ slot. omega (arith, pins_alone slot task one, pins_alone slot back (own_alone task.own))) (λ slot. refl)),
        (λ two. record { pins_are = λ slot. omega (arith, pins_both slot task two, pins_alone slot back (own_alone task.own)); frees_are = λ slot. refl; waits_are = refl; ready = tt }),
      );
      ends = λ reply one. record { pins_are = λ slot. omega (arith, pins_alone slot task one); frees_are = λ slot. refl; waits_are = refl; ready = tt };
      gives_up = λ one. record { pins_are = λ slot. sym (pins_alone slot task one); frees_are = λ slot. refl; waits_are = refl; ready = tt };
      leaves_and_gives_up = λ undecided two. record { pins_are = λ slot. omega (arith, pins_both slot task two); frees_are = λ slot. refl; waits_are = refl; ready = tt };
    }

-- while a change looks for a slot, the door counts it
scans : (quota : ℕ) → Scans (Holds quota (λ slot. 0) (λ slot. 0) 1)
scans quota = (
  record { pins_are = λ slot. refl; frees_are = λ slot. refl; waits_are = refl; ready = tt },
  (λ slot from to claims. record { pins_are = λ k. refl; frees_are = λ k. refl; waits_are = refl; ready = claims }),
  (λ reply. record { pins_are = λ slot. refl; frees_are = λ slot. refl; waits_are = refl; ready = tt }),
)

-- a change at its tenant's door goes on in another way
abbrev IsInside : Stage → Type 0
IsInside Outside = ⊥
IsInside now = Unit {0}

-- what is held after a step, stage by stage
abbrev AfterStep : ℕ → Stage → Observation → Stage → Type 0
AfterStep quota now observation = Holds quota (λ slot. pins_then slot now observation) (λ slot. frees_then slot now observation) (waits_then now observation)

-- nothing changes but what is ready
stays : (quota : ℕ) (pins : ℕ → ℕ) (later : Stage) → ((slot : ℕ) → pins_at slot later ≡ pins slot) → ((slot : ℕ) → to_free slot later ≡ 0) → to_lower later ≡ 0 → IsReadyAt quota later
    → Holds quota pins (λ slot. 0) 0 later
stays quota pins later pins_are frees_are waits_are ready = record { pins_are = pins_are; frees_are = frees_are; waits_are = waits_are; ready = ready }

leaving : (quota : ℕ) (actor : ActorState) (others : List Entry) (given : Slot) (onward : After) (gate : Gate)
    → Leads (AfterStep quota (Leaving given onward) (SawGate gate)) actor others (Leaving given onward) (SawGate gate)
leaving quota actor others given onward gate = (
  (λ last. record { pins_are = λ slot. refl; frees_are = λ slot. sym (ap (λ b. cond b (if_same given.slot slot) 0) last); waits_are = refl; ready = tt }),
  (λ more. resumes quota (λ slot. pins_after slot onward) (λ slot. cond (gate.pins == 1) (if_same given.slot slot) 0) onward (λ slot. refl) (λ slot. sym (ap (λ b. cond b (if_same given.slot slot) 0) more))),
)

leads : (quota : ℕ) (actor : ActorState) (others : List Entry) (now : Stage) (observation : Observation) → IsInside now → IsReadyAt quota now
    → Leads (AfterStep quota now observation) actor others now observation
leads quota actor others (Reading tenant) observation inside ready = absurd ready
leads quota actor others Outside observation inside ready = absurd inside
leads quota actor others (Entering from to) Won inside ready = record { pins_are = λ slot. refl; frees_are = λ slot. refl; waits_are = refl; ready = tt }
leads quota actor others (Entering from to) Lost inside ready = record { pins_are = λ slot. refl; frees_are = λ slot. refl; waits_are = refl; ready = tt }
leads quota actor others Seeking observation inside ready = scans quota
leads quota actor others (Claiming slot from to) Won inside ready = record { pins_are = λ k. refl; frees_are = λ k. refl; waits_are = refl; ready = tt }
leads quota actor others (Claiming slot from to) Lost inside ready = scans quota
leads quota actor others (WritingStatus own) Won inside ready = record { pins_are = λ slot. refl; frees_are = λ slot. refl; waits_are = refl; ready = tt }
leads quota actor others (WritingCount own) Won inside ready = record { pins_are = λ slot. refl; frees_are = λ slot. refl; waits_are = refl; ready = tt }
leads quota actor others (WritingAddr own entry) Won inside ready = record { pins_are = λ slot. refl; frees_are = λ slot. refl; waits_are = refl; ready = tt }
leads quota actor others (WritingExpected own entry) Won inside ready = record { pins_are = λ slot. refl; frees_are = λ slot. refl; waits_are = refl; ready = tt }
leads quota actor others (WritingNew own entry) Won inside ready = (
  (λ more. record { pins_are = λ slot. refl; frees_are = λ slot. refl; waits_are = refl; ready = tt }),
  (λ last. record { pins_are = λ slot. refl; frees_are = λ slot. refl; waits_are = refl; ready = tt }),
)
leads quota actor others (Preparing own) (Filed went_well) inside ready = (
  (λ well. record { pins_are = λ slot. pins_alone slot (alone own) (own_alone own); frees_are = λ slot. refl; waits_are = refl; ready = tt }),
  (λ badly. record { pins_are = λ slot. refl; frees_are = λ slot. refl; waits_are = refl; ready = tt }),
)
leads quota actor others (Checking task) observation inside ready = ((λ opened. stays quota (λ slot. task_pins slot task) (Inspecting task 0) (λ slot. refl) (λ slot. refl) refl tt), on_task quota task)
leads quota actor others (Inspecting task entry) observation inside ready = (
  stays quota (λ slot. task_pins slot task) (Inspecting task entry) (λ slot. refl) (λ slot. refl) refl tt,
  stays quota (λ slot. task_pins slot task) (Holding task entry) (λ slot. refl) (λ slot. refl) refl tt,
  (λ saw more. stays quota (λ slot. task_pins slot task) (Inspecting task (entry + 1)) (λ slot. refl) (λ slot. refl) refl tt),
  (λ saw last. stays quota (λ slot. task_pins slot task) (Deciding task) (λ slot. refl) (λ slot. refl) refl tt),
  on_task quota task,
)
leads quota actor others (Holding task entry) observation inside ready = (stays quota (λ slot. task_pins slot task) (Holding task entry) (λ slot. refl) (λ slot. refl) refl tt, on_task quota task)
leads quota actor others (Deciding task) observation inside ready = (stays quota (λ slot. task_pins slot task) (Deciding task) (λ slot. refl) (λ slot. refl) refl tt, on_task quota task)
leads quota actor others (Working task) observation inside ready = on_task quota task
leads quota actor others (Nearing task other) observation inside ready = (
  stays quota (λ slot. task_pins slot task) (Nearing task other) (λ slot. refl) (λ slot. refl) refl ready,
  stays quota (λ slot. task_pins slot task) (Checking task) (λ slot. refl) (λ slot. refl) refl tt,
  (λ from to pins. stays quota (λ slot. task_pins slot task) (Pinning task other from to) (λ slot. refl) (λ slot. refl) refl (ready, pins)),
)
leads quota actor others (Pinning task other from to) Won inside ready =
    let next : Task = turned task other in
    let pins : ℕ → ℕ = λ slot. if_same other.slot slot + task_pins slot task in (
      (λ one. resumes quota pins (λ slot. 0) (Work next) (λ slot. omega (arith, pins_alone slot task one, pins_both slot next ready.0)) (λ slot. refl)),
      (λ two. record { pins_are = λ slot. omega (arith, pins_both slot task two, pins_both slot next ready.0); frees_are = λ slot. refl; waits_are = refl; ready = tt }),
    )
leads quota actor others (Pinning task other from to) Lost inside ready = stays quota (λ slot. task_pins slot task) (Checking task) (λ slot. refl) (λ slot. refl) refl tt
leads quota actor others (Fetching task) observation inside ready = (
  stays quota (λ slot. task_pins slot task) (Fetching task) (λ slot. refl) (λ slot. refl) refl tt,
  (λ some. stays quota (λ slot. task_pins slot task) (Checking task) (λ slot. refl) (λ slot. refl) refl tt),
)
leads quota actor others (Leaving given onward) (SawGate gate) inside ready = leaving quota actor others given onward gate
leads quota actor others (Freeing given onward) Won inside ready = record { pins_are = λ slot. refl; frees_are = λ slot. refl; waits_are = refl; ready = tt }
leads quota actor others (Lowering onward) (SawDoor door) inside ready = resumes quota (λ slot. pins_after slot onward) (λ slot. 0) onward (λ slot. refl) (λ slot. refl)
leads quota actor others (GivingUp own) (SawStatus status) inside ready = record { pins_are = λ slot. refl; frees_are = λ slot. refl; waits_are = refl; ready = tt }
leads quota actor others now observation inside ready = record { pins_are = λ slot. refl; frees_are = λ slot. refl; waits_are = refl; ready = ready }

-- at the door a change is admitted, or it ends
admission : (quota next : ℕ) (door : Door) (test : Bool) (below : Bool) → door.fault ≡ test → nat_lt door.used quota ≡ below
    → Holds quota (λ slot. 0) (λ slot. 0) 0 (stage (admitted next door (cond test HasFailed (cond below (To (record door { used = door.used + 1 })) IsBusy))))
admission quota next door true below no_fault is = record { pins_are = λ slot. refl; frees_are = λ slot. refl; waits_are = refl; ready = tt }
admission quota next door false false no_fault is = record { pins_are = λ slot. refl; frees_are = λ slot. refl; waits_are = refl; ready = tt }
admission quota next door false true no_fault is =
    let to : Door = record door { used = door.used + 1 } in
    either_way (λ p. Holds quota (λ slot. 0) (λ slot. 0) 0 (stage p)) (nat_lt next WORN_NUMBER) (Admit door to) _
    (λ low. record { pins_are = λ slot. refl; frees_are = λ slot. refl; waits_are = refl; ready = record { had_no_fault = no_fault; was_below_quota = grind (arith, nat_tests, is); has_no_fault = no_fault; one_more = refl } })
    (λ worn. record { pins_are = λ slot. refl; frees_are = λ slot. refl; waits_are = refl; ready = tt })

-- a change goes on from the door
from_door : (actor : ActorState) (next : ℕ) (observation : Observation) → Holds actor.quota (λ slot. 0) (λ slot. 0) 0 (stage (goes actor next ReadDoor observation))
from_door actor next (SawDoor door) = admission actor.quota next door door.fault (nat_lt door.used actor.quota) refl refl
from_door actor next observation = record { pins_are = λ slot. refl; frees_are = λ slot. refl; waits_are = refl; ready = tt }

-- the point isn't the one at which a change loads its tenant's door
abbrev is_at_door : Stage → Bool
is_at_door Outside = true
is_at_door now = false

inside_of : (now : Stage) → is_at_door now ≡ false → IsInside now
inside_of Outside is = grind (arith, is)
inside_of now is = tt

-- What a change counts after a step.
pub goes_on_with : (actor : ActorState) (next : ℕ) (point : Point) (observation : Observation) → IsReadyAt actor.quota (stage point)
    → Holds actor.quota (λ slot. pins_then slot (stage point) observation) (λ slot. frees_then slot (stage point) observation) (waits_then (stage point) observation) (stage (goes actor next point observation))
goes_on_with actor next ReadDoor observation ready = from_door actor next observation
goes_on_with actor next point observation ready =
    goes_leads (AfterStep actor.quota (stage point) observation) actor next point observation (leads actor.quota actor (others_read actor.others point observation) (stage point) observation tt ready)
