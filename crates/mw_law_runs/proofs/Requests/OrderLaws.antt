-- The steps of a change's request come in order: before each step it has made those that `specs/Requests/Order` requires.
-- Used by: steps_come_in_turn.
use Rattle.std.specs.Prelude.{ℕ, zero, suc, ◌≡◌, ◌+◌, ◌≤◌, ◌<◌, true, false, nat_lt, List, [], ◌∷◌, length}
use Rattle.std.proofs.Common.{refl, sym, subst, ap, ◌∙◌, arith, inl, inr}
use Rattle.std.proofs.lemmas.Bool.Decides.{nat_tests}
use Rattle.mw_words.specs.declared.gates.Gate.{Gate}
use Rattle.mw_words.specs.declared.jobs.Entry.{Entry}
use Rattle.mw_words.specs.declared.jobs.Job.TheVariants.{Cas}
use Rattle.mw_words.specs.declared.places.At.TheVariants.{Door as AtDoor, Gate as AtGate, Status as AtStatus, Count, Addr, Expected, New}
use Rattle.mw_words.specs.declared.statuses.Status.TheVariants.{Draft}
use Rattle.mw_look.specs.declared.steps.Kind.TheVariants.{Admit as AdmitKind, Claim as ClaimKind, Fill as FillKind}
use Rattle.mw_look.specs.declared.steps.Call.TheVariants.{Prepare as PrepareCall}
use Rattle.mw_look.specs.declared.observations.Observation.{Observation}
use Rattle.mw_look.specs.declared.observations.Observation.TheVariants.{SawDoor, SawGate, SawStatus, Won, Lost, Filed}
use Rattle.mw_look.specs.Steps.{Step, Change, File, store}
use Rattle.mw_look.specs.Runs.{Event, Happened}
use Rattle.mw_actor.specs.declared.points.Slot.{Slot}
use Rattle.mw_actor.specs.declared.points.Task.{Task}
use Rattle.mw_actor.specs.declared.points.After.{After}
use Rattle.mw_actor.specs.declared.points.After.TheVariants.{Work, GiveUp as ThenGiveUp, Reply as ThenReply}
use Rattle.mw_actor.specs.declared.points.Point.{Point}
use Rattle.mw_actor.specs.declared.points.Point.TheVariants.{Read, Admit, Claim, FillStatus, FillCount, FillAddr, FillExpected, FillNew, Prepare, AnnounceRow, Plant, DecideYes, DecideNo, Resolve, PinOther, Seal, Release, Clean, SweepResolve, Settle, Cancel}
use Rattle.mw_actor.specs.ActorState.{ActorState, first, entries_of_job, own_entries, entry_at}
use Rattle.mw_actor.specs.Asks.{asks, asks_at}
use Rattle.mw_actor.specs.Help.{others_read}
use Rattle.mw_actor.specs.Stages.{Stage, Reading, Outside, Entering, Seeking, Claiming, WritingStatus, WritingCount, WritingAddr, WritingExpected, WritingNew, Preparing, Checking, Inspecting, Holding, Deciding, Working, Nearing, Pinning, Fetching, Leaving, Freeing, Lowering, GivingUp, Over, stage, Resumes, OnTask, Scans, Leads}
use Rattle.mw_law_runs.proofs.Requests.StageLaws.{goes_leads}
use Rattle.mw_law_runs.specs.Requests.Runs.{Heard, after, past, made}
use Rattle.mw_law_runs.proofs.Requests.RunLaws.{tenant_stays}
use Rattle.mw_law_runs.specs.Requests.Order.{won, Entrance, claim, draft, written, prepared, HasDone, WasAdmitted, IsInTurn, StepsComeInTurn}

-- what happened before still has happened later
happened_too : (what events : List Event) (latest : Event) → Happened what events → Happened what (latest ∷ events)
happened_too [] events latest is = tt
happened_too (event ∷ before) events latest is = inr is

-- what happened before something that happened, happened
happened_before : (event : Event) (before events : List Event) → Happened (event ∷ before) events → Happened before events
happened_before event before [] is = absurd is
happened_before event before (latest ∷ earlier) (inl is) = happened_too before earlier latest is.1
happened_before event before (latest ∷ earlier) (inr is) = happened_too before earlier latest (happened_before event before earlier is)

done_too : {own : Slot} {what : Entrance → List Event} (events : List Event) (latest : Event) → HasDone own what events → HasDone own what (latest ∷ events)
done_too {what = what} events latest done = record { entrance = done.entrance; under = done.under; order = happened_too (what done.entrance) events latest done.order }

-- and this was done next
done_next : (own : Slot) (what : Entrance → List Event) (events : List Event) (latest this : Event) → this ≡ latest → HasDone own what events → HasDone own (λ entrance. this ∷ what entrance) (latest ∷ events)
done_next own what events latest this is done = record { entrance = done.entrance; under = done.under; order = inl (is, done.order) }

admitted_too : (tenant : ℕ) (events : List Event) (latest : Event) → WasAdmitted tenant events → WasAdmitted tenant (latest ∷ events)
admitted_too tenant events latest was = record { entrance = was.entrance; order = inr was.order }

-- a slot that is written was claimed
claimed_before : (tenant : ℕ) (entries : List Entry) (own : Slot) (count : ℕ) (entrance : Entrance) (events : List Event) → Happened (written tenant entries own count entrance) events → Happened (claim tenant own entrance) events
claimed_before tenant entries own zero entrance events is =
    happened_before (won (store FillKind (AtStatus own.slot) Draft)) (claim tenant own entrance) events (happened_before (won (store FillKind (Count own.slot) (length entries))) (draft tenant own entrance) events is)
claimed_before tenant entries own (suc entry) entrance events is =
    let addr : Event = won (store FillKind (Addr own.slot entry) (entry_at entries entry).addr) in
    let expected : Event = won (store FillKind (Expected own.slot entry) (entry_at entries entry).expected) in
    let new : Event = won (store FillKind (New own.slot entry) (entry_at entries entry).new) in
    let before : List Event = written tenant entries own entry entrance in
    claimed_before tenant entries own entry entrance events (happened_before addr before events (happened_before expected (addr ∷ before) events (happened_before new (expected ∷ addr ∷ before) events is)))

-- what was done before each word of an entry is written
abbrev pub addr_written : ℕ → List Entry → Slot → ℕ → Entrance → List Event
addr_written tenant entries own entry entrance = won (store FillKind (Addr own.slot entry) (entry_at entries entry).addr) ∷ written tenant entries own entry entrance

abbrev pub expected_written : ℕ → List Entry → Slot → ℕ → Entrance → List Event
expected_written tenant entries own entry entrance = won (store FillKind (Expected own.slot entry) (entry_at entries entry).expected) ∷ addr_written tenant entries own entry entrance

-- the change was prepared, if the work on it follows
abbrev pub IsDoneAfter : ℕ → List Entry → List Event → After → Type 0
IsDoneAfter tenant entries events (Work task) = HasDone task.own (prepared tenant entries task.own) events
IsDoneAfter tenant entries events onward = Unit {0}

-- what was done before each stage
abbrev pub IsDoneBefore : ℕ → List Entry → List Event → Stage → Type 0
IsDoneBefore tenant entries events (Reading own) = ⊥
IsDoneBefore tenant entries events Seeking = WasAdmitted tenant events
IsDoneBefore tenant entries events (Claiming slot from to) = WasAdmitted tenant events
IsDoneBefore tenant entries events (WritingStatus own) = HasDone own (claim tenant own) events
IsDoneBefore tenant entries events (WritingCount own) = HasDone own (draft tenant own) events
IsDoneBefore tenant entries events (WritingAddr own entry) = HasDone own (written tenant entries own entry) events × (entry < length entries)
IsDoneBefore tenant entries events (WritingExpected own entry) = HasDone own (addr_written tenant entries own entry) events × (entry < length entries)
IsDoneBefore tenant entries events (WritingNew own entry) = HasDone own (expected_written tenant entries own entry) events × (entry < length entries)
IsDoneBefore tenant entries events (Preparing own) = HasDone own (written tenant entries own (length entries)) events
IsDoneBefore tenant entries events (Checking task) = HasDone task.own (prepared tenant entries task.own) events
IsDoneBefore tenant entries events (Inspecting task entry) = HasDone task.own (prepared tenant entries task.own) events
IsDoneBefore tenant entries events (Holding task entry) = HasDone task.own (prepared tenant entries task.own) events
IsDoneBefore tenant entries events (Deciding task) = HasDone task.own (prepared tenant entries task.own) events
IsDoneBefore tenant entries events (Working task) = HasDone task.own (prepared tenant entries task.own) events
IsDoneBefore tenant entries events (Nearing task other) = HasDone task.own (prepared tenant entries task.own) events
IsDoneBefore tenant entries events (Pinning task other from to) = HasDone task.own (prepared tenant entries task.own) events
IsDoneBefore tenant entries events (Fetching task) = HasDone task.own (prepared tenant entries task.own) events
IsDoneBefore tenant entries events (Leaving slot onward) = IsDoneAfter tenant entries events onward
IsDoneBefore tenant entries events (Freeing slot onward) = IsDoneAfter tenant entries events onward
IsDoneBefore tenant entries events (Lowering onward) = IsDoneAfter tenant entries events onward
IsDoneBefore tenant entries events now = Unit {0}

-- what the step of a stage does, as far as the order of steps needs it
abbrev pub IsAsked : ℕ → List Entry → Stage → Step → Type 0
IsAsked tenant entries (Entering from to) step = step ≡ Change AdmitKind (AtDoor tenant) from to
IsAsked tenant entries (Claiming slot from to) step = step ≡ Change ClaimKind (AtGate slot) from to
IsAsked tenant entries (WritingStatus own) step = step ≡ store FillKind (AtStatus own.slot) Draft
IsAsked tenant entries (WritingCount own) step = step ≡ store FillKind (Count own.slot) (length entries)
IsAsked tenant entries (WritingAddr own entry) step = step ≡ store FillKind (Addr own.slot entry) (entry_at entries entry).addr
IsAsked tenant entries (WritingExpected own entry) step = step ≡ store FillKind (Expected own.slot entry) (entry_at entries entry).expected
IsAsked tenant entries (WritingNew own entry) step = step ≡ store FillKind (New own.slot entry) (entry_at entries entry).new
IsAsked tenant entries (Preparing own) step = step ≡ File PrepareCall own.slot
IsAsked tenant entries now step = Unit {0}

asked : (actor : ActorState) (point : Point) → IsAsked actor.tenant (own_entries actor) (stage point) (asks_at actor point)
asked actor (Admit from to) = refl
asked actor (Claim slot saw_worn from to) = refl
asked actor (FillStatus own) = refl
asked actor (FillCount own) = refl
asked actor (FillAddr own entry) = refl
asked actor (FillExpected own entry) = refl
asked actor (FillNew own entry) = refl
asked actor (Prepare own) = refl
asked actor point = tt

-- the same step, if it was won
won_so : (step asks : Step) → step ≡ asks → won asks ≡ won step
won_so step asks is = ap won (sym is)

resumes : (tenant : ℕ) (entries : List Entry) (events : List Event) (onward : After) → IsDoneAfter tenant entries events onward → Resumes (IsDoneBefore tenant entries events) onward
resumes tenant entries events (Work task) done = ((λ is. done), (λ is. done))
resumes tenant entries events (ThenGiveUp own undecided) done = tt
resumes tenant entries events (ThenReply reply) done = tt

after_too : (tenant : ℕ) (entries : List Entry) (events : List Event) (latest : Event) (onward : After) → IsDoneAfter tenant entries events onward → IsDoneAfter tenant entries (latest ∷ events) onward
after_too tenant entries events latest (Work task) done = done_too events latest done
after_too tenant entries events latest (ThenGiveUp own undecided) done = tt
after_too tenant entries events latest (ThenReply reply) done = tt

on_task : (tenant : ℕ) (entries : List Entry) (events : List Event) (task : Task) → HasDone task.own (prepared tenant entries task.own) events → OnTask (IsDoneBefore tenant entries events) task
on_task tenant entries events task done = record {
  checks = done;
  works = done;
  nears = λ other apart. done;
  turns_back = ((λ one. ((λ is. done), (λ is. done))), (λ two. done));
  ends = λ reply one. tt;
  gives_up = λ one. tt;
  leaves_and_gives_up = λ undecided two. tt;
}

scans : (tenant : ℕ) (entries : List Entry) (events : List Event) → WasAdmitted tenant events → Scans (IsDoneBefore tenant entries events)
scans tenant entries events was = (was, (λ slot from to is. was), (λ reply. tt))

pub is_below : (m n : ℕ) → nat_lt m n ≡ true → m < n
is_below m n is = grind (arith, nat_tests, is)

pub is_not_below : (m n : ℕ) → nat_lt m n ≡ false → n ≤ m
is_not_below m n is = grind (arith, nat_tests, is)

pub one_more : (entry : ℕ) → suc entry ≡ entry + 1
one_more entry = omega arith

pub is_last : (entry count : ℕ) → entry < count → count ≤ entry + 1 → suc entry ≡ count
is_last entry count low high = omega (arith, low, high)

-- what was done before a stage was done before each stage to which it leads
done_leads : (actor : ActorState) (others : List Entry) (events : List Event) (now : Stage) (step : Step) (observation : Observation) → 1 ≤ length (own_entries actor) → IsAsked actor.tenant (own_entries actor) now step → IsDoneBefore actor.tenant (own_entries actor) events now
    → Leads (IsDoneBefore actor.tenant (own_entries actor) (record { asked = step; told = observation } ∷ events)) actor others now observation
done_leads actor others events (Reading own) step observation some is done = absurd done
done_leads actor others events Outside step observation some is done = (tt, (λ from to. tt), tt)
done_leads actor others events (Entering from to) step Won some is done =
    let bare : Gate = record { taken = false; pins = 0; seq = 0 } in
    record { entrance = record { door = from; raised = to; gate = bare; taken = bare }; order = inl (won_so step (Change AdmitKind (AtDoor actor.tenant) from to) is, tt) }
done_leads actor others events (Entering from to) step Lost some is done = tt
done_leads actor others events (Entering from to) step observation some is done = tt
done_leads actor others events Seeking step observation some is done = scans actor.tenant (own_entries actor) (record { asked = step; told = observation } ∷ events) (admitted_too actor.tenant events (record { asked = step; told = observation }) done)
done_leads actor others events (Claiming slot from to) step Won some is done =
    record { entrance = record { door = done.entrance.door; raised = done.entrance.raised; gate = from; taken = to }; under = refl; order = inl (won_so step (Change ClaimKind (AtGate slot) from to) is, done.order) }
done_leads actor others events (Claiming slot from to) step Lost some is done = scans actor.tenant (own_entries actor) (record { asked = step; told = Lost } ∷ events) (admitted_too actor.tenant events (record { asked = step; told = Lost }) done)
done_leads actor others events (Claiming slot from to) step observation some is done = admitted_too actor.tenant events (record { asked = step; told = observation }) done
done_leads actor others events (WritingStatus own) step Won some is done =
    done_next own (claim actor.tenant own) events (won step) (won (store FillKind (AtStatus own.slot) Draft)) (won_so step (store FillKind (AtStatus own.slot) Draft) is) done
done_leads actor others events (WritingStatus own) step observation some is done = done_too events (record { asked = step; told = observation }) done
done_leads actor others events (WritingCount own) step Won some is done =
    (done_next own (draft actor.tenant own) events (won step) (won (store FillKind (Count own.slot) (length (own_entries actor)))) (won_so step (store FillKind (Count own.slot) (length (own_entries actor))) is) done, some)
done_leads actor others events (WritingCount own) step observation some is done = done_too events (record { asked = step; told = observation }) done
done_leads actor others events (WritingAddr own entry) step Won some is done =
    let word : ℕ = (entry_at (own_entries actor) entry).addr in
    (done_next own (written actor.tenant (own_entries actor) own entry) events (won step) (won (store FillKind (Addr own.slot entry) word)) (won_so step (store FillKind (Addr own.slot entry) word) is) done.0, done.1)
done_leads actor others events (WritingAddr own entry) step observation some is done = (done_too events (record { asked = step; told = observation }) done.0, done.1)
done_leads actor others events (WritingExpected own entry) step Won some is done =
    let word : ℕ = (entry_at (own_entries actor) entry).expected in
    (done_next own (addr_written actor.tenant (own_entries actor) own entry) events (won step) (won (store FillKind (Expected own.slot entry) word)) (won_so step (store FillKind (Expected own.slot entry) word) is) done.0, done.1)
done_leads actor others events (WritingExpected own entry) step observation some is done = (done_too events (record { asked = step; told = observation }) done.0, done.1)
done_leads actor others events (WritingNew own entry) step Won some is done =
    let entries : List Entry = own_entries actor in
    let word : ℕ = (entry_at entries entry).new in
    let next : HasDone own (written actor.tenant entries own (suc entry)) (won step ∷ events) =
    done_next own (expected_written actor.tenant entries own entry) events (won step) (won (store FillKind (New own.slot entry) word)) (won_so step (store FillKind (New own.slot entry) word) is) done.0 in (
      (λ more. (subst (λ n. HasDone own (written actor.tenant entries own n) (won step ∷ events)) (one_more entry) next, is_below (entry + 1) (length entries) more)),
      (λ last. subst (λ n. HasDone own (written actor.tenant entries own n) (won step ∷ events)) (is_last entry (length entries) done.1 (is_not_below (entry + 1) (length entries) last)) next),
    )
done_leads actor others events (WritingNew own entry) step observation some is done = (done_too events (record { asked = step; told = observation }) done.0, done.1)
done_leads actor others events (Preparing own) step (Filed went_well) some is done = (
  (λ well. done_next own (written actor.tenant (own_entries actor) own (length (own_entries actor))) events (record { asked = step; told = Filed went_well }) (record { asked = File PrepareCall own.slot; told = Filed true })
      (sym (ap (λ s. record { asked = s; told = Filed went_well }) is ∙ ap (λ b. record { asked = File PrepareCall own.slot; told = Filed b }) well)) done),
  (λ badly. tt),
)
done_leads actor others events (Preparing own) step observation some is done = done_too events (record { asked = step; told = observation }) done
done_leads actor others events (Checking task) step observation some is done =
    let later = done_too events (record { asked = step; told = observation }) done in
    ((λ opened. later), on_task actor.tenant (own_entries actor) (record { asked = step; told = observation } ∷ events) task later)
done_leads actor others events (Inspecting task entry) step observation some is done =
    let later = done_too events (record { asked = step; told = observation }) done in
    (later, later, (λ saw more. later), (λ saw last. later), on_task actor.tenant (own_entries actor) (record { asked = step; told = observation } ∷ events) task later)
done_leads actor others events (Holding task entry) step observation some is done =
    let later = done_too events (record { asked = step; told = observation }) done in
    (later, on_task actor.tenant (own_entries actor) (record { asked = step; told = observation } ∷ events) task later)
done_leads actor others events (Deciding task) step observation some is done =
    let later = done_too events (record { asked = step; told = observation }) done in
    (later, on_task actor.tenant (own_entries actor) (record { asked = step; told = observation } ∷ events) task later)
done_leads actor others events (Working task) step observation some is done = on_task actor.tenant (own_entries actor) (record { asked = step; told = observation } ∷ events) task (done_too events (record { asked = step; told = observation }) done)
done_leads actor others events (Nearing task other) step observation some is done =
    let later = done_too events (record { asked = step; told = observation }) done in
    (later, later, (λ from to pins. later))
done_leads actor others events (Pinning task other from to) step Won some is done =
    let later = done_too events (record { asked = step; told = Won }) done in
    ((λ one. ((λ so. later), (λ so. later))), (λ two. later))
done_leads actor others events (Pinning task other from to) step Lost some is done = done_too events (record { asked = step; told = Lost }) done
done_leads actor others events (Pinning task other from to) step observation some is done = done_too events (record { asked = step; told = observation }) done
done_leads actor others events (Fetching task) step observation some is done =
    let later = done_too events (record { asked = step; told = observation }) done in
    (later, (λ read. later))
done_leads actor others events (Leaving slot onward) step (SawGate gate) some is done =
    let later = after_too actor.tenant (own_entries actor) events (record { asked = step; told = SawGate gate }) onward done in
    ((λ last. later), (λ left. resumes actor.tenant (own_entries actor) (record { asked = step; told = SawGate gate } ∷ events) onward later))
done_leads actor others events (Leaving slot onward) step observation some is done = after_too actor.tenant (own_entries actor) events (record { asked = step; told = observation }) onward done
done_leads actor others events (Freeing slot onward) step Won some is done = after_too actor.tenant (own_entries actor) events (record { asked = step; told = Won }) onward done
done_leads actor others events (Freeing slot onward) step observation some is done = after_too actor.tenant (own_entries actor) events (record { asked = step; told = observation }) onward done
done_leads actor others events (Lowering onward) step (SawDoor door) some is done = resumes actor.tenant (own_entries actor) (record { asked = step; told = SawDoor door } ∷ events) onward (after_too actor.tenant (own_entries actor) events (record { asked = step; told = SawDoor door }) onward done)
done_leads actor others events (Lowering onward) step observation some is done = after_too actor.tenant (own_entries actor) events (record { asked = step; told = observation }) onward done
done_leads actor others events (GivingUp own) step (SawStatus status) some is done = tt
done_leads actor others events (GivingUp own) step observation some is done = tt
done_leads actor others events Over step observation some is done = tt

-- the job stays
pub job_stays : (actor : ActorState) (heard : List Heard) → (after actor heard).job ≡ actor.job
job_stays actor [] = refl
job_stays actor (latest ∷ earlier) = job_stays actor earlier

-- and so do its entries
pub some_stay : (actor : ActorState) (heard : List Heard) → 1 ≤ length (own_entries actor) → 1 ≤ length (own_entries (after actor heard))
some_stay actor heard some = subst (λ job. 1 ≤ length (entries_of_job job)) (sym (job_stays actor heard)) some

runs_done : (begun : ActorState) (heard : List Heard) → 1 ≤ length (own_entries begun) → IsDoneBefore begun.tenant (own_entries begun) [] (stage begun.point)
    → IsDoneBefore (after begun heard).tenant (own_entries (after begun heard)) (past begun heard) (stage (after begun heard).point)
runs_done begun [] some start = start
runs_done begun (latest ∷ earlier) some start =
    let actor : ActorState = after begun earlier in
    goes_leads (IsDoneBefore actor.tenant (own_entries actor) (made actor latest.observation ∷ past begun earlier)) actor latest.next actor.point latest.observation
    (done_leads actor (others_read actor.others actor.point latest.observation) (past begun earlier) (stage actor.point) (asks actor) latest.observation (some_stay begun earlier some) (asked actor actor.point) (runs_done begun earlier some start))

-- a slot that was written was claimed
claimed : (tenant : ℕ) (entries : List Entry) (own : Slot) (count : ℕ) (events : List Event) → HasDone own (written tenant entries own count) events → HasDone own (claim tenant own) events
claimed tenant entries own count events done = record { entrance = done.entrance; under = done.under; order = claimed_before tenant entries own count done.entrance events done.order }

done_before : (own : Slot) (this : Event) (what : Entrance → List Event) (events : List Event) → HasDone own (λ entrance. this ∷ what entrance) events → HasDone own what events
done_before own this what events done = record { entrance = done.entrance; under = done.under; order = happened_before this (what done.entrance) events done.order }

in_turn : (actor : ActorState) (events : List Event) (point : Point) → IsDoneBefore actor.tenant (own_entries actor) events (stage point) → IsInTurn actor.tenant (own_entries actor) events (asks_at actor point)
in_turn actor events (Read look) done = absurd done
in_turn actor events (Claim slot saw_worn from to) done = done
in_turn actor events (FillStatus own) done = record { own = own; place = refl; done = done }
in_turn actor events (FillCount own) done = record { own = own; place = refl; done = done_before own (won (store FillKind (AtStatus own.slot) Draft)) (claim actor.tenant own) events done }
in_turn actor events (FillAddr own entry) done = record { own = own; place = refl; done = claimed actor.tenant (own_entries actor) own entry events done.0 }
in_turn actor events (FillExpected own entry) done =
    let addr : Event = won (store FillKind (Addr own.slot entry) (entry_at (own_entries actor) entry).addr) in
    record { own = own; place = refl; done = claimed actor.tenant (own_entries actor) own entry events (done_before own addr (written actor.tenant (own_entries actor) own entry) events done.0) }
in_turn actor events (FillNew own entry) done =
    let addr : Event = won (store FillKind (Addr own.slot entry) (entry_at (own_entries actor) entry).addr) in
    let expected : Event = won (store FillKind (Expected own.slot entry) (entry_at (own_entries actor) entry).expected) in
    record { own = own; place = refl; done = claimed actor.tenant (own_entries actor) own entry events (done_before own addr (written actor.tenant (own_entries actor) own entry) events (done_before own expected (addr_written actor.tenant (own_entries actor) own entry) events done.0)) }
in_turn actor events (Prepare own) done = record { own = own; is = refl; done = done }
in_turn actor events (AnnounceRow task entry number) done = record { own = task.own; done = done }
in_turn actor events (Plant task entry number) done = record { own = task.own; done = done }
in_turn actor events (DecideYes task) done = record { own = task.own; done = done }
in_turn actor events (DecideNo task entry value) done = record { own = task.own; done = done }
in_turn actor events (Resolve task entry attempt was_open) done = record { own = task.own; done = done }
in_turn actor events (PinOther task other from to) done = record { own = task.own; done = done }
in_turn actor events (Seal task) done = record { own = task.own; done = done }
in_turn actor events (Release task sweep entry) done = record { own = task.own; done = done }
in_turn actor events (Clean task entry value) done = record { own = task.own; done = done }
in_turn actor events (SweepResolve task sweep entry attempt) done = record { own = task.own; done = done }
in_turn actor events (Settle task) done = record { own = task.own; done = done }
in_turn actor events (Cancel task) done = record { own = task.own; done = done }
in_turn actor events point done = tt

pub steps-come-in-turn : StepsComeInTurn
steps-come-in-turn worker tenant quota pool entries heard some =
    let begun : ActorState = first worker tenant quota pool (Cas entries) in
    let actor : ActorState = after begun heard in
    let events : List Event = past begun heard in
    subst (λ t. IsInTurn t entries.items events (asks actor)) (tenant_stays begun heard)
    (subst (λ job. IsInTurn actor.tenant (entries_of_job job) events (asks actor)) (job_stays begun heard)
    (in_turn actor events actor.point (runs_done begun heard some tt)))
