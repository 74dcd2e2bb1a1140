-- A change's request holds words in the order of the change's entries, and sees each earlier one held before it plants at the
-- next.
-- Used by: plants_rise.
use Rattle.std.specs.Prelude.{ℕ, suc, ◌≡◌, ◌+◌, ◌≤◌, ◌<◌, Bool, true, false, cond, List, [], ◌∷◌, length}
use Rattle.std.proofs.Common.{refl, sym, subst, ap, ◌∙◌, arith, inl, inr}
use Rattle.mw_words.specs.declared.jobs.Entry.{Entry}
use Rattle.mw_words.specs.declared.jobs.Job.TheVariants.{Cas}
use Rattle.mw_words.specs.declared.places.At.TheVariants.{Data, Status as AtStatus}
use Rattle.mw_words.specs.declared.statuses.Status.TheVariants.{Open}
use Rattle.mw_look.specs.declared.observations.Observation.{Observation}
use Rattle.mw_look.specs.declared.observations.Observation.TheVariants.{SawDoor, SawGate, SawWord, SawStatus, Won, Lost, Filed}
use Rattle.mw_look.specs.Steps.{Step, Load}
use Rattle.mw_look.proofs.RangeLaws.{either_way}
use Rattle.mw_look.specs.Runs.{Event, Happened, loaded}
use Rattle.mw_actor.specs.declared.points.Slot.{Slot}
use Rattle.mw_actor.specs.declared.points.Task.{Task}
use Rattle.mw_actor.specs.declared.points.After.{After}
use Rattle.mw_actor.specs.declared.points.After.TheVariants.{Work, GiveUp as ThenGiveUp, Reply as ThenReply}
use Rattle.mw_actor.specs.declared.points.Point.{Point}
use Rattle.mw_actor.specs.declared.points.Point.TheVariants.{Read, ReadTargetStatus, Inspect, AnnounceRow, Plant, DecideYes, ReadCount, ReadAddr, ReadExpected, ReadNew}
use Rattle.mw_actor.specs.ActorState.{ActorState, first, own_entries, entry_at, is_alone, alone, held}
use Rattle.mw_actor.specs.Asks.{asks, asks_at}
use Rattle.mw_actor.specs.Help.{others_read}
use Rattle.mw_actor.specs.Stages.{Stage, Reading, Outside, Entering, Seeking, Claiming, WritingStatus, WritingCount, WritingAddr, WritingExpected, WritingNew, Preparing, Checking, Inspecting, Holding, Deciding, Working, Nearing, Pinning, Fetching, Leaving, Freeing, Lowering, GivingUp, stage, Resumes, turned, OnTask, Scans, Leads}
use Rattle.mw_law_runs.proofs.Requests.StageLaws.{goes_leads}
use Rattle.mw_law_runs.specs.Requests.Runs.{Heard, after, past, made}
use Rattle.mw_law_runs.proofs.Requests.RunLaws.{tenant_stays}
use Rattle.mw_law_runs.proofs.Requests.BalanceLaws.{own_alone}
use Rattle.mw_law_runs.proofs.Requests.OrderLaws.{is_below, is_not_below, one_more, is_last, some_stay}
use Rattle.mw_law_runs.specs.Requests.HoldOrder.{loads_status, this_look, seen_held, IsNextToHold, IsInRising, PlantsRise}

-- the target's entries: the request's own, or those that it read of another's change
abbrev pub entries_by : List Entry → List Entry → Task → List Entry
entries_by own others task = cond (is_alone task) own others

-- if the target is another's, at least one of its entries was read
abbrev pub HasOthers : List Entry → Task → Type 0
HasOthers others task = is_alone task ≡ false → 1 ≤ length others

-- What was seen before each stage, by the request's own entries and by those that it read of another's change.
abbrev pub IsSeenBefore : ℕ → List Entry → List Entry → List Event → Stage → Type 0
IsSeenBefore tenant own others events (Reading reader) = ⊥
IsSeenBefore tenant own others events (Checking task) = HasOthers others task
IsSeenBefore tenant own others events (Inspecting task entry) = HasOthers others task × IsNextToHold tenant task.target (entries_by own others task) entry events
IsSeenBefore tenant own others events (Holding task entry) = HasOthers others task × IsNextToHold tenant task.target (entries_by own others task) entry events
IsSeenBefore tenant own others events (Deciding task) = HasOthers others task × Happened (seen_held tenant task.target (entries_by own others task) (length (entries_by own others task))) (this_look events)
IsSeenBefore tenant own others events (Working task) = HasOthers others task
IsSeenBefore tenant own others events (Nearing task other) = HasOthers others task
IsSeenBefore tenant own others events (Pinning task other from to) = HasOthers others task
IsSeenBefore tenant own others events now = Unit {0}

-- what the step of a stage loads, as far as the order of holding needs it
abbrev pub IsLooking : ℕ → List Entry → List Entry → Stage → Step → Type 0
IsLooking tenant own others (Checking task) step = step ≡ Load (AtStatus task.target.slot)
IsLooking tenant own others (Inspecting task entry) step = step ≡ Load (Data tenant (entry_at (entries_by own others task) entry).addr)
IsLooking tenant own others (Holding task entry) step = loads_status step ≡ false
IsLooking tenant own others (Deciding task) step = loads_status step ≡ false
IsLooking tenant own others now step = Unit {0}

looking : (actor : ActorState) (point : Point) → IsLooking actor.tenant (own_entries actor) actor.others (stage point) (asks_at actor point)
looking actor (ReadTargetStatus task) = refl
looking actor (Inspect task entry) = refl
looking actor (AnnounceRow task entry number) = refl
looking actor (Plant task entry number) = refl
looking actor (DecideYes task) = refl
looking actor point = tt

-- another's entries stay as they were read, except while they are read
abbrev pub IsSettled : Stage → Type 0
IsSettled (Fetching task) = ⊥
IsSettled now = Unit {0}

others_stay : (others : List Entry) (point : Point) (observation : Observation) → IsSettled (stage point) → others_read others point observation ≡ others
others_stay others (ReadCount task) observation is = absurd is
others_stay others (ReadAddr task count) observation is = absurd is
others_stay others (ReadExpected task count addr) observation is = absurd is
others_stay others (ReadNew task count addr expected) observation is = absurd is
others_stay others point observation is = refl

-- what happened since the status was loaded still has happened later, if the later step loads no status
look_too : (what events : List Event) (latest : Event) → loads_status latest.asked ≡ false → Happened what (this_look events) → Happened what (this_look (latest ∷ events))
look_too what events latest is seen = subst (λ b. Happened what (cond b (latest ∷ []) (latest ∷ this_look events))) (sym is) (too what (this_look events) latest seen)
  where
    too : (what events : List Event) (latest : Event) → Happened what events → Happened what (latest ∷ events)
    too [] events latest is = tt
    too (event ∷ before) events latest is = inr is

-- and this happened next
look_next : (this : Event) (before events : List Event) (latest : Event) → loads_status latest.asked ≡ false → this ≡ latest → Happened before (this_look events) → Happened (this ∷ before) (this_look (latest ∷ events))
look_next this before events latest is same seen = subst (λ b. Happened (this ∷ before) (cond b (latest ∷ []) (latest ∷ this_look events))) (sym is) (inl (same, seen))

-- a load of a status is the first step of a look
look_first : (this : Event) (events : List Event) (latest : Event) → loads_status latest.asked ≡ true → this ≡ latest → Happened (this ∷ []) (this_look (latest ∷ events))
look_first this events latest is same = subst (λ b. Happened (this ∷ []) (cond b (latest ∷ []) (latest ∷ this_look events))) (sym is) (inl (same, tt))

next_too : (tenant : ℕ) (target : Slot) (entries : List Entry) (entry : ℕ) (events : List Event) (latest : Event) → loads_status latest.asked ≡ false → IsNextToHold tenant target entries entry events → IsNextToHold tenant target entries entry (latest ∷ events)
next_too tenant target entries entry events latest is next = record { is_one = next.is_one; seen = look_too (seen_held tenant target entries entry) events latest is next.seen }

-- a change that is worked on has at least one entry
has_entry : (own others : List Entry) (task : Task) → 1 ≤ length own → HasOthers others task → 0 < length (entries_by own others task)
has_entry own others task some has = either_way (λ entries. 0 < length entries) (is_alone task) own others (λ is. omega (arith, some)) (λ is. omega (arith, has is))

differ : (test : Bool) → test ≡ true → test ≡ false → ⊥
differ true is apart = absurd (grind (arith, apart))
differ false is apart = absurd (grind (arith, is))

resumes : (tenant : ℕ) (own others : List Entry) (events : List Event) (onward : After) → Resumes (IsSeenBefore tenant own others events) onward
resumes tenant own others events (Work task) = ((λ is apart. absurd (differ (is_alone task) is apart)), (λ is. tt))
resumes tenant own others events (ThenGiveUp slot undecided) = tt
resumes tenant own others events (ThenReply reply) = tt

on_task : (tenant : ℕ) (own others : List Entry) (events : List Event) (task : Task) → HasOthers others task → OnTask (IsSeenBefore tenant own others events) task
on_task tenant own others events task has = record {
  checks = has;
  works = has;
  nears = λ other apart. has;
  turns_back = ((λ one. resumes tenant own others events (Work (turned task task.own))), (λ two. tt));
  ends = λ reply one. tt;
  gives_up = λ one. tt;
  leaves_and_gives_up = λ undecided two. tt;
}

scans : (tenant : ℕ) (own others : List Entry) (events : List Event) → Scans (IsSeenBefore tenant own others events)
scans tenant own others events = (tt, (λ slot from to is. tt), (λ reply. tt))

-- a step with what it found
abbrev pub found : Step → Observation → Event
found step observation = record { asked = step; told = observation }

-- what was just seen
just_saw : (step asks : Step) (observation told : Observation) → step ≡ asks → observation ≡ told → found asks told ≡ found step observation
just_saw step asks observation told is same = ap (λ s. found s told) (sym is) ∙ ap (λ n. found step n) (sym same)

-- what was seen before a stage was seen before each stage to which it leads, if another's entries stay as they were read
seen_settled : (actor : ActorState) (events : List Event) (now : Stage) (step : Step) (observation : Observation) → 1 ≤ length (own_entries actor) → IsLooking actor.tenant (own_entries actor) actor.others now step → IsSeenBefore actor.tenant (own_entries actor) actor.others events now
    → Leads (IsSeenBefore actor.tenant (own_entries actor) actor.others (found step observation ∷ events)) actor actor.others now observation
seen_settled actor events (Reading reader) step observation some is seen = absurd seen
seen_settled actor events Outside step observation some is seen = (tt, (λ from to. tt), tt)
seen_settled actor events (Entering from to) step Won some is seen = tt
seen_settled actor events (Entering from to) step Lost some is seen = tt
seen_settled actor events (Entering from to) step observation some is seen = tt
seen_settled actor events Seeking step observation some is seen = scans actor.tenant (own_entries actor) actor.others (found step observation ∷ events)
seen_settled actor events (Claiming slot from to) step Won some is seen = tt
seen_settled actor events (Claiming slot from to) step Lost some is seen = scans actor.tenant (own_entries actor) actor.others (found step Lost ∷ events)
seen_settled actor events (Claiming slot from to) step observation some is seen = tt
seen_settled actor events (WritingStatus own) step Won some is seen = tt
seen_settled actor events (WritingCount own) step Won some is seen = tt
seen_settled actor events (WritingAddr own entry) step Won some is seen = tt
seen_settled actor events (WritingExpected own entry) step Won some is seen = tt
seen_settled actor events (WritingNew own entry) step Won some is seen = ((λ more. tt), (λ last. tt))
seen_settled actor events (Preparing own) step (Filed went_well) some is seen = ((λ well apart. absurd (differ (is_alone (alone own)) (own_alone own) apart)), (λ badly. tt))
seen_settled actor events (Checking task) step observation some is seen =
    let own : List Entry = own_entries actor in
    let others : List Entry = actor.others in (
      (λ opened. (
        seen,
        record {
          is_one = has_entry own others task some seen;
          seen = look_first (loaded (AtStatus task.target.slot) (SawStatus Open)) events (found step observation) (ap loads_status is) (just_saw step (Load (AtStatus task.target.slot)) observation (SawStatus Open) is opened);
        },
      )),
      on_task actor.tenant own others (found step observation ∷ events) task seen,
    )
seen_settled actor events (Inspecting task entry) step observation some is seen =
    let own : List Entry = own_entries actor in
    let others : List Entry = actor.others in
    let entries : List Entry = entries_by own others task in
    let quiet : loads_status step ≡ false = ap loads_status is in
    let stays : IsNextToHold actor.tenant task.target entries entry (found step observation ∷ events) = next_too actor.tenant task.target entries entry events (found step observation) quiet seen.1 in
    let one : Event = loaded (Data actor.tenant (entry_at entries entry).addr) (SawWord (held task.target)) in
    let next : observation ≡ SawWord (held task.target) → Happened (seen_held actor.tenant task.target entries (suc entry)) (this_look (found step observation ∷ events)) =
    λ told. look_next one (seen_held actor.tenant task.target entries entry) events (found step observation) quiet (just_saw step (Load (Data actor.tenant (entry_at entries entry).addr)) observation (SawWord (held task.target)) is told) seen.1.seen in (
      (seen.0, stays),
      (seen.0, stays),
      (λ told more. (seen.0, record { is_one = is_below (entry + 1) (length entries) more; seen = subst (λ n. Happened (seen_held actor.tenant task.target entries n) (this_look (found step observation ∷ events))) (one_more entry) (next told) })),
      (λ told last. (seen.0, subst (λ n. Happened (seen_held actor.tenant task.target entries n) (this_look (found step observation ∷ events))) (is_last entry (length entries) seen.1.is_one (is_not_below (entry + 1) (length entries) last)) (next told))),
      on_task actor.tenant own others (found step observation ∷ events) task seen.0,
    )
seen_settled actor events (Holding task entry) step observation some is seen =
    let entries : List Entry = entries_by (own_entries actor) actor.others task in
    ((seen.0, next_too actor.tenant task.target entries entry events (found step observation) is seen.1), on_task actor.tenant (own_entries actor) actor.others (found step observation ∷ events) task seen.0)
seen_settled actor events (Deciding task) step observation some is seen =
    let entries : List Entry = entries_by (own_entries actor) actor.others task in
    ((seen.0, look_too (seen_held actor.tenant task.target entries (length entries)) events (found step observation) is seen.1), on_task actor.tenant (own_entries actor) actor.others (found step observation ∷ events) task seen.0)
seen_settled actor events (Working task) step observation some is seen = on_task actor.tenant (own_entries actor) actor.others (found step observation ∷ events) task seen
seen_settled actor events (Nearing task other) step observation some is seen = (seen, seen, (λ from to pins. seen))
seen_settled actor events (Pinning task other from to) step Won some is seen = ((λ one. resumes actor.tenant (own_entries actor) actor.others (found step Won ∷ events) (Work (turned task other))), (λ two. tt))
seen_settled actor events (Pinning task other from to) step Lost some is seen = seen
seen_settled actor events (Pinning task other from to) step observation some is seen = seen
seen_settled actor events (Fetching task) step observation some is seen = (tt, (λ read apart. read))
seen_settled actor events (Leaving slot onward) step (SawGate gate) some is seen = ((λ last. tt), (λ left. resumes actor.tenant (own_entries actor) actor.others (found step (SawGate gate) ∷ events) onward))
seen_settled actor events (Freeing slot onward) step Won some is seen = tt
seen_settled actor events (Lowering onward) step (SawDoor door) some is seen = resumes actor.tenant (own_entries actor) actor.others (found step (SawDoor door) ∷ events) onward
seen_settled actor events (GivingUp own) step (SawStatus status) some is seen = tt
seen_settled actor events now step observation some is seen = tt

-- and also while they are read
seen_leads : (actor : ActorState) (read : List Entry) (events : List Event) (now : Stage) (step : Step) (observation : Observation) → 1 ≤ length (own_entries actor) → (IsSettled now → read ≡ actor.others) → IsLooking actor.tenant (own_entries actor) actor.others now step → IsSeenBefore actor.tenant (own_entries actor) actor.others events now
    → Leads (IsSeenBefore actor.tenant (own_entries actor) read (found step observation ∷ events)) actor read now observation
seen_leads actor read events (Fetching task) step observation some stay is seen = (tt, (λ one apart. one))
seen_leads actor read events now step observation some stay is seen = subst (λ others. Leads (IsSeenBefore actor.tenant (own_entries actor) others (found step observation ∷ events)) actor others now observation) (sym (stay tt)) (seen_settled actor events now step observation some is seen)

runs_seen : (begun : ActorState) (heard : List Heard) → 1 ≤ length (own_entries begun) → IsSeenBefore begun.tenant (own_entries begun) begun.others [] (stage begun.point)
    → IsSeenBefore (after begun heard).tenant (own_entries (after begun heard)) (after begun heard).others (past begun heard) (stage (after begun heard).point)
runs_seen begun [] some start = start
runs_seen begun (latest ∷ earlier) some start =
    let actor : ActorState = after begun earlier in
    let read : List Entry = others_read actor.others actor.point latest.observation in
    goes_leads (IsSeenBefore actor.tenant (own_entries actor) read (made actor latest.observation ∷ past begun earlier)) actor latest.next actor.point latest.observation
    (seen_leads actor read (past begun earlier) (stage actor.point) (asks actor) latest.observation (some_stay begun earlier some) (others_stay actor.others actor.point latest.observation) (looking actor actor.point) (runs_seen begun earlier some start))

in_rising : (actor : ActorState) (events : List Event) (point : Point) → actor.point ≡ point → IsSeenBefore actor.tenant (own_entries actor) actor.others events (stage point) → IsInRising actor.tenant actor events (asks_at actor point)
in_rising actor events (Read look) is seen = absurd seen
in_rising actor events (Plant task entry number) is seen = record { task = task; entry = entry; number = number; stands = is; asked = refl; next = seen.1 }
in_rising actor events (DecideYes task) is seen = record { task = task; stands = is; asked = refl; seen = seen.1 }
in_rising actor events point is seen = tt

pub plants-rise : PlantsRise
plants-rise worker tenant quota pool entries heard some =
    let begun : ActorState = first worker tenant quota pool (Cas entries) in
    let actor : ActorState = after begun heard in
    let events : List Event = past begun heard in
    subst (λ t. IsInRising t actor events (asks actor)) (tenant_stays begun heard)
    (in_rising actor events actor.point refl (runs_seen begun heard some tt))
