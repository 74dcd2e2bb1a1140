-- A request makes no step at another tenant's door or word, and each slot of which it holds a pin was won by one of its
-- steps.
-- Used by: requests_stay_with_their_tenant, last_pins_are_freed.
use Rattle.std.specs.Prelude.{ℕ, ◌≡◌, ◌==◌, true, cond, List, [], ◌∷◌}
use Rattle.std.proofs.Common.{refl, sym, subst, ap, inl, inr}
use Rattle.mw_words.specs.declared.jobs.Entry.{Entry}
use Rattle.mw_words.specs.declared.jobs.Job.{Job}
use Rattle.mw_words.specs.declared.jobs.Job.TheVariants.{Get, Cas}
use Rattle.mw_words.specs.declared.places.At.TheVariants.{Door as AtDoor, Gate as AtGate}
use Rattle.mw_pool.specs.Moves.{Claims, Pins}
use Rattle.mw_look.specs.declared.steps.Kind.TheVariants.{Claim as ClaimKind, Drop as DropKind}
use Rattle.mw_look.specs.declared.observations.Observation.{Observation}
use Rattle.mw_look.specs.declared.observations.Observation.TheVariants.{SawDoor, SawGate, SawStatus, Won, Lost, Filed}
use Rattle.mw_look.specs.Steps.{Step, Change, place, fetch}
use Rattle.mw_look.specs.Program.{Reading as ReadingNow, asks as read_asks}
use Rattle.mw_look.specs.declared.points.Point.{Point as ReadPoint}
use Rattle.mw_look.specs.declared.points.Point.TheVariants.{ReadDoor as ReadDoorOfRead, ReadWord as ReadWordOfRead, ConfirmWord as ConfirmOfRead, RecheckWord as RecheckOfRead, LowerDoor as LowerOfRead, Replied as RepliedOfRead}
use Rattle.mw_look.specs.Runs.{Event}
use Rattle.mw_actor.specs.declared.points.Slot.{Slot}
use Rattle.mw_actor.specs.declared.points.Task.{Task}
use Rattle.mw_actor.specs.declared.points.After.{After}
use Rattle.mw_actor.specs.declared.points.After.TheVariants.{Work, GiveUp as ThenGiveUp, Reply as ThenReply}
use Rattle.mw_actor.specs.declared.points.Point.{Point}
use Rattle.mw_actor.specs.declared.points.Point.TheVariants.{Read, ReadDoor, Admit, Claim, Inspect, Plant, ConfirmAttempt, ConfirmDirty, Resolve, PinOther, SweepWord, Release, Clean, SweepConfirm, SweepResolve, Unpin, FreeSlot, LowerDoor, Replied}
use Rattle.mw_actor.specs.ActorState.{ActorState, first}
use Rattle.mw_actor.specs.Asks.{asks, asks_at}
use Rattle.mw_actor.specs.RequestEnds.{resumed}
use Rattle.mw_actor.specs.Help.{others_read}
use Rattle.mw_actor.specs.Program.{goes, tells}
use Rattle.mw_actor.specs.Stages.{Stage, Reading, Outside, Entering, Seeking, Claiming, WritingStatus, WritingCount, WritingAddr, WritingExpected, WritingNew, Preparing, Checking, Inspecting, Holding, Deciding, Working, Nearing, Pinning, Fetching, Leaving, Freeing, Lowering, GivingUp, Over, stage, Resumes, OnTask, Scans, Leads}
use Rattle.mw_law_runs.proofs.Requests.StageLaws.{goes_leads}
use Rattle.mw_law_runs.specs.Requests.Runs.{Heard, after, past, made, IsPlaceFor, RequestsStayWithTheirTenant, WinsSlot, WasWon, ClaimsSlot, WasClaimed, IsFollowed, LastPinsAreFreed}

-- One fact holds of the own change, and another of the target.
abbrev pub AreBoth : (Slot → Type 0) → (Slot → Type 0) → Task → Type 0
AreBoth O A task = O task.own × A task.target

-- The fact holds of each change whose pin is held before `onward`.
abbrev pub AreAfter : (Slot → Type 0) → (Slot → Type 0) → After → Type 0
AreAfter O A (Work task) = AreBoth O A task
AreAfter O A (ThenGiveUp own undecided) = O own
AreAfter O A (ThenReply reply) = Unit {0}

-- The fact holds of each change whose pin is held at this stage. Gates allow the stage's exchange of a gate. A read is of
-- the tenant that the fact allows.
abbrev pub AreAt : (ℕ → Type 0) → (Slot → Type 0) → (Slot → Type 0) → Stage → Type 0
AreAt Q O A (Reading tenant) = Q tenant
AreAt Q O A (Claiming slot from to) = Claims from to
AreAt Q O A (WritingStatus own) = O own
AreAt Q O A (WritingCount own) = O own
AreAt Q O A (WritingAddr own entry) = O own
AreAt Q O A (WritingExpected own entry) = O own
AreAt Q O A (WritingNew own entry) = O own
AreAt Q O A (Preparing own) = O own
AreAt Q O A (GivingUp own) = O own
AreAt Q O A (Checking task) = AreBoth O A task
AreAt Q O A (Inspecting task entry) = AreBoth O A task
AreAt Q O A (Holding task entry) = AreBoth O A task
AreAt Q O A (Deciding task) = AreBoth O A task
AreAt Q O A (Working task) = AreBoth O A task
AreAt Q O A (Nearing task other) = AreBoth O A task
AreAt Q O A (Pinning task other from to) = AreBoth O A task × Pins other.seq from to
AreAt Q O A (Fetching task) = AreBoth O A task
AreAt Q O A (Leaving slot onward) = A slot × AreAfter O A onward
AreAt Q O A (Freeing slot onward) = AreAfter O A onward
AreAt Q O A (Lowering onward) = AreAfter O A onward
AreAt Q O A now = Unit {0}

-- The fact holds of the change that is won at this stage, if one is.
abbrev pub IsOfWon : (Slot → Type 0) → (Slot → Type 0) → Stage → Observation → Type 0
IsOfWon O A (Claiming slot from to) Won = O (record { slot = slot; seq = from.seq })
IsOfWon O A (Pinning task other from to) Won = A other
IsOfWon O A now observation = Unit {0}

resumes : (Q : ℕ → Type 0) (O A : Slot → Type 0) (onward : After) → AreAfter O A onward → Resumes (AreAt Q O A) onward
resumes Q O A (Work task) are = ((λ is. are), (λ is. are))
resumes Q O A (ThenGiveUp own undecided) are = are
resumes Q O A (ThenReply reply) are = tt

on_task : (Q : ℕ → Type 0) (O A : Slot → Type 0) (task : Task) → ((slot : Slot) → O slot → A slot) → AreBoth O A task → OnTask (AreAt Q O A) task
on_task Q O A task too are = record {
  checks = are;
  works = are;
  nears = λ other apart. are;
  turns_back = ((λ one. ((λ is. (are.0, too task.own are.0)), (λ is. (are.0, too task.own are.0)))), (λ two. (are.1, (are.0, too task.own are.0))));
  ends = λ reply one. (too task.own are.0, tt);
  gives_up = λ one. are.0;
  leaves_and_gives_up = λ undecided two. (are.1, are.0);
}

scans : (Q : ℕ → Type 0) (O A : Slot → Type 0) → Scans (AreAt Q O A)
scans Q O A = (tt, (λ slot from to is. is), (λ reply. tt))

-- What holds later of the own change, and of each change whose pin is held, follows from what held before.
pub record AreKept (O A P B : Slot → Type 0) : Type 0 where
  pub own : (slot : Slot) → O slot → P slot
  pub each : (slot : Slot) → A slot → B slot
  pub too : (slot : Slot) → P slot → B slot

both_too : (O A P B : Slot → Type 0) (task : Task) → AreKept O A P B → AreBoth O A task → AreBoth P B task
both_too O A P B task more are = (more.own task.own are.0, more.each task.target are.1)

after_too : (O A P B : Slot → Type 0) (onward : After) → AreKept O A P B → AreAfter O A onward → AreAfter P B onward
after_too O A P B (Work task) more are = both_too O A P B task more are
after_too O A P B (ThenGiveUp own undecided) more are = more.own own are
after_too O A P B (ThenReply reply) more are = tt

-- what holds of each change whose pin is held, and of the one that is won, holds of each change whose pin is held after the step
are_leads : (Q : ℕ → Type 0) (O A P B : Slot → Type 0) (actor : ActorState) (others : List Entry) (now : Stage) (observation : Observation) → AreKept O A P B → IsOfWon P B now observation → AreAt Q O A now → Leads (AreAt Q P B) actor others now observation
are_leads Q O A P B actor others (Reading tenant) observation more won are = are
are_leads Q O A P B actor others Outside observation more won are = (tt, (λ from to. tt), tt)
are_leads Q O A P B actor others (Entering from to) Won more won are = tt
are_leads Q O A P B actor others (Entering from to) Lost more won are = tt
are_leads Q O A P B actor others (Entering from to) observation more won are = tt
are_leads Q O A P B actor others Seeking observation more won are = scans Q P B
are_leads Q O A P B actor others (Claiming slot from to) Won more won are = won
are_leads Q O A P B actor others (Claiming slot from to) Lost more won are = scans Q P B
are_leads Q O A P B actor others (Claiming slot from to) observation more won are = are
are_leads Q O A P B actor others (WritingStatus own) Won more won are = more.own own are
are_leads Q O A P B actor others (WritingStatus own) observation more won are = more.own own are
are_leads Q O A P B actor others (WritingCount own) Won more won are = more.own own are
are_leads Q O A P B actor others (WritingCount own) observation more won are = more.own own are
are_leads Q O A P B actor others (WritingAddr own entry) Won more won are = more.own own are
are_leads Q O A P B actor others (WritingAddr own entry) observation more won are = more.own own are
are_leads Q O A P B actor others (WritingExpected own entry) Won more won are = more.own own are
are_leads Q O A P B actor others (WritingExpected own entry) observation more won are = more.own own are
are_leads Q O A P B actor others (WritingNew own entry) Won more won are = ((λ next. more.own own are), (λ last. more.own own are))
are_leads Q O A P B actor others (WritingNew own entry) observation more won are = more.own own are
are_leads Q O A P B actor others (Preparing own) (Filed went_well) more won are = ((λ well. (more.own own are, more.too own (more.own own are))), (λ badly. more.own own are))
are_leads Q O A P B actor others (Preparing own) observation more won are = more.own own are
are_leads Q O A P B actor others (Checking task) observation more won are = ((λ opened. both_too O A P B task more are), on_task Q P B task more.too (both_too O A P B task more are))
are_leads Q O A P B actor others (Inspecting task entry) observation more won are =
    let both = both_too O A P B task more are in
    (both, both, (λ saw next. both), (λ saw last. both), on_task Q P B task more.too both)
are_leads Q O A P B actor others (Holding task entry) observation more won are = (both_too O A P B task more are, on_task Q P B task more.too (both_too O A P B task more are))
are_leads Q O A P B actor others (Deciding task) observation more won are = (both_too O A P B task more are, on_task Q P B task more.too (both_too O A P B task more are))
are_leads Q O A P B actor others (Working task) observation more won are = on_task Q P B task more.too (both_too O A P B task more are)
are_leads Q O A P B actor others (Nearing task other) observation more won are = (both_too O A P B task more are, both_too O A P B task more are, (λ from to pins. (both_too O A P B task more are, pins)))
are_leads Q O A P B actor others (Pinning task other from to) Won more won are =
    let both = both_too O A P B task more are.0 in
    ((λ one. ((λ is. (both.0, won)), (λ is. (both.0, won)))), (λ two. (both.1, (both.0, won))))
are_leads Q O A P B actor others (Pinning task other from to) Lost more won are = both_too O A P B task more are.0
are_leads Q O A P B actor others (Pinning task other from to) observation more won are = (both_too O A P B task more are.0, are.1)
are_leads Q O A P B actor others (Fetching task) observation more won are = (both_too O A P B task more are, (λ some. both_too O A P B task more are))
are_leads Q O A P B actor others (Leaving slot onward) (SawGate gate) more won are = ((λ last. after_too O A P B onward more are.1), (λ left. resumes Q P B onward (after_too O A P B onward more are.1)))
are_leads Q O A P B actor others (Leaving slot onward) observation more won are = (more.each slot are.0, after_too O A P B onward more are.1)
are_leads Q O A P B actor others (Freeing slot onward) Won more won are = after_too O A P B onward more are
are_leads Q O A P B actor others (Freeing slot onward) observation more won are = after_too O A P B onward more are
are_leads Q O A P B actor others (Lowering onward) (SawDoor door) more won are = resumes Q P B onward (after_too O A P B onward more are)
are_leads Q O A P B actor others (Lowering onward) observation more won are = after_too O A P B onward more are
are_leads Q O A P B actor others (GivingUp own) (SawStatus status) more won are = tt
are_leads Q O A P B actor others (GivingUp own) observation more won are = more.own own are
are_leads Q O A P B actor others Over observation more won are = tt

-- a slot that is claimed is won
claims_win : (slot : Slot) (step : Step) (observation : Observation) → ClaimsSlot slot step observation → WinsSlot slot step observation
claims_win slot (Change ClaimKind (AtGate other) from to) Won is = is
claims_win slot step observation is = absurd is

claimed_was_won : (events : List Event) (slot : Slot) → WasClaimed events slot → WasWon events slot
claimed_was_won [] slot was = was
claimed_was_won (latest ∷ earlier) slot (inl is) = inl (claims_win slot latest.asked latest.told is)
claimed_was_won (latest ∷ earlier) slot (inr was) = inr (claimed_was_won earlier slot was)

-- the change that is won at a point is the one that its step wins
wins : (Q : ℕ → Type 0) (O A : Slot → Type 0) (events : List Event) (actor : ActorState) (point : Point) (observation : Observation) → AreAt Q O A (stage point)
    → IsOfWon (WasClaimed (record { asked = asks_at actor point; told = observation } ∷ events)) (WasWon (record { asked = asks_at actor point; told = observation } ∷ events)) (stage point) observation
wins Q O A events actor (Claim slot saw_worn from to) Won are = inl (refl, refl, are)
wins Q O A events actor (PinOther task other from to) Won are = inl (refl, are.1.had_that_number, are.1)
wins Q O A events actor point observation are = tt

-- in every run the own change was claimed, and each change whose pin is held was won
pub runs_are : (Q : ℕ → Type 0) (begun : ActorState) (heard : List Heard) → AreAt Q (WasClaimed []) (WasWon []) (stage begun.point) → AreAt Q (WasClaimed (past begun heard)) (WasWon (past begun heard)) (stage (after begun heard).point)
runs_are Q begun [] start = start
runs_are Q begun (latest ∷ earlier) start =
    let actor : ActorState = after begun earlier in
    let before : List Event = past begun earlier in
    let later : List Event = made actor latest.observation ∷ before in
    let are = runs_are Q begun earlier start in
    goes_leads (AreAt Q (WasClaimed later) (WasWon later)) actor latest.next actor.point latest.observation
    (are_leads Q (WasClaimed before) (WasWon before) (WasClaimed later) (WasWon later) actor (others_read actor.others actor.point latest.observation) (stage actor.point) latest.observation
    (record { own = λ slot is. inr is; each = λ slot is. inr is; too = λ slot is. claimed_was_won later slot is })
    (wins Q (WasClaimed before) (WasWon before) before actor actor.point latest.observation are)
    are)

-- the same at the point where a request begins
starts_are : (worker tenant quota pool : ℕ) (job : Job) → AreAt (λ t. t ≡ tenant) (WasClaimed []) (WasWon []) (stage (first worker tenant quota pool job).point)
starts_are worker tenant quota pool (Get address) = refl
starts_are worker tenant quota pool (Cas entries) = tt

-- the tenant stays
pub tenant_stays : (actor : ActorState) (heard : List Heard) → (after actor heard).tenant ≡ actor.tenant
tenant_stays actor [] = refl
tenant_stays actor (latest ∷ earlier) = tenant_stays actor earlier

-- the places of a read's steps
read_place : (read : ReadingNow) → IsPlaceFor read.tenant (place (read_asks read))
read_place read = at_point read.tenant read.address read.point
  where
    at_point : (tenant address : ℕ) (point : ReadPoint) → IsPlaceFor tenant (place (read_asks (record { tenant = tenant; address = address; point = point })))
    at_point tenant address ReadDoorOfRead = refl
    at_point tenant address ReadWordOfRead = refl
    at_point tenant address (ConfirmOfRead trail) = refl
    at_point tenant address (RecheckOfRead trail status expected new) = refl
    at_point tenant address (LowerOfRead onward) = refl
    at_point tenant address (RepliedOfRead reply) = refl
    at_point tenant address point = tt

place_for : (O A : Slot → Type 0) (actor : ActorState) (point : Point) → AreAt (λ t. t ≡ actor.tenant) O A (stage point) → IsPlaceFor actor.tenant (place (asks_at actor point))
place_for O A actor (Read look) are = subst (λ tenant. IsPlaceFor tenant (place (read_asks look))) are (read_place look)
place_for O A actor ReadDoor are = refl
place_for O A actor (Admit from to) are = refl
place_for O A actor (LowerDoor onward) are = refl
place_for O A actor (Replied reply) are = refl
place_for O A actor (Inspect task entry) are = refl
place_for O A actor (Plant task entry number) are = refl
place_for O A actor (ConfirmAttempt task entry attempt other) are = refl
place_for O A actor (ConfirmDirty task entry other value) are = refl
place_for O A actor (Resolve task entry attempt was_open) are = refl
place_for O A actor (SweepWord task sweep entry) are = refl
place_for O A actor (Release task sweep entry) are = refl
place_for O A actor (Clean task entry value) are = refl
place_for O A actor (SweepConfirm task sweep entry attempt other) are = refl
place_for O A actor (SweepResolve task sweep entry attempt) are = refl
place_for O A actor point are = tt

pub requests-stay-with-their-tenant : RequestsStayWithTheirTenant
requests-stay-with-their-tenant worker tenant quota pool job heard =
    let begun : ActorState = first worker tenant quota pool job in
    let stays = tenant_stays begun heard in
    subst (λ t. IsPlaceFor t (place (asks (after begun heard)))) stays
    (place_for (WasClaimed (past begun heard)) (WasWon (past begun heard)) (after begun heard) (after begun heard).point
    (subst (λ t. AreAt (λ other. other ≡ t) (WasClaimed (past begun heard)) (WasWon (past begun heard)) (stage (after begun heard).point)) (sym stays) (runs_are (λ t. t ≡ tenant) begun heard (starts_are worker tenant quota pool job))))

-- a gate with one pin passes the test of one
one_pin : (pins : ℕ) → pins ≡ 1 → (pins == 1) ≡ true
one_pin pins is = ap (λ n. n == 1) is

-- after it took back the last pin of a slot a change frees the slot, and then counts it off the door
followed : (tenant : ℕ) (events : List Event) (actor later : ActorState) (next : ℕ) (point : Point) (observation : Observation) → later.tenant ≡ tenant → AreAt (λ t. ⊥) (WasClaimed events) (WasWon events) (stage point) → IsFollowed tenant events (asks_at actor point) observation (asks_at later (goes actor next point observation))
followed tenant events actor later next (Read look) observation same are = absurd are
followed tenant events actor later next (Unpin slot onward) (SawGate gate) same are =
    λ one. (slot.seq, are.0, ap (λ last. asks_at later (cond last (FreeSlot slot onward) (resumed onward))) (one_pin gate.pins one))
followed tenant events actor later next (FreeSlot slot onward) Won same are = ap (λ t. fetch DropKind (AtDoor t)) same
followed tenant events actor later next point observation same are = tt

pub last-pins-are-freed : LastPinsAreFreed
last-pins-are-freed worker tenant quota pool entries heard observation next =
    let begun : ActorState = first worker tenant quota pool (Cas entries) in
    let actor : ActorState = after begun heard in
    followed tenant (past begun heard) actor (tells actor observation next) next actor.point observation (tenant_stays begun heard) (runs_are (λ t. ⊥) begun heard tt)
