-- Each tenant's store alone simulates a step of a request that is no call on a file. Used by: mw_law_threads.
use Rattle.std.specs.Prelude.{ℕ, ◌≡◌, ◌≢◌, ◌&&◌, not, Bool, true, false, is_some, if◌then◌else◌, Option, Some, None}
use Rattle.std.proofs.Common.{refl, sym, ap, subst, ◌∙◌, inl, inr}
use Rattle.std.proofs.lemmas.Bool.{cases_eq}
use Rattle.std.proofs.lemmas.Option.{same_Some, none-some}
use Rattle.mw_words.specs.declared.jobs.Job.{Job}
use Rattle.mw_words.specs.declared.jobs.Job.TheVariants.{Get, Cas}
use Rattle.mw_words.specs.declared.replies.Reply.TheVariants.{Val, Yes as SaysYes, No as SaysNo, Busy as SaysBusy, Fault as SaysFault, Worn as SaysWorn}
use Rattle.mw_look.specs.declared.observations.Observation.{Observation}
use Rattle.mw_look.specs.declared.observations.Observation.TheVariants.{Won}
use Rattle.mw_look.specs.declared.points.After.{After as AfterRead}
use Rattle.mw_look.specs.declared.points.After.TheVariants.{Again, Answer}
use Rattle.mw_look.specs.declared.points.Point.{Point as ReadPoint}
use Rattle.mw_look.specs.declared.points.Point.TheVariants as look
use Rattle.mw_look.specs.declared.points.Trail.{Trail}
use Rattle.mw_look.specs.declared.points.Trail.TheVariants.{Held as ByHeld, Planted as ByPlanted}
use Rattle.mw_actor.specs.declared.points.After.{After}
use Rattle.mw_actor.specs.declared.points.After.TheVariants.{Work, GiveUp as ThenGiveUp, Reply as ThenReply}
use Rattle.mw_actor.specs.declared.points.Point.{Point}
use Rattle.mw_actor.specs.declared.points.Point.TheVariants.{Read, ReadDoor, Inspect, DecideNo, Resolve, Release, LowerDoor, GiveUp, Replied}
use Rattle.mw_actor.specs.declared.points.Slot.{Slot}
use Rattle.mw_actor.specs.declared.points.Sweep.{Sweep}
use Rattle.mw_actor.specs.declared.points.Sweep.TheVariants.{Yes as SweepYes}
use Rattle.mw_actor.specs.ActorState.{ActorState, entry_of}
use Rattle.mw_actor.specs.Asks.{asks}
use Rattle.mw_actor.specs.Program.{replied}
use Rattle.mw_lone.specs.Store.{Store, is_cas}
use Rattle.mw_world.specs.declared.config.Config.{Config}
use Rattle.mw_world.specs.declared.step_labels.StepLabel.{StepLabel}
use Rattle.mw_world.specs.declared.step_labels.StepLabel.TheVariants.{Admitted, Claimed, Freed, Lowered as IsLowered, SealedIt, FailedToSeal, FailedFile}
use Rattle.mw_world.specs.Definition.Cells.{Cells}
use Rattle.mw_world.specs.Definition.Events.{Step as StepEvent}
use Rattle.mw_world.specs.Definition.StepLabels.{label_of, read_label, read_point, door_label, inspect_label, resolve_label, release_label, give_up_label, answer_label}
use Rattle.mw_world.specs.Definition.State.{State, WorkerState, TenantState, TenantStart}
use Rattle.mw_world.specs.Definition.Turns.{turn, may_make, next_attempt}
use Rattle.mw_law_runs.specs.Moves.Guards.{Guards}
use Rattle.mw_law_runs.specs.Moves.Rely.{Rely}
use Rattle.mw_law_runs.specs.Moves.StepMoves.{moves_told}
use Rattle.mw_law_runs.specs.Knowledge.Informed.{IsInformed, IsPointFor}
use Rattle.mw_law_runs.specs.Knowledge.Points.{Knows}
use Rattle.mw_law_runs.specs.Knowledge.NextState.{told}
use Rattle.mw_law_runs.proofs.Knowledge.Updates.Preservation.{upd_here}
use Rattle.mw_law_runs.proofs.Knowledge.Guards.ReadGuards.{reads_have_guards}
use Rattle.mw_law_runs.proofs.Knowledge.Guards.UpdateGuards.{updates_have_guards}
use Rattle.mw_law_runs.proofs.StepEnds.{Ends}
use Rattle.mw_law_runs.proofs.Obligations.LastPins.{last_pins_are_free}
use Rattle.mw_law_runs.proofs.RequestRanges.{job_goes}
use Rattle.mw_law_runs.proofs.RequestsInWorlds.{have_their_requests}
use Rattle.mw_law_runs.proofs.StepsKeepInvariant.{later}
use Rattle.mw_law_store.specs.Simulation.{IsSimulatedBy}
use Rattle.mw_law_store.specs.Due.{due, waits, due_lowering, Elsewhere, Retiring, lowers, lowers_then}
use Rattle.mw_law_store.specs.RelaxedSteps.{NoLabel}
use Rattle.mw_law_store.proofs.Aside.{owns_are_claimed}
use Rattle.mw_law_store.proofs.Beside.Tenants.{turn_stays, turn_aside}
use Rattle.mw_law_store.proofs.Dues.StepEnds.{EndOf}
use Rattle.mw_law_store.proofs.Dues.Noted.{ends_as, told_at}
use Rattle.mw_law_store.proofs.Elsewhere.{elsewhere}
use Rattle.mw_law_store.proofs.ReservedPlaceLaws.{placed_stays}
use Rattle.mw_law_store.proofs.SimulationSteps.StepsByPoint.{given}
use Rattle.mw_law_store.proofs.SimulationSteps.Met.{Met, met}
use Rattle.mw_law_store.proofs.SimulationSteps.ReservedPlaces.{place_so}
use Rattle.mw_law_store.proofs.SimulationSteps.ReplySteps.{settles}
use Rattle.mw_law_store.proofs.SimulationSteps.Turns.{TakenSo, DoorsSo, FreesSo, IsOfTurn, label_met}
use Rattle.mw_law_store.proofs.ReachablePoints.{is_reachable}
use Rattle.mw_law_store.proofs.ServiceLaws.{IsWithFactsWorld}
use Rattle.mw_law_store.proofs.Stepped.{Stepped, stepped}
use Rattle.mw_law_store.proofs.TakenSlots.{Frame, frames}

-- What a step leaves of slots and doors, by its label.
taken_from : (label : StepLabel) (state : State) (cells : Cells) (tenant : ℕ) → Frame label tenant state.cells cells → TakenSo label state cells
taken_from (Claimed own) state cells tenant frame = frame.0
taken_from (Freed slot) state cells tenant frame = ((λ slot seq lives claimed. frame.0.0 slot seq lives), frame.0.1)
taken_from label state cells tenant frame = λ slot seq lives claimed. frame.0 slot seq lives

doors_from : (label : StepLabel) (state : State) (cells : Cells) (tenant : ℕ) → Frame label tenant state.cells cells → DoorsSo label (state.cells.doors tenant) (cells.doors tenant)
doors_from Admitted state cells tenant frame = frame.1
doors_from IsLowered state cells tenant frame = frame.1
doors_from label state cells tenant frame = frame.1

-- A request that will lower the door for a slot that it freed does not wait for one, if it is a change.
frees_then : (onward : After) → lowers_then onward ≡ Retiring → waits (due_lowering onward) ≡ true → ⊥
frees_then (Work task) low waiting = cc
frees_then (ThenGiveUp own undecided) low waiting = cc
frees_then (ThenReply (Val value)) low waiting = cc
frees_then (ThenReply SaysYes) low waiting = cc
frees_then (ThenReply (SaysNo address value)) low waiting = cc
frees_then (ThenReply SaysBusy) low waiting = cc
frees_then (ThenReply SaysFault) low waiting = cc
frees_then (ThenReply SaysWorn) low waiting = cc

elsewhere_not : Elsewhere ≡ Retiring → ⊥
elsewhere_not e = cc

frees_after : (job : Job) (after : Point) → IsPointFor job after → lowers after ≡ Retiring → waits (due after) ≡ true → is_cas job ≡ true → ⊥
frees_after (Get address) after for_job low waiting is_change = cc
frees_after (Cas entries) (Read reading) for_job low waiting is_change = for_job
frees_after (Cas entries) (LowerDoor onward) for_job low waiting is_change = frees_then onward low waiting
frees_after (Cas entries) after for_job low waiting is_change = elsewhere_not low

frees_so : (label : StepLabel) (actor : ActorState) (after : Point) → IsPointFor actor.job after → EndOf label actor.point after → FreesSo label actor
frees_so (Freed slot) actor after for_job ends = λ waiting. frees_after actor.job after for_job ends.2 (ap waits ends.0 ∙ waiting)
frees_so label actor after for_job ends = tt

-- Only a call on a file has a label that a change is sealed, or that the file failed.
abbrev pub IsTurns : StepLabel → Type 0
IsTurns (SealedIt target) = ⊥
IsTurns (FailedToSeal target) = ⊥
IsTurns FailedFile = ⊥
IsTurns label = Unit {0}

door_turns : (after : Point) → IsTurns (door_label after)
door_turns (Replied SaysBusy) = tt
door_turns (Replied SaysFault) = tt
door_turns after = tt

inspect_turns : (after : Point) → IsTurns (inspect_label after)
inspect_turns (DecideNo task entry value) = tt
inspect_turns after = tt

resolve_turns : (was_open : Bool) (target : Slot) (address : ℕ) → IsTurns (resolve_label was_open target address)
resolve_turns true target address = tt
resolve_turns false target address = tt

release_turns : (sweep : Sweep) (target : Slot) (address : ℕ) → IsTurns (release_label sweep target address)
release_turns SweepYes target address = tt
release_turns sweep target address = tt

give_up_turns : (own : Slot) (after : Point) → IsTurns (give_up_label own after)
give_up_turns own (Replied SaysFault) = tt
give_up_turns own after = tt

answer_turns : (trail : Trail) (after : AfterRead) → IsTurns (answer_label trail after)
answer_turns trail Again = tt
answer_turns (ByHeld slot seq) (Answer value) = tt
answer_turns (ByPlanted worker number row) (Answer value) = tt

read_turns : (point after : ReadPoint) → IsTurns (read_label point after)
read_turns look.ReadDoor (look.Replied SaysFault) = tt
read_turns look.ReadDoor after = tt
read_turns look.ReadWord (look.Replied reply) = tt
read_turns look.ReadWord after = tt
read_turns (look.ReadStatus (ByHeld slot seq)) after = tt
read_turns (look.ReadStatus (ByPlanted worker number row)) after = tt
read_turns (look.RecheckWord trail status was written) (look.Unpin slot seq after) = answer_turns trail after
read_turns (look.RecheckWord trail status was written) after = tt
read_turns point after = tt

pub label_turns : (actor : ActorState) (point : Point) (observation : Observation) (after : Point) → IsTurns (label_of actor point observation after)
label_turns actor (Read reading) observation after = read_turns reading.point (read_point after)
label_turns actor ReadDoor observation after = door_turns after
label_turns actor (Inspect task entry) observation after = inspect_turns after
label_turns actor (Resolve task entry attempt was_open) Won after = resolve_turns was_open task.target (entry_of actor task entry).addr
label_turns actor (Release task sweep entry) Won after = release_turns sweep task.target (entry_of actor task entry).addr
label_turns actor (GiveUp own undecided) observation after = give_up_turns own after
label_turns actor point Won after = tt
label_turns actor point observation after = tt

is_of_turn : (openings : ℕ → TenantStart) (state : State) (actor next : ActorState) (cells : Cells) (observation : Observation) (store : Store) (simulated : IsSimulatedBy openings state actor.tenant store)
    (sits : (state.worker_states actor.worker).actor ≡ Some actor) (same_tenant : next.tenant ≡ actor.tenant) (same_job : next.job ≡ actor.job) (label : StepLabel)
    → IsTurns label → IsOfTurn openings state actor next cells observation store simulated sits same_tenant same_job label
is_of_turn openings state actor next cells observation store simulated sits same_tenant same_job (SealedIt target) is = is
is_of_turn openings state actor next cells observation store simulated sits same_tenant same_job (FailedToSeal target) is = is
is_of_turn openings state actor next cells observation store simulated sits same_tenant same_job FailedFile is = is
is_of_turn openings state actor next cells observation store simulated sits same_tenant same_job label is = tt

may_of : (one two : Bool) (after next : State) → (if one && two then Some after else None) ≡ Some next → two ≡ true
may_of true true after next is = refl
may_of true false after next is = cc
may_of false true after next is = refl
may_of false false after next is = cc

module _ (config : Config) (openings : ℕ → TenantStart) (state next : State) (actor : ActorState) (world : IsWithFactsWorld config state) (sits : (state.worker_states actor.worker).actor ≡ Some actor)
    (is : turn config state actor.worker (Some actor) ≡ Some next) where
  informed : IsInformed config state actor
  informed = (have_their_requests config state world.sound actor.worker actor sits).informed

  step : Stepped state next actor
  step = stepped config state next actor informed is

  guards : Guards config state actor.worker (moves_told state actor.worker actor step.observation)
  guards = by_end step.ends
    where
      by_end : Ends state.cells (asks actor) step.observation → Guards config state actor.worker (moves_told state actor.worker actor step.observation)
      by_end (inl quiet) = reads_have_guards config state actor step.observation informed quiet
      by_end (inr changes) =
          updates_have_guards config state actor step.observation world.sound.counts sits informed
          (last_pins_are_free config state actor.worker actor world.sound.counts world.sound.points (have_their_requests config state world.sound) world.sound.releasers sits)
          (may_of (not (is_some (replied actor))) (may_make config (asks actor)) _ next is) changes

  abbrev then_actor : ActorState
  then_actor = told state actor step.observation

  abbrev label : StepLabel
  label = label_of actor actor.point step.observation then_actor.point

  abbrev number : ℕ
  number = next_attempt actor.point (state.worker_states actor.worker).attempt

  later_next : Rely actor.worker state next
  later_next = later config state next actor world.sound sits is

  knows : (other : ℕ) (one : ActorState) → (state.worker_states other).actor ≡ Some one → Knows state one one.point
  knows other one there = (world.sound.requests other one there).stands.knows

  -- for the request's own tenant
  own_met : is_reachable actor.point ≡ true → (store : Store) → IsSimulatedBy openings state actor.tenant store → Met openings state next (StepEvent actor.worker) actor.tenant store
  own_met meant store simulated =
      let frame = frames state.cells step.cells actor actor.point then_actor.point step.observation informed.ready step.ends step.left in
      let ends = ends_as actor number actor.point step.observation meant (told_at state.cells actor actor.point step.observation step.ends) label refl in
      subst (λ (one : State). Met openings state one (StepEvent actor.worker) actor.tenant store) (sym step.is)
      (label_met openings state actor then_actor step.cells step.observation store simulated sits refl refl label
      (is_of_turn openings state actor then_actor step.cells step.observation store simulated sits refl refl label (label_turns actor actor.point step.observation then_actor.point))
      (record {
        later = subst (λ (one : State). Rely actor.worker state one) step.is later_next;
        knows = knows;
        taken = taken_from label state step.cells actor.tenant frame;
        doors = doors_from label state step.cells actor.tenant frame;
        frees = frees_so label actor then_actor.point (job_goes actor number actor.point step.observation informed.for_job) ends;
        place = place_so state actor number actor.point step.observation step.ends;
        settles = settles config state actor step.observation world.sound world.world_facts sits step.ends guards;
        owns = owns_are_claimed config state actor.tenant world.sound;
      })
      ends (given config state actor step.observation world.sound world.files world.world_facts sits meant step.ends guards))

  -- for another tenant
  other_met : (tenant : ℕ) (store : Store) → tenant ≢ actor.tenant → IsSimulatedBy openings state tenant store → Met openings state next (StepEvent actor.worker) tenant store
  other_met tenant store apart simulated =
      let stays = turn_stays config state next actor is in
      let tenant_state = stays.tenant_states tenant apart in
      met openings state next (StepEvent actor.worker) actor.worker tenant store simulated NoLabel store (ap (λ (one : TenantState). one.closed) tenant_state) (ap (λ (one : TenantState). one.lines) tenant_state) tt refl (λ fresh. refl)
      stays.worker_states (λ other one away there looks misses placed. placed_stays actor.worker state next later_next looks misses one one.point (knows other one there) placed) tt
      (elsewhere state next actor.worker tenant store (turn_aside config state next actor world.sound sits is tenant apart) (owns_are_claimed config state tenant world.sound) simulated.refines)
      (λ fresh. refl) (λ fresh legal. tt) (λ one there same. absurd (apart (sym same ∙ its_tenant one there)))
    where
      sits_then : (next.worker_states actor.worker).actor ≡ Some then_actor
      sits_then = ap (λ (one : State). (one.worker_states actor.worker).actor) step.is ∙ ap (λ (worker_state : WorkerState). worker_state.actor) (upd_here state.worker_states actor.worker _)

      its_tenant : (one : ActorState) → (next.worker_states actor.worker).actor ≡ Some one → one.tenant ≡ actor.tenant
      its_tenant one there = ap (λ (that : ActorState). that.tenant) (same_Some one then_actor (sym there ∙ sits_then))

pub turn_met : (config : Config) (openings : ℕ → TenantStart) (state next : State) (worker tenant : ℕ) (store : Store) → IsWithFactsWorld config state
    → IsSimulatedBy openings state tenant store → turn config state worker (state.worker_states worker).actor ≡ Some next → Met openings state next (StepEvent worker) tenant store
turn_met config openings state next worker tenant store world simulated is = by_worker_state (state.worker_states worker).actor refl is
  where
    at_worker : (actor : ActorState) → (state.worker_states worker).actor ≡ Some actor → actor.worker ≡ worker → turn config state worker (Some actor) ≡ Some next → Met openings state next (StepEvent worker) tenant store
    at_worker actor sits same is =
        subst (λ (one : ℕ). (state.worker_states one).actor ≡ Some actor → turn config state one (Some actor) ≡ Some next → Met openings state next (StepEvent one) tenant store) same
        (λ there goes. elim (cases_eq tenant actor.tenant) [
          | inl its ↦ subst (λ (one : ℕ). IsSimulatedBy openings state one store → Met openings state next (StepEvent actor.worker) one store) (sym its)
              (λ follows. own_met config openings state next actor world there goes (world.meant actor.worker actor there) store follows) simulated
          | inr apart ↦ other_met config openings state next actor world there goes tenant store apart simulated
        ]) sits is

    by_worker_state : (found : Option ActorState) → (state.worker_states worker).actor ≡ found → turn config state worker found ≡ Some next → Met openings state next (StepEvent worker) tenant store
    by_worker_state None sits is = absurd (none-some next is)
    by_worker_state (Some actor) sits is = at_worker actor sits (have_their_requests config state world.sound worker actor sits).same_worker is
