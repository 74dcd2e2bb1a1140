-- Only a tenant's own events add marks to its history, and only calls on its own file add marks of failed calls.
-- Used by: marks_are_own, mw_law_threads.
use Rattle.std.specs.Prelude.{ℕ, zero, suc, ◌+◌, ◌≡◌, ◌≢◌, ◌⊎◌, ◌&&◌, ◌==◌, ◌++◌, not, is_some, Bool, true, false, cond, if◌then◌else◌, List, [], ◌∷◌, filter, length, slice_get, slice_set, Option, Some, None}
use Rattle.std.specs.Option.{option_map, option_to_list, unwrap_or}
use Rattle.std.proofs.Common.{refl, sym, ap, subst, ◌∙◌, append-nil, append_assoc, inl, inr, arith}
use Rattle.std.proofs.lemmas.Bool.{cases_eq}
use Rattle.std.proofs.lemmas.Bool.Decides.{nat_tests}
use Rattle.std.proofs.lemmas.List.Elements.{filter-append}
use Rattle.std.proofs.lemmas.Option.{same_Some, none-some, option_and_then_some, slice_get_within}
use Rattle.mw_words.specs.declared.jobs.Job.{Job}
use Rattle.mw_words.specs.declared.replies.Reply.{Reply}
use Rattle.mw_words.specs.declared.statuses.Status.{Status}
use Rattle.mw_look.specs.declared.observations.Observation.{Observation}
use Rattle.mw_look.specs.declared.steps.Call.{Call}
use Rattle.mw_look.specs.declared.steps.Call.TheVariants.{Prepare as PrepareCall, Seal as SealCall, Settle as SettleCall, Cancel as CancelCall}
use Rattle.mw_lone.specs.declared.marks.Mark.{Mark}
use Rattle.mw_lone.specs.declared.marks.Mark.TheVariants.{Ask, Admit as IsAdmitted, Busy as IsBusy, Look as Looks, Miss, Seal as Seals, SealFail, FileFail, GiveUp as GivesUp, Retire, Reply as HandOut}
use Rattle.mw_actor.specs.declared.points.Slot.{Slot}
use Rattle.mw_actor.specs.ActorState.{ActorState}
use Rattle.mw_actor.specs.Asks.{asks}
use Rattle.mw_actor.specs.Program.{replied}
use Rattle.mw_world.specs.declared.outcomes.Outcome.{Outcome}
use Rattle.mw_world.specs.declared.outcomes.Outcome.TheVariants.{Good, Fail}
use Rattle.mw_world.specs.Files.State.{File}
use Rattle.mw_world.proofs.MapLaws.{get_written}
use Rattle.mw_world.specs.declared.config.Config.{Config}
use Rattle.mw_world.specs.declared.step_labels.StepLabel.{StepLabel}
use Rattle.mw_world.specs.declared.step_labels.StepLabel.TheVariants.{Admitted, FoundBusy, FoundFault, Looked, Reserved, LookedBefore, Refused, Lowered, GaveUp, SealedIt, FailedToSeal, FailedFile}
use Rattle.mw_world.specs.Definition.Calls.{Called, breaks, call, call_if, called_at, calling, ends, fault_label, good_label, is_made, moved_if}
use Rattle.mw_world.specs.Definition.Cells.{Cells}
use Rattle.mw_world.specs.Definition.Extent.{has_slot}
use Rattle.mw_world.specs.Definition.Events.{Found, WorldEvent, Come, Step, File as FileEvent, Hand, Restart}
use Rattle.mw_world.specs.Definition.History.{History}
use Rattle.mw_world.specs.Definition.LabelEffects.{late_unless, marked, more, more_unless}
use Rattle.mw_world.specs.Definition.Requests.{came, gave}
use Rattle.mw_world.specs.Definition.Restarts.{restarted}
use Rattle.mw_world.specs.Definition.State.{State, WorkerState, TenantState, marks_in, marks_of, world_at}
use Rattle.mw_world.specs.Definition.Turns.{Made, made_of, may_make, moved, turn, turned}
use Rattle.mw_world.specs.Definition.World.{come, hand, handed, may_come, run, step}
use Rattle.mw_law_runs.proofs.Counts.Startable.{may_start}
use Rattle.mw_law_store.proofs.Files.TurnFiles.{follows}
use Rattle.mw_law_runs.proofs.Knowledge.Updates.Preservation.{upd_here, upd_else}
use Rattle.mw_law_runs.proofs.GuardedEvents.{guarded, if_slot}
use Rattle.mw_law_store.proofs.Beginnings.{played_by_events}
use Rattle.mw_law_store.proofs.Histories as histories
use Rattle.mw_law_store.proofs.SimulationSteps.Turned.{IsTurns, label_turns}
use Rattle.mw_law_store.proofs.RunSimulation.{events_are_simulated, runs_are_simulated}
use Rattle.mw_law_store.specs.History.{SealsStay}
use Rattle.mw_law_store.specs.Own.{FaultsAreCounted, FaultsAreOwn, FaultsGoOn, IsRequestOf, MarksAreOwn, NeighboursFaultsLeaveNoMark, failed_calls, failures_of, is_failed_call, is_failure, is_request_of}

-- What an event leads to.

-- a step of a request that is not a call
pub turn_comes : (P : State → Type 0) (config : Config) (state next : State) (worker : ℕ) (actor : ActorState)
    → ((cells : Cells) (observation : Observation) → P (moved state worker actor (made_of state worker actor cells observation))) → turn config state worker (Some actor) ≡ Some next → P next
turn_comes P config state next worker actor all is =
    guarded P (not (is_some (replied actor)) && may_make config (asks actor)) (turned state worker actor) next
    (λ may. follows P (λ (cells : Cells) (observation : Observation). moved state worker actor (made_of state worker actor cells observation)) all (asks actor) state.cells) is

-- the label of a call tells whether a device call failed
abbrev pub IsWell : StepLabel → Type 0
IsWell (FailedToSeal target) = ⊥
IsWell FailedFile = ⊥
IsWell label = Unit {0}

abbrev pub IsFailing : StepLabel → Type 0
IsFailing (FailedToSeal target) = Unit {0}
IsFailing FailedFile = Unit {0}
IsFailing label = ⊥

abbrev pub EndsAs : Outcome → StepLabel → Type 0
EndsAs Good label = IsWell label
EndsAs (Fail number) label = IsFailing label

good_well : (call : Call) (change : Slot) (status : Status) → IsWell (good_label call change status)
good_well PrepareCall change status = tt
good_well SealCall change status = tt
good_well SettleCall change status = tt
good_well CancelCall change status = tt

fault_fails : (call : Call) (change : Slot) → IsFailing (fault_label call change)
fault_fails PrepareCall change = tt
fault_fails SealCall change = tt
fault_fails SettleCall change = tt
fault_fails CancelCall change = tt

module _ (state : State) (actor : ActorState) (change : Slot) (file : File) (call : Call) (status : Status) (place calls : ℕ) (made : Made) where
  broken_as : (test : Bool) (number : ℕ) → (if test then Some (breaks state actor change file call place) else None) ≡ Some made → EndsAs (Fail number) made.label
  broken_as true number is = subst (λ (one : Made). IsFailing one.label) (same_Some (breaks state actor change file call place) made is) (fault_fails call change)
  broken_as false number is = absurd (none-some made is)

  ends_as : (starts had_failed can_be : Bool) (outcome : Outcome) → ends state actor change file starts had_failed can_be call status place calls outcome ≡ Some made → EndsAs outcome made.label
  ends_as false had_failed can_be Good is = subst (λ (one : Made). IsWell one.label) (same_Some _ made is) tt
  ends_as false had_failed can_be (Fail number) is = absurd (none-some made is)
  ends_as true true can_be Good is = subst (λ (one : Made). IsWell one.label) (same_Some _ made is) tt
  ends_as true true can_be (Fail number) is = absurd (none-some made is)
  ends_as true false true Good is = subst (λ (one : Made). IsWell one.label) (same_Some _ made is) (good_well call change _)
  ends_as true false true (Fail number) is = broken_as (is_made calls number) number is
  ends_as true false false outcome is = absurd (none-some made is)

-- a call on a file
pub call_comes : (P : State → Type 0) (config : Config) (state next : State) (worker : ℕ) (actor : ActorState) (outcome : Outcome)
    → ((made : Made) → EndsAs outcome made.label → P (moved state worker actor made)) → call config state worker (Some actor) outcome ≡ Some next → P next
call_comes P config state next worker actor outcome all is = by_point (called_at actor.point) is
  where
    by_made : (called : Called) (found : Option Made) → calling config state actor called outcome ≡ found → moved_if state worker actor found ≡ Some next → P next
    by_made called None same is = absurd (none-some next is)
    by_made called (Some made) same is =
        subst P (same_Some (moved state worker actor made) next is)
        (all made (ends_as state actor called.change (state.tenant_states actor.tenant).file called.call _ _ _ made _ _ _ outcome same))

    by_point : (found : Option Called) → call_if config state worker actor found outcome ≡ Some next → P next
    by_point None is = absurd (none-some next is)
    by_point (Some called) is =
        by_made called (calling config state actor called outcome) refl (if_slot (has_slot config called.change.slot) (moved_if state worker actor (calling config state actor called outcome)) next is)

-- a request that comes
pub come_comes : (P : State → Type 0) (config : Config) (state next : State) (worker tenant : ℕ) (job : Job) → (may_come config state worker tenant job ≡ true → P (came config state worker tenant job))
    → come config state worker tenant job ≡ Some next → P next
come_comes P config state next worker tenant job all is = guarded P (may_come config state worker tenant job) (came config state worker tenant job) next all is

-- a reply that is handed out
pub hand_comes : (P : State → Type 0) (config : Config) (state next : State) (worker : ℕ) (actor : ActorState) → ((reply : Reply) → replied actor ≡ Some reply → P (gave state worker actor.tenant))
    → hand state worker (Some actor) ≡ Some next → P next
hand_comes P config state next worker actor all is = by_reply (replied actor) refl is
  where
    by_reply : (found : Option Reply) → replied actor ≡ found → handed state worker actor.tenant found ≡ Some next → P next
    by_reply None same is = absurd (none-some next is)
    by_reply (Some reply) same is = subst P (same_Some (gave state worker actor.tenant) next is) (all reply same)

-- Whose events change a tenant's state.

abbrev SameOr : State → State → ℕ → Type 0 → Type 0
SameOr state next tenant of_it = (next.tenant_states tenant ≡ state.tenant_states tenant) ⊎ of_it

set_or : (state : State) (tenant other : ℕ) (tenant_state : TenantState) (next : State) → ((one : ℕ) → one ≢ other → next.tenant_states one ≡ state.tenant_states one) → SameOr state next tenant (other ≡ tenant)
set_or state tenant other tenant_state next away = elim (cases_eq tenant other) [
  | inl same ↦ inr (sym same)
  | inr apart ↦ inl (away tenant apart)
]

module _ (config : Config) (state next : State) (worker tenant : ℕ) where
  turn_own : (found : Option ActorState) → turn config state worker found ≡ Some next → SameOr state next tenant (IsRequestOf tenant found)
  turn_own None is = absurd (none-some next is)
  turn_own (Some actor) is =
      turn_comes (λ (one : State). SameOr state one tenant (actor.tenant ≡ tenant)) config state next worker actor
      (λ cells observation. set_or state tenant actor.tenant (state.tenant_states tenant) (moved state worker actor (made_of state worker actor cells observation)) (λ one apart. upd_else state.tenant_states actor.tenant one _ apart)) is

  call_own : (outcome : Outcome) (found : Option ActorState) → call config state worker found outcome ≡ Some next → SameOr state next tenant (IsRequestOf tenant found)
  call_own outcome None is = absurd (none-some next is)
  call_own outcome (Some actor) is =
      call_comes (λ (one : State). SameOr state one tenant (actor.tenant ≡ tenant)) config state next worker actor outcome
      (λ made ends. set_or state tenant actor.tenant (state.tenant_states tenant) (moved state worker actor made) (λ one apart. upd_else state.tenant_states actor.tenant one _ apart)) is

  hand_own : (found : Option ActorState) → hand state worker found ≡ Some next → SameOr state next tenant (IsRequestOf tenant found)
  hand_own None is = absurd (none-some next is)
  hand_own (Some actor) is =
      hand_comes (λ (one : State). SameOr state one tenant (actor.tenant ≡ tenant)) config state next worker actor
      (λ reply stands. set_or state tenant actor.tenant (state.tenant_states tenant) (gave state worker actor.tenant) (λ one apart. upd_else state.tenant_states actor.tenant one _ apart)) is

pub marks_are_own : MarksAreOwn
marks_are_own config state next (Come worker other job) tenant is =
    come_comes (λ (one : State). SameOr state one tenant (other ≡ tenant)) config state next worker other job
    (λ may. set_or state tenant other (state.tenant_states tenant) (came config state worker other job) (λ one apart. upd_else state.tenant_states other one _ apart)) is
marks_are_own config state next (Step worker) tenant is = turn_own config state next worker tenant (state.worker_states worker).actor is
marks_are_own config state next (FileEvent worker outcome) tenant is = call_own config state next worker tenant outcome (state.worker_states worker).actor is
marks_are_own config state next (Hand worker) tenant is = hand_own config state next worker tenant (state.worker_states worker).actor is
marks_are_own config state next (Restart founds) tenant is = inr tt

pub neighbours_faults_leave_no_mark : NeighboursFaultsLeaveNoMark
neighbours_faults_leave_no_mark config state next worker number tenant actor sits apart is = elim (marks_are_own config state next (FileEvent worker (Fail number)) tenant is) [
  | inl same ↦ ap (λ (tenant_state : TenantState). tenant_state.closed ++ marks_in tenant_state.lines) same
  | inr of_it ↦ absurd (apart (subst (IsRequestOf tenant) sits of_it))
]

-- Marks of failures among lines.

abbrev line_failing : Option Mark → List Mark
line_failing line = filter is_failure (option_to_list line)

put_first : (test : Bool) (mark : Mark) (marks rest : List Mark) → cond test (mark ∷ marks ++ rest) (marks ++ rest) ≡ cond test (mark ∷ marks) marks ++ rest
put_first true mark marks rest = refl
put_first false mark marks rest = refl

failing_more : (lines : List (Option Mark)) (line : Option Mark) → filter is_failure (marks_in (more lines line)) ≡ filter is_failure (marks_in lines) ++ line_failing line
failing_more [] None = refl
failing_more [] (Some mark) = ap (filter is_failure) (append-nil (mark ∷ []))
failing_more (None ∷ lines) line = failing_more lines line
failing_more (Some mark ∷ lines) line =
    ap (λ (marks : List Mark). cond (is_failure mark) (mark ∷ marks) marks) (failing_more lines line) ∙ put_first (is_failure mark) mark (filter is_failure (marks_in lines)) (line_failing line)

quiet_more : (lines : List (Option Mark)) (line : Option Mark) → line_failing line ≡ [] → filter is_failure (marks_in (more lines line)) ≡ filter is_failure (marks_in lines)
quiet_more lines line quiet = failing_more lines line ∙ ap (λ (marks : List Mark). filter is_failure (marks_in lines) ++ marks) quiet ∙ append-nil (filter is_failure (marks_in lines))

quiet_set : (lines : List (Option Mark)) (place : ℕ) (mark : Mark) → is_failure mark ≡ false → ((other : Mark) → slice_get lines place ≡ Some (Some other) → is_failure other ≡ false)
    → filter is_failure (marks_in (slice_set lines place (Some mark))) ≡ filter is_failure (marks_in lines)
quiet_set [] place mark quiet was = refl
quiet_set (None ∷ lines) zero mark quiet was = ap (λ (test : Bool). cond test (mark ∷ filter is_failure (marks_in lines)) (filter is_failure (marks_in lines))) quiet
quiet_set (Some other ∷ lines) zero mark quiet was =
    ap (λ (test : Bool). cond test (mark ∷ filter is_failure (marks_in lines)) (filter is_failure (marks_in lines))) quiet
    ∙ sym (ap (λ (test : Bool). cond test (other ∷ filter is_failure (marks_in lines)) (filter is_failure (marks_in lines))) (was other refl))
quiet_set (None ∷ lines) (suc place) mark quiet was = quiet_set lines place mark quiet was
quiet_set (Some other ∷ lines) (suc place) mark quiet was =
    ap (λ (marks : List Mark). cond (is_failure other) (other ∷ marks) marks) (quiet_set lines place mark quiet was)

-- marks stay at their lines
abbrev pub MarksStay : List (Option Mark) → List (Option Mark) → Type 0
MarksStay old new = (place : ℕ) (mark : Mark) → slice_get old place ≡ Some (Some mark) → slice_get new place ≡ Some (Some mark)

quiet_late : (lines : List (Option Mark)) (place : ℕ) (mark : Mark) → is_failure mark ≡ false → MarksStay lines (slice_set lines place (Some mark))
    → filter is_failure (marks_in (slice_set lines place (Some mark))) ≡ filter is_failure (marks_in lines)
quiet_late lines place mark quiet stay = quiet_set lines place mark quiet (λ other at.
    let same : Some mark ≡ Some other = same_Some (Some mark) (Some other) (sym (get_written lines place (Some mark) (slice_get_within lines place (Some other) at)) ∙ stay place other at) in
    ap is_failure (sym (same_Some mark other same)) ∙ quiet)

late_if : (fault_decided : Bool) (lines : List (Option Mark)) (place : ℕ) (mark : Mark) → is_failure mark ≡ false → MarksStay lines (late_unless fault_decided lines place mark)
    → filter is_failure (marks_in (late_unless fault_decided lines place mark)) ≡ filter is_failure (marks_in lines)
late_if true lines place mark quiet stay = refl
late_if false lines place mark quiet stay = quiet_late lines place mark quiet stay

more_if : (fault_decided : Bool) (lines : List (Option Mark)) (mark : Mark) → is_failure mark ≡ false → filter is_failure (marks_in (more_unless fault_decided lines mark)) ≡ filter is_failure (marks_in lines)
more_if true lines mark quiet = refl
more_if false lines mark quiet = quiet_more lines (Some mark) (ap (λ (test : Bool). cond test (mark ∷ []) []) quiet)

quiet_marked : (label : StepLabel) (worker_state : WorkerState) (past : History) (lines : List (Option Mark)) → IsWell label → MarksStay lines (marked label worker_state past lines)
    → filter is_failure (marks_in (marked label worker_state past lines)) ≡ filter is_failure (marks_in lines)
quiet_marked Admitted worker_state past lines well stay = quiet_more lines (Some (IsAdmitted worker_state.request)) refl
quiet_marked FoundBusy worker_state past lines well stay = quiet_more lines (Some (IsBusy worker_state.request)) refl
quiet_marked FoundFault worker_state past lines well stay = quiet_more lines (Some (GivesUp worker_state.request)) refl
quiet_marked Looked worker_state past lines well stay = quiet_more lines (Some (Looks worker_state.request)) refl
quiet_marked Reserved worker_state past lines well stay = quiet_more lines None refl
quiet_marked LookedBefore worker_state past lines well stay = late_if false lines worker_state.kept (Looks worker_state.request) refl stay
quiet_marked (Refused target entry value) worker_state past lines well stay =
    late_if (past.is_fault_decided target.slot target.seq) lines worker_state.kept (Miss (past.request target.slot target.seq) entry) refl stay
quiet_marked Lowered worker_state past lines well stay = quiet_more lines (Some (Retire worker_state.retiring)) refl
quiet_marked (GaveUp own true) worker_state past lines well stay = more_if (past.is_fault_decided own.slot own.seq) lines (GivesUp worker_state.request) refl
quiet_marked (GaveUp own false) worker_state past lines well stay = refl
quiet_marked (SealedIt target) worker_state past lines well stay = quiet_more lines (Some (Seals (past.request target.slot target.seq))) refl
quiet_marked (FailedToSeal target) worker_state past lines well stay = absurd well
quiet_marked FailedFile worker_state past lines well stay = absurd well
quiet_marked label worker_state past lines well stay = refl

failed_marked : (label : StepLabel) (worker_state : WorkerState) (past : History) (lines : List (Option Mark)) → IsFailing label
    → (mark : Mark) × (is_failure mark ≡ true) × (marked label worker_state past lines ≡ more lines (Some mark))
failed_marked (FailedToSeal target) worker_state past lines fails = (SealFail (past.request target.slot target.seq), refl, refl)
failed_marked FailedFile worker_state past lines fails = (FileFail, refl, refl)
failed_marked label worker_state past lines fails = absurd fails

turns_well : (label : StepLabel) → IsTurns label → IsWell label
turns_well (SealedIt target) is = tt
turns_well (FailedToSeal target) is = is
turns_well FailedFile is = is
turns_well label is = tt

-- What an event does to the failures among a tenant's marks.

true_not : true ≡ false → ⊥
true_not e = cc

false_not : false ≡ true → ⊥
false_not e = cc

-- nothing, if the lines have as many failures and the closed marks are the same
nothing_more : (state next : State) (tenant : ℕ) → (next.tenant_states tenant).closed ≡ (state.tenant_states tenant).closed
    → filter is_failure (marks_in (next.tenant_states tenant).lines) ≡ filter is_failure (marks_in (state.tenant_states tenant).lines) → FaultsGoOn false state next tenant
nothing_more state next tenant closed lines = record {
  one_fails = λ is. absurd (false_not is);
  none_else = λ is.
      filter-append is_failure (next.tenant_states tenant).closed (marks_in (next.tenant_states tenant).lines)
      ∙ ap (λ (marks : List Mark). filter is_failure marks ++ filter is_failure (marks_in (next.tenant_states tenant).lines)) closed
      ∙ ap (λ (marks : List Mark). filter is_failure (state.tenant_states tenant).closed ++ marks) lines
      ∙ sym (filter-append is_failure (state.tenant_states tenant).closed (marks_in (state.tenant_states tenant).lines));
}

same_tenant_state : (state next : State) (tenant : ℕ) → next.tenant_states tenant ≡ state.tenant_states tenant → FaultsGoOn false state next tenant
same_tenant_state state next tenant same =
    nothing_more state next tenant (ap (λ (tenant_state : TenantState). tenant_state.closed) same) (ap (λ (tenant_state : TenantState). filter is_failure (marks_in tenant_state.lines)) same)

one_more : (state next : State) (tenant : ℕ) (mark : Mark) → is_failure mark ≡ true → (next.tenant_states tenant).closed ≡ (state.tenant_states tenant).closed
    → (next.tenant_states tenant).lines ≡ more (state.tenant_states tenant).lines (Some mark) → FaultsGoOn true state next tenant
one_more state next tenant mark tells closed lines = record {
  one_fails = λ is. record {
    mark = mark;
    tells = tells;
    at_end = lines;
    after = filter-append is_failure (next.tenant_states tenant).closed (marks_in (next.tenant_states tenant).lines)
        ∙ ap (λ (marks : List Mark). filter is_failure marks ++ filter is_failure (marks_in (next.tenant_states tenant).lines)) closed
        ∙ ap (λ (now : List (Option Mark)). filter is_failure (state.tenant_states tenant).closed ++ filter is_failure (marks_in now)) lines
        ∙ ap (λ (marks : List Mark). filter is_failure (state.tenant_states tenant).closed ++ marks)
        (failing_more (state.tenant_states tenant).lines (Some mark) ∙ ap (λ (test : Bool). filter is_failure (marks_in (state.tenant_states tenant).lines) ++ cond test (mark ∷ []) []) tells)
        ∙ sym (append_assoc (filter is_failure (state.tenant_states tenant).closed) (filter is_failure (marks_in (state.tenant_states tenant).lines)) (mark ∷ []))
        ∙ ap (λ (marks : List Mark). marks ++ mark ∷ []) (sym (filter-append is_failure (state.tenant_states tenant).closed (marks_in (state.tenant_states tenant).lines)));
  };
  none_else = λ is. absurd (true_not is);
}

-- the tenant's marks stay at their lines over the event
abbrev Stays : State → ℕ → State → Type 0
Stays state tenant next = MarksStay (state.tenant_states tenant).lines (next.tenant_states tenant).lines

-- a step or a call of its own request, or of another tenant's
moved_quiet : (state : State) (worker tenant : ℕ) (actor : ActorState) (made : Made) → IsWell made.label → Stays state tenant (moved state worker actor made) → FaultsGoOn false state (moved state worker actor made) tenant
moved_quiet state worker tenant actor made well stay = elim (cases_eq tenant actor.tenant) [
  | inl same ↦ subst (λ (one : ℕ). Stays state one (moved state worker actor made) → FaultsGoOn false state (moved state worker actor made) one) (sym same) own stay
  | inr apart ↦ same_tenant_state state (moved state worker actor made) tenant (upd_else state.tenant_states actor.tenant tenant _ apart)
]
  where
    lines : ((moved state worker actor made).tenant_states actor.tenant).lines ≡ marked made.label (state.worker_states worker) state.history (state.tenant_states actor.tenant).lines
    lines = ap (λ (one : TenantState). one.lines) (upd_here state.tenant_states actor.tenant _)

    own : Stays state actor.tenant (moved state worker actor made) → FaultsGoOn false state (moved state worker actor made) actor.tenant
    own stays =
        nothing_more state (moved state worker actor made) actor.tenant (ap (λ (one : TenantState). one.closed) (upd_here state.tenant_states actor.tenant _))
        (ap (λ (now : List (Option Mark)). filter is_failure (marks_in now)) lines
        ∙ quiet_marked made.label (state.worker_states worker) state.history (state.tenant_states actor.tenant).lines well (subst (MarksStay (state.tenant_states actor.tenant).lines) lines stays))

moved_failed : (state : State) (worker tenant : ℕ) (actor : ActorState) (made : Made) → IsFailing made.label → FaultsGoOn (actor.tenant == tenant) state (moved state worker actor made) tenant
moved_failed state worker tenant actor made fails = by_test (actor.tenant == tenant) refl
  where
    by_test : (test : Bool) → (actor.tenant == tenant) ≡ test → FaultsGoOn test state (moved state worker actor made) tenant
    by_test true is =
        let same : actor.tenant ≡ tenant = grind (arith, nat_tests, is) in
        let one = failed_marked made.label (state.worker_states worker) state.history (state.tenant_states actor.tenant).lines fails in
        subst (FaultsGoOn true state (moved state worker actor made)) same
        (one_more state (moved state worker actor made) actor.tenant one.0 one.1 (ap (λ (a : TenantState). a.closed) (upd_here state.tenant_states actor.tenant _))
        (ap (λ (a : TenantState). a.lines) (upd_here state.tenant_states actor.tenant _) ∙ one.2))
    by_test false is =
        let apart : tenant ≢ actor.tenant = λ same. true_not (grind (arith, nat_tests, is, same)) in
        same_tenant_state state (moved state worker actor made) tenant (upd_else state.tenant_states actor.tenant tenant _ apart)

module _ (config : Config) (state next : State) (tenant : ℕ) (stay : Stays state tenant next) where
  come_faults : (worker other : ℕ) (job : Job) → come config state worker other job ≡ Some next → FaultsGoOn false state next tenant
  come_faults worker other job is = come_comes (λ (one : State). FaultsGoOn false state one tenant) config state next worker other job
      (λ may. elim (cases_eq tenant other) [
        | inl same ↦ subst (FaultsGoOn false state (came config state worker other job)) (sym same)
            (nothing_more state (came config state worker other job) other (ap (λ (a : TenantState). a.closed) (upd_here state.tenant_states other _))
            (ap (λ (a : TenantState). filter is_failure (marks_in a.lines)) (upd_here state.tenant_states other _) ∙ quiet_more (state.tenant_states other).lines (Some (Ask (state.tenant_states other).asked job)) refl))
        | inr apart ↦ same_tenant_state state (came config state worker other job) tenant (upd_else state.tenant_states other tenant _ apart)
      ]) is

  hand_faults : (worker : ℕ) (found : Option ActorState) → hand state worker found ≡ Some next → FaultsGoOn false state next tenant
  hand_faults worker None is = absurd (none-some next is)
  hand_faults worker (Some actor) is = hand_comes (λ (one : State). FaultsGoOn false state one tenant) config state next worker actor
      (λ reply stands. elim (cases_eq tenant actor.tenant) [
        | inl same ↦ subst (FaultsGoOn false state (gave state worker actor.tenant)) (sym same)
            (nothing_more state (gave state worker actor.tenant) actor.tenant (ap (λ (a : TenantState). a.closed) (upd_here state.tenant_states actor.tenant _))
            (ap (λ (a : TenantState). filter is_failure (marks_in a.lines)) (upd_here state.tenant_states actor.tenant _) ∙ quiet_more (state.tenant_states actor.tenant).lines (Some (HandOut (state.worker_states worker).request)) refl))
        | inr apart ↦ same_tenant_state state (gave state worker actor.tenant) tenant (upd_else state.tenant_states actor.tenant tenant _ apart)
      ]) is

  turn_faults : (worker : ℕ) (found : Option ActorState) → turn config state worker found ≡ Some next → FaultsGoOn false state next tenant
  turn_faults worker None is = absurd (none-some next is)
  turn_faults worker (Some actor) is = turn_comes (λ (one : State). Stays state tenant one → FaultsGoOn false state one tenant) config state next worker actor
      (λ cells observation. moved_quiet state worker tenant actor (made_of state worker actor cells observation) (turns_well _ (label_turns actor actor.point observation _))) is stay

  good_faults : (worker : ℕ) (found : Option ActorState) → call config state worker found Good ≡ Some next → FaultsGoOn false state next tenant
  good_faults worker None is = absurd (none-some next is)
  good_faults worker (Some actor) is = call_comes (λ (one : State). Stays state tenant one → FaultsGoOn false state one tenant) config state next worker actor Good
      (λ made well. moved_quiet state worker tenant actor made well) is stay

  fail_faults : (worker number : ℕ) (found : Option ActorState) → call config state worker found (Fail number) ≡ Some next → FaultsGoOn (is_request_of tenant found) state next tenant
  fail_faults worker number None is = absurd (none-some next is)
  fail_faults worker number (Some actor) is = call_comes (λ (one : State). FaultsGoOn (actor.tenant == tenant) state one tenant) config state next worker actor (Fail number)
      (λ made fails. moved_failed state worker tenant actor made fails) is

-- a start adds its own mark, which tells of no failed call
start_faults : (config : Config) (state next : State) (founds : List Found) (tenant : ℕ) → step config state (Restart founds) ≡ Some next → FaultsGoOn false state next tenant
start_faults config state next founds tenant is =
    guarded (λ (one : State). FaultsGoOn false state one tenant) (may_start config state founds) (restarted config state founds) next
    (λ may. record {
      one_fails = λ e. absurd (false_not e);
      none_else = λ e.
          ap (filter is_failure) (append-nil ((restarted config state founds).tenant_states tenant).closed)
          ∙ filter-append is_failure (marks_of state tenant) _
          ∙ append-nil (failures_of state tenant);
    }) is

abbrev one_if : Bool → ℕ
one_if test = if test then 1 else 0

seals_stay : SealsStay
seals_stay = histories.seals_stay runs_are_simulated events_are_simulated

pub faults_are_own : FaultsAreOwn
faults_are_own config openings events state next (Come worker other job) tenant played low is =
    come_faults config state next tenant (seals_stay config openings events state next (Come worker other job) tenant played low tt is).1.marks worker other job is
faults_are_own config openings events state next (Step worker) tenant played low is =
    turn_faults config state next tenant (seals_stay config openings events state next (Step worker) tenant played low tt is).1.marks worker (state.worker_states worker).actor is
faults_are_own config openings events state next (FileEvent worker Good) tenant played low is =
    good_faults config state next tenant (seals_stay config openings events state next (FileEvent worker Good) tenant played low tt is).1.marks worker (state.worker_states worker).actor is
faults_are_own config openings events state next (FileEvent worker (Fail number)) tenant played low is =
    fail_faults config state next tenant (seals_stay config openings events state next (FileEvent worker (Fail number)) tenant played low tt is).1.marks worker number (state.worker_states worker).actor is
faults_are_own config openings events state next (Hand worker) tenant played low is =
    hand_faults config state next tenant (seals_stay config openings events state next (Hand worker) tenant played low tt is).1.marks worker (state.worker_states worker).actor is
faults_are_own config openings events state next (Restart founds) tenant played low is = start_faults config state next founds tenant is

-- Counted over a run.

nothing_after : (config : Config) (tenant : ℕ) (found : Option State) → unwrap_or (option_map (λ next. failed_calls config tenant next []) found) 0 ≡ 0
nothing_after config tenant None = refl
nothing_after config tenant (Some next) = refl

calls_last : (config : Config) (tenant : ℕ) (state middle : State) (events : List WorldEvent) (event : WorldEvent) → run config state events ≡ Some middle
    → failed_calls config tenant state (events ++ event ∷ []) ≡ failed_calls config tenant state events + one_if (is_failed_call middle tenant event)
calls_last config tenant state middle [] event runs =
    let none = nothing_after config tenant (step config state event) in
    let one : one_if (is_failed_call state tenant event) ≡ one_if (is_failed_call middle tenant event) = ap (λ (at : State). one_if (is_failed_call at tenant event)) (same_Some state middle runs) in
    omega (arith, none, one)
calls_last config tenant state middle (first ∷ events) event runs =
    option_and_then_some (λ one. run config one events) (step config state first) middle runs (λ next at on.
    let here = ap (λ (found : Option State). unwrap_or (option_map (λ one. failed_calls config tenant one (events ++ event ∷ [])) found) 0) at in
    let there = ap (λ (found : Option State). unwrap_or (option_map (λ one. failed_calls config tenant one events) found) 0) at in
    let rest = calls_last config tenant next middle events event on in
    omega (arith, here, there, rest))

pub faults_are_counted : FaultsAreCounted
faults_are_counted config openings events state tenant played low =
    played_by_events config openings (λ before now. length (failures_of now tenant) ≡ failed_calls config tenant (world_at config openings) before) refl
    (λ before event now next so_far counted is.
    let last = calls_last config tenant (world_at config openings) now before event so_far.runs in
    let on = faults_are_own config openings before now next event tenant so_far low is in
    by_test now next event before (is_failed_call now tenant event) on counted last)
    events state played
  where
    length-more : (marks : List Mark) (mark : Mark) → length (marks ++ mark ∷ []) ≡ length marks + 1
    length-more [] mark = refl
    length-more (one ∷ marks) mark = let rest = length-more marks mark in omega (arith, rest)

    by_test : (now next : State) (event : WorldEvent) (before : List WorldEvent) (test : Bool) → FaultsGoOn test now next tenant
        → length (failures_of now tenant) ≡ failed_calls config tenant (world_at config openings) before
        → failed_calls config tenant (world_at config openings) (before ++ event ∷ []) ≡ failed_calls config tenant (world_at config openings) before + one_if test
        → length (failures_of next tenant) ≡ failed_calls config tenant (world_at config openings) (before ++ event ∷ [])
    by_test now next event before true on counted last =
        let one = on.one_fails refl in
        let longer = ap length one.after ∙ length-more (failures_of now tenant) one.mark in
        omega (arith, longer, counted, last)
    by_test now next event before false on counted last =
        let same = ap length (on.none_else refl) in
        omega (arith, same, counted, last)
