-- Each step that is no call on a file gives the simulation by the store alone what its label (addition to the history) needs: one
-- case for each point. Used by: SimulationSteps/Turned.
use Rattle.std.specs.Prelude.{ℕ, ◌≡◌, ◌≢◌, ◌⊎◌, Bool, true, false, List, Some, None}
use Rattle.std.proofs.Common.{refl, sym, ap, subst, ◌∙◌, inl, inr}
use Rattle.mw_words.specs.declared.jobs.Entry.{Entry}
use Rattle.mw_words.specs.declared.replies.Reply.{Reply}
use Rattle.mw_words.specs.declared.replies.Reply.TheVariants.{Val, Yes as SaysYes, No as SaysNo, Busy as SaysBusy, Fault as SaysFault, Worn as SaysWorn}
use Rattle.mw_words.specs.declared.statuses.Status.{Status}
use Rattle.mw_words.specs.declared.statuses.Status.TheVariants.{Draft, Open, YesDirty, Yes, No, DoneYes, DoneNo}
use Rattle.mw_look.specs.declared.observations.Observation.{Observation}
use Rattle.mw_look.specs.declared.observations.Observation.TheVariants.{SawStatus, Won, Lost}
use Rattle.mw_actor.specs.declared.points.Point.{Point}
use Rattle.mw_actor.specs.declared.points.Point.TheVariants.{Read, ReadDoor, Admit, Claim, Inspect, DecideYes, DecideNo, Resolve, Release, Clean, FreeSlot, LowerDoor, GiveUp, Replied}
use Rattle.mw_actor.specs.declared.points.Slot.{Slot}
use Rattle.mw_actor.specs.declared.points.Sweep.{Sweep}
use Rattle.mw_actor.specs.declared.points.Sweep.TheVariants.{Yes as SweepYes}
use Rattle.mw_actor.specs.ActorState.{ActorState, entry_of, own_entries}
use Rattle.mw_actor.specs.Asks.{asks}
use Rattle.mw_actor.specs.RequestEnds.{gave_up, refusal}
use Rattle.mw_world.specs.declared.config.Config.{Config}
use Rattle.mw_world.specs.Definition.StepLabels.{give_up_label, label_of, release_label, resolve_label}
use Rattle.mw_world.specs.Definition.State.{State}
use Rattle.mw_law_runs.specs.Moves.Guards.{Guards}
use Rattle.mw_law_runs.specs.Moves.StepMoves.{moves_told}
use Rattle.mw_law_runs.specs.Knowledge.Facts.{IsOwn}
use Rattle.mw_law_runs.specs.Knowledge.Informed.{IsInformed}
use Rattle.mw_law_runs.specs.Knowledge.Points.{without_point}
use Rattle.mw_law_runs.specs.Knowledge.NextState.{told as told_observation}
use Rattle.mw_law_runs.specs.RunInvariant.{IsSound}
use Rattle.mw_law_runs.proofs.StepEnds.{Ends}
use Rattle.mw_law_runs.proofs.RequestsInWorlds.{have_their_requests}
use Rattle.mw_law_store.specs.Files.Files.{HasFiles}
use Rattle.mw_law_store.specs.Due.{Answers, due, due_reply, told}
use Rattle.mw_law_store.specs.WorldFacts.{HasWorldFacts}
use Rattle.mw_law_store.proofs.WorldFactLaws.Inside.{is_of_change}
use Rattle.mw_law_store.proofs.WorldFactLaws.Points.{fault_given}
use Rattle.mw_law_store.proofs.ReachablePoints.{is_reachable, is_no_answer}
use Rattle.mw_law_store.proofs.SimulationSteps.Given.{Given}
use Rattle.mw_law_store.proofs.SimulationSteps.ChangeSteps.{admit_gives, claim_gives, door_gives, free_gives, inspect_gives, no_gives, yes_gives}
use Rattle.mw_law_store.proofs.SimulationSteps.ReadSteps.{read_gives}
use Rattle.mw_law_store.proofs.SimulationSteps.ReplySteps.{TellsIt, fault_undecided}

won_lost : Won ≡ Lost → ⊥
won_lost e = cc

-- A change that gives up.

same_reply : (reply other : Reply) → Answers reply ≡ Answers other → reply ≡ other
same_reply reply other e = cc

-- it has no reply but FAULT or WORN if its status gives none
none_told : (actor : ActorState) (undecided : Reply) (status : Status) → gave_up actor undecided status ≡ SaysFault → told false status (own_entries actor) ≡ None
none_told actor undecided Draft is = refl
none_told actor undecided Open is = refl
none_told actor undecided YesDirty is = refl
none_told actor undecided Yes is = cc
none_told actor undecided DoneYes is = cc
none_told actor undecided (No entry value) is = cc
none_told actor undecided (DoneNo entry value) is = cc

-- any other reply is the one that its status gives
no_answer_but : (undecided reply : Reply) → is_no_answer undecided ≡ true → undecided ≢ SaysFault → due_reply undecided ≡ Answers reply → ⊥
no_answer_but SaysFault reply meant other is = other refl
no_answer_but SaysWorn reply meant other is = cc
no_answer_but (Val value) reply meant other is = cc
no_answer_but SaysYes reply meant other is = cc
no_answer_but (SaysNo address value) reply meant other is = cc
no_answer_but SaysBusy reply meant other is = cc

it_tells : (actor : ActorState) (undecided : Reply) (status : Status) (reply : Reply) → is_no_answer undecided ≡ true → gave_up actor undecided status ≢ SaysFault
    → due_reply (gave_up actor undecided status) ≡ Answers reply → TellsIt status (own_entries actor) reply
it_tells actor undecided Draft reply meant other is = absurd (no_answer_but undecided reply meant other is)
it_tells actor undecided Open reply meant other is = absurd (no_answer_but undecided reply meant other is)
it_tells actor undecided YesDirty reply meant other is = absurd (no_answer_but undecided reply meant other is)
it_tells actor undecided Yes reply meant other is = record { decided = λ e. cc; tells = ap Some (same_reply SaysYes reply is) }
it_tells actor undecided DoneYes reply meant other is = record { decided = λ e. cc; tells = ap Some (same_reply SaysYes reply is) }
it_tells actor undecided (No entry value) reply meant other is = record { decided = λ e. cc; tells = ap Some (same_reply (refusal actor entry value) reply is) }
it_tells actor undecided (DoneNo entry value) reply meant other is = record { decided = λ e. cc; tells = ap Some (same_reply (refusal actor entry value) reply is) }

is_draft : (status : Status) → (status ≡ Draft) ⊎ (status ≢ Draft)
is_draft Draft = inl refl
is_draft Open = inr (λ e. cc)
is_draft YesDirty = inr (λ e. cc)
is_draft Yes = inr (λ e. cc)
is_draft DoneYes = inr (λ e. cc)
is_draft (No entry value) = inr (λ e. cc)
is_draft (DoneNo entry value) = inr (λ e. cc)

module _ (config : Config) (state : State) (sound : IsSound config state) (has : HasFiles config state) (world_facts : HasWorldFacts state) (actor : ActorState) where
  abbrev at : Point → ActorState
  at point = record actor { point = point }

  abbrev Sits : Point → Type 0
  Sits point = (state.worker_states actor.worker).actor ≡ Some (at point)

  module _ (own : Slot) (undecided : Reply) (sits : Sits (GiveUp own undecided)) (meant : is_no_answer undecided ≡ true) where
    abbrev me : ActorState
    me = at (GiveUp own undecided)

    informed : IsInformed config state me
    informed = (have_their_requests config state sound actor.worker me sits).informed

    its_own : IsOwn state (without_point me) own
    its_own = informed.knows.0

    -- the status in its slot is that of its change
    status_is : state.cells.statuses own.slot ≡ state.history.fate own.slot own.seq
    status_is = by_draft (is_draft (state.history.fate own.slot own.seq))
      where
        by_draft : (state.history.fate own.slot own.seq ≡ Draft) ⊎ (state.history.fate own.slot own.seq ≢ Draft) → state.cells.statuses own.slot ≡ state.history.fate own.slot own.seq
        by_draft (inl draft) = informed.knows.1 draft ∙ sym draft
        by_draft (inr ready) =
            subst (λ (seq : ℕ). state.history.fate own.slot seq ≢ Draft → state.cells.statuses own.slot ≡ state.history.fate own.slot seq) informed.live.seq
            (sound.memory.slots.status own.slot informed.live.taken) ready

    abbrev GivesUp : Reply → Type 0
    GivesUp reply = Given state me (at (Replied reply)) (give_up_label own (Replied reply))

    gives_other : (reply : Reply) → gave_up actor undecided (state.history.fate own.slot own.seq) ≡ reply → reply ≢ SaysFault
        → (said : Reply) → due (Replied reply) ≡ Answers said → told (state.history.is_fault_decided own.slot own.seq) (state.history.fate own.slot own.seq) (state.history.change own.slot own.seq) ≡ Some said
    gives_other reply is other said answers =
        let past = state.history in
        let status = past.fate own.slot own.seq in
        let found = it_tells actor undecided status said meant (λ fault. other (sym is ∙ fault)) (ap due_reply is ∙ answers) in
        ap (λ (fault_decided : Bool). told fault_decided status (past.change own.slot own.seq)) (fault_undecided state world_facts own its_own.stays_not found.decided)
        ∙ ap (λ (change : List Entry). told false status change) its_own.same_entries ∙ found.tells

    by_reply : (reply : Reply) → gave_up actor undecided (state.history.fate own.slot own.seq) ≡ reply → GivesUp reply
    by_reply SaysFault is = record {
      its = (its_own.is_claimed, its_own.same_tenant);
      has_failed =
          (world_facts.worker_states actor.worker me sits).fault
          (fault_given me 0 own undecided (SawStatus (state.history.fate own.slot own.seq)) (ap Replied is));
      tells_nothing = λ not_fault_decided.
          ap (λ (fault_decided : Bool). told fault_decided (state.history.fate own.slot own.seq) (state.history.change own.slot own.seq)) not_fault_decided
          ∙ ap (λ (change : List Entry). told false (state.history.fate own.slot own.seq) change) its_own.same_entries
          ∙ none_told actor undecided (state.history.fate own.slot own.seq) is;
    }
    by_reply (Val value) is = record { its = (its_own.is_claimed, its_own.same_tenant); tells = gives_other (Val value) is (λ e. cc) }
    by_reply SaysYes is = record { its = (its_own.is_claimed, its_own.same_tenant); tells = gives_other SaysYes is (λ e. cc) }
    by_reply (SaysNo address value) is = record { its = (its_own.is_claimed, its_own.same_tenant); tells = gives_other (SaysNo address value) is (λ e. cc) }
    by_reply SaysBusy is = record { its = (its_own.is_claimed, its_own.same_tenant); tells = gives_other SaysBusy is (λ e. cc) }
    by_reply SaysWorn is = record { its = (its_own.is_claimed, its_own.same_tenant); tells = gives_other SaysWorn is (λ e. cc) }

    gives_up : GivesUp (gave_up actor undecided (state.cells.statuses own.slot))
    gives_up = by_reply (gave_up actor undecided (state.cells.statuses own.slot)) (ap (λ (status : Status). gave_up actor undecided status) (sym status_is))

  -- a move of a word gives nothing besides
  resolve_gives : (one next : ActorState) (was_open : Bool) (target : Slot) (address : ℕ) → Given state one next (resolve_label was_open target address)
  resolve_gives one next true target address = tt
  resolve_gives one next false target address = tt

  release_gives : (one next : ActorState) (sweep : Sweep) (target : Slot) (address : ℕ) → Given state one next (release_label sweep target address)
  release_gives one next SweepYes target address = tt
  release_gives one next sweep target address = tt

  -- a step from this point with this observation gives what its label says
  abbrev Gives : Point → Observation → Type 0
  Gives point observation = Given state (at point) (told_observation state (at point) observation) (label_of (at point) point observation (told_observation state (at point) observation).point)

  point_gives : (point : Point) (observation : Observation) → Sits point → is_reachable point ≡ true → Ends state.cells (asks (at point)) observation
      → Guards config state actor.worker (moves_told state actor.worker (at point) observation) → Gives point observation
  point_gives (Read look) observation sits meant ends guards = read_gives config state sound has world_facts actor look look.point observation sits ends
  point_gives ReadDoor observation sits meant (inl quiet) guards =
      subst (λ (one : Observation). Gives ReadDoor one) (sym quiet) (door_gives config state sound has world_facts actor (state.worker_states actor.worker).attempt (state.cells.doors actor.tenant) sits refl)
  point_gives ReadDoor observation sits meant (inr changes) guards = absurd changes
  point_gives (Admit from to) Won sits meant (inl quiet) guards = absurd (won_lost quiet.1)
  point_gives (Admit from to) Won sits meant (inr changes) guards =
      admit_gives config state sound has world_facts actor from to (told_observation state (at (Admit from to)) Won) sits changes.1
  point_gives (Admit from to) observation sits meant ends guards = tt
  point_gives (Claim slot saw_worn from to) Won sits meant ends guards =
      claim_gives config state sound has world_facts actor (Claim slot saw_worn from to) (record { slot = slot; seq = from.seq }) to actor.tenant (own_entries actor)
      (told_observation state (at (Claim slot saw_worn from to)) Won) guards.0
  point_gives (Claim slot saw_worn from to) observation sits meant ends guards = tt
  point_gives (Inspect task entry) observation sits meant (inl quiet) guards =
      subst (λ (one : Observation). Gives (Inspect task entry) one) (sym quiet)
      (inspect_gives config state sound has world_facts actor task entry sits (state.cells.words actor.tenant (entry_of actor task entry).addr) refl)
  point_gives (Inspect task entry) observation sits meant (inr changes) guards = absurd changes
  point_gives (DecideYes task) Won sits meant ends guards = yes_gives config state sound has world_facts actor task (told_observation state (at (DecideYes task)) Won) sits guards.0
  point_gives (DecideYes task) observation sits meant ends guards = tt
  point_gives (DecideNo task entry value) Won sits meant ends guards =
      no_gives config state sound has world_facts actor task entry value (told_observation state (at (DecideNo task entry value)) Won) sits guards.0
  point_gives (DecideNo task entry value) observation sits meant ends guards = tt
  point_gives (Resolve task entry attempt was_open) Won sits meant ends guards =
      resolve_gives (at (Resolve task entry attempt was_open)) (told_observation state (at (Resolve task entry attempt was_open)) Won) was_open task.target (entry_of actor task entry).addr
  point_gives (Resolve task entry attempt was_open) observation sits meant ends guards = tt
  point_gives (Release task sweep entry) Won sits meant ends guards =
      release_gives (at (Release task sweep entry)) (told_observation state (at (Release task sweep entry)) Won) sweep task.target (entry_of actor task entry).addr
  point_gives (Release task sweep entry) observation sits meant ends guards = tt
  point_gives (Clean task entry value) Won sits meant ends guards = tt
  point_gives (Clean task entry value) observation sits meant ends guards = tt
  point_gives (FreeSlot slot onward) observation sits meant ends guards =
      free_gives config state sound has world_facts actor slot onward (told_observation state (at (FreeSlot slot onward)) observation) sits
  point_gives (LowerDoor onward) observation sits meant ends guards = λ falls.
      is_of_change actor.job (LowerDoor onward) refl (have_their_requests config state sound actor.worker (at (LowerDoor onward)) sits).informed.for_job
  point_gives (GiveUp own undecided) observation sits meant (inl quiet) guards =
      subst (λ (one : Observation). Gives (GiveUp own undecided) one) (sym quiet) (gives_up own undecided sits meant)
  point_gives (GiveUp own undecided) observation sits meant (inr changes) guards = absurd changes
  point_gives point Won sits meant ends guards = tt
  point_gives point observation sits meant ends guards = tt

-- What a step that is not a call on a file gives, by its label.
pub given : (config : Config) (state : State) (actor : ActorState) (observation : Observation) → IsSound config state → HasFiles config state → HasWorldFacts state → (state.worker_states actor.worker).actor ≡ Some actor
    → is_reachable actor.point ≡ true → Ends state.cells (asks actor) observation → Guards config state actor.worker (moves_told state actor.worker actor observation)
    → let next = told_observation state actor observation in Given state actor next (label_of actor actor.point observation next.point)
given config state actor observation sound has world_facts sits meant ends guards = point_gives config state sound has world_facts actor actor.point observation sits meant ends guards
