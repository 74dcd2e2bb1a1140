-- When a request is about to take back its own change's pin and then reply, that change is finished and has this reply.
-- Used by: StepsByPoint, Turned.
use Rattle.std.specs.Prelude.{◌≡◌, ◌≢◌, ◌⊎◌, Bool, true, false, List, Some}
use Rattle.std.proofs.Common.{refl, sym, ap, subst, ◌∙◌, inl, inr}
use Rattle.mw_words.specs.declared.jobs.Entry.{Entry}
use Rattle.mw_words.specs.declared.replies.Reply.{Reply}
use Rattle.mw_words.specs.declared.statuses.Status.{Status}
use Rattle.mw_words.specs.declared.statuses.Status.TheVariants.{Draft, Open, YesDirty, Yes, No, DoneYes, DoneNo}
use Rattle.mw_look.specs.declared.observations.Observation.{Observation}
use Rattle.mw_look.specs.declared.observations.Observation.TheVariants.{Won}
use Rattle.mw_actor.specs.declared.points.After.TheVariants.{Reply as ThenReply}
use Rattle.mw_actor.specs.declared.points.Point.{Point}
use Rattle.mw_actor.specs.declared.points.Point.TheVariants.{Read, Admit, Claim, Plant, DecideYes, DecideNo, Resolve, PinOther, Release, Clean, SweepResolve, GiveUp, Unpin}
use Rattle.mw_actor.specs.declared.points.Slot.{Slot}
use Rattle.mw_actor.specs.declared.points.Sweep.TheVariants.{Yes as SweepYes, DoneYes as SweepDoneYes, No as SweepNo, DoneNo as SweepDoneNo}
use Rattle.mw_actor.specs.ActorState.{ActorState, own_entries}
use Rattle.mw_actor.specs.Asks.{asks}
use Rattle.mw_world.specs.declared.config.Config.{Config}
use Rattle.mw_world.specs.Definition.History.{History}
use Rattle.mw_world.specs.Definition.State.{State}
use Rattle.mw_law_runs.specs.Moves.Guards.{Guards}
use Rattle.mw_law_runs.specs.Moves.StepMoves.{moves_told}
use Rattle.mw_law_runs.specs.Knowledge.Facts.{IsOver}
use Rattle.mw_law_runs.specs.Knowledge.Informed.{ChangesAWord, IsInformed}
use Rattle.mw_law_runs.specs.Knowledge.Points.{Knows, without_point}
use Rattle.mw_law_runs.specs.Knowledge.NextState.{told as told_observation, world_told}
use Rattle.mw_law_runs.proofs.Knowledge.Updates.ByPoint.{updates_inform}
use Rattle.mw_law_runs.proofs.Knowledge.Reads.ByPoint.{reads_inform}
use Rattle.mw_law_runs.specs.Obligations.{own_of}
use Rattle.mw_law_runs.specs.RunInvariant.{IsSound}
use Rattle.mw_law_runs.proofs.StepEnds.{Ends}
use Rattle.mw_law_runs.proofs.Obligations.Pins.{none_some}
use Rattle.mw_law_runs.proofs.RequestsInWorlds.{have_their_requests}
use Rattle.mw_law_store.specs.Due.{told}
use Rattle.mw_law_store.specs.WorldFacts.{HasWorldFacts}
use Rattle.mw_law_store.proofs.SimulationSteps.Given.{Settles}

-- FAULT is not decided for a change whose pin was not left behind and that is not waiting to be made
pub fault_undecided : (state : State) → HasWorldFacts state → (own : Slot) → state.history.stays own.slot own.seq ≡ false → state.history.fate own.slot own.seq ≢ YesDirty
    → state.history.is_fault_decided own.slot own.seq ≡ false
fault_undecided state world_facts own stays_not decided = by_test (state.history.is_fault_decided own.slot own.seq) refl
  where
    false_true : false ≡ true → ⊥
    false_true e = cc

    by_test : (test : Bool) → state.history.is_fault_decided own.slot own.seq ≡ test → state.history.is_fault_decided own.slot own.seq ≡ false
    by_test false is = is
    by_test true is = absurd (by_left (world_facts.left own.slot own.seq is))
      where
        by_left : (state.history.stays own.slot own.seq ≡ true) ⊎ (state.history.fate own.slot own.seq ≡ YesDirty) → ⊥
        by_left (inl stays) = false_true (sym stays_not ∙ stays)
        by_left (inr dirty) = decided dirty

-- A change's status gives this reply, unless FAULT was decided for it; and the change is not waiting to be made.
pub record TellsIt (status : Status) (change : List Entry) (reply : Reply) : Type 0 where
  pub decided : status ≢ YesDirty
  pub tells : told false status change ≡ Some reply

over_tells : (actor : ActorState) (status : Status) (reply : Reply) → IsOver actor status reply → TellsIt status (own_entries actor) reply
over_tells actor DoneYes reply is = record { decided = λ e. cc; tells = ap Some (sym is) }
over_tells actor (DoneNo entry value) reply is = record { decided = λ e. cc; tells = ap Some (sym is) }
over_tells actor Draft reply is = absurd is
over_tells actor Open reply is = absurd is
over_tells actor YesDirty reply is = absurd is
over_tells actor Yes reply is = absurd is
over_tells actor (No entry value) reply is = absurd is

-- A request's own change is done with, with this reply.
record IsDone (past : History) (actor : ActorState) (own : Slot) (reply : Reply) : Type 0 where
  pub is_claimed : past.is_claimed own.slot own.seq ≡ true
  pub same_tenant : past.tenant own.slot own.seq ≡ actor.tenant
  pub same_entries : past.change own.slot own.seq ≡ own_entries actor
  pub stays_not : past.stays own.slot own.seq ≡ false
  pub is_over : IsOver actor (past.fate own.slot own.seq) reply

known_done : (state : State) (actor : ActorState) (own : Slot) (reply : Reply) → Knows state actor (Unpin own (ThenReply reply)) → IsDone state.history (without_point actor) own reply
known_done state actor own reply knows =
    let own_one = knows.2.0.own in
    record { is_claimed = own_one.is_claimed; same_tenant = own_one.same_tenant; same_entries = own_one.same_entries; stays_not = own_one.stays_not; is_over = knows.2.1 }

-- that was so before the step
told_done : (state : State) (past : History) (actor : ActorState) (observation : Observation) (own : Slot) (reply : Reply) → IsDone past (without_point (told_observation state actor observation)) own reply
    → IsDone past (without_point actor) own reply
told_done state past actor observation own reply done = record {
  is_claimed = done.is_claimed;
  same_tenant = done.same_tenant;
  same_entries = done.same_entries;
  stays_not = done.stays_not;
  is_over = done.is_over;
}

-- Two histories tell the same of a change.
record SameOf (one other : History) (own : Slot) : Type 0 where
  pub is_claimed : one.is_claimed own.slot own.seq ≡ other.is_claimed own.slot own.seq
  pub tenant : one.tenant own.slot own.seq ≡ other.tenant own.slot own.seq
  pub change : one.change own.slot own.seq ≡ other.change own.slot own.seq
  pub stays : one.stays own.slot own.seq ≡ other.stays own.slot own.seq
  pub fate : one.fate own.slot own.seq ≡ other.fate own.slot own.seq

same_done : (one other : History) (actor : ActorState) (own : Slot) (reply : Reply) → SameOf one other own → IsDone other actor own reply → IsDone one actor own reply
same_done one other actor own reply same done = record {
  is_claimed = same.is_claimed ∙ done.is_claimed;
  same_tenant = same.tenant ∙ done.same_tenant;
  same_entries = same.change ∙ done.same_entries;
  stays_not = same.stays ∙ done.stays_not;
  is_over = subst (λ (status : Status). IsOver actor status reply) (sym same.fate) done.is_over;
}

module _ (state : State) (actor : ActorState) (own : Slot) (reply : Reply) where
  abbrev at : Point → ActorState
  at point = record actor { point = point }

  abbrev Same : Point → Observation → Type 0
  Same point observation = SameOf state.history (world_told state (at point) observation).history own

  -- a step that comes to reply leaves its own change as it was
  same_of : (point : Point) (observation : Observation) → ChangesAWord state.cells (asks (at point)) observation → own_of point ≡ Some own → (told_observation state (at point) observation).point ≡ Unpin own (ThenReply reply)
      → Same point observation
  same_of (Read look) observation changes mine goes = absurd (none_some own mine)
  same_of (Admit from to) observation changes mine goes = absurd (none_some own mine)
  same_of (Claim slot saw_worn from to) observation changes mine goes = absurd (none_some own mine)
  same_of (Plant task entry number) Won changes mine goes = record { is_claimed = refl; tenant = refl; change = refl; stays = refl; fate = refl }
  same_of (Plant task entry number) observation changes mine goes = record { is_claimed = refl; tenant = refl; change = refl; stays = refl; fate = refl }
  same_of (DecideYes task) Won changes mine goes = cc
  same_of (DecideYes task) observation changes mine goes = record { is_claimed = refl; tenant = refl; change = refl; stays = refl; fate = refl }
  same_of (DecideNo task entry value) Won changes mine goes = cc
  same_of (DecideNo task entry value) observation changes mine goes = record { is_claimed = refl; tenant = refl; change = refl; stays = refl; fate = refl }
  same_of (Resolve task entry attempt true) Won changes mine goes = record { is_claimed = refl; tenant = refl; change = refl; stays = refl; fate = refl }
  same_of (Resolve task entry attempt false) Won changes mine goes = record { is_claimed = refl; tenant = refl; change = refl; stays = refl; fate = refl }
  same_of (Resolve task entry attempt was_open) observation changes mine goes = record { is_claimed = refl; tenant = refl; change = refl; stays = refl; fate = refl }
  same_of (PinOther task other from to) Won changes mine goes = record { is_claimed = refl; tenant = refl; change = refl; stays = refl; fate = refl }
  same_of (PinOther task other from to) observation changes mine goes = record { is_claimed = refl; tenant = refl; change = refl; stays = refl; fate = refl }
  same_of (Release task SweepYes entry) Won changes mine goes = record { is_claimed = refl; tenant = refl; change = refl; stays = refl; fate = refl }
  same_of (Release task SweepDoneYes entry) Won changes mine goes = record { is_claimed = refl; tenant = refl; change = refl; stays = refl; fate = refl }
  same_of (Release task SweepNo entry) Won changes mine goes = record { is_claimed = refl; tenant = refl; change = refl; stays = refl; fate = refl }
  same_of (Release task (SweepDoneNo index found) entry) Won changes mine goes = record { is_claimed = refl; tenant = refl; change = refl; stays = refl; fate = refl }
  same_of (Release task sweep entry) observation changes mine goes = record { is_claimed = refl; tenant = refl; change = refl; stays = refl; fate = refl }
  same_of (Clean task entry value) Won changes mine goes = record { is_claimed = refl; tenant = refl; change = refl; stays = refl; fate = refl }
  same_of (Clean task entry value) observation changes mine goes = record { is_claimed = refl; tenant = refl; change = refl; stays = refl; fate = refl }
  same_of (SweepResolve task sweep entry attempt) Won changes mine goes = record { is_claimed = refl; tenant = refl; change = refl; stays = refl; fate = refl }
  same_of (SweepResolve task sweep entry attempt) observation changes mine goes = record { is_claimed = refl; tenant = refl; change = refl; stays = refl; fate = refl }
  same_of (GiveUp its undecided) observation changes mine goes = absurd changes
  same_of point observation changes mine goes = record { is_claimed = refl; tenant = refl; change = refl; stays = refl; fate = refl }

-- A step that is not a call on a file comes to reply only if the request's own change is done with and has the reply.
pub settles : (config : Config) (state : State) (actor : ActorState) (observation : Observation) → IsSound config state → HasWorldFacts state → (state.worker_states actor.worker).actor ≡ Some actor
    → Ends state.cells (asks actor) observation → Guards config state actor.worker (moves_told state actor.worker actor observation) → Settles state actor (told_observation state actor observation)
settles config state actor observation sound world_facts sits ends guards own reply mine goes = (
  (done.is_claimed, done.same_tenant),
  ap (λ (fault_decided : Bool). told fault_decided (past.fate own.slot own.seq) (past.change own.slot own.seq)) (fault_undecided state world_facts own done.stays_not found.decided)
      ∙ ap (λ (change : List Entry). told false (past.fate own.slot own.seq) change) done.same_entries ∙ found.tells,
)
  where
    past : History
    past = state.history

    informed : IsInformed config state actor
    informed = (have_their_requests config state sound actor.worker actor sits).informed

    done : IsDone state.history (without_point actor) own reply
    done = by_end ends
      where
        by_end : Ends state.cells (asks actor) observation → IsDone state.history (without_point actor) own reply
        by_end (inl quiet) =
            told_done state state.history actor observation own reply
            (known_done state (told_observation state actor observation) own reply
            (subst (λ (after : Point). Knows state (told_observation state actor observation) after) goes (reads_inform config state actor observation informed quiet).knows))
        by_end (inr changes) =
            let after = world_told state actor observation in
            same_done state.history after.history (without_point actor) own reply (same_of state actor own reply actor.point observation changes mine goes)
            (told_done state after.history actor observation own reply
            (known_done after (told_observation state actor observation) own reply
            (subst (λ (point : Point). Knows after (told_observation state actor observation) point) goes
            (updates_inform config state actor observation sound.counts sits informed changes guards).knows)))

    found : TellsIt (state.history.fate own.slot own.seq) (own_entries actor) reply
    found = over_tells (without_point actor) (state.history.fate own.slot own.seq) reply done.is_over
