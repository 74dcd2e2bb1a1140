-- A step of one tenant's request leaves another tenant's part of the world unchanged. Used by: Turned.
use Rattle.std.specs.Prelude.{ℕ, ◌≡◌, ◌≢◌, ◌<◌, ◌⊎◌, true, ◌&&◌, not, is_some, Some}
use Rattle.std.proofs.Common.{refl, sym, ap, ◌∙◌, inl, inr, arith}
use Rattle.mw_words.specs.declared.doors.Door.{Door}
use Rattle.mw_look.specs.declared.observations.Observation.{Observation}
use Rattle.mw_actor.specs.ActorState.{ActorState}
use Rattle.mw_actor.specs.Asks.{asks}
use Rattle.mw_actor.specs.Program.{replied}
use Rattle.mw_world.specs.declared.config.Config.{Config}
use Rattle.mw_world.specs.Definition.Cells.{Cells}
use Rattle.mw_world.specs.Definition.State.{State, TenantState}
use Rattle.mw_world.specs.Definition.Turns.{Made, made_of, may_make, moved, turn, turned}
use Rattle.mw_law_runs.specs.Knowledge.Informed.{IsInformed}
use Rattle.mw_law_runs.specs.Knowledge.NextState.{told, world_told}
use Rattle.mw_law_runs.proofs.Knowledge.Updates.Preservation.{upd_else}
use Rattle.mw_law_runs.proofs.Knowledge.Guards.UpdateGuards.{updates_have_guards}
use Rattle.mw_law_runs.proofs.Knowledge.Guards.ReadGuards.{reads_have_guards}
use Rattle.mw_law_runs.specs.Moves.Guards.{Guards}
use Rattle.mw_law_runs.specs.Moves.Memory.{Memory}
use Rattle.mw_law_runs.specs.Moves.Rely.{Rely}
use Rattle.mw_law_runs.specs.Moves.StepMoves.{moves_told}
use Rattle.mw_law_runs.proofs.Moves.Shared.{is_shared}
use Rattle.mw_law_runs.specs.Obligations.{OneStepped}
use Rattle.mw_law_runs.specs.RunInvariant.{IsSound}
use Rattle.mw_law_runs.proofs.StepEnds.{Ends, TurnEnds, turn_ends}
use Rattle.mw_law_runs.proofs.Obligations.LastPins.{last_pins_are_free}
use Rattle.mw_law_runs.proofs.Obligations.Pins.{some_same}
use Rattle.mw_law_runs.proofs.RequestsInWorlds.{have_their_requests}
use Rattle.mw_law_runs.proofs.GuardedEvents.{guarded, second_holds}
use Rattle.mw_law_runs.proofs.StepsKeepInvariant as turning
use Rattle.mw_law_store.proofs.Files.TurnFiles.{follows}
use Rattle.mw_law_store.proofs.Beside.Moves.{SameFor, moves_aside, moves_doors}
use Rattle.mw_law_store.proofs.Beside.Points.{turn_for}
use Rattle.mw_law_store.proofs.Elsewhere.{StepsAside}
use Rattle.mw_law_store.specs.Refinement.{is_live}

-- After a worker's step, the other workers and the other tenants' states are as they were.
pub record OthersStay (state : State) (worker tenant : ℕ) (next : State) : Type 0 where
  pub worker_states : (other : ℕ) → other ≢ worker → next.worker_states other ≡ state.worker_states other
  pub tenant_states : (other : ℕ) → other ≢ tenant → next.tenant_states other ≡ state.tenant_states other

made_stays : (state : State) (worker : ℕ) (actor : ActorState) (made : Made) → OthersStay state worker actor.tenant (moved state worker actor made)
made_stays state worker actor made = record {
  worker_states = λ other apart. upd_else state.worker_states worker other _ apart;
  tenant_states = λ other apart. upd_else state.tenant_states actor.tenant other _ apart;
}

pub turn_stays : (config : Config) (state next : State) (actor : ActorState) → turn config state actor.worker (Some actor) ≡ Some next → OthersStay state actor.worker actor.tenant next
turn_stays config state next actor is =
    guarded (OthersStay state actor.worker actor.tenant) (not (is_some (replied actor)) && may_make config (asks actor)) (turned state actor.worker actor) next
    (λ may. follows (OthersStay state actor.worker actor.tenant) (λ (cells : Cells) (observation : Observation). moved state actor.worker actor (made_of state actor.worker actor cells observation))
    (λ cells observation. made_stays state actor.worker actor (made_of state actor.worker actor cells observation)) (asks actor) state.cells) is

-- A slot that is taken after a step, for a change that was there before, was taken for it before.
fewer : (config : Config) (state next : State) (worker : ℕ) → Memory config state → Rely worker state next → (slot seq : ℕ) → is_live next.cells slot seq → state.history.is_claimed slot seq ≡ true
    → is_live state.cells slot seq
fewer config state next worker memory later slot seq live is_claimed = by_latest (memory.claims.latest slot seq is_claimed)
  where
    by_latest : (seq < (state.cells.gates slot).seq) ⊎ ((seq ≡ (state.cells.gates slot).seq) × ((state.cells.gates slot).taken ≡ true)) → is_live state.cells slot seq
    by_latest (inl past) = absurd (omega (arith, past, later.seqs slot, live.1))
    by_latest (inr now) = (now.1, sym now.0)

-- Other tenants' doors stay.
other_doors : (config : Config) (state : State) (actor : ActorState) (observation : Observation) → IsInformed config state actor → (tenant : ℕ) → tenant ≢ actor.tenant
    → (world_told state actor observation).cells.doors tenant ≡ state.cells.doors tenant
other_doors config state actor observation informed tenant apart =
    moves_doors state actor.worker actor.tenant tenant apart (moves_told state actor.worker actor observation) (turn_for config state actor observation informed)

-- A step is beside another tenant if it leaves that tenant's door, changes and state, and all other workers, as they were.
steps_aside : (config : Config) (state next : State) (actor later_actor : ActorState) (tenant : ℕ) → tenant ≢ actor.tenant → IsSound config state → Rely actor.worker state next
    → OneStepped state next actor.worker later_actor → later_actor.tenant ≡ actor.tenant → OthersStay state actor.worker actor.tenant next → next.cells.doors tenant ≡ state.cells.doors tenant
    → SameFor tenant state next → StepsAside state next actor.worker tenant
steps_aside config state next actor later_actor tenant apart sound later stepped same_tenant stay door same = record {
  worker_states = stay.worker_states;
  not_its = λ after sits of_it. apart (sym of_it ∙ sym (ap (λ (one : ActorState). one.tenant) (some_same later_actor after (sym stepped.goes_on ∙ sits))) ∙ same_tenant);
  file = ap (λ (tenant_state : TenantState). tenant_state.file) (stay.tenant_states tenant apart);
  quota = ap (λ (tenant_state : TenantState). tenant_state.quota) (stay.tenant_states tenant apart);
  asked = ap (λ (tenant_state : TenantState). tenant_state.asked) (stay.tenant_states tenant apart);
  used = ap (λ (one : Door). one.used) door;
  changes = record {
    was = same.was;
    request = same.request;
    change = same.change;
    told = same.tells;
    live_else = λ slot seq live is. fewer config state next actor.worker sound.memory later slot seq live is.0;
  };
}

module _ (config : Config) (state next : State) (actor : ActorState) (sound : IsSound config state) (sits : (state.worker_states actor.worker).actor ≡ Some actor) where
  informed : IsInformed config state actor
  informed = (have_their_requests config state sound actor.worker actor sits).informed

  module _ (is : turn config state actor.worker (Some actor) ≡ Some next) where
    ended : TurnEnds state next actor.worker actor
    ended = turn_ends config state actor informed next is

    guards : Guards config state actor.worker (moves_told state actor.worker actor ended.observation)
    guards = by_end ended.ends
      where
        by_end : Ends state.cells (asks actor) ended.observation → Guards config state actor.worker (moves_told state actor.worker actor ended.observation)
        by_end (inl quiet) = reads_have_guards config state actor ended.observation informed quiet
        by_end (inr changes) =
            guarded (λ (one : State). Guards config state actor.worker (moves_told state actor.worker actor ended.observation)) (not (is_some (replied actor)) && may_make config (asks actor)) (turned state actor.worker actor) next
            (λ may. updates_have_guards config state actor ended.observation sound.counts sits informed
            (last_pins_are_free config state actor.worker actor sound.counts sound.points (have_their_requests config state sound) sound.releasers sits)
            (second_holds (not (is_some (replied actor))) (may_make config (asks actor)) may) changes) is

    turn_same : (tenant : ℕ) → tenant ≢ actor.tenant → SameFor tenant state next
    turn_same tenant apart =
        let same = moves_aside config state actor.worker actor.tenant tenant apart (moves_told state actor.worker actor ended.observation) guards sound.memory
        (turn_for config state actor ended.observation informed) in
        is_shared next (world_told state actor ended.observation) ended.same (λ (one : State). SameFor tenant state one)
        (record { was = same.was; still = same.still; request = same.request; change = same.change; tells = same.tells })

    -- A step that is not a call is beside every other tenant.
    pub turn_aside : (tenant : ℕ) → tenant ≢ actor.tenant → StepsAside state next actor.worker tenant
    turn_aside tenant apart =
        steps_aside config state next actor (told state actor ended.observation) tenant apart sound (turning.later config state next actor sound sits is) ended.stepped refl (turn_stays config state next actor is)
        (ap (λ (cells : Cells). cells.doors tenant) ended.same.cells ∙ other_doors config state actor ended.observation informed tenant apart) (turn_same tenant apart)
