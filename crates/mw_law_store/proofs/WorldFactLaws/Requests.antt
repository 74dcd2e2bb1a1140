-- A step of one worker's request keeps the world facts about each request's tenant and about what a read has loaded.
-- Used by: WorldFactLaws, Calls, Turns.
use Rattle.std.specs.Prelude.{ℕ, ◌≡◌, ◌≢◌, ◌<◌, ◌⊎◌, Bool, true, false, Some}
use Rattle.std.proofs.Common.{refl, sym, ap, subst, ◌∙◌, inl, inr, arith}
use Rattle.std.proofs.lemmas.Bool.Decides.{nat_tests}
use Rattle.mw_words.specs.declared.doors.Door.{Door}
use Rattle.mw_words.specs.declared.places.At.{At}
use Rattle.mw_words.specs.declared.places.At.TheVariants.{Door as AtDoor, Gate as AtGate, Row as AtRow, Data, Status as AtStatus, Count, Addr, Expected, New}
use Rattle.mw_look.specs.declared.observations.Observation.{Observation}
use Rattle.mw_look.specs.declared.observations.Observation.TheVariants.{SawDoor, Filed}
use Rattle.mw_look.specs.Observations.{seen}
use Rattle.mw_look.specs.Places.{Val}
use Rattle.mw_look.specs.Steps.{Step, Load, Change, File as FileStep}
use Rattle.mw_actor.specs.declared.points.Point.{Point}
use Rattle.mw_actor.specs.ActorState.{ActorState}
use Rattle.mw_actor.specs.Asks.{asks}
use Rattle.mw_world.specs.declared.config.Config.{Config}
use Rattle.mw_world.specs.Definition.Cells.{Cells, read}
use Rattle.mw_look.specs.declared.steps.Shape.{Shape}
use Rattle.mw_look.specs.declared.steps.Shape.TheVariants.{Exchange, Store, Fetch}
use Rattle.mw_look.specs.Shapes.{shape_of}
use Rattle.mw_world.specs.Definition.State.{State, TenantState, tenants_of}
use Rattle.mw_world.specs.Maps.{upd}
use Rattle.mw_law_runs.specs.Moves.Rely.{Rely}
use Rattle.mw_law_runs.specs.Knowledge.Informed.{Changes}
use Rattle.mw_law_runs.specs.Obligations.{OneStepped}
use Rattle.mw_law_runs.specs.RunInvariant.{IsSound}
use Rattle.mw_law_runs.proofs.StepEnds.{Ends}
use Rattle.mw_law_runs.proofs.Numbers.{same_or_other}
use Rattle.mw_law_runs.proofs.Obligations.Pins.{some_same}
use Rattle.mw_law_runs.proofs.RequestsInWorlds.{have_their_requests}
use Rattle.mw_law_store.specs.Files.Files.{HasFiles}
use Rattle.mw_law_store.specs.WorldFacts.{HasWorldFacts, HasRequestFacts}
use Rattle.mw_law_store.proofs.WorldFactLaws.Histories.{FaultFacts, failed_of, up_of}
use Rattle.mw_law_store.proofs.WorldFactLaws.Inside.{FindsNoFault}
use Rattle.mw_law_store.proofs.ReadKnowledge.{seen_stays}

-- the world facts, but for requests
pub spoils_of : (state : State) → HasWorldFacts state → FaultFacts state.history (failed_of state.tenant_states) (up_of state.tenant_states)
spoils_of state world_facts = record { unclaimed = world_facts.unclaimed; failed = world_facts.fault_decided; left_it = world_facts.left; up = world_facts.up }

-- Files that had failed still have, and each tenant is up exactly if it was.
pub record StaysFailed (old new : State) : Type 0 where
  pub failed : (tenant : ℕ) → failed_of old.tenant_states tenant ≡ true → failed_of new.tenant_states tenant ≡ true
  pub up : (tenant : ℕ) → up_of new.tenant_states tenant ≡ up_of old.tenant_states tenant

-- one tenant's state is another one
pub failed_set : (tenant_states : ℕ → TenantState) (tenant other : ℕ) (tenant_state : TenantState) → (failed_of tenant_states tenant ≡ true → tenant_state.file.has_failed ≡ true) → failed_of tenant_states other ≡ true
    → failed_of (upd tenant_states tenant tenant_state) other ≡ true
failed_set tenant_states tenant other tenant_state stays is = grind (arith, nat_tests, stays, is)

pub up_set : (tenant_states : ℕ → TenantState) (tenant other : ℕ) (tenant_state : TenantState) → tenant_state.is_up ≡ up_of tenant_states tenant → up_of (upd tenant_states tenant tenant_state) other ≡ up_of tenant_states other
up_set tenant_states tenant other tenant_state same = grind (arith, nat_tests, same)

module _ (config : Config) (state next : State) (actor later_actor : ActorState) (sound : IsSound config state) (world_facts : HasWorldFacts state) (later : Rely actor.worker state next)
    (stepped : OneStepped state next actor.worker later_actor) (stays : StaysFailed state next) where
  other_with_facts : (worker : ℕ) (one : ActorState) → (state.worker_states worker).actor ≡ Some one → HasRequestFacts next one
  other_with_facts worker one sits =
      let before = world_facts.worker_states worker one sits in
      record {
        fault = λ is. stays.failed one.tenant (before.fault is);
        up = λ is. stays.up one.tenant ∙ before.up is;
        seen = seen_stays actor.worker state next one one.point later (have_their_requests config state sound worker one sits).informed.knows before.seen;
      }

  -- if the request that steps has its facts
  pub world_facts_go_on : HasRequestFacts next later_actor → FaultFacts next.history (failed_of next.tenant_states) (up_of next.tenant_states) → HasWorldFacts next
  world_facts_go_on itself fault_facts = record {
    unclaimed = fault_facts.unclaimed;
    fault_decided = fault_facts.failed;
    left = fault_facts.left_it;
    up = fault_facts.up;
    worker_states = λ worker one sits. by_worker worker one sits (same_or_other worker actor.worker);
  }
    where
      by_worker : (worker : ℕ) (one : ActorState) → (next.worker_states worker).actor ≡ Some one → (worker ≡ actor.worker) ⊎ (worker ≢ actor.worker) → HasRequestFacts next one
      by_worker worker one sits (inl is) =
          subst (HasRequestFacts next) (some_same later_actor one (sym stepped.goes_on ∙ subst (λ (n : ℕ). (next.worker_states n).actor ≡ Some one) is sits)) itself
      by_worker worker one sits (inr apart) = other_with_facts worker one (sym (stepped.others worker apart) ∙ sits)

-- A step that is not a call observes nothing of a call.
filed_seen : (at : At) (x : Val at) → seen at x ≡ Filed false → ⊥
filed_seen (AtDoor tenant) x e = cc
filed_seen (AtGate slot) x e = cc
filed_seen (AtRow worker) x e = cc
filed_seen (Data tenant address) x e = cc
filed_seen (AtStatus slot) x e = cc
filed_seen (Count slot) x e = cc
filed_seen (Addr slot entry) x e = cc
filed_seen (Expected slot entry) x e = cc
filed_seen (New slot entry) x e = cc

filed_changed : (shape : Shape) (at : At) (from : Val at) (cells : Cells) (observation : Observation) → Changes shape at from cells observation → observation ≡ Filed false → ⊥
filed_changed Exchange at from cells observation changes is = cc (changes.0, is)
filed_changed Store at from cells observation changes is = cc (changes, is)
filed_changed Fetch at from cells observation changes is = filed_seen at (read cells at) (sym changes ∙ is)

pub tells_no_call : (cells : Cells) (step : Step) (observation : Observation) → Ends cells step observation → observation ≡ Filed false → ⊥
tells_no_call cells (Load at) observation (inl quiet) is = filed_seen at (read cells at) (sym quiet ∙ is)
tells_no_call cells (Load at) observation (inr changes) is = changes
tells_no_call cells (Change kind at from to) observation (inl quiet) is = cc (quiet.1, is)
tells_no_call cells (Change kind at from to) observation (inr changes) is = filed_changed (shape_of kind) at from cells observation changes is
tells_no_call cells (FileStep call slot) observation (inl quiet) is = quiet
tells_no_call cells (FileStep call slot) observation (inr changes) is = changes

-- A request that observes no fault at its tenant's door is of a tenant that is up.
door_seen : (cells : Cells) (tenant : ℕ) (step : Step) (observation : Observation) (door : Door) → step ≡ Load (AtDoor tenant) → Ends cells step observation → observation ≡ SawDoor door → cells.doors tenant ≡ door
door_seen cells tenant step observation door is ends told = by_end (subst (λ (one : Step). Ends cells one observation) is ends)
  where
    by_end : Ends cells (Load (AtDoor tenant)) observation → cells.doors tenant ≡ door
    by_end (inl quiet) = same (sym quiet ∙ told)
      where
        same : SawDoor (cells.doors tenant) ≡ SawDoor door → cells.doors tenant ≡ door
        same e = cc
    by_end (inr changes) = absurd changes

up_if : (is_up has_failed fault : Bool) → fault ≡ false → has_failed ≡ fault → (is_up ≡ false → has_failed ≡ true) → is_up ≡ true
up_if true has_failed fault none same down = refl
up_if false has_failed fault none same down = absurd (false_true (sym (same ∙ none) ∙ down refl))
  where
    false_true : false ≡ true → ⊥
    false_true e = cc

pub finds_up : (config : Config) (state : State) (actor : ActorState) (point : Point) (observation : Observation) → let me = record actor { point = point } in HasFiles config state → actor.tenant < tenants_of config
    → Ends state.cells (asks me) observation → FindsNoFault me point observation → up_of state.tenant_states actor.tenant ≡ true
finds_up config state actor point observation has low ends found =
    let told = has.told actor.tenant low in
    up_if (up_of state.tenant_states actor.tenant) (failed_of state.tenant_states actor.tenant) (state.cells.doors actor.tenant).fault
    (ap (λ (door : Door). door.fault) (door_seen state.cells actor.tenant (asks (record actor { point = point })) observation found.door found.asks ends found.is) ∙ found.has_none) told.fault told.down
