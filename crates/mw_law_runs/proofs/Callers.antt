-- A request at a call on its file holds a pin of the slot of the call's change. That change is one of its tenant.
-- Used by: RunsAreSound, Statuses.
use Rattle.std.specs.Prelude.{ℕ, ◌≡◌, ◌≤◌, Some}
use Rattle.std.proofs.Common.{refl, subst, arith}
use Rattle.mw_actor.specs.declared.points.Point.{Point}
use Rattle.mw_actor.specs.declared.points.Point.TheVariants.{Prepare, Seal, Settle, Cancel}
use Rattle.mw_actor.specs.declared.points.Slot.{Slot}
use Rattle.mw_actor.specs.ActorState.{ActorState}
use Rattle.mw_world.specs.declared.config.Config.{Config}
use Rattle.mw_world.specs.Claim.Invariant.{IsOfCaller}
use Rattle.mw_world.specs.Definition.Calls.{Called, called_at}
use Rattle.mw_world.specs.Definition.Counts.{pins_held}
use Rattle.mw_world.specs.Definition.State.{State}
use Rattle.mw_law_runs.proofs.Counts.GateSteps.{has_pin}
use Rattle.mw_law_runs.specs.Knowledge.NextState.{KnowsItsPoint}
use Rattle.mw_law_runs.specs.Moves.Guards.{IsLive}
use Rattle.mw_law_runs.specs.RunInvariant.{IsSound}
use Rattle.mw_law_runs.proofs.Obligations.Pins.{counted_once, none_some, some_same, target_pinned}
use Rattle.mw_law_runs.proofs.RequestsInWorlds.{rest_on}

-- What is known of the change of a call.
record IsCalled (state : State) (actor : ActorState) (point : Point) (change : Slot) : Type 0 where
  live : IsLive state change
  same_tenant : state.history.tenant change.slot change.seq ≡ actor.tenant
  pin : 1 ≤ pins_held change.slot point

at_call : (state : State) (actor : ActorState) (point : Point) (called : Called) → KnowsItsPoint state (record actor { point = point }) → called_at point ≡ Some called
    → IsCalled state actor point called.change
at_call state actor (Prepare own) called knows is =
    subst (λ (one : Called). IsCalled state actor (Prepare own) one.change) (some_same _ called is)
    (record { live = knows.live; same_tenant = knows.knows.drafted.own.same_tenant; pin = omega (arith, counted_once own.slot own.slot refl) })
at_call state actor (Seal task) called knows is =
    subst (λ (one : Called). IsCalled state actor (Seal task) one.change) (some_same _ called is)
    (record { live = knows.live.1; same_tenant = knows.knows.0.at_work.target.same_tenant; pin = target_pinned task task.target.slot refl })
at_call state actor (Settle task) called knows is =
    subst (λ (one : Called). IsCalled state actor (Settle task) one.change) (some_same _ called is)
    (record { live = knows.live.1; same_tenant = knows.knows.0.at_work.target.same_tenant; pin = target_pinned task task.target.slot refl })
at_call state actor (Cancel task) called knows is =
    subst (λ (one : Called). IsCalled state actor (Cancel task) one.change) (some_same _ called is)
    (record { live = knows.live.1; same_tenant = knows.knows.0.at_work.target.same_tenant; pin = target_pinned task task.target.slot refl })
at_call state actor point called knows is = absurd (none_some called is)

pub of_caller : (config : Config) (state : State) (worker : ℕ) (actor : ActorState) (called : Called) → IsSound config state → (state.worker_states worker).actor ≡ Some actor
    → called_at actor.point ≡ Some called → IsOfCaller state actor.tenant called.change
of_caller config state worker actor called sound sits at =
    let its = at_call state actor actor.point called (sound.requests worker actor sits).stands at in
    let some = has_pin config state worker sound.counts (rest_on config state sound) actor called.change.slot sits its.pin in
    record { pinned = ((its.live.taken, omega (arith, some)), its.live.seq); same_tenant = its.same_tenant }
