-- Each new pass of a table that is made of a simulated world carries the request that its worker has in that world, if that
-- has no reply yet.
-- Used by: request_of, worlds::after, worlds::step.
use Rattle.std.specs.Prelude.{ℕ, ◌≡◌, List, [], ◌∷◌, ◌++◌, Option, Some, None, Result, Ok, Err}
use Rattle.std.proofs.Common.{refl, sym, ap, subst, ◌∙◌}
use Rattle.mw_actor.specs.ActorState.{ActorState}
use Rattle.mw_actor.specs.Program.{replied}
use Rattle.mw_world.specs.declared.config.Config.{Config}
use Rattle.mw_world.specs.declared.events.Event.{Event}
use Rattle.mw_world.specs.Definition.Calls.{called_at}
use Rattle.mw_world.specs.Definition.Events.{WorldEvent}
use Rattle.mw_world.specs.Definition.State.{WorkerState, State}
use Rattle.mw_core.specs.FromTable.{Each, IsCarried, IsDealt, IsReady, IsReadyAt, IsReadyFor, Pass, WorkerToken, Shared, View, numbers, token_of, settled, settled_as}
use Rattle.mw_simulator.specs.declared.faults.WorldFault.{WorldFault}
use Rattle.mw_simulator.specs.declared.world.World.{World}
use Rattle.mw_simulator.specs.Events.{IsAfterEvent}
use Rattle.mw_simulator.specs.Representation.{Represents}
use Rattle.mw_table_tests.specs.Worlds.{basis_of_world}
use Rattle.mw_table_tests.proofs.MadeWorlds.{worker_states_same}
use Rattle.mw_table_tests.specs.Reached.{IsReached}

-- a run goes on by an event, or ends where it was
pub reached_on : (world : World) (happened : List WorldEvent) (event : Event) (result : Result (Unit {0}) WorldFault) → IsAfterEvent world happened event result → IsReached world
reached_on world happened event (Ok x) goes = (happened ++ goes.more, goes.stands)
reached_on world happened event (Err fault) stands = (happened, stands)

abbrev second_of : List (ℕ × ℕ) → ℕ
second_of [] = 0
second_of (one ∷ rest) = one.1

-- A pass of a new table carries the request that its worker has in the world, if that has no reply yet.
pub carried_at_first : (shared : Shared) (world : World) (before : List WorldEvent) (pass : Pass) (actor : ActorState) → IsReached world → IsDealt shared (basis_of_world world before) pass
    → ((state : State) → Represents world state → (state.worker_states pass.worker).actor ≡ Some actor) → replied actor ≡ None → IsCarried pass actor
carried_at_first shared world before pass actor reached dealt has running =
    let stands = reached.1 in
    let seat = (basis_of_world world before).worker_states pass.worker in
    let token = token_of pass.worker seat in
    let having : seat.actor ≡ Some actor =
    ap (λ (one : WorkerState). one.actor) (worker_states_same world before stands.state pass.worker stands.shows dealt.there) ∙ has stands.state stands.shows in
    let given : settled token actor ≡ token = ap (settled_as token actor) running ∙ ap (λ (a : Option ActorState). token_of pass.worker (record seat { actor = a })) (sym having) in
    record {
      token = token;
      carries = record {
        own = refl;
        same_attempt = ap second_of (ap numbers (sym dealt.view) ∙ pass.numbered);
        only = ap (λ (view : View). view.tokens) dealt.view ∙ ap (λ (one : WorkerToken). one ∷ []) (sym given);
      };
      ready = λ run.
          let config : world.config ≡ pass.seat.me.0.config = sym (ap (λ (view : View). view.config) dealt.view) in
          let all : Each (IsReady world.config) (token ∷ []) = subst (λ (view : View). Each (IsReady world.config) view.tokens) dealt.view dealt.ready in
          let mine : IsReadyFor world.config (Some actor) = subst (λ (one : Option ActorState). IsReadyFor world.config one) having all.0 in
          subst (λ (one : Config). IsReadyAt one actor (called_at actor.point)) config (mine run);
    }
