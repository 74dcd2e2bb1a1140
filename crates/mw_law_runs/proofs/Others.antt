-- A step of one request leaves each other request sound (`IsSoundRequest`): in range, its slots live, the facts of its point
-- true. Used by: FileCalls, StepsKeepInvariant.
use Rattle.std.specs.Prelude.{ℕ, ◌≡◌, ◌≢◌, ◌≤◌, ◌+◌, ◌⊎◌, Some}
use Rattle.std.proofs.Common.{sym, ap, subst, ◌∙◌, inl, inr, arith}
use Rattle.mw_actor.specs.ActorState.{ActorState}
use Rattle.mw_world.specs.declared.config.Config.{Config}
use Rattle.mw_world.specs.Definition.Counts.{pins_held, frees_at}
use Rattle.mw_world.specs.Definition.State.{State}
use Rattle.mw_law_runs.specs.Moves.Rely.{Rely}
use Rattle.mw_law_runs.proofs.Counts.Room.{who-frees-is-alone}
use Rattle.mw_law_runs.specs.Knowledge.Laws.{StaysTaken}
use Rattle.mw_law_runs.specs.Knowledge.Points.{without_point}
use Rattle.mw_law_runs.proofs.Knowledge.Stability.{others_keep_own}
use Rattle.mw_law_runs.proofs.Knowledge.Updates.Preservation.{carries_on}
use Rattle.mw_law_runs.specs.Obligations.{OneStepped}
use Rattle.mw_law_runs.specs.RunInvariant.{IsSound, IsSoundRequest}
use Rattle.mw_law_runs.proofs.Numbers.{same_or_other, nothing_or_some}

module _ (config : Config) (state next : State) (actor later_actor : ActorState) (sound : IsSound config state) (sits : (state.worker_states actor.worker).actor ≡ Some actor)
    (later : Rely actor.worker state next) (stepped : OneStepped state next actor.worker later_actor) (itself : IsSoundRequest next later_actor)
    (stays : (slot : ℕ) → frees_at slot actor.point ≡ 0 → StaysTaken state next slot) where
  others_stay : (other : ℕ) (one : ActorState) → other ≢ actor.worker → (state.worker_states other).actor ≡ Some one → (slot : ℕ) → 1 ≤ pins_held slot one.point + frees_at slot one.point
      → StaysTaken state next slot
  others_stay other one apart there slot some = by_freed (nothing_or_some (frees_at slot actor.point))
    where
      by_freed : (frees_at slot actor.point ≡ 0) ⊎ (1 ≤ frees_at slot actor.point) → StaysTaken state next slot
      by_freed (inl none) = stays slot none
      by_freed (inr frees) =
          let alone = who-frees-is-alone config state actor.worker slot actor sound.counts sits frees in
          absurd (omega (arith, some, alone.none_held other one there, alone.none_frees other one apart there))

  another : (other : ℕ) (one : ActorState) → other ≢ actor.worker → (state.worker_states other).actor ≡ Some one → IsSoundRequest next one
  another other one apart there =
      let was = sound.requests other one there in
      let is_its = (sound.counts.worker_states other one there).same_worker in
      record {
        in_range = was.in_range;
        look_in_range = was.look_in_range;
        for_job = was.for_job;
        stands = carries_on actor.worker state next later one (others_keep_own actor.worker state next (without_point one) (λ same. apart (sym is_its ∙ same)) later)
            (others_stay other one apart there) was.stands;
      }

  pub requests_stay : (other : ℕ) (one : ActorState) → (next.worker_states other).actor ≡ Some one → IsSoundRequest next one
  requests_stay other one there = by_worker (same_or_other other actor.worker)
    where
      same_request : (one other : ActorState) → Some other ≡ Some one → other ≡ one
      same_request one other e = cc

      by_worker : (other ≡ actor.worker) ⊎ (other ≢ actor.worker) → IsSoundRequest next one
      by_worker (inl same) =
          subst (IsSoundRequest next) (same_request one later_actor (sym stepped.goes_on ∙ ap (λ (n : ℕ). (next.worker_states n).actor) (sym same) ∙ there)) itself
      by_worker (inr apart) = another other one apart (sym (stepped.others other apart) ∙ there)
