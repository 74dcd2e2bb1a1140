-- A run with one event more is the run, followed by the step of that event.
-- Used by: runs_extend, mw_law_store, mw_rule, mw_simulator.
use Rattle.std.specs.Prelude.{◌≡◌, [], ◌∷◌, ◌++◌, Option, Some, None}
use Rattle.std.specs.Option.{option_and_then}
use Rattle.std.proofs.Common.{refl}
use Rattle.mw_world.specs.Definition.State.{State}
use Rattle.mw_world.specs.Definition.World.{step, run}
use Rattle.mw_world.specs.Claim.Laws.{RunExtends}

last : (o : Option State) → option_and_then (λ next. Some next) o ≡ o
last None = refl
last (Some state) = refl

pub run-extends : RunExtends
run-extends config state [] event = last (step config state event)
run-extends config state (first ∷ events) event = rest (λ next. run-extends config next events event) (step config state first)
  where
    rest : ((next : State) → run config next (events ++ event ∷ []) ≡ option_and_then (λ after. step config after event) (run config next events)) → (o : Option State) →
        option_and_then (λ next. run config next (events ++ event ∷ [])) o ≡ option_and_then (λ next. step config next event) (option_and_then (λ next. run config next events) o)
    rest more None = refl
    rest more (Some next) = more next
