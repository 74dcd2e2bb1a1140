-- How a request's step ends: what the request learns, and which moves (elementary changes of the shared words) the step
-- makes.
-- Used by: mw_law_store.
use Rattle.std.specs.Prelude.{ℕ, ◌≡◌, ◌⊎◌, ◌&&◌, ◌==◌, not, Bool, true, false, cond, is_some, if◌then◌else◌, List, Some, None}
use Rattle.std.proofs.Common.{refl, sym, ap, subst, inl, inr, arith}
use Rattle.std.proofs.lemmas.Bool.Decides.{nat_tests}
use Rattle.mw_words.specs.declared.places.At.{At}
use Rattle.mw_look.specs.declared.observations.Observation.{Observation}
use Rattle.mw_look.specs.declared.observations.Observation.TheVariants.{Won, Lost}
use Rattle.mw_look.specs.declared.steps.Kind.{Kind}
use Rattle.mw_look.specs.Observations.{seen}
use Rattle.mw_look.specs.Places.{Val, pack}
use Rattle.mw_look.specs.Steps.{Step, Load, Change, File as FileStep}
use Rattle.mw_actor.specs.ActorState.{ActorState}
use Rattle.mw_actor.specs.Asks.{asks}
use Rattle.mw_actor.specs.Program.{replied}
use Rattle.mw_world.specs.Maps.{upd}
use Rattle.mw_world.specs.declared.config.Config.{Config}
use Rattle.mw_world.specs.Definition.Cells.{Cells, read, write, AllFit}
use Rattle.mw_look.specs.declared.steps.Shape.{Shape}
use Rattle.mw_look.specs.declared.steps.Shape.TheVariants.{Exchange, Store, Fetch}
use Rattle.mw_look.specs.Shapes.{shape_of}
use Rattle.mw_world.specs.Definition.Changes.{changed, done, fetched}
use Rattle.mw_world.specs.Definition.State.{State, WorkerState, TenantState}
use Rattle.mw_world.specs.Definition.Turns.{turn, turned, may_make, moved, made_of}
use Rattle.mw_law_runs.specs.Moves.Moves.{Move, made_all}
use Rattle.mw_law_runs.specs.Moves.StepMoves.{SameMemory, moves_of_turn, moves_told}
use Rattle.mw_law_runs.proofs.Moves.StepsKeepMemory.{exchanges_are_typed}
use Rattle.mw_law_runs.proofs.Moves.TurnMoves.{point_turns}
use Rattle.mw_law_runs.specs.Knowledge.Informed.{IsInformed, ChangesNoWord, Changes, ChangesAWord}
use Rattle.mw_law_runs.specs.Knowledge.NextState.{told}
use Rattle.mw_law_runs.proofs.Knowledge.Updates.Preservation.{upd_here, upd_else}
use Rattle.mw_law_runs.specs.Obligations.{OneStepped}
use Rattle.mw_law_runs.proofs.GuardedEvents.{second_holds}
use Rattle.mw_law_runs.proofs.ExpectedInRange.{ExpectsInRange, expects_in_range}

-- a step changes no shared word, or one
abbrev pub Ends : Cells → Step → Observation → Type 0
Ends cells step observation = ChangesNoWord cells step observation ⊎ ChangesAWord cells step observation

-- the step is no call on a file
abbrev pub IsNoCall : Step → Type 0
IsNoCall (FileStep call slot) = ⊥
IsNoCall step = Unit {0}

no_call : (config : Config) (step : Step) → may_make config step ≡ true → IsNoCall step
no_call config (Load at) may = tt
no_call config (Change kind at from to) may = tt
no_call config (FileStep call slot) may = grind (arith, may)

module _ {A B : Type 0} (R : A → B → Type 0) (f : Cells → Observation → A) (g : Cells → Observation → B) (cells : Cells) (fit : AllFit cells) where
  -- what holds of both ends of an exchange
  tested : (kind : Kind) (at : At) (from to : Val at) (test : Bool) → (pack at (read cells at) == pack at from) ≡ test
      → (test ≡ true → R (f (write cells at to) Won) (g (write cells at to) Won)) → (test ≡ false → R (f cells Lost) (g cells Lost))
      → R (cond test (f (write cells at to) Won) (f cells Lost)) (cond test (g (write cells at to) Won) (g cells Lost))
  tested kind at from to true is won lost = won refl
  tested kind at from to false is won lost = lost refl

  of_change : (shape : Shape) (kind : Kind) (at : At) (from to : Val at) → shape_of kind ≡ shape → ExpectsInRange (Change kind at from to)
      → ((after : Cells) (observation : Observation) → Ends cells (Change kind at from to) observation → R (f after observation) (g after observation))
      → R (changed shape kind at from to cells f) (changed shape kind at from to cells g)
  of_change Exchange kind at from to is range all =
      tested kind at from to (pack at (read cells at) == pack at from) refl
      (λ same. all (write cells at to) Won (inr (subst (λ (shape : Shape). Changes shape at from cells Won) (sym is) (refl, exchanges_are_typed cells at from fit (range is) same))))
      (λ other. all cells Lost (inl (is, refl, λ found. apart (ap (λ (x : Val at). pack at x) found) other)))
    where
      apart : pack at (read cells at) ≡ pack at from → (pack at (read cells at) == pack at from) ≡ false → ⊥
      apart one two = grind (arith, nat_tests, one, two)
  of_change Store kind at from to is range all = all (write cells at to) Won (inr (subst (λ (shape : Shape). Changes shape at from cells Won) (sym is) refl))
  of_change Fetch kind at from to is range all =
      all (write cells at (fetched kind at (read cells at))) (seen at (read cells at)) (inr (subst (λ (shape : Shape). Changes shape at from cells (seen at (read cells at))) (sym is) refl))

  pub ends_so : (step : Step) → IsNoCall step → ExpectsInRange step → ((after : Cells) (observation : Observation) → Ends cells step observation → R (f after observation) (g after observation)) → R (done step cells f) (done step cells g)
  ends_so (Load at) no_call range all = all cells (seen at (read cells at)) (inl refl)
  ends_so (Change kind at from to) no_call range all = of_change (shape_of kind) kind at from to refl range all
  ends_so (FileStep call slot) no_call range all = absurd no_call

-- A step ends so: what the request learns, the memory after it, the requests after it. Files stay.
pub record TurnEnds (state next : State) (worker : ℕ) (actor : ActorState) : Type 0 where
  pub observation : Observation
  pub ends : Ends state.cells (asks actor) observation
  pub same : SameMemory next (made_all state worker (moves_told state worker actor observation))
  pub stepped : OneStepped state next worker (told state actor observation)
  pub files : (tenant : ℕ) → (next.tenant_states tenant).file ≡ (state.tenant_states tenant).file

-- a tenant's file, if the tenant state is replaced by one with the same file
pub same_file : (tenant_states : ℕ → TenantState) (tenant other : ℕ) (tenant_state : TenantState) → tenant_state.file ≡ (tenant_states tenant).file → (upd tenant_states tenant tenant_state other).file ≡ (tenant_states other).file
same_file tenant_states tenant other tenant_state is = grind (arith, nat_tests, is)

module _ (config : Config) (state : State) (actor : ActorState) (informed : IsInformed config state actor) where
  one_stepped : (cells : Cells) (observation : Observation) → OneStepped state (moved state actor.worker actor (made_of state actor.worker actor cells observation)) actor.worker (told state actor observation)
  one_stepped cells observation = record {
    goes_on = ap (λ (worker_state : WorkerState). worker_state.actor) (upd_here state.worker_states actor.worker _);
    others = λ other apart. ap (λ (worker_state : WorkerState). worker_state.actor) (upd_else state.worker_states actor.worker other _ apart);
  }

  turned_ends : may_make config (asks actor) ≡ true → TurnEnds state (turned state actor.worker actor) actor.worker actor
  turned_ends may =
      ends_so (λ (after : State) (moves : List Move). SameMemory after (made_all state actor.worker moves) → TurnEnds state after actor.worker actor)
      (λ (cells : Cells) (observation : Observation). moved state actor.worker actor (made_of state actor.worker actor cells observation))
      (λ (cells : Cells) (observation : Observation). moves_told state actor.worker actor observation) state.cells informed.memory.fits (asks actor)
      (no_call config (asks actor) may) (expects_in_range config state actor informed)
      (λ cells observation ends same. record { observation = observation; ends = ends; same = same; stepped = one_stepped cells observation; files = λ tenant. same_file state.tenant_states actor.tenant tenant _ refl })
      (turned_moves may)
    where
      turned_moves : may_make config (asks actor) ≡ true → SameMemory (turned state actor.worker actor) (made_all state actor.worker (moves_of_turn state actor.worker actor))
      turned_moves may = point_turns state actor.worker actor.tenant actor.quota actor.pool actor.job actor.others actor.point

  pub turn_ends : (next : State) → turn config state actor.worker (Some actor) ≡ Some next → TurnEnds state next actor.worker actor
  turn_ends next is = by_test (not (is_some (replied actor)) && may_make config (asks actor)) refl is
    where
      by_test : (test : Bool) → (not (is_some (replied actor)) && may_make config (asks actor)) ≡ test → (if test then Some (turned state actor.worker actor) else None) ≡ Some next
          → TurnEnds state next actor.worker actor
      by_test true may came = subst (λ (one : State). TurnEnds state one actor.worker actor) (same_some came) (turned_ends (second_holds (not (is_some (replied actor))) (may_make config (asks actor)) may))
        where
          same_some : Some (turned state actor.worker actor) ≡ Some next → turned state actor.worker actor ≡ next
          same_some e = cc
      by_test false may came = absurd (none came)
        where
          none : None ≡ Some next → ⊥
          none e = cc
