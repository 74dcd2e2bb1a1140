-- A simulated world that always had numbers left serves each tenant as its store alone (the reference model) would, because
-- every such run does.
-- Used by: World::new, run, marks, step, mwreplay.
use Rattle.std.specs.Prelude.{ℕ, ◌≡◌, ◌<◌, List, IsSome, Option, Some, Result, Ok, Err, IfOk}
use Rattle.std.proofs.Common.{refl, sym, ap, subst, ◌∙◌}
use Rattle.mw_lone.specs.declared.marks.Mark.{Mark}
use Rattle.mw_lone.specs.Store.{Store, run as run_of_store, replies_from}
use Rattle.mw_world.specs.Claim.Headline.{IsRun}
use Rattle.mw_world.specs.Definition.Events.{WorldEvent}
use Rattle.mw_world.specs.Definition.State.{State, first_openings, marks_of, store_at, tenants_of}
use Rattle.mw_world.proofs.FirstInvariant.{new_worlds_start}
use Rattle.mw_law_store.proofs.DurabilityInRunsLaws.{runs_hold_changes}
use Rattle.mw_law_store.proofs.RunSimulation.{every_run_is_durably_linearizable}
use Rattle.mw_simulator.specs.declared.world.World.{World}
use Rattle.mw_simulator.specs.Events.{IsAfterRun}
use Rattle.mw_simulator.specs.Representation.{Represents}
use Rattle.mw_simulator.specs.ServiceAlone.{AreLegal, HadNumbers, Serves}

-- the state that a world in memory represents is one after a run
played : (world : World) (happened : List WorldEvent) (stands : IsAfterRun world happened) → HadNumbers world.config happened → IsRun world.config (first_openings world.config) happened stands.state
played world happened stands had =
    record { played = record { made = world.configured; starts = new_worlds_start world.config world.configured; runs = stands.runs }; numbers = had }

pub serves : (world : World) → Serves world
serves world happened stands tenant had low =
    let is_run = played world happened stands had in
    let held = runs_hold_changes every_run_is_durably_linearizable world.config (first_openings world.config) happened stands.state tenant is_run low in
    record { alone = every_run_is_durably_linearizable world.config (first_openings world.config) happened stands.state tenant is_run low; words = held.0; held = held.1 }

some_is : (found : Option Store) (store : Store) → found ≡ Some store → IsSome found
some_is found store is = subst (λ (one : Option Store). IsSome one) (sym is) refl

pub are_legal : (world : World) (tenant : ℕ) (marks : List Mark) → tenant < tenants_of world.config → ((happened : List WorldEvent) (stands : IsAfterRun world happened) → marks ≡ marks_of stands.state tenant)
    → AreLegal world tenant marks
are_legal world tenant marks low are happened stands had =
    let is_run = played world happened stands had in
    let alone = every_run_is_durably_linearizable world.config (first_openings world.config) happened stands.state tenant is_run low in
    let first = store_at (first_openings world.config tenant) in
    record {
      legal = some_is (run_of_store first marks) alone.store (ap (run_of_store first) (are happened stands) ∙ alone.legal);
      replies = alone.replies ∙ ap (replies_from first) (sym (are happened stands));
    }

-- marks that are those of every run which the world in memory represents are legal
pub legal_of : {A E : Type 0} (items : A → List Mark) (world : World) (tenant : ℕ) (given : Result A E) → tenant < tenants_of world.config
    → ((state : State) → Represents world state → IfOk given (λ marks. items marks ≡ marks_of state tenant)) → IfOk given (λ marks. AreLegal world tenant (items marks))
legal_of items world tenant (Ok marks) low shown = are_legal world tenant (items marks) low (λ happened stands. shown stands.state stands.shows)
legal_of items world tenant (Err fault) low shown = tt
