-- Goals of `Shared::of_run` (src/after_run.rt).
use Rattle.std.proofs.Common.{◌<◌, ◌∙◌, ℕ, List, Vec, [], Some, length, map, sym, ap, subst}
use Rattle.std.proofs.lemmas.List.{length-map}
use Rattle.std.specs.declared.alloc.Global.{Global}
use Rattle.atomic_table.specs.Table.{opening}
use Rattle.mw_actor.specs.ActorState.{ActorState}
use Rattle.mw_world.specs.declared.config.Config.{Config}
use Rattle.mw_rule.specs.Steps.{IsReadyFor}
use Rattle.mw_rule.specs.Splits.{maker}
use Rattle.mw_rule.specs.Rule.{TableInvariant}
use Rattle.mw_table.specs.declared.new_table.PassState.{PassState}
use Rattle.mw_table.specs.declared.origin.TenantSoFar.{TenantSoFar}
use Rattle.mw_table.specs.declared.origin.WorkerSoFar.{WorkerSoFar}
use Rattle.mw_table.specs.declared.run_before.RunBefore.{RunBefore}
use Rattle.mw_table.specs.NewPasses.{ArePassStates}
use Rattle.mw_table.specs.Runs.{LedTo, basis_of_run, last_start, openings_from, worker_state_at, worker_state_so_far}
use Rattle.mw_table.proofs.AfterRuns.{pass_states_tell, first_table, ready}
use Rattle.mw_table.proofs.shared.Shared.of_run.Goals as goal

-- the rule of a table that these begin with
abbrev IsTied : List ℕ → Config → List TenantSoFar → List WorkerSoFar → RunBefore → Type 0
IsTied words config tenants workers run =
    let lasts = map last_start tenants in
    let worker_states = map worker_state_so_far workers in
    TableInvariant config (LedTo config lasts worker_states run.events) (opening {S = ActorState} words []
    (maker config (openings_from config 0 lasts) (Some (basis_of_run config lasts worker_states run.events).known_run) (worker_state_at worker_states) []))

pub open-requires-clause-tied : goal.open-requires-clause-tied
open-requires-clause-tied c =
    let config = c.args.config.now in
    let tenants = c.args.tenants.now.items in
    let workers = c.args.workers.now.items in
    let words = c.args.words.now in
    let run = c.args.run.now in
    subst (λ (one : Config). IsTied words one c.of-2.result.value.items c.of-3.result.value.items c.of-4.result.value) (sym c.of.ensures)
    (subst (λ (some : Vec TenantSoFar Global). IsTied words config some.items c.of-3.result.value.items c.of-4.result.value) (sym c.of-2.ensures)
    (subst (λ (some : Vec WorkerSoFar Global). IsTied words config tenants some.items c.of-4.result.value) (sym c.of-3.ensures)
    (subst (λ (one : RunBefore). IsTied words config tenants workers one) (sym c.of-4.ensures)
    (first_table config (map last_start tenants) (map worker_state_so_far workers) run.events words c.requires.config (length-map tenants last_start ∙ c.requires.tenants) c.requires.words c.requires.run))))

pub open-requires-clause-pass_states : goal.open-requires-clause-pass_states
open-requires-clause-pass_states c =
    let workers = c.args.workers.now.items in
    subst (λ (some : Vec WorkerSoFar Global). ArePassStates (worker_state_at (map worker_state_so_far some.items)) c.args.config.now.workers c.deref-2.result.now) (sym c.of-3.ensures)
    (subst (λ (count : ℕ). ArePassStates (worker_state_at (map worker_state_so_far workers)) count c.deref-2.result.now) c.requires.workers
    (subst (λ (pass_states : List PassState). ArePassStates (worker_state_at (map worker_state_so_far workers)) (length workers) pass_states) (sym c.deref-2.ensures.value)
    (pass_states_tell workers c.in_ok-pass_states.pass_states.items (c.in_ok-pass_states.ensures ∙ ap (map _) c.deref.ensures.value))))

pub open-requires-clause-ready : goal.open-requires-clause-ready
open-requires-clause-ready c =
    let config = c.args.config.now in
    let tenants = c.args.tenants.now.items in
    let workers = c.args.workers.now.items in
    subst (λ (some : Vec WorkerSoFar Global). (worker : ℕ) → worker < config.workers → IsReadyFor config (worker_state_at (map worker_state_so_far some.items) worker).actor) (sym c.of-3.ensures)
    (ready config c.requires.config (map last_start tenants) (map worker_state_so_far workers) c.args.run.now.events c.requires.run.led)
