-- Goals of `table_of` (src/world_table/from_world.rt).
use Rattle.std.proofs.Common.{ℕ, List, All, ap, length, map, subst, sym, ◌∙◌}
use Rattle.mw_world.specs.declared.config.Config.{Config}
use Rattle.mw_world.specs.Definition.State.{IsConfig, WorkerState, tenants_of}
use Rattle.mw_rule.specs.Layout.{words_of}
use Rattle.mw_rule.specs.Rule.{BitsMatch}
use Rattle.mw_simulator.specs.FromMemory.{worker_state_of}
use Rattle.mw_table.specs.Basis.{Basis}
use Rattle.mw_table.specs.NewPasses.{IsDealt}
use Rattle.mw_table.specs.Runs.{AreAfterRun, LastStart, last_start, worker_state_so_far}
use Rattle.mw_table_tests.specs.Worlds.{last_start_of}
use Rattle.mw_table_tests.proofs.MadeWorlds.{after_run, as_many, same_basis}
use Rattle.mw_table_tests.proofs.world_table.from_world.table_of.Goals as goal

-- the configuration is the world's
pub of_run-requires-clause-config : goal.of_run-requires-clause-config
of_run-requires-clause-config c = subst (λ (one : Config). IsConfig one) (sym c.config.ensures) c.args.world.now.configured

-- there are as many copied tenants as the world has
pub of_run-requires-clause-tenants : goal.of_run-requires-clause-tenants
of_run-requires-clause-tenants c =
    let world = c.args.world.now in
    as_many last_start last_start_of c.in_ok-tenants.tenants.items world.tenant_states.items (c.in_ok-tenants.ensures ∙ ap (map last_start_of) c.tenant_states.ensures)
    ∙ (world.tenants ∙ ap (λ (one : Config). tenants_of one) (sym c.config.ensures))

-- there are as many copied workers as the world has
pub of_run-requires-clause-workers : goal.of_run-requires-clause-workers
of_run-requires-clause-workers c =
    let world = c.args.world.now in
    as_many worker_state_so_far worker_state_of c.in_ok-workers.workers.items world.worker_states.items (c.in_ok-workers.ensures ∙ ap (map worker_state_of) c.worker_states.ensures)
    ∙ (world.workers ∙ ap (λ (one : Config). one.workers) (sym c.config.ensures))

-- the table's words are as many as the configuration says
pub of_run-requires-clause-words : goal.of_run-requires-clause-words
of_run-requires-clause-words c = ap length c.deref.ensures.value ∙ (c.in_ok-words.ensures.long ∙ ap (λ (one : Config). words_of one) (sym c.config.ensures))

pub of_run-requires-clause-run : goal.of_run-requires-clause-run
of_run-requires-clause-run c =
    let world = c.args.world.now in
    let words = c.deref.result.now in
    let run = c.args.run.now.events in
    subst (λ (one : Config). AreAfterRun one (map last_start c.in_ok-tenants.tenants.items) (map worker_state_so_far c.in_ok-workers.workers.items) run words) (sym c.config.ensures)
    (subst (λ (lasts : List LastStart). AreAfterRun world.config lasts (map worker_state_so_far c.in_ok-workers.workers.items) run words) (sym (c.in_ok-tenants.ensures ∙ ap (map last_start_of) c.tenant_states.ensures))
    (subst (λ (worker_states : List WorkerState). AreAfterRun world.config (map last_start_of world.tenant_states.items) worker_states run words) (sym (c.in_ok-workers.ensures ∙ ap (map worker_state_of) c.worker_states.ensures))
    (after_run world run words c.requires
    (λ state shows. subst (λ (bits : List ℕ). BitsMatch world.config state.cells bits) (sym c.deref.ensures.value) (c.in_ok-words.ensures.ties state shows)))))

-- the table begins with what the world is
pub returns-clause-table : goal.returns-clause-table
returns-clause-table c =
    c.in_ok-shared.ensures.table
    ∙ same_basis c.args.world.now c.args.run.now.events _ _ _ c.config.ensures (c.in_ok-tenants.ensures ∙ ap (map last_start_of) c.tenant_states.ensures) (c.in_ok-workers.ensures ∙ ap (map worker_state_of) c.worker_states.ensures)

-- there is a pass for each worker of the world
pub returns-clause-count : goal.returns-clause-count
returns-clause-count c = c.in_ok-shared.ensures.count ∙ ap (λ (one : Config). one.workers) c.config.ensures

-- each pass is dealt from what the world is
pub returns-clause-passes : goal.returns-clause-passes
returns-clause-passes c =
    subst (λ (basis : Basis). All (IsDealt c.in_ok-shared.shared basis) c.in_ok-shared.passes.items)
    (same_basis c.args.world.now c.args.run.now.events _ _ _ c.config.ensures (c.in_ok-tenants.ensures ∙ ap (map last_start_of) c.tenant_states.ensures) (c.in_ok-workers.ensures ∙ ap (map worker_state_of) c.worker_states.ensures))
    c.in_ok-shared.ensures.passes

-- the passes are in the workers' order
pub returns-clause-order : goal.returns-clause-order
returns-clause-order c = c.in_ok-shared.ensures.order
