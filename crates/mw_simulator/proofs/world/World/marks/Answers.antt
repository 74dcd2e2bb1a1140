-- Goals of `World::marks` (src/world/events.rt).
use Rattle.std.proofs.Common.{◌≡◌, subst}
use Rattle.std.specs.Prelude.{IfOk}
use Rattle.mw_world.specs.Definition.State.{tenant_at}
use Rattle.mw_simulator.proofs.ServiceAloneLaws.{legal_of}
use Rattle.mw_simulator.proofs.RepresentedTenants.{tenant_state_read, marks_shown}
use Rattle.mw_simulator.proofs.world.World.marks.Goals as goal

pub returns-clause-shown : goal.returns-clause-shown
returns-clause-shown c state shows =
    let world = c.args.self.now in
    let tenant = c.args.tenant in
    let shown = c.index.result.now in
    let here = tenant_state_read world c.from.result tenant shown c.requires c.from.ensures c.index.ensures in
    let shows_it = shows.tenant_states tenant shown here in
    let is = marks_shown (tenant_at world.config tenant).words shown (state.tenant_states tenant) shows_it in
    subst (λ all. IfOk c.marks.result (λ marks. marks.items ≡ all)) is c.marks.ensures

pub returns-clause-legal : goal.returns-clause-legal
returns-clause-legal c = legal_of (λ marks. marks.items) c.args.self.now c.args.tenant c.marks.result c.requires (returns-clause-shown c)
