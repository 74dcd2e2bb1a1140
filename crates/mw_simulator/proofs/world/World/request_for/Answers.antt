-- Goals of `World::request_for` (src/world/turns.rt): the next request gets a number if, and only if, the tenant may ask.
use Rattle.std.proofs.Common.{◌∙◌, ◌<◌, ap, sym, length, arith}
use Rattle.mw_actor.proofs.JobLaws.{well_formed_is_formed}
use Rattle.mw_world.specs.declared.config.Tenant.{Tenant}
use Rattle.mw_world.specs.Definition.State.{no_tenant, tenant_at, tenants_of}
use Rattle.mw_simulator.proofs.Arrivals.{asked_at, formed, formed_so}
use Rattle.mw_simulator.proofs.WorldAfterStep.{tenant_is}
use Rattle.mw_simulator.proofs.world.World.request_for.Goals as goal

pub returns-clause-formed : goal.returns-clause-formed
returns-clause-formed c =
    let there : c.args.tenant < tenants_of c.args.self.now.config = omega (arith, c.from-place.ensures, c.len.ensures, c.if-place-len.false, c.args.self.now.tenants) in
    let one = tenant_is c.args.self.now.config c.deref.result.now c.from-place.result c.args.tenant c.index-deref-place.result c.deref.ensures.0 c.from-place.ensures there c.index-deref-place.is in
    well_formed_is_formed (tenant_at c.args.self.now.config c.args.tenant).words c.args.job.now
    (formed_so c.from.result (tenant_at c.args.self.now.config c.args.tenant).words c.args.job.now c.is_well_formed.result
    (c.from.ensures ∙ ap (λ (t : Tenant). t.words) (sym c.index-deref-place.is ∙ one)) c.is_well_formed.ensures c.if-not-is_well_formed.false)
    ((c.args.self.now.configured.words c.args.tenant no_tenant there).1)

pub returns-clause-shown : goal.returns-clause-shown
returns-clause-shown c state shows =
    let here : c.args.tenant < length c.args.self.now.tenant_states.items = omega (arith, c.from-place.ensures, c.len.ensures, c.if-place-len.false) in
    let there : c.args.tenant < tenants_of c.args.self.now.config = omega (arith, c.from-place.ensures, c.len.ensures, c.if-place-len.false, c.args.self.now.tenants) in
    let same = asked_at c.args.self.now state c.from-place.result c.args.tenant c.index.result.now shows c.from-place.ensures here c.index.ensures in
    let one = tenant_is c.args.self.now.config c.deref.result.now c.from-place.result c.args.tenant c.index-deref-place.result c.deref.ensures.0 c.from-place.ensures there c.index-deref-place.is in
    formed c.args.self.now.config state c.args.tenant c.args.job.now c.index.result.now.asked same there
    (formed_so c.from.result (tenant_at c.args.self.now.config c.args.tenant).words c.args.job.now c.is_well_formed.result
    (c.from.ensures ∙ ap (λ (t : Tenant). t.words) (sym c.index-deref-place.is ∙ one)) c.is_well_formed.ensures c.if-not-is_well_formed.false)
