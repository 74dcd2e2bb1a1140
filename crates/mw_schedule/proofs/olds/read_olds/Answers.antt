-- Goals of `read_olds` (src/olds.rt).
use Rattle.std.proofs.Common.{◌≡◌, ◌<◌, ◌∙◌, List, get_or, length, rules, subst}
use Rattle.mw_world.specs.declared.config.Tenant.{Tenant}
use Rattle.mw_world.specs.Definition.State.{no_tenant}
use Rattle.mw_schedule.proofs.Tenants.{IsOldOf, with_old, written_count, written_tenants}
use Rattle.mw_schedule.proofs.olds.read_olds.Goals as goal

pub loop-preserved : goal.loop-preserved
loop-preserved c =
    let tenants = c.loop.tenants in
    let index = c.in-Some.index in
    let change = c.in-Some.change in
    let now = c.deref_mut.result.now in
    let read = c.index-deref_mut-index.result in
    let same : c.deref.result.now ≡ tenants.items = search rules in
    let is : now ≡ tenants.items = search rules in
    let there : index < length tenants.items = subst (λ (all : List Tenant). index < length all) same c.in-Some.ensures.there in
    let old : IsOldOf (with_old (get_or tenants.items index no_tenant) change) = subst (λ (all : List Tenant). IsOldOf (with_old (get_or all index no_tenant) change)) same c.in-Some.ensures.old in
    record {
      within = written_tenants tenants index now read change is there c.args.pool c.loop.invariant.within old;
      count = written_count tenants index now read change is there ∙ c.loop.invariant.count;
    }
