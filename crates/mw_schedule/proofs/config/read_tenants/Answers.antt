-- Goals of `read_tenants` (src/config.rt).
use Rattle.std.proofs.Common.{◌≡◌, List, [], ◌∷◌, length, ap, sym, subst, arith, rules}
use Rattle.std.specs.Prelude.{sum_by}
use Rattle.std.proofs.lemmas.List.{length-append}
use Rattle.mw_world.specs.declared.config.Tenant.{Tenant}
use Rattle.mw_schedule.specs.Playable.{AreTenants, IsNext}
use Rattle.mw_schedule.proofs.Tenants.{sum_more, tenants_more}
use Rattle.mw_schedule.proofs.config.read_tenants.Goals as goal

pub loop-preserved : goal.loop-preserved
loop-preserved c =
    let tenants = c.loop.tenants.items in
    let tenant = c.in-Some.tenant in
    let free = c.loop.free in
    let pool = c.args.pool in
    let so_far = c.loop.invariant in
    let same : c.deref.result.now ≡ tenants = search rules in
    let next : IsNext tenants free tenant = subst (λ (ts : List Tenant). IsNext ts free tenant) same c.in-Some.ensures in
    let grown = c.push.ensures.items in
    record {
      within = subst (λ (ts : List Tenant). AreTenants pool ts) (sym grown) (tenants_more pool free tenants tenant so_far.within so_far.free next);
      free = omega (arith, ap (λ (ts : List Tenant). sum_by (λ t. t.quota) ts) grown, sum_more tenants tenant, c.from-free.ensures, next.slots, so_far.free);
      count = omega (arith, ap (λ (ts : List Tenant). length ts) grown, length-append tenants (tenant ∷ []), so_far.count);
    }
