-- Goals of `read_tenants` (src/tenants.rt).
use Rattle.std.proofs.Common.{◌≡◌, List, sum_by, sym, ap, ◌∙◌, arith}
use Rattle.mw_config.specs.declared.lines.TenantLine.{TenantLine}
use Rattle.mw_config.proofs.FirstLines.{file_of, at_least_one, permitted}
use Rattle.std.proofs.lemmas.Grind.{common_steps}
use Rattle.mw_config.proofs.tenants.read_tenants.Goals as goal

pub returns-clause-answers : goal.returns-clause-answers
returns-clause-answers c =
    let tenants = c.in_ok-tenants.tenants.items in
    let quotas = λ (lines : List TenantLine). sum_by (λ t. t.quota) lines in
    let slots : quotas tenants ≡ c.quota_sum.result = ap quotas (sym c.deref.ensures.0) ∙ sym c.quota_sum.ensures in
    file_of c.args.pool tenants c.args.text.now c.in_ok-tenants.ensures.ok (at_least_one tenants (sym c.if-is_empty.ensures)) (omega arith)

pub returns-clause-limits : goal.returns-clause-limits
returns-clause-limits c = permitted c.args.pool c.in_ok-tenants.tenants.items c.args.text.now (returns-clause-answers c)

pub returns-then-quota_sum-pool-clause-answers : goal.returns-then-quota_sum-pool-clause-answers
returns-then-quota_sum-pool-clause-answers c = grind (arith, common_steps)
