-- Goals of `read_lines` (src/tenants.rt).
use Rattle.std.proofs.Common.{List, subst, arith}
use Rattle.mw_config.specs.declared.lines.TenantLine.{TenantLine}
use Rattle.mw_config.specs.LineTexts.{line_of, lines_of}
use Rattle.mw_config.specs.LineReader.{Continues}
use Rattle.mw_config.proofs.FirstLines.{tenants_more}
use Rattle.std.proofs.lemmas.Grind.{common_steps}
use Rattle.mw_config.proofs.tenants.read_lines.Goals as goal

pub loop-rest-preserved : goal.loop-rest-preserved
loop-rest-preserved c =
    let items = c.loop-rest.tenants.items in
    let rest = c.loop-rest.rest.now in
    let after = c.in_ok-tenant.after.now in
    let line = line_of c.in_ok-tenant.tenant in
    let continues = subst (λ (ts : List TenantLine). Continues (lines_of ts) rest line after) c.deref.ensures.0 c.in_ok-tenant.ensures in
    tenants_more items c.push.new.self.items c.in_ok-tenant.tenant rest after c.args.text.now c.loop-rest.invariant continues c.push.ensures.items

pub push-requires : goal.push-requires
push-requires c = grind (arith, common_steps)

pub returns-clause-ok : goal.returns-clause-ok
returns-clause-ok c = grind (arith, common_steps)

pub loop-rest-smaller : goal.loop-rest-smaller
loop-rest-smaller c = grind (arith, common_steps)
