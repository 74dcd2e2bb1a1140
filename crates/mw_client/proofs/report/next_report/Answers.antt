-- Goals of `next_report` (src/report.rt): each further line of a report keeps its loop's invariant.
use Rattle.std.specs.Prelude.{All, List}
use Rattle.std.proofs.Common.{subst, sym, arith}
use Rattle.std.proofs.lemmas.List.Elements.{All-push}
use Rattle.mw_report.specs.declared.figures.TenantFigures.{TenantFigures}
use Rattle.mw_report.specs.Table.{IsWithinLimits}
use Rattle.std.proofs.lemmas.Grind.{common_steps}
use Rattle.mw_client.proofs.report.next_report.Goals as goal

pub loop-preserved : goal.loop-preserved
loop-preserved g c = record {
  read = c.put_line.ensures.read (g.R.Read.remaining c.args.reader.now) c.loop.invariant.read c.if-not-put_line.false;
  limits = subst (λ (all : List TenantFigures). All IsWithinLimits all) (sym c.push.ensures.items)
      (All-push IsWithinLimits c.loop.tenants.items c.in-Some-tenant_of.figures c.loop.invariant.limits c.in-Some-tenant_of.ensures);
}

pub returns-in-Some : goal.returns-in-Some
returns-in-Some c = grind (arith, common_steps)
