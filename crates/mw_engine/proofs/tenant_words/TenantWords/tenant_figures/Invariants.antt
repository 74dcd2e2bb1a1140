-- The loop invariant of `TenantWords::tenant_figures` (src/figures.rt), which collects each tenant's figures for a report.
use Rattle.std.specs.Prelude.{◌≡◌, All, length, map, take}
use Rattle.mw_report.specs.Table.{IsWithinLimits}
use Rattle.mw_engine.specs.Figures.{HasLooked, TellTenants}
use Rattle.mw_engine.specs.Lines.{line_of, places_of}
use Rattle.mw_engine.specs.TenantWords.{HasPass}
use Rattle.mw_engine.proofs.tenant_words.TenantWords.tenant_figures.Given as goal

-- the tenants so far
abbrev pub invariant-loop-tenant : goal.invariant-loop-tenant
invariant-loop-tenant l = record {
  own : HasPass l.self l.pass;
  looked : HasLooked l.fn.pass l.pass;
  many : length l.figures.items ≡ l.tenant;
  limits : All IsWithinLimits l.figures.items;
  tells : TellTenants l.self.core.shared.pool (map line_of (take l.tenant l.self.lines.items)) (map places_of (take l.tenant l.self.lines.items)) l.figures.items l.fn.pass.seat.me.0 l.pass.seat.me.0;
}
