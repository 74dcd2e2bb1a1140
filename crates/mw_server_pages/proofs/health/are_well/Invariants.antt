-- Loop invariants of `are_well` (src/health.rt).
use Rattle.std.proofs.Common.{◌≡◌, drop}
use Rattle.std.specs.List.{list_all}
use Rattle.mw_server_pages.specs.Health.{is_well}
use Rattle.mw_server_pages.proofs.health.are_well.Given as goal

-- those so far are well, so all are if those that are left are
abbrev pub invariant-loop-tenant : goal.invariant-loop-tenant
invariant-loop-tenant l = record { left : list_all is_well (drop l.tenant-index l.tenants) ≡ list_all is_well l.tenants }
