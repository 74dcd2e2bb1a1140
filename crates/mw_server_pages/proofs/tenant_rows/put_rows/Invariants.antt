-- Loop invariants of `put_rows` (src/tenant_rows.rt).
use Rattle.std.proofs.Common.{◌≡◌, ◌+◌, ◌*◌, ◌≤◌, ◌++◌, length, drop, flat_map}
use Rattle.mw_server_pages.specs.StatusPage.{row}
use Rattle.mw_server_pages.proofs.tenant_rows.put_rows.Given as goal

-- what is put so far and what is left is all
abbrev pub invariant-loop-tenant : goal.invariant-loop-tenant
invariant-loop-tenant l = record {
  rows : l.text.bytes.items ++ flat_map row (drop l.tenant-index l.tenants) ≡ l.initial.text.bytes.items ++ flat_map row l.tenants;
  room : length l.text.bytes.items ≤ length l.initial.text.bytes.items + l.tenant-index * 268;
}
