-- Loop invariants of `config_of` (src/new_parts.rt).
use Rattle.std.proofs.Common.{◌≡◌, take, map}
use Rattle.mw_engine.specs.OpenedFiles.{tenant_read}
use Rattle.mw_engine.proofs.new_parts.config_of.Given as goal

-- the tenants so far
abbrev pub invariant-loop-line : goal.invariant-loop-line
invariant-loop-line l = l.tenants.items ≡ map tenant_read (take l.line-index l.lines)
