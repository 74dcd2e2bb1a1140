-- Goals of `TenantFile::copy_bytes` (src/tenant_file.rt).
use Rattle.std.proofs.Common.{refl}
use Rattle.mw_file.proofs.OnlyRead.{copy_ends, not_read, only_read_safe}
use Rattle.mw_file.proofs.tenant_file.TenantFile.copy_bytes.Goals as goal

pub returns-then-self-clause-read : goal.returns-then-self-clause-read
returns-then-self-clause-read g c = not_read g.D.Disk.facts c.args.self.now

pub returns-clause-ends : goal.returns-clause-ends
returns-clause-ends g c = copy_ends g.D.Disk.facts c.args.self.now _ c.front.result c.if-self.false c.front.ensures.ends

pub returns-clause-safe : goal.returns-clause-safe
returns-clause-safe g c =
    only_read_safe g.D.Disk.facts c.args.self.now _
    (record { at = refl; words = refl; states = refl; failed = refl; later = c.front.ensures.later; touched = c.front.ensures.touched })
