-- Goals of `TenantFile::prepare` (src/tenant_file.rt).
use Rattle.std.proofs.Common.{sym}
use Rattle.mw_file.proofs.Places.{found_free}
use Rattle.mw_file.proofs.tenant_file.TenantFile.prepare.Goals as goal

pub prepare_at-requires-clause-free : goal.prepare_at-requires-clause-free
prepare_at-requires-clause-free g c =
    (found_free c.args.self.now.states.items c.deref.result.now c.in-Some.place c.deref.ensures.value (sym c.in-Some.ensures.lowest) c.in-Some.ensures.within).0
