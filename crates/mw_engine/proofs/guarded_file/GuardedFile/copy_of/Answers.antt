-- Goals of `GuardedFile::copy_of` (src/copies.rt).
use Rattle.mw_engine.proofs.FileCopies.{copies_one, still_keeps}
use Rattle.mw_engine.proofs.guarded_file.GuardedFile.copy_of.Goals as goal

pub invariant_of-self : goal.invariant_of-self
invariant_of-self g c =
    let old = c.args.self.now in
    let copied = c.copy_bytes in
    record {
      kept = still_keeps g.D.Disk.facts g.J.EngineBrand.identity old.book copied.new.self old.file_pass old.tenant copied.result copied.ensures.read copied.ensures.represents copied.ensures.ends old.kept;
    }

pub returns : goal.returns
returns g c =
    let old = c.args.self.now in
    let copied = c.copy_bytes in
    copies_one g.D.Disk.facts g.J.EngineBrand.identity old.book copied.new.self old.file_pass c.args.tenant copied.result copied.ensures.read copied.ensures.represents copied.ensures.ends
    old.tenant c.if-self-tenant.false old.kept
