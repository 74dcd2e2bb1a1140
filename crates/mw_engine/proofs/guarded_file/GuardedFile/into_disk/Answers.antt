-- Goals of `GuardedFile::into_disk` (src/end.rt).
use Rattle.std.proofs.Common.{subst, sym}
use Rattle.mw_core.specs.FromTable.{IsFilePassOf, IsSoOfWorld, Shared, config_of, file_kept, openings_of}
use Rattle.mw_engine.proofs.Disks.{given_seen_as}
use Rattle.mw_engine.proofs.GuardedFileLaws.{file_pass_of, so_there}
use Rattle.mw_engine.proofs.guarded_file.GuardedFile.into_disk.Goals as goal

pub confirm_with-requires-clause-file_pass : goal.confirm_with-requires-clause-file_pass
confirm_with-requires-clause-file_pass g c =
    let kept = c.args.self in
    let file_pass = c.in-Some.file_pass in
    subst (λ (one : Shared). IsFilePassOf one file_pass) (sym c.shared.ensures)
    (file_pass_of g.D.Disk.facts c.args.core.now.shared g.J.EngineBrand.identity c.requires.engine kept.book file_pass (kept.kept.kept file_pass c.in-Some.is))

pub returns-clause-given : goal.returns-clause-given
returns-clause-given g c =
    let kept = c.args.self in
    let file_pass = c.in-Some.file_pass in
    let identity = g.J.EngineBrand.identity in
    given_seen_as g.D.Disk.facts identity kept.book file_pass kept.tenant c.into_disk.result c.args.pass.now.seat.me.0 c.confirm_with.new.pass.seat.me.0 c.into_disk.ensures
    (kept.kept.kept file_pass c.in-Some.is) (kept.kept.its file_pass c.in-Some.is)
    (so_there c.args.core.now.shared identity file_pass c.requires.engine
    (subst (λ (one : Shared). IsSoOfWorld (config_of one.table.shared.key) (openings_of one.table.shared.key) file_pass.seat.me.0.known_run file_pass.tenant (file_kept file_pass)) c.shared.ensures c.confirm_with.ensures.so))
    c.confirm_with.ensures.sees
