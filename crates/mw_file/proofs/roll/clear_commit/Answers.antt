-- Goals of `clear_commit` (src/roll.rt).
use Rattle.std.proofs.Common.{◌≤◌, ap, arith, is_ok, length}
use Rattle.mw_disk.proofs.MakesLaws.{makes_one}
use Rattle.mw_disk.proofs.RunLaws.{touched_write}
use Rattle.mw_file.specs.DeviceCalls.{clear_call}
use Rattle.mw_file.specs.RollForward.{AtCommit}
use Rattle.mw_file.proofs.Ran.{ran_one}
use Rattle.mw_file.proofs.RollLoop.{on_ok, cleared}
use Rattle.mw_file.specs.PlaceStates.{if_sealed, commit_writes_of}
use Rattle.mw_file.proofs.roll.clear_commit.Goals as goal

pub returns-in-Sealed-clause-touched : goal.returns-in-Sealed-clause-touched
returns-in-Sealed-clause-touched g c honest fits =
    let old = g.D.Disk.facts c.args.disk.now in
    let new = g.D.Disk.facts c.write_at.new.self in
    touched_write (AtCommit c.args.commit c.args.state.now) old new _ c.write_at.ensures.call c.args.commit 1 (c.write_at.ensures.crash honest) (c.write_at.ensures.torn honest)
    (λ k from to. record { at = omega (arith, from, to); sealed = c.in-Sealed.is }) fits

pub returns-in-Sealed-clause-calls : goal.returns-in-Sealed-clause-calls
returns-in-Sealed-clause-calls g c =
    let old = g.D.Disk.facts c.args.disk.now in
    let new = g.D.Disk.facts c.write_at.new.self in
    ran_one (commit_writes_of c.args.state.now) old new c.write_at.result (ap (λ stage. if_sealed stage 1) c.in-Sealed.is) c.write_at.ensures.call (λ honest. c.write_at.ensures.spared)

pub returns-in-Sealed-clause-shut : goal.returns-in-Sealed-clause-shut
returns-in-Sealed-clause-shut g c =
    let old = (g.D.Disk.facts c.args.disk.now).reads in
    let new = (g.D.Disk.facts c.write_at.new.self).reads in
    on_ok _ _ c.write_at.result (λ written honest fits sealed.
    let at : c.args.commit ≤ length old = omega (arith, fits.reads) in
    cleared old new c.args.commit at (written honest at)) c.write_at.ensures.written

pub returns-in-Sealed-clause-made : goal.returns-in-Sealed-clause-made
returns-in-Sealed-clause-made g c = rw c.in-Sealed.is (makes_one g.D.Disk.made (clear_call c.args.commit) (is_ok c.write_at.result) c.args.disk.now c.write_at.new.self c.write_at.ensures.made)
