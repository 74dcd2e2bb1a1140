-- Goals of `write_and_sync` (src/tenant_file.rt).
use Rattle.std.proofs.Common.{length, true, false, arith}
use Rattle.mw_disk.proofs.RunLaws.{good_call, bad_call, called_later, still_honest, touched_trans, touched_write, touched_quiet, good_trans, later_trans}
use Rattle.mw_file.specs.RollForward.{InRange}
use Rattle.mw_file.proofs.Ran.{stops, ran_err}
use Rattle.mw_file.proofs.tenant_file.write_and_sync.Goals as goal

pub returns-in_err-sync-clause-touched : goal.returns-in_err-sync-clause-touched
returns-in_err-sync-clause-touched g c honest fits =
    let old = g.D.Disk.facts c.args.disk.now in
    let mid = g.D.Disk.facts c.write_at.new.self in
    let new = g.D.Disk.facts c.sync.new.self in
    let S = InRange c.args.at (length c.args.bytes.now) in
    let honest2 = still_honest old mid (called_later old mid true c.in_ok-write_at.ensures.call) honest in
    touched_trans S old mid new
    (touched_write S old mid true c.in_ok-write_at.ensures.call c.args.at (length c.args.bytes.now) (c.in_ok-write_at.ensures.crash honest) (c.in_ok-write_at.ensures.torn honest)
    (λ k from to. record { from = from; to = to }) fits)
    (touched_quiet S mid new _ c.in_err-sync.ensures.call (c.in_err-sync.ensures.crash honest2) (c.in_err-sync.ensures.same honest2))

pub returns-clause-touched : goal.returns-clause-touched
returns-clause-touched g c honest fits =
    let old = g.D.Disk.facts c.args.disk.now in
    let mid = g.D.Disk.facts c.write_at.new.self in
    let new = g.D.Disk.facts c.sync.new.self in
    let S = InRange c.args.at (length c.args.bytes.now) in
    let honest2 = still_honest old mid (called_later old mid true c.in_ok-write_at.ensures.call) honest in
    touched_trans S old mid new
    (touched_write S old mid true c.in_ok-write_at.ensures.call c.args.at (length c.args.bytes.now) (c.in_ok-write_at.ensures.crash honest) (c.in_ok-write_at.ensures.torn honest)
    (λ k from to. record { from = from; to = to }) fits)
    (touched_quiet S mid new _ c.in_ok-sync.ensures.call (c.in_ok-sync.ensures.crash honest2) (c.in_ok-sync.ensures.same honest2))

pub returns-in_err-write_at-clause-touched : goal.returns-in_err-write_at-clause-touched
returns-in_err-write_at-clause-touched g c honest fits =
    let old = g.D.Disk.facts c.args.disk.now in
    let new = g.D.Disk.facts c.write_at.new.self in
    touched_write (InRange c.args.at (length c.args.bytes.now)) old new false c.in_err-write_at.ensures.call c.args.at (length c.args.bytes.now)
    (c.in_err-write_at.ensures.crash honest) (c.in_err-write_at.ensures.torn honest) (λ k from to. record { from = from; to = to }) fits

pub returns-in_err-sync-clause-calls : goal.returns-in_err-sync-clause-calls
returns-in_err-sync-clause-calls g c =
    let old = g.D.Disk.facts c.args.disk.now in
    let mid = g.D.Disk.facts c.write_at.new.self in
    let new = g.D.Disk.facts c.sync.new.self in
    stops 1 1 2 old mid new _ (omega arith) (good_call old mid c.in_ok-write_at.ensures.call) (bad_call mid new c.in_err-sync.ensures.call (λ honest. c.in_err-sync.ensures.spared))
    c.from_residual-in_err-sync.ensures.0

pub returns-in_err-write_at-clause-calls : goal.returns-in_err-write_at-clause-calls
returns-in_err-write_at-clause-calls g c =
    let old = g.D.Disk.facts c.args.disk.now in
    let mid = g.D.Disk.facts c.write_at.new.self in
    ran_err 1 2 old mid _ (omega arith) (bad_call old mid c.in_err-write_at.ensures.call (λ honest. c.in_err-write_at.ensures.spared)) c.from_residual.ensures.0

pub returns-clause-calls : goal.returns-clause-calls
returns-clause-calls g c =
    let old = g.D.Disk.facts c.args.disk.now in
    let mid = g.D.Disk.facts c.write_at.new.self in
    let new = g.D.Disk.facts c.sync.new.self in
    good_trans 1 1 old mid new (good_call old mid c.in_ok-write_at.ensures.call) (good_call mid new c.in_ok-sync.ensures.call)

pub returns-clause-later : goal.returns-clause-later
returns-clause-later g c =
    let old = g.D.Disk.facts c.args.disk.now in
    let mid = g.D.Disk.facts c.write_at.new.self in
    let new = g.D.Disk.facts c.sync.new.self in
    later_trans old mid new (called_later old mid true c.in_ok-write_at.ensures.call) (called_later mid new true c.in_ok-sync.ensures.call)
