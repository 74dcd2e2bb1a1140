-- Goals of `sync_records` (src/new_changes.rt).
use Rattle.std.proofs.Common.{◌+◌, [], ◌∷◌, ◌++◌, length, true, false, arith}
use Rattle.mw_disk.specs.DeviceCalls.{Sync, Makes}
use Rattle.mw_disk.proofs.MakesLaws.{makes_one, makes_after, makes_cut}
use Rattle.mw_disk.proofs.Outcomes.{on_err}
use Rattle.mw_disk.proofs.RunLaws.{good_call, bad_call, still_honest, later_trans, called_later}
use Rattle.mw_file.specs.DeviceCalls.{record_calls}
use Rattle.mw_file.proofs.Ran.{goes_on, stops, ran_err}
use Rattle.mw_file.proofs.RecordWrites.{recorded_quiet, synced_with}
use Rattle.mw_file.proofs.new_changes.sync_records.Goals as goal

pub returns-in_err-write_records-clause-calls : goal.returns-in_err-write_records-clause-calls
returns-in_err-write_records-clause-calls g c =
    let n = length c.args.changes.now in
    ran_err n (n + 1) _ _ _ (omega arith) c.in_err-write_records.ensures.calls c.from_residual.ensures.0

pub returns-in_err-write_records-clause-made : goal.returns-in_err-write_records-clause-made
returns-in_err-write_records-clause-made g c =
    let calls = record_calls c.args.at c.args.words c.args.changes.now in
    on_err (λ ok. Makes g.D.Disk.made (calls ++ Sync ∷ []) ok c.args.disk.now c.write_records.new.disk) _ c.from_residual.ensures.0
    (makes_cut g.D.Disk.made calls (Sync ∷ []) _ _ c.in_err-write_records.ensures.made)

pub returns-in_err-write_records-clause-kept : goal.returns-in_err-write_records-clause-kept
returns-in_err-write_records-clause-kept g c = c.write_records.ensures.kept

pub returns-in_err-sync-clause-calls : goal.returns-in_err-sync-clause-calls
returns-in_err-sync-clause-calls g c =
    let n = length c.args.changes.now in
    let mid = g.D.Disk.facts c.write_records.new.disk in
    let new = g.D.Disk.facts c.sync.new.self in
    stops n 1 (n + 1) _ mid new _ (omega arith) c.in_ok-write_records.ensures.calls (bad_call mid new c.in_err-sync.ensures.call (λ honest. c.in_err-sync.ensures.spared))
    c.from_residual-in_err-sync.ensures.0

pub returns-in_err-sync-clause-made : goal.returns-in_err-sync-clause-made
returns-in_err-sync-clause-made g c =
    let calls = record_calls c.args.at c.args.words c.args.changes.now in
    on_err (λ ok. Makes g.D.Disk.made (calls ++ Sync ∷ []) ok c.args.disk.now c.sync.new.self) _ c.from_residual-in_err-sync.ensures.0
    (makes_after g.D.Disk.made calls (Sync ∷ []) false _ _ _ c.in_ok-write_records.ensures.made (makes_one g.D.Disk.made Sync false _ _ c.in_err-sync.ensures.made))

pub returns-in_err-sync-clause-kept : goal.returns-in_err-sync-clause-kept
returns-in_err-sync-clause-kept g c contents states can =
    let start = g.D.Disk.facts c.args.disk.now in
    let mid = g.D.Disk.facts c.write_records.new.disk in
    let new = g.D.Disk.facts c.sync.new.self in
    let honest = still_honest start mid c.write_records.ensures.later can.honest in
    recorded_quiet start mid new false c.args.at c.args.words contents states (c.write_records.ensures.kept contents states can) c.in_err-sync.ensures.call
    (c.in_err-sync.ensures.crash honest) (c.in_err-sync.ensures.same honest)

pub returns-clause-calls : goal.returns-clause-calls
returns-clause-calls g c =
    let n = length c.args.changes.now in
    let mid = g.D.Disk.facts c.write_records.new.disk in
    let new = g.D.Disk.facts c.sync.new.self in
    goes_on n 1 (n + 1) _ mid new (omega arith) c.in_ok-write_records.ensures.calls (good_call mid new c.in_ok-sync.ensures.call)

pub returns-clause-made : goal.returns-clause-made
returns-clause-made g c =
    let calls = record_calls c.args.at c.args.words c.args.changes.now in
    makes_after g.D.Disk.made calls (Sync ∷ []) true _ _ _ c.in_ok-write_records.ensures.made (makes_one g.D.Disk.made Sync true _ _ c.in_ok-sync.ensures.made)

pub returns-clause-kept : goal.returns-clause-kept
returns-clause-kept g c contents states can =
    let start = g.D.Disk.facts c.args.disk.now in
    let mid = g.D.Disk.facts c.write_records.new.disk in
    let new = g.D.Disk.facts c.sync.new.self in
    let honest = still_honest start mid c.write_records.ensures.later can.honest in
    recorded_quiet start mid new true c.args.at c.args.words contents states (c.write_records.ensures.kept contents states can) c.in_ok-sync.ensures.call
    (c.in_ok-sync.ensures.crash honest) (c.in_ok-sync.ensures.same honest)

pub returns-clause-done : goal.returns-clause-done
returns-clause-done g c contents states can =
    let start = g.D.Disk.facts c.args.disk.now in
    let mid = g.D.Disk.facts c.write_records.new.disk in
    let new = g.D.Disk.facts c.sync.new.self in
    let honest = still_honest start mid c.write_records.ensures.later can.honest in
    synced_with start mid new c.args.at c.args.words contents states c.args.changes.now can (c.write_records.ensures.kept contents states can) true c.in_ok-sync.ensures.call
    (c.in_ok-sync.ensures.crash honest) (c.in_ok-sync.ensures.same honest) (c.in_ok-sync.ensures.durable honest) (c.in_ok-write_records.ensures.written contents states can)

pub returns-clause-later : goal.returns-clause-later
returns-clause-later g c =
    let old = g.D.Disk.facts c.args.disk.now in
    let mid = g.D.Disk.facts c.write_records.new.disk in
    let new = g.D.Disk.facts c.sync.new.self in
    later_trans old mid new c.write_records.ensures.later (called_later mid new true c.in_ok-sync.ensures.call)
