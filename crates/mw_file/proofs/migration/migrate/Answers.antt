-- Goals of `migrate` (src/migration.rt).
use Rattle.std.proofs.Common.{true, false, arith}
use Rattle.mw_disk.specs.DeviceCalls.{Makes}
use Rattle.mw_disk.proofs.MakesLaws.{makes_after, makes_cut}
use Rattle.mw_disk.proofs.Outcomes.{on_err}
use Rattle.mw_file.specs.OpeningCalls.{lay_list, migration_list, switch_list}
use Rattle.mw_disk.proofs.RunLaws.{still_honest, later_trans}
use Rattle.mw_file.proofs.Migrated.{laying_moments, laying_read, switch_fits, switching_moments, switching_read, migrated, low_enough, reaches, laying_grown, switching_grown, all_given}
use Rattle.mw_file.proofs.Ran.{stops, goes_on}
use Rattle.mw_file.proofs.migration.migrate.Goals as goal

pub returns-in_err-lay-clause-moments : goal.returns-in_err-lay-clause-moments
returns-in_err-lay-clause-moments g c words places contents can =
    let old = g.D.Disk.facts c.args.disk.now in
    let mid = g.D.Disk.facts c.lay.new.disk in
    laying_moments old c.args.at words places contents c.args.second.now can mid (c.lay.ensures.grown can.honest)

pub returns-in_err-lay-clause-read : goal.returns-in_err-lay-clause-read
returns-in_err-lay-clause-read g c words places contents can =
    let old = g.D.Disk.facts c.args.disk.now in
    let mid = g.D.Disk.facts c.lay.new.disk in
    laying_read old c.args.at words places contents c.args.second.now can mid (c.lay.ensures.grown can.honest)

pub returns-in_err-lay-clause-grown : goal.returns-in_err-lay-clause-grown
returns-in_err-lay-clause-grown g c words places contents can =
    let old = g.D.Disk.facts c.args.disk.now in
    let mid = g.D.Disk.facts c.lay.new.disk in
    laying_grown old mid mid c.args.at (c.lay.ensures.grown can.honest)

pub returns-in_err-write_and_sync-clause-grown : goal.returns-in_err-write_and_sync-clause-grown
returns-in_err-write_and_sync-clause-grown g c words places contents can =
    let old = g.D.Disk.facts c.args.disk.now in
    let mid = g.D.Disk.facts c.lay.new.disk in
    let new = g.D.Disk.facts c.write_and_sync.new.disk in
    let at = c.args.at in
    let grown = c.lay.ensures.grown can.honest in
    let rest = c.in_ok-lay.ensures.rest can.honest in
    let honest = still_honest old mid c.lay.ensures.later can.honest in
    switching_grown old mid new at grown
    (c.write_and_sync.ensures.touched honest (switch_fits old at words places contents c.args.second.now can mid grown rest))

pub returns-clause-grown : goal.returns-clause-grown
returns-clause-grown g c words places contents can =
    let old = g.D.Disk.facts c.args.disk.now in
    let mid = g.D.Disk.facts c.lay.new.disk in
    let new = g.D.Disk.facts c.write_and_sync.new.disk in
    let at = c.args.at in
    let grown = c.lay.ensures.grown can.honest in
    let rest = c.in_ok-lay.ensures.rest can.honest in
    let honest = still_honest old mid c.lay.ensures.later can.honest in
    switching_grown old mid new at grown
    (c.write_and_sync.ensures.touched honest (switch_fits old at words places contents c.args.second.now can mid grown rest))

pub returns-clause-given : goal.returns-clause-given
returns-clause-given g c words places contents can =
    let old = g.D.Disk.facts c.args.disk.now in
    let mid = g.D.Disk.facts c.lay.new.disk in
    let new = g.D.Disk.facts c.write_and_sync.new.disk in
    let at = c.args.at in
    let second = c.args.second.now in
    let grown = c.lay.ensures.grown can.honest in
    let rest = c.in_ok-lay.ensures.rest can.honest in
    let written = c.in_ok-lay.ensures.written can.honest (low_enough old at words places contents second can) (reaches old at words places contents second can) in
    let honest = still_honest old mid c.lay.ensures.later can.honest in
    let fits = switch_fits old at words places contents second can mid grown rest in
    all_given old mid new at second written (c.in_ok-write_and_sync.ensures.written honest (omega (arith, fits.reads)))

pub returns-in_err-write_and_sync-clause-calls : goal.returns-in_err-write_and_sync-clause-calls
returns-in_err-write_and_sync-clause-calls g c =
    stops 3 2 5 _ (g.D.Disk.facts c.lay.new.disk) _ _ (omega arith) c.in_ok-lay.ensures.calls c.in_err-write_and_sync.ensures.calls c.from_residual-in_err-write_and_sync.ensures.0

pub returns-in_err-write_and_sync-clause-moments : goal.returns-in_err-write_and_sync-clause-moments
returns-in_err-write_and_sync-clause-moments g c words places contents can =
    let old = g.D.Disk.facts c.args.disk.now in
    let mid = g.D.Disk.facts c.lay.new.disk in
    let new = g.D.Disk.facts c.write_and_sync.new.disk in
    let at = c.args.at in
    let second = c.args.second.now in
    let grown = c.lay.ensures.grown can.honest in
    let rest = c.in_ok-lay.ensures.rest can.honest in
    let laid = c.in_ok-lay.ensures.laid can.honest (low_enough old at words places contents second can) (reaches old at words places contents second can) in
    let honest = still_honest old mid c.lay.ensures.later can.honest in
    switching_moments old at words places contents second can mid grown rest laid new
    (c.write_and_sync.ensures.touched honest (switch_fits old at words places contents second can mid grown rest))

pub returns-in_err-write_and_sync-clause-read : goal.returns-in_err-write_and_sync-clause-read
returns-in_err-write_and_sync-clause-read g c words places contents can =
    let old = g.D.Disk.facts c.args.disk.now in
    let mid = g.D.Disk.facts c.lay.new.disk in
    let new = g.D.Disk.facts c.write_and_sync.new.disk in
    let at = c.args.at in
    let second = c.args.second.now in
    let grown = c.lay.ensures.grown can.honest in
    let rest = c.in_ok-lay.ensures.rest can.honest in
    let laid = c.in_ok-lay.ensures.laid can.honest (low_enough old at words places contents second can) (reaches old at words places contents second can) in
    let honest = still_honest old mid c.lay.ensures.later can.honest in
    switching_read old at words places contents second can mid grown rest laid new
    (c.write_and_sync.ensures.touched honest (switch_fits old at words places contents second can mid grown rest))

pub returns-clause-calls : goal.returns-clause-calls
returns-clause-calls g c = goes_on 3 2 5 _ (g.D.Disk.facts c.lay.new.disk) _ (omega arith) c.in_ok-lay.ensures.calls c.in_ok-write_and_sync.ensures.calls

pub returns-clause-moments : goal.returns-clause-moments
returns-clause-moments g c words places contents can =
    let old = g.D.Disk.facts c.args.disk.now in
    let mid = g.D.Disk.facts c.lay.new.disk in
    let new = g.D.Disk.facts c.write_and_sync.new.disk in
    let at = c.args.at in
    let second = c.args.second.now in
    let grown = c.lay.ensures.grown can.honest in
    let rest = c.in_ok-lay.ensures.rest can.honest in
    let laid = c.in_ok-lay.ensures.laid can.honest (low_enough old at words places contents second can) (reaches old at words places contents second can) in
    let honest = still_honest old mid c.lay.ensures.later can.honest in
    switching_moments old at words places contents second can mid grown rest laid new
    (c.write_and_sync.ensures.touched honest (switch_fits old at words places contents second can mid grown rest))

pub returns-clause-read : goal.returns-clause-read
returns-clause-read g c words places contents can =
    let old = g.D.Disk.facts c.args.disk.now in
    let mid = g.D.Disk.facts c.lay.new.disk in
    let new = g.D.Disk.facts c.write_and_sync.new.disk in
    let at = c.args.at in
    let second = c.args.second.now in
    let grown = c.lay.ensures.grown can.honest in
    let rest = c.in_ok-lay.ensures.rest can.honest in
    let laid = c.in_ok-lay.ensures.laid can.honest (low_enough old at words places contents second can) (reaches old at words places contents second can) in
    let honest = still_honest old mid c.lay.ensures.later can.honest in
    switching_read old at words places contents second can mid grown rest laid new
    (c.write_and_sync.ensures.touched honest (switch_fits old at words places contents second can mid grown rest))

pub returns-clause-done : goal.returns-clause-done
returns-clause-done g c words places contents can =
    let old = g.D.Disk.facts c.args.disk.now in
    let mid = g.D.Disk.facts c.lay.new.disk in
    let new = g.D.Disk.facts c.write_and_sync.new.disk in
    let at = c.args.at in
    let second = c.args.second.now in
    let grown = c.lay.ensures.grown can.honest in
    let rest = c.in_ok-lay.ensures.rest can.honest in
    let laid = c.in_ok-lay.ensures.laid can.honest (low_enough old at words places contents second can) (reaches old at words places contents second can) in
    let honest = still_honest old mid c.lay.ensures.later can.honest in
    let fits = switch_fits old at words places contents second can mid grown rest in
    migrated old at words places contents second can mid grown rest laid new (c.write_and_sync.ensures.touched honest fits)
    (c.in_ok-write_and_sync.ensures.rest honest) (c.in_ok-write_and_sync.ensures.written honest (omega (arith, fits.reads)))

pub returns-in_err-write_and_sync-clause-made : goal.returns-in_err-write_and_sync-clause-made
returns-in_err-write_and_sync-clause-made g c =
    on_err (λ ok. Makes g.D.Disk.made (migration_list c.args.at c.args.second.now) ok c.args.disk.now c.write_and_sync.new.disk) _ c.from_residual-in_err-write_and_sync.ensures.0
    (makes_after g.D.Disk.made (lay_list c.args.at c.args.second.now) switch_list false c.args.disk.now c.lay.new.disk c.write_and_sync.new.disk c.in_ok-lay.ensures.made c.in_err-write_and_sync.ensures.made)

pub returns-clause-made : goal.returns-clause-made
returns-clause-made g c =
    makes_after g.D.Disk.made (lay_list c.args.at c.args.second.now) switch_list true c.args.disk.now c.lay.new.disk c.write_and_sync.new.disk c.in_ok-lay.ensures.made c.in_ok-write_and_sync.ensures.made

pub returns-in_err-lay-clause-made : goal.returns-in_err-lay-clause-made
returns-in_err-lay-clause-made g c =
    on_err (λ ok. Makes g.D.Disk.made (migration_list c.args.at c.args.second.now) ok c.args.disk.now c.lay.new.disk) _ c.from_residual.ensures.0
    (makes_cut g.D.Disk.made (lay_list c.args.at c.args.second.now) switch_list c.args.disk.now c.lay.new.disk c.in_err-lay.ensures.made)

pub returns-clause-later : goal.returns-clause-later
returns-clause-later g c =
    later_trans (g.D.Disk.facts c.args.disk.now) (g.D.Disk.facts c.lay.new.disk) (g.D.Disk.facts c.write_and_sync.new.disk) c.lay.ensures.later c.write_and_sync.ensures.later
