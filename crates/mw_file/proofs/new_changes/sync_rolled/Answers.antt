-- Goals of `sync_rolled` (src/new_changes.rt).
use Rattle.std.proofs.Common.{◌+◌, ◌++◌, length, true, false, arith}
use Rattle.mw_disk.specs.DeviceCalls.{Makes}
use Rattle.mw_disk.proofs.MakesLaws.{makes_after, makes_cut}
use Rattle.mw_disk.proofs.Outcomes.{on_err}
use Rattle.mw_disk.proofs.RunLaws.{still_honest, leaves_wider, later_trans}
use Rattle.mw_file.specs.DeviceCalls.{record_calls, roll_device_calls}
use Rattle.mw_file.specs.PlaceStates.{roll_calls}
use Rattle.mw_file.proofs.Ran.{goes_on, stops, ran_err}
use Rattle.mw_file.proofs.RecordWrites.{roll_can, roll_moments, roll_alone, rolled_with}
use Rattle.mw_file.proofs.new_changes.sync_rolled.Goals as goal

pub returns-in_err-write_records-clause-calls : goal.returns-in_err-write_records-clause-calls
returns-in_err-write_records-clause-calls g c =
    let n = length c.args.ahead.now in
    ran_err n (n + roll_calls c.args.states.now) _ _ _ (omega arith) c.in_err-write_records.ensures.calls c.from_residual.ensures.0

pub returns-in_err-write_records-clause-made : goal.returns-in_err-write_records-clause-made
returns-in_err-write_records-clause-made g c =
    let calls = record_calls c.args.at c.args.words c.args.ahead.now in
    let roll = roll_device_calls c.args.at c.args.words 0 c.args.states.now in
    on_err (λ ok. Makes g.D.Disk.made (calls ++ roll) ok c.args.disk.now c.write_records.new.disk) _ c.from_residual.ensures.0
    (makes_cut g.D.Disk.made calls roll _ _ c.in_err-write_records.ensures.made)

pub returns-in_err-write_records-clause-moments : goal.returns-in_err-write_records-clause-moments
returns-in_err-write_records-clause-moments g c contents can = leaves_wider _ _ (λ image is. is.has) (c.write_records.ensures.kept contents c.args.states.now can).moments

pub returns-in_err-write_records-clause-touched : goal.returns-in_err-write_records-clause-touched
returns-in_err-write_records-clause-touched g c contents can = (c.write_records.ensures.kept contents c.args.states.now can).alone

pub returns-in_err-roll_forward-clause-calls : goal.returns-in_err-roll_forward-clause-calls
returns-in_err-roll_forward-clause-calls g c =
    let n = length c.args.ahead.now in
    let m = roll_calls c.args.states.now in
    stops n m (n + m) _ _ _ _ (omega arith) c.in_ok-write_records.ensures.calls c.in_err-roll_forward.ensures.calls c.from_residual-in_err-roll_forward.ensures.0

pub returns-in_err-roll_forward-clause-made : goal.returns-in_err-roll_forward-clause-made
returns-in_err-roll_forward-clause-made g c =
    let calls = record_calls c.args.at c.args.words c.args.ahead.now in
    let roll = roll_device_calls c.args.at c.args.words 0 c.args.states.now in
    on_err (λ ok. Makes g.D.Disk.made (calls ++ roll) ok c.args.disk.now c.roll_forward.new.disk) _ c.from_residual-in_err-roll_forward.ensures.0
    (makes_after g.D.Disk.made calls roll false _ _ _ c.in_ok-write_records.ensures.made c.in_err-roll_forward.ensures.made)

pub returns-in_err-roll_forward-clause-moments : goal.returns-in_err-roll_forward-clause-moments
returns-in_err-roll_forward-clause-moments g c contents can =
    let start = g.D.Disk.facts c.args.disk.now in
    let mid = g.D.Disk.facts c.write_records.new.disk in
    let new = g.D.Disk.facts c.roll_forward.new.disk in
    let at = c.args.at in
    let words = c.args.words in
    let states = c.args.states.now in
    let ahead = c.args.ahead.now in
    let honest = still_honest start mid c.write_records.ensures.later can.honest in
    let kept = c.write_records.ensures.kept contents states can in
    let roll = roll_can start mid new at words contents states ahead can kept honest in
    roll_moments start mid new at words contents states ahead can kept (c.roll_forward.ensures.moments (length states) contents roll)

pub returns-in_err-roll_forward-clause-touched : goal.returns-in_err-roll_forward-clause-touched
returns-in_err-roll_forward-clause-touched g c contents can =
    let start = g.D.Disk.facts c.args.disk.now in
    let mid = g.D.Disk.facts c.write_records.new.disk in
    let new = g.D.Disk.facts c.roll_forward.new.disk in
    let at = c.args.at in
    let words = c.args.words in
    let states = c.args.states.now in
    let ahead = c.args.ahead.now in
    let honest = still_honest start mid c.write_records.ensures.later can.honest in
    let kept = c.write_records.ensures.kept contents states can in
    let roll = roll_can start mid new at words contents states ahead can kept honest in
    roll_alone start mid new at words contents states ahead can kept (c.roll_forward.ensures.touched (length states) contents roll)

pub returns-clause-calls : goal.returns-clause-calls
returns-clause-calls g c =
    let n = length c.args.ahead.now in
    let m = roll_calls c.args.states.now in
    goes_on n m (n + m) _ _ _ (omega arith) c.in_ok-write_records.ensures.calls c.in_ok-roll_forward.ensures.calls

pub returns-clause-made : goal.returns-clause-made
returns-clause-made g c =
    let calls = record_calls c.args.at c.args.words c.args.ahead.now in
    let roll = roll_device_calls c.args.at c.args.words 0 c.args.states.now in
    makes_after g.D.Disk.made calls roll true _ _ _ c.in_ok-write_records.ensures.made c.in_ok-roll_forward.ensures.made

pub returns-clause-moments : goal.returns-clause-moments
returns-clause-moments g c contents can =
    let start = g.D.Disk.facts c.args.disk.now in
    let mid = g.D.Disk.facts c.write_records.new.disk in
    let new = g.D.Disk.facts c.roll_forward.new.disk in
    let at = c.args.at in
    let words = c.args.words in
    let states = c.args.states.now in
    let ahead = c.args.ahead.now in
    let honest = still_honest start mid c.write_records.ensures.later can.honest in
    let kept = c.write_records.ensures.kept contents states can in
    let roll = roll_can start mid new at words contents states ahead can kept honest in
    roll_moments start mid new at words contents states ahead can kept (c.roll_forward.ensures.moments (length states) contents roll)

pub returns-clause-touched : goal.returns-clause-touched
returns-clause-touched g c contents can =
    let start = g.D.Disk.facts c.args.disk.now in
    let mid = g.D.Disk.facts c.write_records.new.disk in
    let new = g.D.Disk.facts c.roll_forward.new.disk in
    let at = c.args.at in
    let words = c.args.words in
    let states = c.args.states.now in
    let ahead = c.args.ahead.now in
    let honest = still_honest start mid c.write_records.ensures.later can.honest in
    let kept = c.write_records.ensures.kept contents states can in
    let roll = roll_can start mid new at words contents states ahead can kept honest in
    roll_alone start mid new at words contents states ahead can kept (c.roll_forward.ensures.touched (length states) contents roll)

pub returns-clause-done : goal.returns-clause-done
returns-clause-done g c contents next can are =
    let start = g.D.Disk.facts c.args.disk.now in
    let mid = g.D.Disk.facts c.write_records.new.disk in
    let new = g.D.Disk.facts c.roll_forward.new.disk in
    let at = c.args.at in
    let words = c.args.words in
    let states = c.args.states.now in
    let ahead = c.args.ahead.now in
    let honest = still_honest start mid c.write_records.ensures.later can.honest in
    let kept = c.write_records.ensures.kept contents states can in
    let roll = roll_can start mid new at words contents states ahead can kept honest in
    rolled_with start mid new at words contents states ahead can kept next (c.roll_forward.ensures.read (length states) contents roll) (c.in_ok-roll_forward.ensures.done (length states) contents roll)
    (c.in_ok-write_records.ensures.written contents states can) are

pub returns-clause-later : goal.returns-clause-later
returns-clause-later g c =
    let old = g.D.Disk.facts c.args.disk.now in
    let mid = g.D.Disk.facts c.write_records.new.disk in
    let new = g.D.Disk.facts c.roll_forward.new.disk in
    later_trans old mid new c.write_records.ensures.later c.roll_forward.ensures.later
