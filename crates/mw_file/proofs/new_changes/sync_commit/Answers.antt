-- Goals of `sync_commit` (src/new_changes.rt).
use Rattle.std.proofs.Common.{◌+◌, [], ◌∷◌, ◌++◌, length, inl, true, false, arith, subst, ℕ}
use Rattle.mw_disk.specs.DeviceCalls.{WriteAt, Sync, Makes}
use Rattle.mw_disk.proofs.MakesLaws.{makes_after, makes_cut}
use Rattle.mw_disk.proofs.Outcomes.{on_err}
use Rattle.mw_disk.proofs.RunLaws.{still_honest, leaves_wider, later_trans}
use Rattle.mw_record.specs.declared.layout.TheConstants.{COMMITTED}
use Rattle.mw_file.specs.DeviceCalls.{record_calls, seal_calls}
use Rattle.mw_file.proofs.Ran.{goes_on, stops, ran_err}
use Rattle.mw_file.proofs.Safety.{is_file}
use Rattle.mw_file.proofs.RecordWrites.{commit_fits, commit_moments, commit_alone, committed_with}
use Rattle.mw_file.proofs.new_changes.sync_commit.Goals as goal

pub returns-in_err-write_records-clause-calls : goal.returns-in_err-write_records-clause-calls
returns-in_err-write_records-clause-calls g c =
    let n = length c.args.ahead.now in
    ran_err n (n + 2) _ _ _ (omega arith) c.in_err-write_records.ensures.calls c.from_residual.ensures.0

pub returns-in_err-write_records-clause-made : goal.returns-in_err-write_records-clause-made
returns-in_err-write_records-clause-made g c =
    let calls = record_calls c.args.at c.args.words c.args.ahead.now in
    let seal = seal_calls c.args.at c.args.words c.args.place.0 in
    on_err (λ ok. Makes g.D.Disk.made (calls ++ seal) ok c.args.disk.now c.write_records.new.disk) _ c.from_residual.ensures.0
    (makes_cut g.D.Disk.made calls seal _ _ c.in_err-write_records.ensures.made)

pub returns-in_err-write_records-clause-moments : goal.returns-in_err-write_records-clause-moments
returns-in_err-write_records-clause-moments g c contents states can may =
    leaves_wider _ _ (λ image is. inl (is_file c.args.at c.args.words (length states) contents image is.has)) (c.write_records.ensures.kept contents states can).moments

pub returns-in_err-write_records-clause-touched : goal.returns-in_err-write_records-clause-touched
returns-in_err-write_records-clause-touched g c contents states can may = (c.write_records.ensures.kept contents states can).alone

pub returns-in_err-write_and_sync-clause-calls : goal.returns-in_err-write_and_sync-clause-calls
returns-in_err-write_and_sync-clause-calls g c =
    let n = length c.args.ahead.now in
    stops n 2 (n + 2) _ _ _ _ (omega arith) c.in_ok-write_records.ensures.calls c.in_err-write_and_sync.ensures.calls c.from_residual-in_err-write_and_sync.ensures.0

pub returns-in_err-write_and_sync-clause-made : goal.returns-in_err-write_and_sync-clause-made
returns-in_err-write_and_sync-clause-made g c =
    let calls = record_calls c.args.at c.args.words c.args.ahead.now in
    let seal = seal_calls c.args.at c.args.words c.args.place.0 in
    on_err (λ ok. Makes g.D.Disk.made (calls ++ seal) ok c.args.disk.now c.write_and_sync.new.disk) _ c.from_residual-in_err-write_and_sync.ensures.0
    (makes_after g.D.Disk.made calls seal false _ _ _ c.in_ok-write_records.ensures.made
    (subst (λ (n : ℕ). Makes g.D.Disk.made (WriteAt n (COMMITTED ∷ []) ∷ Sync ∷ []) false c.write_records.new.disk c.write_and_sync.new.disk) c.place_at.ensures c.in_err-write_and_sync.ensures.made))

pub returns-in_err-write_and_sync-clause-moments : goal.returns-in_err-write_and_sync-clause-moments
returns-in_err-write_and_sync-clause-moments g c contents states can may =
    let start = g.D.Disk.facts c.args.disk.now in
    let mid = g.D.Disk.facts c.write_records.new.disk in
    let new = g.D.Disk.facts c.write_and_sync.new.disk in
    let honest = still_honest start mid c.write_records.ensures.later can.honest in
    let kept = c.write_records.ensures.kept contents states can in
    let at = c.place_at.result in
    let is_at = c.place_at.ensures in
    let fits = commit_fits start mid new c.args.at c.args.words contents states c.args.ahead.now can kept c.args.place.0 may at is_at in
    let touched = c.write_and_sync.ensures.touched honest fits in
    commit_moments start mid new c.args.at c.args.words contents states c.args.ahead.now can kept c.args.place.0 may at is_at touched

pub returns-in_err-write_and_sync-clause-touched : goal.returns-in_err-write_and_sync-clause-touched
returns-in_err-write_and_sync-clause-touched g c contents states can may =
    let start = g.D.Disk.facts c.args.disk.now in
    let mid = g.D.Disk.facts c.write_records.new.disk in
    let new = g.D.Disk.facts c.write_and_sync.new.disk in
    let honest = still_honest start mid c.write_records.ensures.later can.honest in
    let kept = c.write_records.ensures.kept contents states can in
    let at = c.place_at.result in
    let is_at = c.place_at.ensures in
    let fits = commit_fits start mid new c.args.at c.args.words contents states c.args.ahead.now can kept c.args.place.0 may at is_at in
    let touched = c.write_and_sync.ensures.touched honest fits in
    commit_alone start mid new c.args.at c.args.words contents states c.args.ahead.now can kept c.args.place.0 may at is_at touched

pub returns-clause-calls : goal.returns-clause-calls
returns-clause-calls g c =
    let n = length c.args.ahead.now in
    goes_on n 2 (n + 2) _ _ _ (omega arith) c.in_ok-write_records.ensures.calls c.in_ok-write_and_sync.ensures.calls

pub returns-clause-made : goal.returns-clause-made
returns-clause-made g c =
    let calls = record_calls c.args.at c.args.words c.args.ahead.now in
    let seal = seal_calls c.args.at c.args.words c.args.place.0 in
    makes_after g.D.Disk.made calls seal true _ _ _ c.in_ok-write_records.ensures.made
    (subst (λ (n : ℕ). Makes g.D.Disk.made (WriteAt n (COMMITTED ∷ []) ∷ Sync ∷ []) true c.write_records.new.disk c.write_and_sync.new.disk) c.place_at.ensures c.in_ok-write_and_sync.ensures.made)

pub returns-clause-moments : goal.returns-clause-moments
returns-clause-moments g c contents states can may =
    let start = g.D.Disk.facts c.args.disk.now in
    let mid = g.D.Disk.facts c.write_records.new.disk in
    let new = g.D.Disk.facts c.write_and_sync.new.disk in
    let honest = still_honest start mid c.write_records.ensures.later can.honest in
    let kept = c.write_records.ensures.kept contents states can in
    let at = c.place_at.result in
    let is_at = c.place_at.ensures in
    let fits = commit_fits start mid new c.args.at c.args.words contents states c.args.ahead.now can kept c.args.place.0 may at is_at in
    let touched = c.write_and_sync.ensures.touched honest fits in
    commit_moments start mid new c.args.at c.args.words contents states c.args.ahead.now can kept c.args.place.0 may at is_at touched

pub returns-clause-touched : goal.returns-clause-touched
returns-clause-touched g c contents states can may =
    let start = g.D.Disk.facts c.args.disk.now in
    let mid = g.D.Disk.facts c.write_records.new.disk in
    let new = g.D.Disk.facts c.write_and_sync.new.disk in
    let honest = still_honest start mid c.write_records.ensures.later can.honest in
    let kept = c.write_records.ensures.kept contents states can in
    let at = c.place_at.result in
    let is_at = c.place_at.ensures in
    let fits = commit_fits start mid new c.args.at c.args.words contents states c.args.ahead.now can kept c.args.place.0 may at is_at in
    let touched = c.write_and_sync.ensures.touched honest fits in
    commit_alone start mid new c.args.at c.args.words contents states c.args.ahead.now can kept c.args.place.0 may at is_at touched

pub returns-clause-done : goal.returns-clause-done
returns-clause-done g c contents states next can may staged =
    let start = g.D.Disk.facts c.args.disk.now in
    let mid = g.D.Disk.facts c.write_records.new.disk in
    let new = g.D.Disk.facts c.write_and_sync.new.disk in
    let honest = still_honest start mid c.write_records.ensures.later can.honest in
    let kept = c.write_records.ensures.kept contents states can in
    let at = c.place_at.result in
    let is_at = c.place_at.ensures in
    let fits = commit_fits start mid new c.args.at c.args.words contents states c.args.ahead.now can kept c.args.place.0 may at is_at in
    let touched = c.write_and_sync.ensures.touched honest fits in
    committed_with start mid new c.args.at c.args.words contents states c.args.ahead.now can kept c.args.place.0 may at is_at touched next (c.in_ok-write_and_sync.ensures.rest honest)
    (c.in_ok-write_and_sync.ensures.written honest) (c.in_ok-write_records.ensures.written contents states can) staged

pub returns-clause-later : goal.returns-clause-later
returns-clause-later g c =
    let old = g.D.Disk.facts c.args.disk.now in
    let mid = g.D.Disk.facts c.write_records.new.disk in
    let new = g.D.Disk.facts c.write_and_sync.new.disk in
    later_trans old mid new c.write_records.ensures.later c.write_and_sync.ensures.later
