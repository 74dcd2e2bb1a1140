-- Goals of `write_records` (src/new_changes.rt).
use Rattle.std.proofs.Common.{◌+◌, ◌≤◌, List, [], ◌∷◌, length, drop, true, false, ap, arith, subst}
use Rattle.std.proofs.lemmas.List.{take_all}
use Rattle.std.proofs.lemmas.List.Elements.{All-nil}
use Rattle.mw_disk.specs.DeviceCalls.{Makes}
use Rattle.mw_disk.proofs.Outcomes.{on_err}
use Rattle.mw_disk.proofs.RunLaws.{good_none, good_call, bad_call, called_later, later_refl, later_trans, still_honest}
use Rattle.mw_record.specs.Layout.{pairs_of}
use Rattle.mw_file.specs.declared.new_changes.NewChange.{NewChange}
use Rattle.mw_file.specs.DeviceCalls.{record_call, record_calls}
use Rattle.mw_file.specs.Stores.{IsWritten}
use Rattle.mw_file.specs.NewChanges.{AreWritten}
use Rattle.mw_file.proofs.CallLoops.{continues_start, continues_next, continues_fall, continues_end}
use Rattle.mw_file.proofs.Ran.{goes_on, stops}
use Rattle.mw_file.proofs.RecordWrites.{recorded_none, recorded_next, written_next, records_from, no_records, one_record}
use Rattle.mw_file.proofs.new_changes.write_records.Goals as goal

pub loop-change-init : goal.loop-change-init
loop-change-init g c = (
  good_none (g.D.Disk.facts c.args.disk.now),
  later_refl (g.D.Disk.facts c.args.disk.now),
  λ contents states can. (
    recorded_none (g.D.Disk.facts c.args.disk.now) c.args.at c.args.words contents states can.stored,
    All-nil (λ d. IsWritten (drop c.args.at (g.D.Disk.facts c.args.disk.now).reads) c.args.words d.place.0 (pairs_of d.entries.items)),
  ),
  continues_start g.D.Disk.made (record_calls c.args.at c.args.words c.args.changes.now) c.args.disk.now,
)

pub returns-in_err-write_at-clause-calls : goal.returns-in_err-write_at-clause-calls
returns-in_err-write_at-clause-calls g c =
    let old = g.D.Disk.facts c.loop-change.disk in
    let new = g.D.Disk.facts c.write_at.new.self in
    let lt = c.loop-change-test.true in
    stops c.loop-change.change-index 1 (length c.args.changes.now) _ old new _ (omega arith) c.loop-change.invariant.0
    (bad_call old new c.in_err-write_at.ensures.call (λ honest. c.in_err-write_at.ensures.spared)) c.from_residual.ensures.0

pub returns-in_err-write_at-clause-kept : goal.returns-in_err-write_at-clause-kept
returns-in_err-write_at-clause-kept g c contents states can =
    let start = g.D.Disk.facts c.args.disk.now in
    let old = g.D.Disk.facts c.loop-change.disk in
    let new = g.D.Disk.facts c.write_at.new.self in
    let honest = still_honest start old c.loop-change.invariant.1 can.honest in
    recorded_next start old c.args.at c.args.words contents states (c.loop-change.invariant.2 contents states can).0 c.args.changes.now can.may c.loop-change.change-index c.loop-change-test.true
    c.change-item.result c.change-item.is new false c.body.result c.body.ensures (c.place_at-start.result + 1) (ap (λ n. n + 1) c.place_at-start.ensures)
    c.in_err-write_at.ensures.call (c.in_err-write_at.ensures.crash honest) (c.in_err-write_at.ensures.torn honest)

pub returns-in_err-write_at-clause-made : goal.returns-in_err-write_at-clause-made
returns-in_err-write_at-clause-made g c =
    let changes = c.args.changes.now in
    let k = c.loop-change.change-index in
    on_err (λ ok. Makes g.D.Disk.made (record_calls c.args.at c.args.words changes) ok c.args.disk.now c.write_at.new.self) _ c.from_residual.ensures.0
    (continues_fall g.D.Disk.made _ _ (record_call c.args.at c.args.words c.change-item.result ∷ []) (record_calls c.args.at c.args.words (drop (k + 1) changes)) c.args.disk.now c.loop-change.disk c.write_at.new.self
    c.loop-change.invariant.3 (records_from c.args.at c.args.words changes k c.change-item.result c.loop-change-test.true c.change-item.is)
    (one_record g.D.Disk.made c.args.at c.args.words c.change-item.result (c.place_at-start.result + 1) c.body.result false _ _ (ap (λ n. n + 1) c.place_at-start.ensures) c.body.ensures
    c.in_err-write_at.ensures.made))

pub loop-change-preserved : goal.loop-change-preserved
loop-change-preserved g c =
    let start = g.D.Disk.facts c.args.disk.now in
    let old = g.D.Disk.facts c.loop-change.disk in
    let new = g.D.Disk.facts c.write_at.new.self in
    let changes = c.args.changes.now in
    let k = c.loop-change.change-index in
    let lt = c.loop-change-test.true in
    let is_at = ap (λ n. n + 1) c.place_at-start.ensures in (
      goes_on k 1 (k + 1) start old new (omega arith) c.loop-change.invariant.0 (good_call old new c.in_ok-write_at.ensures.call),
      later_trans start old new c.loop-change.invariant.1 (called_later old new true c.in_ok-write_at.ensures.call),
      λ contents states can.
          let honest = still_honest start old c.loop-change.invariant.1 can.honest in
          let so_far = c.loop-change.invariant.2 contents states can in (
            recorded_next start old c.args.at c.args.words contents states so_far.0 changes can.may k lt c.change-item.result c.change-item.is new true c.body.result c.body.ensures
                (c.place_at-start.result + 1) is_at c.in_ok-write_at.ensures.call (c.in_ok-write_at.ensures.crash honest) (c.in_ok-write_at.ensures.torn honest),
            written_next start old c.args.at c.args.words contents states so_far.0 changes can.may k lt c.change-item.result c.change-item.is new true c.body.result c.body.ensures
                (c.place_at-start.result + 1) is_at c.in_ok-write_at.ensures.call (c.in_ok-write_at.ensures.crash honest) (c.in_ok-write_at.ensures.torn honest) so_far.1
                (c.in_ok-write_at.ensures.written honest),
          ),
      continues_next g.D.Disk.made _ _ (record_call c.args.at c.args.words c.change-item.result ∷ []) (record_calls c.args.at c.args.words (drop (k + 1) changes)) c.args.disk.now c.loop-change.disk c.write_at.new.self
          c.loop-change.invariant.3 (records_from c.args.at c.args.words changes k c.change-item.result lt c.change-item.is)
          (one_record g.D.Disk.made c.args.at c.args.words c.change-item.result (c.place_at-start.result + 1) c.body.result true _ _ is_at c.body.ensures c.in_ok-write_at.ensures.made),
    )

pub returns-clause-written : goal.returns-clause-written
returns-clause-written g c contents states can =
    let changes = c.args.changes.now in
    let long : length changes ≤ c.loop-change.change-index = (let l = c.loop-change-test.false in omega arith) in
    subst (λ (l : List NewChange). AreWritten (drop c.args.at (g.D.Disk.facts c.loop-change.disk).reads) c.args.words l) (take_all c.loop-change.change-index changes long)
    (c.loop-change.invariant.2 contents states can).1

pub returns-clause-made : goal.returns-clause-made
returns-clause-made g c =
    let changes = c.args.changes.now in
    let long : length changes ≤ c.loop-change.change-index = (let l = c.loop-change-test.false in omega arith) in
    continues_end g.D.Disk.made _ _ c.args.disk.now c.loop-change.disk c.loop-change.invariant.3 (no_records c.args.at c.args.words changes c.loop-change.change-index long)

pub returns-clause-kept : goal.returns-clause-kept
returns-clause-kept g c contents states can = (c.loop-change.invariant.2 contents states can).0
