-- Goals of `write_homes` (src/roll.rt).
use Rattle.std.proofs.Common.{◌<◌, ◌≤◌, ◌+◌, [], ◌∷◌, ◌++◌, true, false, length, take, arith, ap, refl, ◌≡◌, ◌∙◌, drop}
use Rattle.std.proofs.lemmas.List.Sums.{sum_by_more, sum_by_more_le}
use Rattle.mw_disk.proofs.RunLaws.{later_trans, good_call, bad_call, called_later, still_honest, touched_trans, touched_quiet, good_none, later_refl, touched_none}
use Rattle.mw_file.specs.PlaceStates.{home_writes, home_writes_of}
use Rattle.mw_disk.specs.DeviceCalls.{Sync, Makes}
use Rattle.mw_disk.proofs.Outcomes.{on_err}
use Rattle.mw_disk.proofs.MakesLaws.{makes_one, makes_after, makes_cut}
use Rattle.mw_file.specs.DeviceCalls.{home_calls}
use Rattle.mw_file.proofs.CallLoops.{continues_next, continues_fall, continues_end, homes_from, no_homes, continues_start}
use Rattle.mw_file.proofs.Ran.{goes_on, stops}
use Rattle.mw_file.proofs.RollLoop.{item_at, below_item, homes_still_there, homes_more, values_more}
use Rattle.std.proofs.lemmas.List.{take_all}
use Rattle.mw_file.specs.RollForward.{Behind, InHomes, kept_of}
use Rattle.mw_record.specs.Records.{home, all_over}
use Rattle.mw_file.proofs.roll.write_homes.Goals as goal

pub returns-in_err-write_home-clause-calls : goal.returns-in_err-write_home-clause-calls
returns-in_err-write_home-clause-calls g c =
    let states = c.args.states.now in
    let k = c.loop-state.state-index in
    let item = ap home_writes_of c.state-item.is in
    let more = sum_by_more_le home_writes_of states k c.state-item.result (omega arith) in
    stops (home_writes (take k states)) (home_writes_of c.state-item.result) (home_writes states + 1) _ _ _ _
    (omega (arith, item, more)) c.loop-state.invariant.0 c.in_err-write_home.ensures.calls c.from_residual.ensures.0

pub returns-in_err-write_home-clause-touched : goal.returns-in_err-write_home-clause-touched
returns-in_err-write_home-clause-touched g c words has below =
    let start = g.D.Disk.facts c.args.disk.now in
    let old = g.D.Disk.facts c.loop-state.disk in
    let new = g.D.Disk.facts c.write_home.new.disk in
    let states = c.args.states.now in
    let k = c.loop-state.state-index in
    let s = c.state-item.result in
    let lt : k < length states = c.loop-state-test.true in
    let here = item_at states k s lt c.state-item.is in
    let run = (c.loop-state.invariant.2 words has below).0 in
    let has2 = homes_still_there start old new c.args.at words states k s lt here c.loop-state.invariant.1 run has in
    homes_more start old new c.args.at words states k s lt here run (c.write_home.ensures.touched words has2 (below_item start old new c.args.at words states k s lt here below))

pub loop-state-preserved : goal.loop-state-preserved
loop-state-preserved g c =
    let start = g.D.Disk.facts c.args.disk.now in
    let old = g.D.Disk.facts c.loop-state.disk in
    let new = g.D.Disk.facts c.write_home.new.disk in
    let states = c.args.states.now in
    let k = c.loop-state.state-index in
    let s = c.state-item.result in
    let lt : k < length states = c.loop-state-test.true in
    let here = item_at states k s lt c.state-item.is in
    let item = ap home_writes_of c.state-item.is in
    let more = sum_by_more home_writes_of states k s (omega arith) in (
      goes_on (home_writes (take k states)) (home_writes_of s) (home_writes (take (k + 1) states)) _ _ _
          (omega (arith, item, more)) c.loop-state.invariant.0 c.in_ok-write_home.ensures.calls,
      later_trans _ _ _ c.loop-state.invariant.1 c.write_home.ensures.later,
      λ words has below.
          let so_far = c.loop-state.invariant.2 words has below in
          let has2 = homes_still_there start old new c.args.at words states k s lt here c.loop-state.invariant.1 so_far.0 has in
          let below2 = below_item start old new c.args.at words states k s lt here below in (
            homes_more start old new c.args.at words states k s lt here so_far.0 (c.write_home.ensures.touched words has2 below2),
            λ addr low. values_more start old new c.args.at words states k s lt here addr (so_far.1 addr low) (c.in_ok-write_home.ensures.values words has2 below2 addr low),
          ),
      continues_next g.D.Disk.made _ _ _ _ c.args.disk.now c.loop-state.disk c.write_home.new.disk c.loop-state.invariant.3
          (homes_from c.args.at states k s lt c.state-item.is) c.in_ok-write_home.ensures.made,
    )

pub returns-in_err-write_home-clause-made : goal.returns-in_err-write_home-clause-made
returns-in_err-write_home-clause-made g c =
    let states = c.args.states.now in
    let k = c.loop-state.state-index in
    let lt : k < length states = c.loop-state-test.true in
    on_err (λ ok. Makes g.D.Disk.made (home_calls c.args.at states ++ Sync ∷ []) ok c.args.disk.now c.write_home.new.disk) _ c.from_residual.ensures.0
    (makes_cut g.D.Disk.made (home_calls c.args.at states) (Sync ∷ []) c.args.disk.now c.write_home.new.disk
    (continues_fall g.D.Disk.made _ _ _ _ c.args.disk.now c.loop-state.disk c.write_home.new.disk c.loop-state.invariant.3
    (homes_from c.args.at states k c.state-item.result lt c.state-item.is) c.in_err-write_home.ensures.made))

pub returns-in_err-sync-clause-made : goal.returns-in_err-sync-clause-made
returns-in_err-sync-clause-made g c =
    let states = c.args.states.now in
    let k = c.loop-state.state-index in
    let long : length states ≤ k = (let l = c.loop-state-test.false in omega arith) in
    on_err (λ ok. Makes g.D.Disk.made (home_calls c.args.at states ++ Sync ∷ []) ok c.args.disk.now c.sync.new.self) _ c.from_residual-in_err-sync.ensures.0
    (makes_after g.D.Disk.made (home_calls c.args.at states) (Sync ∷ []) false c.args.disk.now c.loop-state.disk c.sync.new.self
    (continues_end g.D.Disk.made _ _ c.args.disk.now c.loop-state.disk c.loop-state.invariant.3 (no_homes c.args.at states k long))
    (makes_one g.D.Disk.made Sync false _ _ c.in_err-sync.ensures.made))

pub returns-clause-made : goal.returns-clause-made
returns-clause-made g c =
    let states = c.args.states.now in
    let k = c.loop-state.state-index in
    let long : length states ≤ k = (let l = c.loop-state-test.false in omega arith) in
    makes_after g.D.Disk.made (home_calls c.args.at states) (Sync ∷ []) true c.args.disk.now c.loop-state.disk c.sync.new.self
    (continues_end g.D.Disk.made _ _ c.args.disk.now c.loop-state.disk c.loop-state.invariant.3 (no_homes c.args.at states k long))
    (makes_one g.D.Disk.made Sync true _ _ c.in_ok-sync.ensures.made)

pub returns-in_err-sync-clause-calls : goal.returns-in_err-sync-clause-calls
returns-in_err-sync-clause-calls g c =
    let states = c.args.states.now in
    let k = c.loop-state.state-index in
    let all = ap home_writes (take_all k states (let l = c.loop-state-test.false in omega arith)) in
    let mid = g.D.Disk.facts c.loop-state.disk in
    let new = g.D.Disk.facts c.sync.new.self in
    stops (home_writes (take k states)) 1 (home_writes states + 1) _ mid new _ (omega (arith, all)) c.loop-state.invariant.0
    (bad_call mid new c.in_err-sync.ensures.call (λ honest. c.in_err-sync.ensures.spared)) c.from_residual-in_err-sync.ensures.0

pub returns-clause-calls : goal.returns-clause-calls
returns-clause-calls g c =
    let states = c.args.states.now in
    let k = c.loop-state.state-index in
    let all = ap home_writes (take_all k states (let l = c.loop-state-test.false in omega arith)) in
    let mid = g.D.Disk.facts c.loop-state.disk in
    let new = g.D.Disk.facts c.sync.new.self in
    goes_on (home_writes (take k states)) 1 (home_writes states + 1) _ mid new (omega (arith, all)) c.loop-state.invariant.0 (good_call mid new c.in_ok-sync.ensures.call)

pub returns-in_err-sync-clause-touched : goal.returns-in_err-sync-clause-touched
returns-in_err-sync-clause-touched g c words has below =
    let start = g.D.Disk.facts c.args.disk.now in
    let mid = g.D.Disk.facts c.loop-state.disk in
    let new = g.D.Disk.facts c.sync.new.self in
    let S = Behind c.args.at (InHomes c.args.states.now) in
    let honest = still_honest start mid c.loop-state.invariant.1 has.honest in
    touched_trans S start mid new (c.loop-state.invariant.2 words has below).0
    (touched_quiet S mid new false c.in_err-sync.ensures.call (c.in_err-sync.ensures.crash honest) (c.in_err-sync.ensures.same honest))

pub returns-clause-touched : goal.returns-clause-touched
returns-clause-touched g c words has below =
    let start = g.D.Disk.facts c.args.disk.now in
    let mid = g.D.Disk.facts c.loop-state.disk in
    let new = g.D.Disk.facts c.sync.new.self in
    let S = Behind c.args.at (InHomes c.args.states.now) in
    let honest = still_honest start mid c.loop-state.invariant.1 has.honest in
    touched_trans S start mid new (c.loop-state.invariant.2 words has below).0
    (touched_quiet S mid new true c.in_ok-sync.ensures.call (c.in_ok-sync.ensures.crash honest) (c.in_ok-sync.ensures.same honest))

pub returns-clause-later : goal.returns-clause-later
returns-clause-later g c =
    let mid = g.D.Disk.facts c.loop-state.disk in
    let new = g.D.Disk.facts c.sync.new.self in
    later_trans _ mid new c.loop-state.invariant.1 (called_later mid new true c.in_ok-sync.ensures.call)

pub loop-state-init : goal.loop-state-init
loop-state-init g c =
    let start = g.D.Disk.facts c.args.disk.now in (
      good_none start,
      later_refl start,
      λ words has below. (touched_none (Behind c.args.at (InHomes c.args.states.now)) start, λ addr low. refl),
      continues_start g.D.Disk.made (home_calls c.args.at c.args.states.now) c.args.disk.now,
    )

pub returns-clause-values : goal.returns-clause-values
returns-clause-values g c words has below addr low =
    let start = g.D.Disk.facts c.args.disk.now in
    let mid = g.D.Disk.facts c.loop-state.disk in
    let states = c.args.states.now in
    let all : c.loop-state.state-index ≡ length states = omega (arith, c.loop-state-test.false, c.loop-state.auto.state-index-end) in
    ap (λ bs. home (drop c.args.at bs) addr) (c.in_ok-sync.ensures.same (still_honest start mid c.loop-state.invariant.1 has.honest))
    ∙ (c.loop-state.invariant.2 words has below).1 addr low
    ∙ ap (λ n. all_over (kept_of states) n addr (home (drop c.args.at start.reads) addr)) all
