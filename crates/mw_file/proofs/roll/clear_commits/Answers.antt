-- Goals of `clear_commits` (src/roll.rt).
use Rattle.std.proofs.Common.{◌<◌, ◌≤◌, ◌+◌, [], ◌∷◌, ◌++◌, ◌∙◌, length, take, arith, ap, true, false, ◌≡◌, ℕ, sym, subst, drop, slice_index}
use Rattle.std.proofs.lemmas.List.{take_all}
use Rattle.std.proofs.lemmas.List.Sums.{sum_by_more, sum_by_more_le}
use Rattle.mw_disk.proofs.RunLaws.{bad_call, later_trans, still_honest, touched_trans, touched_quiet, good_call, called_later, good_none, later_refl, touched_none}
use Rattle.mw_record.specs.declared.layout.Layout.TheVariants.{Second}
use Rattle.mw_record.specs.Layout.{place_at}
use Rattle.mw_file.specs.PlaceStates.{commit_writes, commit_writes_of}
use Rattle.mw_file.specs.RollForward.{Behind, AtCommits}
use Rattle.mw_disk.specs.DeviceCalls.{Sync, Makes}
use Rattle.mw_disk.proofs.Outcomes.{on_err}
use Rattle.mw_disk.proofs.MakesLaws.{makes_one, makes_after, makes_cut}
use Rattle.mw_file.specs.DeviceCalls.{clear_calls}
use Rattle.mw_file.proofs.CallLoops.{continues_next, continues_fall, continues_end, clears_from, no_clears}
use Rattle.mw_file.proofs.Ran.{goes_on, stops}
use Rattle.mw_file.proofs.RollLoop.{item_at, commit_there, commits_more, shut_more}
use Rattle.mw_file.proofs.roll.clear_commits.Goals as goal

pub returns-in_err-clear_commit-clause-touched : goal.returns-in_err-clear_commit-clause-touched
returns-in_err-clear_commit-clause-touched g c honest fits =
    let start = g.D.Disk.facts c.args.disk.now in
    let old = g.D.Disk.facts c.loop-state.disk in
    let new = g.D.Disk.facts c.clear_commit.new.disk in
    let states = c.args.states.now in
    let k = c.loop-state.state-index in
    let s = c.state-item.result in
    let lt : k < length states = c.loop-state-test.true in
    let here = item_at states k s lt c.state-item.is in
    let commit = c.place_at.ensures ∙ ap (λ p. c.args.at + place_at Second c.args.words p) c.loop-state.invariant.0 in
    let run = (c.loop-state.invariant.3 honest fits).0 in
    commits_more start old new c.args.at c.args.words states k s lt here c.args.first c.place_at.result commit run
    (c.clear_commit.ensures.touched (still_honest start old c.loop-state.invariant.2 honest)
    (commit_there start old new c.args.at c.args.words states k s lt here c.args.first c.place_at.result commit run fits))

pub loop-state-preserved : goal.loop-state-preserved
loop-state-preserved g c =
    let start = g.D.Disk.facts c.args.disk.now in
    let old = g.D.Disk.facts c.loop-state.disk in
    let new = g.D.Disk.facts c.clear_commit.new.disk in
    let states = c.args.states.now in
    let k = c.loop-state.state-index in
    let s = c.state-item.result in
    let lt : k < length states = c.loop-state-test.true in
    let here = item_at states k s lt c.state-item.is in
    let item = ap commit_writes_of c.state-item.is in
    let more = sum_by_more commit_writes_of states k s (omega arith) in
    let commit = c.place_at.ensures ∙ ap (λ p. c.args.at + place_at Second c.args.words p) c.loop-state.invariant.0 in
    let place = c.loop-state.invariant.0 in (
      omega (arith, place),
      goes_on (commit_writes (take k states)) (commit_writes_of s) (commit_writes (take (k + 1) states)) _ _ _
          (omega (arith, item, more)) c.loop-state.invariant.1 c.in_ok-clear_commit.ensures.calls,
      later_trans _ _ _ c.loop-state.invariant.2 c.clear_commit.ensures.later,
      λ honest fits.
          let so_far = c.loop-state.invariant.3 honest fits in
          let honest2 = still_honest start old c.loop-state.invariant.2 honest in
          let fits2 = commit_there start old new c.args.at c.args.words states k s lt here c.args.first c.place_at.result commit so_far.0 fits in
          let touched = c.clear_commit.ensures.touched honest2 fits2 in (
            commits_more start old new c.args.at c.args.words states k s lt here c.args.first c.place_at.result commit so_far.0 touched,
            shut_more start old new c.args.at c.args.words states k s lt here c.args.first c.place_at.result commit touched so_far.1 (c.in_ok-clear_commit.ensures.shut honest2 fits2),
          ),
      continues_next g.D.Disk.made _ _ _ _ c.args.disk.now c.loop-state.disk c.clear_commit.new.disk c.loop-state.invariant.4
          (clears_from c.args.at c.args.words c.args.first states k c.place_at.result s lt c.state-item.is commit) c.in_ok-clear_commit.ensures.made,
    )

pub returns-in_err-clear_commit-clause-calls : goal.returns-in_err-clear_commit-clause-calls
returns-in_err-clear_commit-clause-calls g c =
    let states = c.args.states.now in
    let k = c.loop-state.state-index in
    let item = ap commit_writes_of c.state-item.is in
    let more = sum_by_more_le commit_writes_of states k c.state-item.result (omega arith) in
    stops (commit_writes (take k states)) (commit_writes_of c.state-item.result) (commit_writes states + 1) _ _ _ _
    (omega (arith, item, more)) c.loop-state.invariant.1 c.in_err-clear_commit.ensures.calls c.from_residual.ensures.0

pub returns-in_err-sync-clause-calls : goal.returns-in_err-sync-clause-calls
returns-in_err-sync-clause-calls g c =
    let states = c.args.states.now in
    let k = c.loop-state.state-index in
    let all = ap commit_writes (take_all k states (let l = c.loop-state-test.false in omega arith)) in
    let mid = g.D.Disk.facts c.loop-state.disk in
    let new = g.D.Disk.facts c.sync.new.self in
    stops (commit_writes (take k states)) 1 (commit_writes states + 1) _ mid new _ (omega (arith, all)) c.loop-state.invariant.1
    (bad_call mid new c.in_err-sync.ensures.call (λ honest. c.in_err-sync.ensures.spared)) c.from_residual-in_err-sync.ensures.0

pub returns-in_err-sync-clause-touched : goal.returns-in_err-sync-clause-touched
returns-in_err-sync-clause-touched g c honest fits =
    let start = g.D.Disk.facts c.args.disk.now in
    let mid = g.D.Disk.facts c.loop-state.disk in
    let new = g.D.Disk.facts c.sync.new.self in
    let S = Behind c.args.at (AtCommits c.args.words c.args.first c.args.states.now) in
    let honest2 = still_honest start mid c.loop-state.invariant.2 honest in
    touched_trans S start mid new (c.loop-state.invariant.3 honest fits).0
    (touched_quiet S mid new false c.in_err-sync.ensures.call (c.in_err-sync.ensures.crash honest2) (c.in_err-sync.ensures.same honest2))

pub returns-clause-touched : goal.returns-clause-touched
returns-clause-touched g c honest fits =
    let start = g.D.Disk.facts c.args.disk.now in
    let mid = g.D.Disk.facts c.loop-state.disk in
    let new = g.D.Disk.facts c.sync.new.self in
    let S = Behind c.args.at (AtCommits c.args.words c.args.first c.args.states.now) in
    let honest2 = still_honest start mid c.loop-state.invariant.2 honest in
    touched_trans S start mid new (c.loop-state.invariant.3 honest fits).0
    (touched_quiet S mid new true c.in_ok-sync.ensures.call (c.in_ok-sync.ensures.crash honest2) (c.in_ok-sync.ensures.same honest2))

pub returns-in_err-clear_commit-clause-made : goal.returns-in_err-clear_commit-clause-made
returns-in_err-clear_commit-clause-made g c =
    let states = c.args.states.now in
    let k = c.loop-state.state-index in
    let lt : k < length states = c.loop-state-test.true in
    let all = clear_calls c.args.at c.args.words c.args.first states in
    let commit = c.place_at.ensures ∙ ap (λ p. c.args.at + place_at Second c.args.words p) c.loop-state.invariant.0 in
    on_err (λ ok. Makes g.D.Disk.made (all ++ Sync ∷ []) ok c.args.disk.now c.clear_commit.new.disk) _ c.from_residual.ensures.0
    (makes_cut g.D.Disk.made all (Sync ∷ []) c.args.disk.now c.clear_commit.new.disk
    (continues_fall g.D.Disk.made _ _ _ _ c.args.disk.now c.loop-state.disk c.clear_commit.new.disk c.loop-state.invariant.4
    (clears_from c.args.at c.args.words c.args.first states k c.place_at.result c.state-item.result lt c.state-item.is commit) c.in_err-clear_commit.ensures.made))

pub returns-in_err-sync-clause-made : goal.returns-in_err-sync-clause-made
returns-in_err-sync-clause-made g c =
    let states = c.args.states.now in
    let k = c.loop-state.state-index in
    let all = clear_calls c.args.at c.args.words c.args.first states in
    let long : length states ≤ k = (let l = c.loop-state-test.false in omega arith) in
    on_err (λ ok. Makes g.D.Disk.made (all ++ Sync ∷ []) ok c.args.disk.now c.sync.new.self) _ c.from_residual-in_err-sync.ensures.0
    (makes_after g.D.Disk.made all (Sync ∷ []) false c.args.disk.now c.loop-state.disk c.sync.new.self
    (continues_end g.D.Disk.made _ _ c.args.disk.now c.loop-state.disk c.loop-state.invariant.4 (no_clears c.args.at c.args.words c.args.first states k long))
    (makes_one g.D.Disk.made Sync false _ _ c.in_err-sync.ensures.made))

pub returns-clause-made : goal.returns-clause-made
returns-clause-made g c =
    let states = c.args.states.now in
    let k = c.loop-state.state-index in
    let all = clear_calls c.args.at c.args.words c.args.first states in
    let long : length states ≤ k = (let l = c.loop-state-test.false in omega arith) in
    makes_after g.D.Disk.made all (Sync ∷ []) true c.args.disk.now c.loop-state.disk c.sync.new.self
    (continues_end g.D.Disk.made _ _ c.args.disk.now c.loop-state.disk c.loop-state.invariant.4 (no_clears c.args.at c.args.words c.args.first states k long))
    (makes_one g.D.Disk.made Sync true _ _ c.in_ok-sync.ensures.made)

pub returns-clause-calls : goal.returns-clause-calls
returns-clause-calls g c =
    let states = c.args.states.now in
    let k = c.loop-state.state-index in
    let all = ap commit_writes (take_all k states (let l = c.loop-state-test.false in omega arith)) in
    let mid = g.D.Disk.facts c.loop-state.disk in
    let new = g.D.Disk.facts c.sync.new.self in
    goes_on (commit_writes (take k states)) 1 (commit_writes states + 1) _ mid new (omega (arith, all)) c.loop-state.invariant.1 (good_call mid new c.in_ok-sync.ensures.call)

pub returns-clause-later : goal.returns-clause-later
returns-clause-later g c =
    let mid = g.D.Disk.facts c.loop-state.disk in
    let new = g.D.Disk.facts c.sync.new.self in
    later_trans _ mid new c.loop-state.invariant.2 (called_later mid new true c.in_ok-sync.ensures.call)

pub loop-state-init : goal.loop-state-init
loop-state-init g c =
    let start = g.D.Disk.facts c.args.disk.now in
    let from : c.args.first + 0 ≡ c.args.first = omega arith in (
      sym from,
      good_none start,
      later_refl start,
      λ honest fits. (touched_none (Behind c.args.at (AtCommits c.args.words c.args.first c.args.states.now)) start, λ place low sealed. absurd (omega (arith, low))),
      λ well end makes. subst (λ (n : ℕ). Makes g.D.Disk.made (clear_calls c.args.at c.args.words n c.args.states.now) well c.args.disk.now end) from makes,
    )

pub returns-clause-shut : goal.returns-clause-shut
returns-clause-shut g c honest fits place low sealed =
    let start = g.D.Disk.facts c.args.disk.now in
    let mid = g.D.Disk.facts c.loop-state.disk in
    ap (λ bs. slice_index (drop c.args.at bs) (place_at Second c.args.words (c.args.first + place))) (c.in_ok-sync.ensures.same (still_honest start mid c.loop-state.invariant.2 honest))
    ∙ (c.loop-state.invariant.3 honest fits).1 place (omega (arith, low, c.loop-state-test.false)) sealed
