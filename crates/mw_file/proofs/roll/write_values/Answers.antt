-- Goals of `write_values` (src/roll.rt).
use Rattle.std.proofs.Common.{◌≡◌, [], ◌∷◌, true, false, drop, ◌^◌, ℕ, ◌≤◌, ◌+◌, ◌<◌, length, take, map, get_or, ap, ◌∙◌, arith, subst}
use Rattle.std.proofs.lemmas.List.{take_all}
use Rattle.mw_disk.proofs.RunLaws.{good_call, called_later, later_trans, still_honest, bad_call, good_none, later_refl}
use Rattle.mw_record.specs.declared.layout.TheConstants.{WORD_SIZE}
use Rattle.mw_record.specs.Records.{Pairs, over, home}
use Rattle.mw_record.specs.Layout.{home_at, number_bytes}
use Rattle.mw_record.proofs.ReadBytes.{length-number_bytes}
use Rattle.mw_disk.specs.DeviceCalls.{Makes}
use Rattle.mw_disk.proofs.Outcomes.{on_err}
use Rattle.mw_file.specs.DeviceCalls.{home_call}
use Rattle.mw_file.proofs.CallLoops.{continues_next, continues_fall, continues_end, values_from, no_values, one_value, continues_start}
use Rattle.mw_file.proofs.Ran.{goes_on, stops}
use Rattle.mw_file.proofs.OneWrite.{next_touched, next_put, put_none}
use Rattle.mw_file.proofs.roll.write_values.Goals as goal

pub returns-in_err-write_at-clause-touched : goal.returns-in_err-write_at-clause-touched
returns-in_err-write_at-clause-touched g c words has below =
    let start = g.D.Disk.facts c.args.disk.now in
    let old = g.D.Disk.facts c.loop-write.disk in
    let new = g.D.Disk.facts c.write_at.new.self in
    let honest = still_honest start old c.loop-write.invariant.1 has.honest in
    let is = c.as_slice-write-items.ensures.value in
    let k = c.loop-write.write-index in
    let within : k < length c.args.writes.now.items = (let l = c.loop-write-test.true in let m = ap length is in omega arith) in
    let at = c.home_at.ensures ∙ ap (λ (ws : Pairs). c.args.at + home_at (get_or ws k (0, 0)).0) is in
    let size = ap length c.home_word.ensures.bytes ∙ length-number_bytes WORD_SIZE (get_or {A = ℕ × ℕ} c.as_slice-write-items.result.now k (0, 0)).1 in
    next_touched start old c.args.at words c.args.writes.now.items c.loop-write.write-index (c.loop-write.invariant.2 words has below) has below within new false (length c.home_word.result) c.home_at.result size at
    c.in_err-write_at.ensures.call (c.in_err-write_at.ensures.crash honest) (c.in_err-write_at.ensures.torn honest)

pub loop-write-preserved : goal.loop-write-preserved
loop-write-preserved g c =
    let start = g.D.Disk.facts c.args.disk.now in
    let old = g.D.Disk.facts c.loop-write.disk in
    let new = g.D.Disk.facts c.write_at.new.self in
    let k = c.loop-write.write-index in (
      goes_on k 1 (k + 1) start old new (omega arith) c.loop-write.invariant.0 (good_call old new c.in_ok-write_at.ensures.call),
      later_trans start old new c.loop-write.invariant.1 (called_later old new true c.in_ok-write_at.ensures.call),
      λ words has below.
          let honest = still_honest start old c.loop-write.invariant.1 has.honest in
          let is = c.as_slice-write-items.ensures.value in
          let within : k < length c.args.writes.now.items = (let l = c.loop-write-test.true in let m = ap length is in omega arith) in
          let at = c.home_at.ensures ∙ ap (λ (ws : Pairs). c.args.at + home_at (get_or ws k (0, 0)).0) is in
          let block = c.home_word.ensures.bytes ∙ ap (λ (ws : Pairs). number_bytes WORD_SIZE (get_or ws k (0, 0)).1) is in
          let small = subst (λ (ws : Pairs). (get_or ws k (0, 0)).1 < 256 ^ WORD_SIZE) is c.home_word.ensures.fits in
          next_put start old c.args.at words c.args.writes.now.items k (c.loop-write.invariant.2 words has below) has below within new c.home_word.result c.home_at.result small block at
          c.in_ok-write_at.ensures.call (c.in_ok-write_at.ensures.crash honest) (c.in_ok-write_at.ensures.torn honest) (c.in_ok-write_at.ensures.written honest),
      let is = c.as_slice-write-items.ensures.value in
          let within : k < length c.args.writes.now.items = (let l = c.loop-write-test.true in let m = ap length is in omega arith) in
          let at = c.home_at.ensures ∙ ap (λ (ws : Pairs). c.args.at + home_at (get_or ws k (0, 0)).0) is in
          let block = c.home_word.ensures.bytes ∙ ap (λ (ws : Pairs). number_bytes WORD_SIZE (get_or ws k (0, 0)).1) is in
          continues_next g.D.Disk.made _ _ (home_call c.args.at (get_or c.args.writes.now.items k (0, 0)) ∷ []) (map (home_call c.args.at) (drop (k + 1) c.args.writes.now.items)) c.args.disk.now c.loop-write.disk c.write_at.new.self c.loop-write.invariant.3
          (values_from c.args.at c.args.writes.now.items k within)
          (one_value g.D.Disk.made c.args.at (get_or c.args.writes.now.items k (0, 0)) c.home_at.result c.home_word.result true _ _ at block c.in_ok-write_at.ensures.made),
    )

pub returns-clause-values : goal.returns-clause-values
returns-clause-values g c words has below addr lt =
    let writes = c.args.writes.now.items in
    let k = c.loop-write.write-index in
    let long : length writes ≤ k = (let l = c.loop-write-test.false in let m = ap length c.as_slice-write-items.ensures.value in omega arith) in
    let before : ℕ = home (drop c.args.at (g.D.Disk.facts c.args.disk.now).reads) addr in
    let all : over (take k writes) addr before ≡ over writes addr before = ap (λ ws. over ws addr before) (take_all k writes long) in
    let so_far : home (drop c.args.at (g.D.Disk.facts c.loop-write.disk).reads) addr ≡ over (take k writes) addr before = (c.loop-write.invariant.2 words has below).values addr lt in
    so_far ∙ all

pub returns-in_err-write_at-clause-made : goal.returns-in_err-write_at-clause-made
returns-in_err-write_at-clause-made g c =
    let k = c.loop-write.write-index in
    let is = c.as_slice-write-items.ensures.value in
    let within : k < length c.args.writes.now.items = (let l = c.loop-write-test.true in let m = ap length is in omega arith) in
    let at = c.home_at.ensures ∙ ap (λ (ws : Pairs). c.args.at + home_at (get_or ws k (0, 0)).0) is in
    let block = c.home_word.ensures.bytes ∙ ap (λ (ws : Pairs). number_bytes WORD_SIZE (get_or ws k (0, 0)).1) is in
    on_err (λ ok. Makes g.D.Disk.made (map (home_call c.args.at) c.args.writes.now.items) ok c.args.disk.now c.write_at.new.self) _ c.from_residual.ensures.0
    (continues_fall g.D.Disk.made _ _ (home_call c.args.at (get_or c.args.writes.now.items k (0, 0)) ∷ []) (map (home_call c.args.at) (drop (k + 1) c.args.writes.now.items)) c.args.disk.now c.loop-write.disk c.write_at.new.self c.loop-write.invariant.3
    (values_from c.args.at c.args.writes.now.items k within)
    (one_value g.D.Disk.made c.args.at (get_or c.args.writes.now.items k (0, 0)) c.home_at.result c.home_word.result false _ _ at block c.in_err-write_at.ensures.made))

pub returns-clause-made : goal.returns-clause-made
returns-clause-made g c =
    let writes = c.args.writes.now.items in
    let k = c.loop-write.write-index in
    let long : length writes ≤ k = (let l = c.loop-write-test.false in let m = ap length c.as_slice-write-items.ensures.value in omega arith) in
    continues_end g.D.Disk.made _ _ c.args.disk.now c.loop-write.disk c.loop-write.invariant.3 (no_values c.args.at writes k long)

pub returns-in_err-write_at-clause-calls : goal.returns-in_err-write_at-clause-calls
returns-in_err-write_at-clause-calls g c =
    let old = g.D.Disk.facts c.loop-write.disk in
    let new = g.D.Disk.facts c.write_at.new.self in
    let k = c.loop-write.write-index in
    let count = length c.args.writes.now.items in
    let within : k < count = (let l = c.loop-write-test.true in let m = ap length c.as_slice-write-items.ensures.value in omega arith) in
    stops k 1 count _ old new _ (omega (arith, within)) c.loop-write.invariant.0
    (bad_call old new c.in_err-write_at.ensures.call (λ honest. c.in_err-write_at.ensures.spared)) c.from_residual.ensures.0

pub returns-clause-touched : goal.returns-clause-touched
returns-clause-touched g c words has below = (c.loop-write.invariant.2 words has below).touched

pub loop-write-init : goal.loop-write-init
loop-write-init g c =
    let start = g.D.Disk.facts c.args.disk.now in (
      good_none start,
      later_refl start,
      λ words has below. put_none c.args.at words c.args.writes.now.items start,
      continues_start g.D.Disk.made (map (home_call c.args.at) c.args.writes.now.items) c.args.disk.now,
    )
