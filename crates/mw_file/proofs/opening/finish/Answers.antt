-- Goals of `finish` (src/opening.rt).
use Rattle.std.proofs.Common.{◌≤◌, ◌==◌, ℕ, List, [], if◌then◌else◌, is_ok, refl, subst, ap, ◌∙◌}
use Rattle.mw_disk.specs.DeviceCalls.{DeviceCall, Makes}
use Rattle.mw_disk.specs.Runs.{Touched, LeavesOnly}
use Rattle.mw_record.specs.Contents.{HasSecond}
use Rattle.mw_record.specs.Damages.{at_of}
use Rattle.mw_file.specs.DeviceCalls.{roll_device_calls}
use Rattle.mw_file.specs.PlaceStates.{commit_writes}
use Rattle.mw_file.specs.Run.{Ran}
use Rattle.mw_file.proofs.RollLoop.{on_ok}
use Rattle.mw_file.proofs.Ready.{roll_as, second_as, rolled_as}
use Rattle.mw_file.proofs.Recalled.{repair_is, repair_listed, roll_recalled, finish_durable}
use Rattle.mw_file.proofs.opening.finish.Goals as goal

pub returns-clause-calls : goal.returns-clause-calls
returns-clause-calls g c =
    let f = g.D.Disk.facts c.args.disk.now in
    let f2 = g.D.Disk.facts c.repair-ran.new.disk in
    subst (λ (n : ℕ). Ran n f f2 c.repair-ran.result) (repair_is c.args.image.now c.recall.new.states c.recall.ensures) c.repair-ran.ensures.calls

pub returns-clause-moments : goal.returns-clause-moments
returns-clause-moments g c contents can =
    let f = g.D.Disk.facts c.args.disk.now in
    let f2 = g.D.Disk.facts c.repair-ran.new.disk in
    let image = c.args.image.now in
    let states = c.recall.new.states in
    let at = c.at.ensures.value in
    let is = c.words.ensures.value in
    let roll = roll_as f _ _ _ _ states contents at is (roll_recalled image states c.recall.ensures f contents can) in
    second_as (λ k n p. LeavesOnly f f2 (HasSecond k n p contents)) _ _ _ _ _ _ at is c.recall.ensures.count (c.repair-ran.ensures.moments contents roll)

pub returns-clause-read : goal.returns-clause-read
returns-clause-read g c contents can =
    let f = g.D.Disk.facts c.args.disk.now in
    let f2 = g.D.Disk.facts c.repair-ran.new.disk in
    let image = c.args.image.now in
    let states = c.recall.new.states in
    let at = c.at.ensures.value in
    let is = c.words.ensures.value in
    let roll = roll_as f _ _ _ _ states contents at is (roll_recalled image states c.recall.ensures f contents can) in
    second_as (λ k n p. HasSecond k n p contents f2.reads) _ _ _ _ _ _ at is c.recall.ensures.count (c.repair-ran.ensures.read contents roll)

pub returns-clause-done : goal.returns-clause-done
returns-clause-done g c =
    let f = g.D.Disk.facts c.args.disk.now in
    let f2 = g.D.Disk.facts c.repair-ran.new.disk in
    let image = c.args.image.now in
    let states = c.recall.new.states in
    let at = c.at.ensures.value in
    let is = c.words.ensures.value in
    on_ok _ _ c.repair-ran.result (λ done contents can.
    let roll = roll_as f _ _ _ _ states contents at is (roll_recalled image states c.recall.ensures f contents can) in
    let has = second_as (λ k n p. HasSecond k n p contents f2.reads) _ _ _ _ _ _ at is refl (c.repair-ran.ensures.read contents roll) in
    let rolled = rolled_as f f2 _ _ _ _ states at is (done contents roll) in
    finish_durable image states c.recall.ensures f contents can f2 c.set_free.new.states has rolled c.set_free.auto.states c.set_free.ensures) c.repair-ran.ensures.done

pub returns-clause-touched : goal.returns-clause-touched
returns-clause-touched g c contents can =
    let f = g.D.Disk.facts c.args.disk.now in
    let f2 = g.D.Disk.facts c.repair-ran.new.disk in
    let image = c.args.image.now in
    let states = c.recall.new.states in
    let at = c.at.ensures.value in
    let roll = roll_as f _ _ _ _ states contents at c.words.ensures.value (roll_recalled image states c.recall.ensures f contents can) in
    subst (λ (n : ℕ). Touched (λ k. n ≤ k) f f2) at (c.repair-ran.ensures.touched contents roll)

pub returns-clause-made : goal.returns-clause-made
returns-clause-made g c =
    let image = c.args.image.now in
    let states = c.recall.new.states in
    let list =
    ap (λ k. if commit_writes states == 0 then [] else roll_device_calls k c.words.result 0 states) c.at.ensures.value
    ∙ ap (λ n. if commit_writes states == 0 then [] else roll_device_calls (at_of image) n 0 states) c.words.ensures.value
    ∙ repair_listed image states c.recall.ensures in
    subst (λ (calls : List DeviceCall). Makes g.D.Disk.made calls (is_ok c.repair-ran.result) c.args.disk.now c.repair-ran.new.disk) list c.repair-ran.ensures.made
