-- Goals of `front` (src/opening.rt).
use Rattle.std.proofs.Common.{◌≡◌, ◌+◌, ℕ, length, min, arith, sym, ap, ◌∙◌, refl, true, subst, false}
use Rattle.mw_disk.specs.Runs.{Good}
use Rattle.mw_disk.proofs.RunLaws.{good_call, good_trans, then_bad, bad_wider, called_later, still_honest, touched_trans, touched_quiet, later_trans}
use Rattle.mw_record.specs.declared.layout.TheConstants.{MAX_FILE}
use Rattle.mw_file.specs.RollForward.{Nowhere}
use Rattle.mw_file.proofs.Ended.{went_well}
use Rattle.mw_file.proofs.Opened.{whole, front_read}
use Rattle.mw_file.proofs.Ran.{ran_well, ran_badly}
use Rattle.mw_file.proofs.opening.front.Goals as goal

pub returns-then-is_err-clause-ends : goal.returns-then-is_err-clause-ends
returns-then-is_err-clause-ends g c =
    let f0 = g.D.Disk.facts c.args.disk.now in
    let f1 = g.D.Disk.facts c.len.new.self in
    let f2 = g.D.Disk.facts c.read_front.new.disk in
    let n = min 1 (length c.deref_mut.result.now) in
    bad_wider (1 + n) 2 f0 f2 (omega arith)
    (then_bad 1 n f0 f1 f2 (good_call f0 f1 c.in-Ok.ensures.call) (ran_badly n n f1 f2 _ refl (sym c.is_err.ensures.value ∙ c.if-is_err.true) c.read_front.ensures.calls))

pub returns-then-is_err-clause-touched : goal.returns-then-is_err-clause-touched
returns-then-is_err-clause-touched g c honest =
    let f0 = g.D.Disk.facts c.args.disk.now in
    let f1 = g.D.Disk.facts c.len.new.self in
    let f2 = g.D.Disk.facts c.read_front.new.disk in
    touched_trans Nowhere f0 f1 f2 (touched_quiet Nowhere f0 f1 true c.in-Ok.ensures.call (c.in-Ok.ensures.crash honest) (c.in-Ok.ensures.same honest))
    (c.read_front.ensures.touched (still_honest f0 f1 (called_later f0 f1 true c.in-Ok.ensures.call) honest))

pub returns-clause-ends : goal.returns-clause-ends
returns-clause-ends g c =
    let f0 = g.D.Disk.facts c.args.disk.now in
    let f1 = g.D.Disk.facts c.len.new.self in
    let f2 = g.D.Disk.facts c.read_front.new.disk in
    let size = length c.deref_mut.result.now in
    let n = min 1 size in
    let well = sym c.is_err.ensures.value ∙ c.if-is_err.false in
    let size_is : size ≡ min c.in-Ok.len MAX_FILE = omega (arith, c.deref_mut.ensures.len, c.in-Ok-vec.ensures.len, c.min-size.ensures) in
    let is = whole _ c.read_front.new.bytes _ (c.read_front.auto.bytes ∙ c.deref_mut.ensures.len) in
    let long = ap length is ∙ c.read_front.auto.bytes in
    let so_far = good_trans 1 n f0 f1 f2 (good_call f0 f1 c.in-Ok.ensures.call) (ran_well n n f1 f2 _ refl well c.read_front.ensures.calls) in
    record {
      made = subst (λ (k : ℕ). Good (1 + min 1 k) f0 f2) (sym long) so_far;
      bytes_are = λ honest.
          let read = went_well c.read_front.result _ well c.read_front.ensures.read (still_honest f0 f1 (called_later f0 f1 true c.in-Ok.ensures.call) honest) in
          is ∙ front_read f0 f1 c.in-Ok.len _ _ (c.in-Ok.ensures.length honest) size_is (c.in-Ok.ensures.same honest) read;
    }

pub returns-clause-touched : goal.returns-clause-touched
returns-clause-touched g c honest =
    let f0 = g.D.Disk.facts c.args.disk.now in
    let f1 = g.D.Disk.facts c.len.new.self in
    let f2 = g.D.Disk.facts c.read_front.new.disk in
    touched_trans Nowhere f0 f1 f2 (touched_quiet Nowhere f0 f1 true c.in-Ok.ensures.call (c.in-Ok.ensures.crash honest) (c.in-Ok.ensures.same honest))
    (c.read_front.ensures.touched (still_honest f0 f1 (called_later f0 f1 true c.in-Ok.ensures.call) honest))

pub returns-then-is_err-clause-later : goal.returns-then-is_err-clause-later
returns-then-is_err-clause-later g c =
    let f0 = g.D.Disk.facts c.args.disk.now in
    let f1 = g.D.Disk.facts c.len.new.self in
    let f2 = g.D.Disk.facts c.read_front.new.disk in
    later_trans f0 f1 f2 (called_later f0 f1 true c.in-Ok.ensures.call) c.read_front.ensures.later

pub returns-clause-later : goal.returns-clause-later
returns-clause-later g c =
    let f0 = g.D.Disk.facts c.args.disk.now in
    let f1 = g.D.Disk.facts c.len.new.self in
    let f2 = g.D.Disk.facts c.read_front.new.disk in
    later_trans f0 f1 f2 (called_later f0 f1 true c.in-Ok.ensures.call) c.read_front.ensures.later

pub returns-in_default-clause-touched : goal.returns-in_default-clause-touched
returns-in_default-clause-touched g c honest =
    touched_quiet Nowhere (g.D.Disk.facts c.args.disk.now) (g.D.Disk.facts c.len.new.self) false c.in_default.ensures.call (c.in_default.ensures.crash honest) (c.in_default.ensures.same honest)

pub returns-in_default-vec-clause-touched : goal.returns-in_default-vec-clause-touched
returns-in_default-vec-clause-touched g c honest =
    touched_quiet Nowhere (g.D.Disk.facts c.args.disk.now) (g.D.Disk.facts c.len.new.self) true c.in-Ok.ensures.call (c.in-Ok.ensures.crash honest) (c.in-Ok.ensures.same honest)
