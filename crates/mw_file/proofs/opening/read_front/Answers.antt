-- Goals of `read_front` (src/opening.rt).
use Rattle.std.proofs.Common.{◌≡◌, ◌+◌, ◌-◌, ap, take, length, min, is_ok, arith, sym, ◌∙◌}
use Rattle.std.proofs.lemmas.Bool.{eqb-false}
use Rattle.mw_disk.proofs.RunLaws.{touched_none, touched_quiet}
use Rattle.mw_file.specs.RollForward.{Nowhere}
use Rattle.mw_file.proofs.OpeningCallLaws.{front_made}
use Rattle.mw_file.proofs.Ran.{ran_one}
use Rattle.mw_file.proofs.RollLoop.{on_ok}
use Rattle.std.proofs.lemmas.Grind.{common_steps}
use Rattle.mw_file.proofs.opening.read_front.Goals as goal

pub returns-then-is_empty-clause-touched : goal.returns-then-is_empty-clause-touched
returns-then-is_empty-clause-touched g c honest = touched_none Nowhere (g.D.Disk.facts c.args.disk.now)

pub returns-clause-calls : goal.returns-clause-calls
returns-clause-calls g c =
    let some = eqb-false (length c.args.bytes.now) 0 (sym c.is_empty.ensures ∙ c.if-is_empty.false) in
    let one : min 1 (length c.args.bytes.now) ≡ 1 = omega (arith, some) in
    ran_one (min 1 (length c.args.bytes.now)) (g.D.Disk.facts c.args.disk.now) (g.D.Disk.facts c.read_at.new.self) c.read_at.result one c.read_at.ensures.call
    (λ honest. c.read_at.ensures.spared (let w = c.requires.within honest in omega (arith, w)))

pub returns-clause-touched : goal.returns-clause-touched
returns-clause-touched g c honest =
    touched_quiet Nowhere (g.D.Disk.facts c.args.disk.now) (g.D.Disk.facts c.read_at.new.self) _ c.read_at.ensures.call (c.read_at.ensures.crash honest) (c.read_at.ensures.same honest)

pub returns-clause-read : goal.returns-clause-read
returns-clause-read g c =
    let n = length c.args.bytes.now in
    let all : 0 + n - 0 ≡ n = omega arith in
    on_ok _ _ c.read_at.result (λ read honest long. (read honest).1 ∙ ap (λ k. take k (g.D.Disk.facts c.args.disk.now).reads) all) c.read_at.ensures.read

pub returns-clause-made : goal.returns-clause-made
returns-clause-made g c =
    front_made g.D.Disk.made (length c.args.bytes.now) (is_ok c.read_at.result) c.args.disk.now c.read_at.new.self (sym c.is_empty.ensures ∙ c.if-is_empty.false) c.read_at.ensures.made

pub returns-then-is_empty-clause-read : goal.returns-then-is_empty-clause-read
returns-then-is_empty-clause-read c = grind (arith, common_steps)
