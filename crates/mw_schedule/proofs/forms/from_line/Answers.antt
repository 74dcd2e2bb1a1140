-- Goals of `from_line` (src/forms.rt).
use Rattle.std.proofs.Common.{ap, sym, ◌∙◌, arith}
use Rattle.mw_schedule.specs.Forms.{behind_end}
use Rattle.mw_schedule.proofs.FormLines.{ends, passes}
use Rattle.mw_schedule.proofs.forms.from_line.Goals as goal

pub returns-in-None : goal.returns-in-None
returns-in-None c = sym (ends c.loop-at.at c.args.number c.loop-at.rest.now c.loop-at-test.true c.in-None.ensures.read) ∙ c.loop-at.invariant.left

pub loop-at-preserved : goal.loop-at-preserved
loop-at-preserved c = record {
  begun = omega (arith, c.loop-at.invariant.begun);
  left = passes c.loop-at.at c.args.number c.loop-at.rest.now c.in-Some.after.now c.loop-at-test.true (ap behind_end c.in-Some.ensures.read) ∙ c.loop-at.invariant.left;
}
