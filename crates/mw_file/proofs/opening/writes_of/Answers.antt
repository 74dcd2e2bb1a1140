-- Goals of `writes_of` (src/opening.rt).
use Rattle.std.proofs.Common.{arith}
use Rattle.mw_record.specs.Damages.{pairs_in}
use Rattle.mw_file.proofs.Recalled.{pairs_more}
use Rattle.std.proofs.lemmas.Grind.{common_steps}
use Rattle.mw_file.proofs.opening.writes_of.Goals as goal

pub loop-i-preserved : goal.loop-i-preserved
loop-i-preserved c = pairs_more (pairs_in c.args.image.now c.args.place) c.loop-i.writes.items c.push.new.self.items c.loop-i.i c.pair.result c.loop-i.invariant c.pair.ensures c.push.ensures.items

pub returns-clause-pairs : goal.returns-clause-pairs
returns-clause-pairs c = grind (arith, common_steps)
