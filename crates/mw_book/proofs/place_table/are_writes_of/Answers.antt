-- Goals of `are_writes_of` (src/place_table.rt).
use Rattle.std.proofs.Common.{sym, arith}
use Rattle.mw_book.proofs.WrittenPlaces.{unlike}
use Rattle.std.proofs.lemmas.Grind.{common_steps}
use Rattle.mw_book.proofs.place_table.are_writes_of.Goals as goal

pub returns-then-writes-entries : goal.returns-then-writes-entries
returns-then-writes-entries c = sym (unlike c.args.writes.now c.args.entries.now c.if-writes-entries.true)

pub loop-i-preserved : goal.loop-i-preserved
loop-i-preserved c = grind (arith, common_steps)

pub returns-then-writes-i : goal.returns-then-writes-i
returns-then-writes-i c = grind (arith, common_steps)

pub returns : goal.returns
returns c = grind (arith, common_steps)
