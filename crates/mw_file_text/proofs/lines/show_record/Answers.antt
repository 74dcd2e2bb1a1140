-- Goals of `show_record` (src/lines.rt).
use Rattle.std.proofs.Common.{arith}
use Rattle.mw_file_text.proofs.Written.{item_more}
use Rattle.mw_record.specs.Damages.{pairs_in}
use Rattle.mw_file_text.specs.Text.{entry_line}
use Rattle.std.proofs.lemmas.Grind.{common_steps}
use Rattle.mw_file_text.proofs.lines.show_record.Goals as goal

pub loop-i-preserved : goal.loop-i-preserved
loop-i-preserved g c =
    let W = g.O.Write.contents in
    item_more (W c.args.out.now) (W c.loop-i.out) (W c.show_entry.new.out) (entry_line c.args.place) (pairs_in c.args.image.now c.args.place) c.loop-i.i c.pair.result c.pair.ensures
    c.loop-i.invariant c.in_ok-show_entry.ensures

pub returns : goal.returns
returns c = grind (arith, common_steps)
