-- Goals of `show_records` (src/lines.rt).
use Rattle.mw_file_text.proofs.Written.{text_more}
use Rattle.mw_file_text.specs.Text.{record_text}
use Rattle.mw_file_text.proofs.lines.show_records.Goals as goal

pub loop-place-preserved : goal.loop-place-preserved
loop-place-preserved g c =
    let W = g.O.Write.contents in
    text_more (W c.args.out.now) (W c.loop-place.out) (W c.show_record.new.out) (record_text c.args.image.now) c.loop-place.place c.loop-place.invariant
    c.in_ok-show_record.ensures
