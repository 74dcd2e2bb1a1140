-- Goals of `show_image` (src/lines.rt).
use Rattle.std.proofs.Common.{◌++◌, List, ℕ}
use Rattle.std.proofs.KnownBytes.{Appends-trans}
use Rattle.mw_record.specs.Damages.{at_of, layout_of}
use Rattle.mw_file_text.specs.Text.{layout_line, sizes_text, records_text, words_text}
use Rattle.mw_file_text.proofs.Written.{last_piece}
use Rattle.mw_file_text.proofs.lines.show_image.Goals as goal

-- the four pieces follow each other
pub returns : goal.returns
returns g c =
    let W = g.O.Write.contents in
    let image = c.args.image.now in
    let layout : List ℕ = layout_line (layout_of image) (at_of image) in
    let sizes : List ℕ = layout ++ sizes_text image in
    let a = Appends-trans (W c.args.out.now) (W c.show_layout.new.out) (W c.show_sizes.new.out) layout (sizes_text image) c.in_ok-show_layout.ensures c.in_ok-show_sizes.ensures in
    let b = Appends-trans (W c.args.out.now) (W c.show_sizes.new.out) (W c.show_records.new.out) sizes (records_text image) a c.in_ok-show_records.ensures in
    last_piece c.show_words.result (W c.args.out.now) (W c.show_records.new.out) (W c.show_words.new.out) (sizes ++ records_text image) (words_text c.args.all_words image) b
    c.show_words.ensures
