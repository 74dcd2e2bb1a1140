-- Goals of `Image::word` (src/images.rt).
use Rattle.std.proofs.Common.{Some, ap, sym, ◌∙◌}
use Rattle.mw_record.proofs.Undamaged.{read_word}
use Rattle.mw_record.proofs.images.Image.word.Goals as goal

pub returns : goal.returns
returns c =
    let file = c.self.inside.file in
    let sound = c.self.invariant.0 in
    read_word _ c.args.self.now file.layout file.bytes.now file.words file.places c.args.addr c.self.view_is sound.same_layout c.self.invariant.1 sound.same_words sound.same_places c.requires
    ∙ ap Some (sym c.word.ensures)
