-- Goals of `Image::pair` (src/images.rt).
use Rattle.std.proofs.Common.{◌≡◌, ◌<◌, ap, sym, ◌∙◌, arith}
use Rattle.mw_record.specs.Records.{record_at}
use Rattle.mw_record.specs.Damages.{found_places}
use Rattle.mw_record.proofs.Undamaged.{sizes}
use Rattle.mw_record.proofs.TestsBelow.{address_below, formed_at}
use Rattle.mw_record.proofs.images.Image.pair.Goals as goal

pub overflow_cast-result : goal.overflow_cast-result
overflow_cast-result c =
    let file = c.self.inside.file in
    let places : file.places ≡ found_places c.args.self.now = c.self.invariant.0.same_places ∙ ap found_places c.self.view_is in
    let within : c.args.place < file.places = omega (arith, c.requires.place, places) in
    let formed = formed_at file.layout file.words file.places c.args.place (record_at file.layout file.bytes.now file.words) c.in-Some.record file.formed within (sym c.in-Some.ensures) in
    let low = address_below file.layout file.words c.in-Some.record c.args.i c.entry-addr.result formed c.entry-addr.ensures in
    let few = (sizes _ c.self.invariant.0.undamaged).words_fit in
    omega (arith, low, few, c.self.invariant.0.same_words)
