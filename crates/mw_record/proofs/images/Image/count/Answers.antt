-- Goals of `Image::count` (src/images.rt).
use Rattle.std.proofs.Common.{◌≡◌, ◌<◌, ap, sym, ◌∙◌, arith}
use Rattle.mw_record.specs.Records.{record_at}
use Rattle.mw_record.specs.Damages.{found_places}
use Rattle.mw_record.proofs.TestsBelow.{few_entries, some_entries, formed_at}
use Rattle.mw_record.proofs.Layouts.{most_entries_fit}
use Rattle.mw_record.proofs.images.Image.count.Goals as goal

pub overflow_cast-result : goal.overflow_cast-result
overflow_cast-result c =
    let file = c.self.inside.file in
    let places : file.places ≡ found_places c.args.self.now = c.self.invariant.0.same_places ∙ ap found_places c.self.view_is in
    let within : c.args.place < file.places = omega (arith, c.requires, places) in
    let formed = formed_at file.layout file.words file.places c.args.place (record_at file.layout file.bytes.now file.words) c.in-Some.record file.formed within (sym c.in-Some.ensures) in
    omega (arith, few_entries file.layout file.words c.in-Some.record formed, most_entries_fit file.layout, c.len.ensures)

pub returns-in-Some-clause-fits : goal.returns-in-Some-clause-fits
returns-in-Some-clause-fits c =
    let file = c.self.inside.file in
    let places : file.places ≡ found_places c.args.self.now = c.self.invariant.0.same_places ∙ ap found_places c.self.view_is in
    let within : c.args.place < file.places = omega (arith, c.requires, places) in
    let formed = formed_at file.layout file.words file.places c.args.place (record_at file.layout file.bytes.now file.words) c.in-Some.record file.formed within (sym c.in-Some.ensures) in
    omega (arith, few_entries file.layout file.words c.in-Some.record formed, most_entries_fit file.layout, c.len.ensures)

pub returns-in-Some-clause-closed : goal.returns-in-Some-clause-closed
returns-in-Some-clause-closed c zero =
    let file = c.self.inside.file in
    let places : file.places ≡ found_places c.args.self.now = c.self.invariant.0.same_places ∙ ap found_places c.self.view_is in
    let within : c.args.place < file.places = omega (arith, c.requires, places) in
    let formed = formed_at file.layout file.words file.places c.args.place (record_at file.layout file.bytes.now file.words) c.in-Some.record file.formed within (sym c.in-Some.ensures) in
    absurd (let e : ⊥ = omega (arith, some_entries file.layout file.words c.in-Some.record formed, c.len.ensures, zero) in e)
