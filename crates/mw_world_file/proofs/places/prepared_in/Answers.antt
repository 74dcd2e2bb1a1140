-- Goals of `prepared_in` (src/places.rt).
use Rattle.std.proofs.Common.{Some, length, refl, sym, ap, ◌∙◌}
use Rattle.std.proofs.lemmas.Bool.{ltb-true}
use Rattle.std.proofs.lemmas.Option.{slice_get_read}
use Rattle.mw_world_file.proofs.places.prepared_in.Goals as goal

pub returns-in-Some-Prepared : goal.returns-in-Some-Prepared
returns-in-Some-Prepared c =
    let places = c.args.places.now in
    let found = c.in-Some-Prepared.ensures.lookup in
    slice_get_read places (length places) c.args.number c.in-Some-Prepared.field-0.now refl (ltb-true c.args.number (length places) (sym found.0)) found.1 ∙ ap Some c.in-Some-Prepared.field-0-is
