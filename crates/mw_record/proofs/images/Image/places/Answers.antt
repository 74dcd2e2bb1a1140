-- Goals of `Image::places` (src/images.rt).
use Rattle.std.proofs.Common.{ap, arith}
use Rattle.mw_record.specs.Layout.{most_places}
use Rattle.mw_record.specs.Damages.{layout_of}
use Rattle.mw_record.proofs.Undamaged.{sizes}
use Rattle.mw_record.proofs.images.Image.places.Goals as goal

pub returns-clause-some : goal.returns-clause-some
returns-clause-some c = omega (arith, (sizes _ c.self.invariant.0.undamaged).some_place, c.self.invariant.0.same_places)

pub returns-clause-fits : goal.returns-clause-fits
returns-clause-fits c =
    let same = ap (λ xs. most_places (layout_of xs)) c.self.view_is in
    omega (arith, (sizes _ c.self.invariant.0.undamaged).places_fit, c.self.invariant.0.same_places, same)
