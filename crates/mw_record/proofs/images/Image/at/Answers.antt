-- Goals of `Image::at` (src/images.rt).
use Rattle.std.proofs.Common.{arith}
use Rattle.mw_record.proofs.Undamaged.{at_fits}
use Rattle.mw_record.proofs.images.Image.at.Goals as goal

pub returns-clause-fits : goal.returns-clause-fits
returns-clause-fits c = omega (arith, at_fits _ c.self.invariant.0.undamaged, c.self.invariant.0.same_at)
