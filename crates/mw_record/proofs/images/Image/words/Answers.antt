-- Goals of `Image::words` (src/images.rt).
use Rattle.std.proofs.Common.{arith}
use Rattle.mw_record.proofs.Undamaged.{sizes}
use Rattle.mw_record.proofs.images.Image.words.Goals as goal

pub returns-clause-some : goal.returns-clause-some
returns-clause-some c = omega (arith, (sizes _ c.self.invariant.0.undamaged).some_word, c.self.invariant.0.same_words)

pub returns-clause-fits : goal.returns-clause-fits
returns-clause-fits c = omega (arith, (sizes _ c.self.invariant.0.undamaged).words_fit, c.self.invariant.0.same_words)
