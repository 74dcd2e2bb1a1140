-- Proves the law `lines_stay`.
use Rattle.mw_frame.proofs.CutTexts.{lines-stay}
use Rattle.mw_frame.proofs.laws.lines_stay.Goals as goal

pub returns : goal.returns
returns c = lines-stay
