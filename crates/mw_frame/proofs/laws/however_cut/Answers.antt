-- Proves the law `however_cut`.
use Rattle.mw_frame.proofs.GivenLines.{however-cut, same-lines}
use Rattle.mw_frame.proofs.laws.however_cut.Goals as goal

pub returns : goal.returns
returns c = record { whole = however-cut; same_lines = same-lines }
