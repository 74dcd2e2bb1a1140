-- Proves the law `first_layouts_stay`.
use Rattle.mw_record.proofs.ChangedBytes.{first_stays}
use Rattle.mw_record.proofs.laws.first_layouts_stay.Goals as goal

pub returns : goal.returns
returns c = first_stays
