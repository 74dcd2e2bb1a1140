-- Proves the law `second_layouts_are_files`.
use Rattle.mw_record.proofs.Sound.{second_file}
use Rattle.mw_record.proofs.laws.second_layouts_are_files.Goals as goal

pub returns : goal.returns
returns c = second_file
