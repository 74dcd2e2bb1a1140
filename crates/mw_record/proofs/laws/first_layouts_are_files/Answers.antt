-- Proves the law `first_layouts_are_files`.
use Rattle.mw_record.proofs.Sound.{first_file}
use Rattle.mw_record.proofs.laws.first_layouts_are_files.Goals as goal

pub returns : goal.returns
returns c = first_file
