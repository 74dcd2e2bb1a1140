-- Proves the law `undamaged_files_have_words`.
use Rattle.mw_record.proofs.Sound.{undamaged_iff}
use Rattle.mw_record.proofs.laws.undamaged_files_have_words.Goals as goal

pub returns : goal.returns
returns c = undamaged_iff
