-- Proves the law `new_files_have_zeros`.
use Rattle.mw_record.proofs.ClosedPlaces.{new_file_has, new_file_first, new_file_words}
use Rattle.mw_record.proofs.laws.new_files_have_zeros.Goals as goal

pub returns : goal.returns
returns c = record {
  has = new_file_has;
  not_switched = new_file_first;
  words = new_file_words;
}
