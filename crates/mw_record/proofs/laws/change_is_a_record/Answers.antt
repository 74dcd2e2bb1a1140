-- Proves the law `change_is_a_record`.
use Rattle.mw_record.proofs.ReadAgain.{record_of_change, values_of_change, numbers_of_change, put-put_pairs}
use Rattle.mw_record.proofs.laws.change_is_a_record.Goals as goal

pub returns : goal.returns
returns c = record {
  formed = record_of_change;
  values = values_of_change;
  numbers = numbers_of_change;
  puts = λ words entries. put-put_pairs entries words;
}
