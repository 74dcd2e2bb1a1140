-- Proves the law `bytes_past_the_largest_file_do_not_matter`.
use Rattle.mw_record.proofs.FirstBytes.{is_switched_first, layout_of_first, at_of_first, damage_of_first, file_words_first, words_of_first, places_of_first, words_in_first, pairs_in_first}
use Rattle.mw_record.proofs.laws.bytes_past_the_largest_file_do_not_matter.Goals as goal

pub returns : goal.returns
returns c = record {
  switched = is_switched_first;
  layout = layout_of_first;
  at = at_of_first;
  damage = damage_of_first;
  file_words = file_words_first;
  words = words_of_first;
  places = places_of_first;
  contents = words_in_first;
  pairs = λ bytes place none lt. pairs_in_first bytes none place lt;
}
