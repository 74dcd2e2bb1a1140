-- Proves the law `second_layouts_have_their_words`.
use Rattle.mw_record.proofs.ClosedPlaces.{second_part_has, length-second_part}
use Rattle.mw_record.proofs.laws.second_layouts_have_their_words.Goals as goal

pub returns : goal.returns
returns c = record {
  has = second_part_has;
  long = length-second_part;
}
