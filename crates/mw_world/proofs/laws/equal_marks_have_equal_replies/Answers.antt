-- Proves the law `equal_marks_have_equal_replies`.
use Rattle.mw_world.proofs.HeadlineConsequences.{equal_marks}
use Rattle.mw_world.proofs.laws.equal_marks_have_equal_replies.Goals as goal

pub returns : goal.returns
returns c = record { replies = equal_marks }
