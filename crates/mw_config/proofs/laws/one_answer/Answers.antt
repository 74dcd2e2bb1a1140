-- Proves the law `one_answer`.
use Rattle.mw_config.proofs.OneAnswer.{one_answer_is}
use Rattle.mw_config.proofs.laws.one_answer.Goals as goal

pub returns : goal.returns
returns c = one_answer_is
