-- Proves the law `reads_turn_back_for_three_reasons`.
use Rattle.mw_law_store.proofs.ReadRetryLaws.{reads_find_their_way, reads_turn_back_for_three_reasons}
use Rattle.mw_law_store.proofs.laws.reads_turn_back_for_three_reasons.Goals as goal

pub returns-clause-ways : goal.returns-clause-ways
returns-clause-ways c = reads_find_their_way

pub returns-clause-reasons : goal.returns-clause-reasons
returns-clause-reasons c = reads_turn_back_for_three_reasons
