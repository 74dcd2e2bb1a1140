-- Proves the law `sealed_changes_go_on`.
use Rattle.mw_law_store.proofs.ReplyPlaceLaws as calls
use Rattle.mw_law_store.proofs.laws.sealed_changes_go_on.Goals as goal

pub returns-clause-begin : goal.returns-clause-begin
returns-clause-begin c = calls.seals_begin

pub returns-clause-start : goal.returns-clause-start
returns-clause-start c = calls.starts_seal_nothing

pub returns-clause-go_on : goal.returns-clause-go_on
returns-clause-go_on c = calls.sealed_go_on

pub returns-clause-right : goal.returns-clause-right
returns-clause-right c = calls.sealed_are_right
