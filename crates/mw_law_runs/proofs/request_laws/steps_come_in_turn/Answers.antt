-- Proves the law `steps_come_in_turn`.
use Rattle.mw_law_runs.proofs.Requests.OrderLaws.{steps-come-in-turn}
use Rattle.mw_law_runs.proofs.request_laws.steps_come_in_turn.Goals as goal

pub returns : goal.returns
returns c = steps-come-in-turn
