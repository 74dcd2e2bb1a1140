-- Proves the law `steps_are_moves`.
use Rattle.mw_law_runs.proofs.Moves.CallMoves.{calls_are_moves}
use Rattle.mw_law_runs.proofs.Moves.StepsKeepMemory.{comes_leave, hands_leave}
use Rattle.mw_law_runs.proofs.Moves.TurnMoves.{turns_are_moves}
use Rattle.mw_law_runs.proofs.move_laws.steps_are_moves.Goals as goal

pub returns-clause-turns : goal.returns-clause-turns
returns-clause-turns c = turns_are_moves

pub returns-clause-calls : goal.returns-clause-calls
returns-clause-calls c = calls_are_moves

pub returns-clause-comes : goal.returns-clause-comes
returns-clause-comes c = comes_leave

pub returns-clause-hands : goal.returns-clause-hands
returns-clause-hands c = hands_leave
