-- Proves the law `moves_keep_values`.
use Rattle.mw_law_runs.proofs.Moves.ValuesOverTurns.{turns_keep_values}
use Rattle.mw_law_runs.proofs.Moves.ValuesOverMoves.{moves_keep_values, seals_put_values}
use Rattle.mw_law_runs.proofs.Moves.ValuesFromHistory.{words_tell}
use Rattle.mw_law_runs.proofs.move_laws.moves_keep_values.Goals as goal

pub returns-clause-told : goal.returns-clause-told
returns-clause-told c = words_tell

pub returns-clause-same : goal.returns-clause-same
returns-clause-same c = moves_keep_values

pub returns-clause-sealed : goal.returns-clause-sealed
returns-clause-sealed c = seals_put_values

pub returns-clause-turns : goal.returns-clause-turns
returns-clause-turns c = turns_keep_values
