-- Proves the law `one_spelling`.
use Rattle.mw_line.proofs.Commands.{one_command}
use Rattle.mw_line.proofs.laws.one_spelling.Goals as goal

pub returns : goal.returns
returns c = one_command
