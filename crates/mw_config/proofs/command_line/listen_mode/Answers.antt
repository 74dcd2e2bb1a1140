-- Goals of `listen_mode` (src/command_line.rt).
use Rattle.std.proofs.Common.{refl, arith}
use Rattle.std.proofs.lemmas.Grind.{common_steps}
use Rattle.mw_config.proofs.command_line.listen_mode.Goals as goal

-- the addresses are those that were given
pub returns-clause-listens : goal.returns-clause-listens
returns-clause-listens c = (_, refl, c.in_ok-address.ensures.address, c.in_ok-address.ensures.admin, c.in_ok-address.ensures.http)

pub returns-clause-permitted : goal.returns-clause-permitted
returns-clause-permitted c = grind (arith, common_steps)

pub returns-clause-suits : goal.returns-clause-suits
returns-clause-suits c = grind (arith, common_steps)
