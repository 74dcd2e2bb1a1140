-- Proves the law `calls_that_can_be_made`.
use Rattle.mw_book.proofs.PermittedCalls.{permits}
use Rattle.mw_book.proofs.laws.calls_that_can_be_made.Goals as goal

pub returns : goal.returns
returns g c = permits g.D.Disk.facts
