-- Proves the law `new_books_agree`.
use Rattle.mw_core.proofs.Agreement.{opened_books_agree, unopened_books_agree}
use Rattle.mw_core.proofs.laws.new_books_agree.Goals as goal

pub returns-clause-opened : goal.returns-clause-opened
returns-clause-opened g c = opened_books_agree g.D.Disk.facts

pub returns-clause-unopened : goal.returns-clause-unopened
returns-clause-unopened g c = unopened_books_agree g.D.Disk.facts
