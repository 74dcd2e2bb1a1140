-- Proves the law `books_follow_file_tokens`.
use Rattle.mw_core.proofs.Agreement.{books_follow_file_tokens, books_take_calls}
use Rattle.mw_core.proofs.laws.books_follow_file_tokens.Goals as goal

pub returns-clause-start : goal.returns-clause-start
returns-clause-start g c = books_take_calls g.D.Disk.facts

pub returns-clause-after : goal.returns-clause-after
returns-clause-after g c = books_follow_file_tokens g.D.Disk.facts
