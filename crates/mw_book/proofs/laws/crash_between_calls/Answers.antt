-- Proves the law `crash_between_calls`.
use Rattle.mw_book.proofs.RepresentedFiles.{untouched}
use Rattle.mw_book.proofs.laws.crash_between_calls.Goals as goal

pub returns : goal.returns
returns g c book file shows = untouched g.D.Disk.facts book.held file.contents file.doubt shows.stands
