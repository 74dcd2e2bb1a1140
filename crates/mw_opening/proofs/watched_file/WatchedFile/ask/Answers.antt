-- Goals of `ask` (src/watched_file.rt).
use Rattle.mw_disk.specs.FileCalls.{went_of}
use Rattle.mw_opening.proofs.watched_file.WatchedFile.ask.Goals as goal

pub returns : goal.returns
returns g c = (went_of c.told-told.result, c.keep_told.ensures, c.told-told.ensures.made)
