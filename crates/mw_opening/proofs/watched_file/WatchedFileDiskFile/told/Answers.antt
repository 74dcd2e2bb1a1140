-- Goals of `told` (src/watched_file.rt).
use Rattle.std.proofs.Common.{refl}
use Rattle.mw_opening.specs.WatchedCalls.{NotMade, Once}
use Rattle.mw_opening.proofs.watched_file.WatchedFileDiskFile.told.Goals as goal

pub returns-in-Err : goal.returns-in-Err
returns-in-Err g c = record { made = NotMade c.in-Err.ensures refl }

pub returns : goal.returns
returns g c = record { made = Once c.ask.ensures }
