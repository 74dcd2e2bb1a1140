-- Goals of `sync_once` (src/watched_file.rt).
use Rattle.std.proofs.Common.{refl}
use Rattle.mw_opening.specs.WatchedCalls.{NotMade}
use Rattle.mw_opening.proofs.watched_file.WatchedFileDiskFile.sync_once.Goals as goal

pub returns-in-Err : goal.returns-in-Err
returns-in-Err g c = record { made = NotMade c.in-Err.ensures refl }
