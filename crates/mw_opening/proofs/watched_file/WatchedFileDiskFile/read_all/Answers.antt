-- Goals of `read_all` (src/watched_file.rt).
use Rattle.std.proofs.Common.{refl, subst}
use Rattle.mw_disk.specs.FileCalls.{went_of}
use Rattle.mw_opening.specs.WatchedCalls.{IsShown, NotMade, Once}
use Rattle.mw_opening.proofs.watched_file.WatchedFileDiskFile.read_all.Goals as goal

pub returns-in-Err : goal.returns-in-Err
returns-in-Err g c = record { made = NotMade c.in-Err.ensures refl }

pub returns : goal.returns
returns g c =
    let below = c.read_all-read.result in
    let told = subst (λ outcome. IsShown (went_of outcome) (went_of c.keep_read.result)) c.ended-read.ensures c.keep_read.ensures in
    record { made = Once (went_of below, told, c.read_all-read.ensures.made) }
