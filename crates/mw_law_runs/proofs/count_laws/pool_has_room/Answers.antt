-- Proves the law `pool_has_room`.
use Rattle.mw_law_runs.proofs.Counts.Room.{doors-count-the-taken, who-waits-has-room}
use Rattle.mw_law_runs.proofs.count_laws.pool_has_room.Goals as goal

pub returns : goal.returns
returns c = record { taken = doors-count-the-taken; free = who-waits-has-room }
