-- Proves the law `events_tell_points`.
use Rattle.mw_law_runs.proofs.Moves.WorkerPermissions.{events_tell_points}
use Rattle.mw_law_runs.proofs.move_laws.events_tell_points.Goals as goal

pub returns : goal.returns
returns c = events_tell_points
