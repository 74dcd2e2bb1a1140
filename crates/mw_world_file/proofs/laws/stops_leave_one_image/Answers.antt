-- Proves the law `stops_leave_one_image`.
use Rattle.mw_world_file.proofs.ExactDisks.{one_image}
use Rattle.mw_world_file.proofs.laws.stops_leave_one_image.Goals as goal

pub returns : goal.returns
returns c = one_image
