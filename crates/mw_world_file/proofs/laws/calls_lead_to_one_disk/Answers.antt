-- Proves the law `calls_lead_to_one_disk`.
use Rattle.mw_world_file.proofs.ExactDisks.{one_disk}
use Rattle.mw_world_file.proofs.laws.calls_lead_to_one_disk.Goals as goal

pub returns : goal.returns
returns c = one_disk
