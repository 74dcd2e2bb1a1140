-- Proves the law `file_calls_lead_to_one_disk`.
use Rattle.mw_simulator.proofs.CalledDisks.{one_called_disk}
use Rattle.mw_simulator.proofs.laws.file_calls_lead_to_one_disk.Goals as goal

pub returns : goal.returns
returns c = one_called_disk
