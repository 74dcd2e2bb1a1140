-- Proves the law `calls_determine_the_disk`.
use Rattle.mw_memory_disk.proofs.Determined.{same_disk}
use Rattle.mw_memory_disk.proofs.laws.calls_determine_the_disk.Goals as goal

pub returns : goal.returns
returns c = same_disk
