-- Proves the law `torn_bytes_determine_the_image`.
use Rattle.std.proofs.Common.{length}
use Rattle.mw_memory_disk.specs.Memory.{memory_facts}
use Rattle.mw_memory_disk.specs.Crash.{unsynced}
use Rattle.mw_memory_disk.proofs.Determined.{same_image}
use Rattle.mw_memory_disk.proofs.laws.torn_bytes_determine_the_image.Goals as goal

pub returns : goal.returns
returns c disk torn = same_image (unsynced disk.log) torn (length torn) (memory_facts disk).reads
