-- Goals of `MemDisk::crash` (src/memory.rt).
use Rattle.std.proofs.Common.{rules}
use Rattle.mw_memory_disk.proofs.Remembered.{reads_left}
use Rattle.mw_memory_disk.proofs.TornBytes.{tears_left}
use Rattle.mw_memory_disk.proofs.memory.MemDisk.crash.Goals as goal

pub returns-clause-image : goal.returns-clause-image
returns-clause-image c = tears_left c.args.self.now c.args.torn.now c.tear.new.bytes.items (search rules)

pub returns-clause-reads : goal.returns-clause-reads
returns-clause-reads c = reads_left c.args.self.now

pub returns-in_err-bytes-clause-reads : goal.returns-in_err-bytes-clause-reads
returns-in_err-bytes-clause-reads c = reads_left c.args.self.now

pub returns-in_err-tear-clause-reads : goal.returns-in_err-tear-clause-reads
returns-in_err-tear-clause-reads c = reads_left c.args.self.now
