-- Goals of `MemDisk::note_sync` (src/memory.rt).
use Rattle.std.proofs.Common.{refl}
use Rattle.mw_memory_disk.specs.declared.event.Call.TheVariants.{Synced}
use Rattle.mw_memory_disk.proofs.Left.{goes_on}
use Rattle.mw_memory_disk.proofs.memory.MemDisk.note_sync.Goals as goal

pub invariant_of-self : goal.invariant_of-self
invariant_of-self c = goes_on c.self.inside.history _ _ Synced _ _ _ _ c.after-self-inside.ensures c.self.invariant refl c.clear.ensures.items
