-- Goals of `MemDisk::note_torn` (src/memory.rt).
use Rattle.std.proofs.Common.{refl}
use Rattle.mw_memory_disk.specs.declared.event.Call.TheVariants.{Tore}
use Rattle.mw_memory_disk.proofs.Left.{goes_on}
use Rattle.mw_memory_disk.proofs.memory.MemDisk.note_torn.Goals as goal

pub invariant_of-self-2 : goal.invariant_of-self-2
invariant_of-self-2 c = goes_on c.self.inside.history _ _ (Tore c.args.at c.args.len) _ _ _ _ c.after-self-inside.ensures c.self.invariant refl c.in_ok-push.ensures.items
