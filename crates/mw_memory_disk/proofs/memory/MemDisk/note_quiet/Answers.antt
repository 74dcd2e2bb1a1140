-- Goals of `MemDisk::note_quiet` (src/memory.rt).
use Rattle.std.proofs.Common.{refl}
use Rattle.mw_memory_disk.specs.declared.event.Call.TheVariants.{Quiet}
use Rattle.mw_memory_disk.proofs.Left.{goes_on}
use Rattle.mw_memory_disk.proofs.memory.MemDisk.note_quiet.Goals as goal

pub invariant_of-self : goal.invariant_of-self
invariant_of-self c = goes_on c.self.inside.history _ _ (Quiet c.args.well) _ _ _ _ c.after-self-inside.ensures c.self.invariant refl refl

pub invariant_of-self-else-not-well : goal.invariant_of-self-else-not-well
invariant_of-self-else-not-well c = goes_on c.self.inside.history _ _ (Quiet c.args.well) _ _ _ _ c.after-self-inside.ensures c.self.invariant refl refl
