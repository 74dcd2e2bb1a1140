-- Goals of `MemDisk::sync of Disk` (src/memory.rt).
use Rattle.std.proofs.Common.{true, false, refl, rules}
use Rattle.mw_memory_disk.proofs.Remembered.{went_called, went_spared, fails_called, fails_spared, fails_nothing, fails_same, sync_nothing, sync_same, sync_rest}
use Rattle.mw_memory_disk.specs.declared.event.Call.TheVariants.{Quiet, Synced}
use Rattle.mw_memory_disk.proofs.Made.{quiet_fails, went_ends, fails_ends}
use Rattle.mw_memory_disk.proofs.memory.MemDiskDisk.sync.Goals as goal

pub returns-then-ne-clause-crash : goal.returns-then-ne-clause-crash
returns-then-ne-clause-crash c = fails_nothing c.begin-turn.result _ _ c.fail.new.self c.begin-turn.ensures.begun (quiet_fails c.begin-turn.result (Quiet true) (Quiet false) _ _ (search rules) c.fail.ensures)

pub returns-then-ne-clause-same : goal.returns-then-ne-clause-same
returns-then-ne-clause-same c = fails_same c.begin-turn.result _ _ c.fail.new.self c.begin-turn.ensures.begun (quiet_fails c.begin-turn.result (Quiet true) (Quiet false) _ _ (search rules) c.fail.ensures)

pub returns-clause-crash : goal.returns-clause-crash
returns-clause-crash c = sync_nothing _ _ _ c.begin-turn.ensures.begun c.note_sync.ensures

pub returns-clause-same : goal.returns-clause-same
returns-clause-same c = sync_same _ _ _ c.begin-turn.ensures.begun c.note_sync.ensures

pub returns-clause-durable : goal.returns-clause-durable
returns-clause-durable c = sync_rest _ _ _ c.begin-turn.ensures.begun c.note_sync.ensures

pub returns-then-ne-clause-call : goal.returns-then-ne-clause-call
returns-then-ne-clause-call c = fails_called _ c.begin-turn.result _ _ c.fail.new.self refl c.begin-turn.ensures.begun (quiet_fails c.begin-turn.result (Quiet true) (Quiet false) _ _ (search rules) c.fail.ensures)

pub returns-then-ne-clause-spared : goal.returns-then-ne-clause-spared
returns-then-ne-clause-spared c = fails_spared _ c.begin-turn.result _ _ c.fail.new.self c.begin-turn.ensures.turn c.begin-turn.ensures.begun (quiet_fails c.begin-turn.result (Quiet true) (Quiet false) _ _ (search rules) c.fail.ensures)

pub returns-clause-call : goal.returns-clause-call
returns-clause-call c = went_called _ c.begin-turn.result _ _ _ refl c.begin-turn.ensures.turn (search rules) c.begin-turn.ensures.begun c.note_sync.ensures

pub returns-clause-spared : goal.returns-clause-spared
returns-clause-spared c = went_spared c.args.self.now c.note_sync.new.self

pub returns-then-ne-clause-made : goal.returns-then-ne-clause-made
returns-then-ne-clause-made c =
    fails_ends _ c.begin-turn.result Synced (Quiet true) (Quiet false) _ _ _ c.begin-turn.ensures.turn (search rules) c.begin-turn.ensures.begun c.fail.ensures

pub returns-clause-made : goal.returns-clause-made
returns-clause-made c =
    went_ends _ c.begin-turn.result Synced (Quiet false) _ _ _ c.begin-turn.ensures.turn (search rules) c.begin-turn.ensures.begun c.note_sync.ensures
