-- Goals of `MemDisk::write_at of Disk` (src/memory.rt).
use Rattle.std.proofs.Common.{inl, length, refl, ◌∙◌, rules}
use Rattle.mw_memory_disk.proofs.Remembered.{went_called, went_spared, fails_called, fails_spared, refused_called, refused_spared, fails_tears, fails_torn, wrote_tears, wrote_torn, wrote_written}
use Rattle.mw_memory_disk.specs.declared.event.Call.TheVariants.{Wrote, Tore}
use Rattle.mw_memory_disk.proofs.Made.{went_ends, fails_made, refused_made}
use Rattle.mw_memory_disk.proofs.memory.MemDiskDisk.write_at.Goals as goal

pub returns-then-ne-clause-crash : goal.returns-then-ne-clause-crash
returns-then-ne-clause-crash c = fails_tears c.begin-turn.result c.args.at _ _ _ c.fail_write.new.self c.begin-turn.ensures.begun c.fail_write.ensures

pub returns-then-ne-clause-torn : goal.returns-then-ne-clause-torn
returns-then-ne-clause-torn c = fails_torn c.begin-turn.result c.args.at _ _ _ c.fail_write.new.self c.begin-turn.ensures.begun c.fail_write.ensures

pub returns-in-Ok-clause-crash : goal.returns-in-Ok-clause-crash
returns-in-Ok-clause-crash c = wrote_tears c.args.at c.args.bytes.now _ _ _ c.begin-turn.ensures.begun c.in-Ok.ensures.ok

pub returns-in-Ok-clause-torn : goal.returns-in-Ok-clause-torn
returns-in-Ok-clause-torn c = wrote_torn c.args.at c.args.bytes.now _ _ _ c.begin-turn.ensures.begun c.in-Ok.ensures.ok

pub returns-in-Ok-clause-written : goal.returns-in-Ok-clause-written
returns-in-Ok-clause-written c fits = wrote_written c.args.at c.args.bytes.now _ _ _ c.begin-turn.ensures.begun c.in-Ok.ensures.ok fits

pub returns-then-ne-clause-call : goal.returns-then-ne-clause-call
returns-then-ne-clause-call c = fails_called _ c.begin-turn.result _ _ c.fail_write.new.self refl c.begin-turn.ensures.begun c.fail_write.ensures

pub returns-then-ne-clause-spared : goal.returns-then-ne-clause-spared
returns-then-ne-clause-spared c = fails_spared _ c.begin-turn.result _ _ c.fail_write.new.self c.begin-turn.ensures.turn c.begin-turn.ensures.begun c.fail_write.ensures

pub returns-in-Ok-clause-call : goal.returns-in-Ok-clause-call
returns-in-Ok-clause-call c = went_called _ c.begin-turn.result _ _ _ refl c.begin-turn.ensures.turn (search rules) c.begin-turn.ensures.begun c.in-Ok.ensures.ok

pub returns-in-Ok-clause-spared : goal.returns-in-Ok-clause-spared
returns-in-Ok-clause-spared c = went_spared c.args.self.now c.put.new.self

pub returns-in-Err-clause-call : goal.returns-in-Err-clause-call
returns-in-Err-clause-call c = refused_called _ _ _ (c.in-Err.ensures.err ∙ c.begin-turn.ensures.begun) c.refuse.ensures

pub returns-in-Err-clause-spared : goal.returns-in-Err-clause-spared
returns-in-Err-clause-spared c = refused_spared _ _ _ (c.in-Err.ensures.err ∙ c.begin-turn.ensures.begun) c.refuse.ensures

pub returns-then-ne-clause-made : goal.returns-then-ne-clause-made
returns-then-ne-clause-made c =
    fails_made c.begin-turn.result c.args.at c.args.bytes.now _ _ _ c.begin-turn.ensures.turn (search rules) c.begin-turn.ensures.begun c.fail_write.ensures

pub returns-in-Ok-clause-made : goal.returns-in-Ok-clause-made
returns-in-Ok-clause-made c = inl
    (went_ends _ c.begin-turn.result (Wrote c.args.at c.args.bytes.now) (Tore c.args.at (length c.args.bytes.now)) _ _ _ c.begin-turn.ensures.turn (search rules)
    c.begin-turn.ensures.begun c.in-Ok.ensures.ok)

pub returns-in-Err-clause-made : goal.returns-in-Err-clause-made
returns-in-Err-clause-made c =
    refused_made c.begin-turn.result c.args.at c.args.bytes.now _ _ _ c.begin-turn.ensures.turn (search rules)
    (c.in-Err.ensures.err ∙ c.begin-turn.ensures.begun) c.refuse.ensures
