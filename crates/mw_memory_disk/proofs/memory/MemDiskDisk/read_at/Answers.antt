-- Goals of `MemDisk::read_at of Disk` (src/memory.rt).
use Rattle.std.proofs.Common.{true, false, ℕ, refl, ◌+◌, List, length, ap, ◌∙◌, rules}
use Rattle.std.specs.List.{slice_range}
use Rattle.mw_memory_disk.proofs.Remembered.{read_called, read_spared, went_spared, fails_called, fails_nothing, fails_same, quiet_nothing, quiet_same, read_there}
use Rattle.mw_memory_disk.specs.declared.event.Call.TheVariants.{Quiet}
use Rattle.mw_memory_disk.proofs.Made.{quiet_fails, went_ends, fails_ends, read_asked}
use Rattle.mw_memory_disk.proofs.memory.MemDiskDisk.read_at.Goals as goal

pub returns-then-ne-clause-crash : goal.returns-then-ne-clause-crash
returns-then-ne-clause-crash c = fails_nothing c.only_if-turn.result _ _ c.fail.new.self c.begin-turn.ensures.begun (quiet_fails c.only_if-turn.result (Quiet true) (Quiet false) _ _ (search rules) c.fail.ensures)

pub returns-then-ne-clause-same : goal.returns-then-ne-clause-same
returns-then-ne-clause-same c = fails_same c.only_if-turn.result _ _ c.fail.new.self c.begin-turn.ensures.begun (quiet_fails c.only_if-turn.result (Quiet true) (Quiet false) _ _ (search rules) c.fail.ensures)

pub copy_to-requires : goal.copy_to-requires
copy_to-requires c = (read_there c.args.at (length c.args.out.now) _ _ _ _ _ _ c.begin-turn.ensures.begun c.note_quiet.ensures c.holds.ensures c.only_if-turn.ensures (search rules)).1

pub returns-clause-crash : goal.returns-clause-crash
returns-clause-crash c = quiet_nothing _ _ _ c.begin-turn.ensures.begun c.note_quiet.ensures

pub returns-clause-same : goal.returns-clause-same
returns-clause-same c = quiet_same _ _ _ c.begin-turn.ensures.begun c.note_quiet.ensures

pub returns-clause-read : goal.returns-clause-read
returns-clause-read c = (
  (read_there c.args.at (length c.args.out.now) _ _ _ _ _ _ c.begin-turn.ensures.begun c.note_quiet.ensures c.holds.ensures c.only_if-turn.ensures (search rules)).0,
  c.copy_to.ensures ∙ ap (λ (l : List ℕ). slice_range l c.args.at (c.args.at + length c.args.out.now))
      (quiet_same _ _ _ c.begin-turn.ensures.begun c.note_quiet.ensures),
)

pub returns-then-ne-clause-call : goal.returns-then-ne-clause-call
returns-then-ne-clause-call c = fails_called _ c.only_if-turn.result _ _ c.fail.new.self refl c.begin-turn.ensures.begun (quiet_fails c.only_if-turn.result (Quiet true) (Quiet false) _ _ (search rules) c.fail.ensures)

pub returns-then-ne-clause-spared : goal.returns-then-ne-clause-spared
returns-then-ne-clause-spared c there =
    read_spared c.args.at (length c.args.out.now) c.begin-turn.result c.only_if-turn.result _ _ _ c.fail.new.self c.begin-turn.ensures.turn c.only_if-turn.ensures c.holds.ensures
    c.begin-turn.ensures.begun (quiet_fails c.only_if-turn.result (Quiet true) (Quiet false) _ _ (search rules) c.fail.ensures) there

pub returns-clause-call : goal.returns-clause-call
returns-clause-call c =
    read_called c.begin-turn.result c.only_if-turn.result _ _ _ _ c.begin-turn.ensures.turn c.only_if-turn.ensures (search rules) c.begin-turn.ensures.begun c.note_quiet.ensures

pub returns-clause-spared : goal.returns-clause-spared
returns-clause-spared c there = went_spared c.args.self.now c.note_quiet.new.self

pub returns-then-ne-clause-made : goal.returns-then-ne-clause-made
returns-then-ne-clause-made c =
    fails_ends _ c.only_if-turn.result (Quiet true) (Quiet true) (Quiet false) _ _ _
    (read_asked c.args.at (length c.args.out.now) c.begin-turn.result _ _ _ _ c.begin-turn.ensures.turn c.only_if-turn.ensures c.holds.ensures c.begin-turn.ensures.begun) (search rules)
    c.begin-turn.ensures.begun c.fail.ensures

pub returns-clause-made : goal.returns-clause-made
returns-clause-made c =
    went_ends _ c.only_if-turn.result (Quiet true) (Quiet false) _ _ _
    (read_asked c.args.at (length c.args.out.now) c.begin-turn.result _ _ _ _ c.begin-turn.ensures.turn c.only_if-turn.ensures c.holds.ensures c.begin-turn.ensures.begun) (search rules)
    c.begin-turn.ensures.begun c.note_quiet.ensures
