-- Goals of `Shared::confirm` (src/file_calls.rt).
use Rattle.std.proofs.Common.{refl}
use Rattle.mw_rule.specs.WordActions.{Looks}
use Rattle.mw_rule.proofs.WordActionLaws.{moves_are_allowed}
use Rattle.mw_table.proofs.TakenFiles.{file_pass_lives, so_of_world}
use Rattle.mw_table.proofs.Meetings.{some_word}
use Rattle.mw_table.proofs.shared.Shared.confirm.Goals as goal

pub load-requires : goal.load-requires
load-requires c =
    let file_pass = c.args.file_pass in
    (c.requires.file_pass.table, some_word c.args.self.now, moves_are_allowed _ _ _ file_pass.seat.id file_pass.seat.me (Looks 0 (file_pass_lives file_pass)) (λ bits. bits) (λ bits. refl))

pub returns : goal.returns
returns c = so_of_world _ _ c.args.file_pass c.load.new.seat.me.0 c.requires.file_pass.config c.requires.file_pass.openings c.load.ensures.2.1
