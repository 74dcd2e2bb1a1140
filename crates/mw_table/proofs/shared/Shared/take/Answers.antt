-- Goals of `Shared::take` (src/file_calls.rt).
use Rattle.std.proofs.Common.{ap, map, subst, sym, ◌∙◌}
use Rattle.atomic_table.specs.Table.{Me}
use Rattle.mw_actor.specs.ActorState.{ActorState}
use Rattle.mw_rule.specs.declared.views.View.{View}
use Rattle.mw_rule.proofs.SplitLaws.{taking_files_keeps}
use Rattle.mw_table.specs.HeldFiles.{HasFile}
use Rattle.mw_table.specs.Numbers.{numbers}
use Rattle.mw_table.specs.Idleness.{has_none}
use Rattle.mw_table.proofs.TakenFiles.{nothing_in, file_pass_has, file_pass_lives, taken_has}
use Rattle.mw_table.proofs.Meetings.{lives, some_word}
use Rattle.mw_table.proofs.shared.Shared.take.Goals as goal

pub join_seat-requires : goal.join_seat-requires
join_seat-requires c =
    let pass = c.args.pass.now in
    let file_pass = c.args.file_pass in (
      c.requires.own.table,
      c.requires.file_pass.table,
      nothing_in file_pass.seat.me.1 file_pass.no_slots,
      some_word c.args.self.now,
      taking_files_keeps _ _ pass.seat.id file_pass.seat.id pass.seat.me.0 file_pass.seat.me.0 (lives pass) (file_pass_lives file_pass),
    )

pub invariant_of-pass : goal.invariant_of-pass
invariant_of-pass c =
    let is = c.join_seat.ensures.2 in record {
      numbered = ap (λ (me : Me ActorState View). numbers me.0) is ∙ c.args.pass.now.numbered;
      rests = λ idle. ap (λ (me : Me ActorState View). map has_none me.0.tokens) is ∙ c.args.pass.now.rests idle;
    }

pub returns-clause-has : goal.returns-clause-has
returns-clause-has c =
    subst (λ (me : Me ActorState View). HasFile me.0 c.args.file_pass.tenant) (sym c.join_seat.ensures.2)
    (taken_has c.args.pass.now.seat.me.0 c.args.file_pass.seat.me.0 c.args.file_pass.tenant c.requires.free (file_pass_has c.args.file_pass))
