-- Goals of `Shared::give_back` (src/file_calls.rt).
use Rattle.std.proofs.Common.{ap, map, ◌∙◌}
use Rattle.atomic_table.specs.Table.{Me}
use Rattle.mw_actor.specs.ActorState.{ActorState}
use Rattle.mw_rule.specs.declared.views.View.{View}
use Rattle.mw_rule.proofs.SplitLaws.{giving_files_keeps}
use Rattle.mw_table.specs.Numbers.{numbers}
use Rattle.mw_table.specs.Idleness.{has_none}
use Rattle.mw_table.specs.HeldFiles.{file_among}
use Rattle.mw_table.proofs.TakenFiles.{given_file}
use Rattle.mw_table.proofs.Meetings.{lives, some_word}
use Rattle.mw_table.proofs.shared.Shared.give_back.Goals as goal

pub split_seat-seat-requires : goal.split_seat-seat-requires
split_seat-seat-requires c =
    let pass = c.args.pass.now in
    (c.requires.own.table, some_word c.args.self.now, giving_files_keeps _ _ pass.seat.id pass.seat.me.0 (lives pass))

pub invariant_of-pass : goal.invariant_of-pass
invariant_of-pass c =
    let is = c.split_seat-seat.ensures.2 in record {
      numbered = ap (λ (me : Me ActorState View). numbers me.0) is ∙ c.args.pass.now.numbered;
      rests = λ idle. ap (λ (me : Me ActorState View). map has_none me.0.tokens) is ∙ c.args.pass.now.rests idle;
    }

pub returns-clause-file : goal.returns-clause-file
returns-clause-file c = ap (λ (me : Me ActorState View). file_among me.0.files) c.split_seat-seat.ensures.4 ∙ given_file c.args.pass.now.seat.me.0.files

pub returns-clause-file_pass : goal.returns-clause-file_pass
returns-clause-file_pass c =
    let is = c.split_seat-seat.ensures.4 in record {
      table = c.split_seat-seat.ensures.3 ∙ c.requires.own.table;
      config = ap (λ (me : Me ActorState View). me.0.config) is ∙ c.requires.own.config;
      openings = ap (λ (me : Me ActorState View). me.0.openings) is ∙ c.requires.own.openings;
    }
