-- Goals of `Shared::load_any` (src/file_calls.rt).
use Rattle.std.proofs.Common.{ap, map, refl, ◌∙◌}
use Rattle.mw_rule.specs.WordActions.{Looks}
use Rattle.mw_rule.proofs.WordActionLaws.{moves_are_allowed}
use Rattle.mw_table.specs.Numbers.{number_of}
use Rattle.mw_table.proofs.IdlePasses.{rests_on}
use Rattle.mw_table.proofs.Meetings.{lives, some_word}
use Rattle.mw_table.proofs.shared.Shared.load_any.Goals as goal

pub load-requires : goal.load-requires
load-requires c =
    let pass = c.args.pass.now in
    (c.requires.own.table, some_word c.args.self.now, moves_are_allowed _ _ _ pass.seat.id pass.seat.me (Looks 0 (lives pass)) (λ bits. bits) (λ bits. refl))

pub invariant_of-pass : goal.invariant_of-pass
invariant_of-pass c = record {
  numbered = ap (map number_of) c.load.ensures.2.0.same_token ∙ c.args.pass.now.numbered;
  rests = λ idle. rests_on 0 c.load.result c.args.pass.now.seat.me.0 c.load.new.seat.me.0 c.load.ensures.2.0 (c.args.pass.now.rests idle);
}
