-- Goals of `Shared::merge` (src/meet.rt).
use Rattle.std.proofs.Common.{[], ap, sym, subst, ◌∙◌}
use Rattle.atomic_table.specs.Table.{Me}
use Rattle.mw_actor.specs.ActorState.{ActorState}
use Rattle.mw_rule.specs.declared.views.View.{View}
use Rattle.mw_rule.specs.WordActions.{WentOn}
use Rattle.mw_rule.specs.Rule.{IsLive}
use Rattle.mw_rule.proofs.SplitLaws.{merging_keeps}
use Rattle.mw_table.proofs.Meetings.{merges_lives, some_word}
use Rattle.mw_table.proofs.shared.Shared.merge.Goals as goal

pub join_seat-requires : goal.join_seat-requires
join_seat-requires c = (
  c.requires.table,
  c.requires.its_table,
  c.requires.no_slot,
  some_word c.args.self.now,
  merging_keeps _ _ c.args.seat.now.id c.args.its.id c.args.seat.now.me.0 c.args.its.me.0 c.requires.live c.requires.its_live c.requires.no_less,
)

pub look-requires : goal.look-requires
look-requires c = record {
  table = c.join_seat.ensures.0 ∙ c.requires.table;
  live = subst IsLive (sym (ap (λ (me : Me ActorState View). me.0) c.join_seat.ensures.2)) (merges_lives c.args.seat.now.me.0 c.args.its.me.0 c.requires.live);
}

pub returns-clause-event : goal.returns-clause-event
returns-clause-event c = subst (λ (view : View). WentOn [] view c.look.new.seat.me.0) (ap (λ (me : Me ActorState View). me.0) c.join_seat.ensures.2) c.look.ensures.event
