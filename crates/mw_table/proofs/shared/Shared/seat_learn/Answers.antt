-- Goals of `Shared::seat_learn` (src/meet.rt).
use Rattle.std.proofs.Common.{[], ap, sym, subst, ◌∙◌}
use Rattle.atomic_table.specs.Table.{Me}
use Rattle.mw_actor.specs.ActorState.{ActorState}
use Rattle.mw_rule.specs.declared.views.View.{View}
use Rattle.mw_rule.specs.WordActions.{WentOn}
use Rattle.mw_rule.specs.Rule.{IsLive}
use Rattle.mw_rule.proofs.SplitLaws.{learning_keeps}
use Rattle.mw_table.proofs.Meetings.{learns_lives, note_has_none, note_lives, some_word}
use Rattle.mw_table.proofs.shared.Shared.seat_learn.Goals as goal

pub join_seat-requires : goal.join_seat-requires
join_seat-requires c =
    let note = c.args.note.me in
    let is = ap (λ (me : Me ActorState View). me.0) c.requires.note.1 in (
      c.requires.table,
      c.requires.its_table,
      ap (λ (me : Me ActorState View). me.1) c.requires.note.1,
      some_word c.args.self.now,
      learning_keeps _ _ c.args.seat.now.id c.args.note.id c.args.seat.now.me.0 note.0 c.requires.live (note_lives c.requires.note.0 note.0 is) (note_has_none c.requires.note.0 note.0 is),
    )

pub look-requires : goal.look-requires
look-requires c = record {
  table = c.join_seat.ensures.0 ∙ c.requires.table;
  live = subst IsLive (sym (ap (λ (me : Me ActorState View). me.0) c.join_seat.ensures.2)) (learns_lives c.args.seat.now.me.0 c.args.note.me.0 c.requires.live);
}

pub returns-clause-event : goal.returns-clause-event
returns-clause-event c = subst (λ (view : View). WentOn [] view c.look.new.seat.me.0) (ap (λ (me : Me ActorState View). me.0) c.join_seat.ensures.2) c.look.ensures.event
