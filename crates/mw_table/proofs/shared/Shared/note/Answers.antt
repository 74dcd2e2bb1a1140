-- Goals of `Shared::note` (src/notes.rt).
use Rattle.std.proofs.Common.{ap, map, ◌∙◌}
use Rattle.atomic_table.specs.Table.{Me}
use Rattle.mw_actor.specs.ActorState.{ActorState}
use Rattle.mw_rule.specs.declared.views.View.{View}
use Rattle.mw_table.specs.Idleness.{has_none}
use Rattle.mw_table.specs.Numbers.{number_of}
use Rattle.mw_table.proofs.Meetings.{lives}
use Rattle.mw_table.proofs.LearnedNotes.{bare_again}
use Rattle.mw_table.proofs.shared.Shared.note.Goals as goal

pub seat_note-requires-clause-live : goal.seat_note-requires-clause-live
seat_note-requires-clause-live c = lives c.args.pass.now

pub invariant_of-pass : goal.invariant_of-pass
invariant_of-pass c =
    let same = ap (λ (me : Me ActorState View). me.0.tokens) c.seat_note.ensures.same in
    record { numbered = ap (map number_of) same ∙ c.args.pass.now.numbered; rests = λ idle. ap (map has_none) same ∙ c.args.pass.now.rests idle }
