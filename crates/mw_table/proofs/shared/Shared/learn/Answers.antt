-- Goals of `Shared::learn` (src/notes.rt).
use Rattle.std.proofs.Common.{ap, map, ◌∙◌}
use Rattle.mw_table.specs.Idleness.{has_none}
use Rattle.mw_table.specs.Numbers.{number_of}
use Rattle.mw_table.proofs.LearnedNotes.{learned_so}
use Rattle.mw_table.proofs.Meetings.{lives}
use Rattle.mw_table.proofs.shared.Shared.learn.Goals as goal

pub seat_learn-requires-clause-live : goal.seat_learn-requires-clause-live
seat_learn-requires-clause-live c = lives c.args.pass.now

pub invariant_of-pass : goal.invariant_of-pass
invariant_of-pass c =
    let same = c.seat_learn.ensures.looked.1.same_token in
    record { numbered = ap (map number_of) same ∙ c.args.pass.now.numbered; rests = λ idle. ap (map has_none) same ∙ c.args.pass.now.rests idle }

pub returns-clause-learned : goal.returns-clause-learned
returns-clause-learned c = learned_so c.seat_learn.ensures.looked.0 c.args.note.seat.me.0 c.args.pass.now.seat.me.0 c.seat_learn.new.seat.me.0 c.seat_learn.ensures.looked.1 c.seat_learn.ensures.event
