-- Goals of `Shared::meet` (src/meet.rt).
use Rattle.std.proofs.Common.{[], ap, map, sym, subst, ◌∙◌}
use Rattle.atomic_table.specs.Table.{Me}
use Rattle.atomic_table.specs.declared.shared.Seat.{Seat}
use Rattle.mw_actor.specs.ActorState.{ActorState}
use Rattle.mw_rule.specs.declared.views.View.{View}
use Rattle.mw_rule.specs.Steps.{LearnsMeeting}
use Rattle.mw_rule.specs.Splits.{dealt, merges, learns}
use Rattle.mw_rule.specs.WordActions.{WentOn}
use Rattle.mw_table.specs.Meet.{HaveMet}
use Rattle.mw_table.specs.Numbers.{number_of}
use Rattle.mw_table.specs.Idleness.{has_none}
use Rattle.mw_table.proofs.Meetings.{Merged, Learned, first_lives, have_met, its_live, lives, looks_live, none_held, one_met, other_met, saw_no_less}
use Rattle.mw_table.proofs.shared.Shared.meet.Goals as goal

pub look-requires-clause-live : goal.look-requires-clause-live
look-requires-clause-live c = lives c.args.one.now

pub seat_note-said-requires-clause-live : goal.seat_note-said-requires-clause-live
seat_note-said-requires-clause-live c = looks_live c.look.ensures.looked.0 c.args.one.now.seat.me.0 c.look.new.seat.me.0 c.look.ensures.looked.1 (lives c.args.one.now)

pub seat_learn-requires-clause-live : goal.seat_learn-requires-clause-live
seat_learn-requires-clause-live c = lives c.args.other.now

pub merge-requires-clause-live : goal.merge-requires-clause-live
merge-requires-clause-live c =
    let one = c.args.one.now in
    let other = c.args.other.now in
    let config = c.requires.other.config ∙ sym c.requires.one.config in
    let told : Learned one.seat.me.0 other.seat.me.0 = record {
      looked = c.look.new.seat.me.0;
      bits = c.look.ensures.looked.0;
      looking = c.look.ensures.looked.1;
      noted = c.seat_note-said.new.seat.me.0;
      same = ap (λ (me : Me ActorState View). me.0) c.seat_note-said.ensures.same;
      said = c.seat_note-said.result.me.0;
      is_note = ap (λ (me : Me ActorState View). me.0) c.seat_note-said.ensures.note;
      learned = c.seat_learn.new.seat.me.0;
      others = c.seat_learn.ensures.looked.0;
      learning = c.seat_learn.ensures.looked.1;
      its = c.part-its.result.me.0;
      is_dealt = ap (λ (me : Me ActorState View). me.0) c.part-its.ensures.part;
    } in
    first_lives one.seat.me.0 other.seat.me.0 (other.worker, other.attempt) other.numbered config told (lives one)

pub merge-requires-clause-its_live : goal.merge-requires-clause-its_live
merge-requires-clause-its_live c =
    let one = c.args.one.now in
    let other = c.args.other.now in
    let config = c.requires.other.config ∙ sym c.requires.one.config in
    let told : Learned one.seat.me.0 other.seat.me.0 = record {
      looked = c.look.new.seat.me.0;
      bits = c.look.ensures.looked.0;
      looking = c.look.ensures.looked.1;
      noted = c.seat_note-said.new.seat.me.0;
      same = ap (λ (me : Me ActorState View). me.0) c.seat_note-said.ensures.same;
      said = c.seat_note-said.result.me.0;
      is_note = ap (λ (me : Me ActorState View). me.0) c.seat_note-said.ensures.note;
      learned = c.seat_learn.new.seat.me.0;
      others = c.seat_learn.ensures.looked.0;
      learning = c.seat_learn.ensures.looked.1;
      its = c.part-its.result.me.0;
      is_dealt = ap (λ (me : Me ActorState View). me.0) c.part-its.ensures.part;
    } in
    its_live one.seat.me.0 other.seat.me.0 (other.worker, other.attempt) other.numbered config told

pub merge-requires-clause-no_less : goal.merge-requires-clause-no_less
merge-requires-clause-no_less c =
    let one = c.args.one.now in
    let other = c.args.other.now in
    let config = c.requires.other.config ∙ sym c.requires.one.config in
    let told : Learned one.seat.me.0 other.seat.me.0 = record {
      looked = c.look.new.seat.me.0;
      bits = c.look.ensures.looked.0;
      looking = c.look.ensures.looked.1;
      noted = c.seat_note-said.new.seat.me.0;
      same = ap (λ (me : Me ActorState View). me.0) c.seat_note-said.ensures.same;
      said = c.seat_note-said.result.me.0;
      is_note = ap (λ (me : Me ActorState View). me.0) c.seat_note-said.ensures.note;
      learned = c.seat_learn.new.seat.me.0;
      others = c.seat_learn.ensures.looked.0;
      learning = c.seat_learn.ensures.looked.1;
      its = c.part-its.result.me.0;
      is_dealt = ap (λ (me : Me ActorState View). me.0) c.part-its.ensures.part;
    } in
    saw_no_less one.seat.me.0 other.seat.me.0 (other.worker, other.attempt) other.numbered config told

pub invariant_of-one : goal.invariant_of-one
invariant_of-one c =
    let one = c.args.one.now in
    let other = c.args.other.now in
    let config = c.requires.other.config ∙ sym c.requires.one.config in
    let openings = c.requires.other.openings ∙ sym c.requires.one.openings in
    let told : Learned one.seat.me.0 other.seat.me.0 = record {
      looked = c.look.new.seat.me.0;
      bits = c.look.ensures.looked.0;
      looking = c.look.ensures.looked.1;
      noted = c.seat_note-said.new.seat.me.0;
      same = ap (λ (me : Me ActorState View). me.0) c.seat_note-said.ensures.same;
      said = c.seat_note-said.result.me.0;
      is_note = ap (λ (me : Me ActorState View). me.0) c.seat_note-said.ensures.note;
      learned = c.seat_learn.new.seat.me.0;
      others = c.seat_learn.ensures.looked.0;
      learning = c.seat_learn.ensures.looked.1;
      its = c.part-its.result.me.0;
      is_dealt = ap (λ (me : Me ActorState View). me.0) c.part-its.ensures.part;
    } in
    let story : Merged one.seat.me.0 other.seat.me.0 = record { told = told; all = c.merge.new.seat.me.0; last = c.merge.ensures.looked.0; merging = c.merge.ensures.looked.1 } in
    let met = subst (LearnsMeeting one.seat.me.0) (sym (ap (λ (seat : Seat ActorState View). seat.me.0) c.replace.ensures.after ∙ ap (λ (me : Me ActorState View). me.0) c.part-own.ensures.part)) (one_met one.seat.me.0 other.seat.me.0 (one.worker, one.attempt) (other.worker, other.attempt) one.numbered other.numbered config openings story) in
    record { numbered = ap (map number_of) met.same_token ∙ one.numbered; rests = λ idle. ap (map has_none) met.same_token ∙ one.rests idle }

pub invariant_of-other : goal.invariant_of-other
invariant_of-other c =
    let one = c.args.one.now in
    let other = c.args.other.now in
    let config = c.requires.other.config ∙ sym c.requires.one.config in
    let openings = c.requires.other.openings ∙ sym c.requires.one.openings in
    let told : Learned one.seat.me.0 other.seat.me.0 = record {
      looked = c.look.new.seat.me.0;
      bits = c.look.ensures.looked.0;
      looking = c.look.ensures.looked.1;
      noted = c.seat_note-said.new.seat.me.0;
      same = ap (λ (me : Me ActorState View). me.0) c.seat_note-said.ensures.same;
      said = c.seat_note-said.result.me.0;
      is_note = ap (λ (me : Me ActorState View). me.0) c.seat_note-said.ensures.note;
      learned = c.seat_learn.new.seat.me.0;
      others = c.seat_learn.ensures.looked.0;
      learning = c.seat_learn.ensures.looked.1;
      its = c.part-its.result.me.0;
      is_dealt = ap (λ (me : Me ActorState View). me.0) c.part-its.ensures.part;
    } in
    let story : Merged one.seat.me.0 other.seat.me.0 = record { told = told; all = c.merge.new.seat.me.0; last = c.merge.ensures.looked.0; merging = c.merge.ensures.looked.1 } in
    let met = subst (LearnsMeeting other.seat.me.0) (sym (ap (λ (seat : Seat ActorState View). seat.me.0) c.replace.ensures.value ∙ c.part-own.ensures.rest)) (other_met one.seat.me.0 other.seat.me.0 (one.worker, one.attempt) (other.worker, other.attempt) one.numbered other.numbered config openings story) in
    record { numbered = ap (map number_of) met.same_token ∙ other.numbered; rests = λ idle. ap (map has_none) met.same_token ∙ other.rests idle }

pub returns-clause-one_met : goal.returns-clause-one_met
returns-clause-one_met c =
    let one = c.args.one.now in
    let other = c.args.other.now in
    let config = c.requires.other.config ∙ sym c.requires.one.config in
    let openings = c.requires.other.openings ∙ sym c.requires.one.openings in
    let told : Learned one.seat.me.0 other.seat.me.0 = record {
      looked = c.look.new.seat.me.0;
      bits = c.look.ensures.looked.0;
      looking = c.look.ensures.looked.1;
      noted = c.seat_note-said.new.seat.me.0;
      same = ap (λ (me : Me ActorState View). me.0) c.seat_note-said.ensures.same;
      said = c.seat_note-said.result.me.0;
      is_note = ap (λ (me : Me ActorState View). me.0) c.seat_note-said.ensures.note;
      learned = c.seat_learn.new.seat.me.0;
      others = c.seat_learn.ensures.looked.0;
      learning = c.seat_learn.ensures.looked.1;
      its = c.part-its.result.me.0;
      is_dealt = ap (λ (me : Me ActorState View). me.0) c.part-its.ensures.part;
    } in
    let story : Merged one.seat.me.0 other.seat.me.0 = record { told = told; all = c.merge.new.seat.me.0; last = c.merge.ensures.looked.0; merging = c.merge.ensures.looked.1 } in
    subst (LearnsMeeting one.seat.me.0) (sym (ap (λ (seat : Seat ActorState View). seat.me.0) c.replace.ensures.after ∙ ap (λ (me : Me ActorState View). me.0) c.part-own.ensures.part)) (one_met one.seat.me.0 other.seat.me.0 (one.worker, one.attempt) (other.worker, other.attempt) one.numbered other.numbered config openings story)

pub returns-clause-other_met : goal.returns-clause-other_met
returns-clause-other_met c =
    let one = c.args.one.now in
    let other = c.args.other.now in
    let config = c.requires.other.config ∙ sym c.requires.one.config in
    let openings = c.requires.other.openings ∙ sym c.requires.one.openings in
    let told : Learned one.seat.me.0 other.seat.me.0 = record {
      looked = c.look.new.seat.me.0;
      bits = c.look.ensures.looked.0;
      looking = c.look.ensures.looked.1;
      noted = c.seat_note-said.new.seat.me.0;
      same = ap (λ (me : Me ActorState View). me.0) c.seat_note-said.ensures.same;
      said = c.seat_note-said.result.me.0;
      is_note = ap (λ (me : Me ActorState View). me.0) c.seat_note-said.ensures.note;
      learned = c.seat_learn.new.seat.me.0;
      others = c.seat_learn.ensures.looked.0;
      learning = c.seat_learn.ensures.looked.1;
      its = c.part-its.result.me.0;
      is_dealt = ap (λ (me : Me ActorState View). me.0) c.part-its.ensures.part;
    } in
    let story : Merged one.seat.me.0 other.seat.me.0 = record { told = told; all = c.merge.new.seat.me.0; last = c.merge.ensures.looked.0; merging = c.merge.ensures.looked.1 } in
    subst (LearnsMeeting other.seat.me.0) (sym (ap (λ (seat : Seat ActorState View). seat.me.0) c.replace.ensures.value ∙ c.part-own.ensures.rest)) (other_met one.seat.me.0 other.seat.me.0 (one.worker, one.attempt) (other.worker, other.attempt) one.numbered other.numbered config openings story)

pub returns-clause-one_free : goal.returns-clause-one_free
returns-clause-one_free c =
    let first = ap (λ (seat : Seat ActorState View). seat.me.0) c.replace.ensures.after ∙ ap (λ (me : Me ActorState View). me.0) c.part-own.ensures.part in
    ap (λ (view : View). view.files) first

pub returns-clause-other_free : goal.returns-clause-other_free
returns-clause-other_free c =
    let one = c.args.one.now in
    let other = c.args.other.now in
    let config = c.requires.other.config ∙ sym c.requires.one.config in
    let openings = c.requires.other.openings ∙ sym c.requires.one.openings in
    let told : Learned one.seat.me.0 other.seat.me.0 = record {
      looked = c.look.new.seat.me.0;
      bits = c.look.ensures.looked.0;
      looking = c.look.ensures.looked.1;
      noted = c.seat_note-said.new.seat.me.0;
      same = ap (λ (me : Me ActorState View). me.0) c.seat_note-said.ensures.same;
      said = c.seat_note-said.result.me.0;
      is_note = ap (λ (me : Me ActorState View). me.0) c.seat_note-said.ensures.note;
      learned = c.seat_learn.new.seat.me.0;
      others = c.seat_learn.ensures.looked.0;
      learning = c.seat_learn.ensures.looked.1;
      its = c.part-its.result.me.0;
      is_dealt = ap (λ (me : Me ActorState View). me.0) c.part-its.ensures.part;
    } in
    let story : Merged one.seat.me.0 other.seat.me.0 = record { told = told; all = c.merge.new.seat.me.0; last = c.merge.ensures.looked.0; merging = c.merge.ensures.looked.1 } in
    let second = ap (λ (seat : Seat ActorState View). seat.me.0) c.replace.ensures.value ∙ c.part-own.ensures.rest in
    ap (λ (view : View). view.files) second
    ∙ none_held one.seat.me.0 other.seat.me.0 (one.worker, one.attempt) (other.worker, other.attempt) one.numbered other.numbered config openings story c.requires.one_free

pub returns-clause-both : goal.returns-clause-both
returns-clause-both c =
    let one = c.args.one.now in
    let other = c.args.other.now in
    let config = c.requires.other.config ∙ sym c.requires.one.config in
    let openings = c.requires.other.openings ∙ sym c.requires.one.openings in
    let told : Learned one.seat.me.0 other.seat.me.0 = record {
      looked = c.look.new.seat.me.0;
      bits = c.look.ensures.looked.0;
      looking = c.look.ensures.looked.1;
      noted = c.seat_note-said.new.seat.me.0;
      same = ap (λ (me : Me ActorState View). me.0) c.seat_note-said.ensures.same;
      said = c.seat_note-said.result.me.0;
      is_note = ap (λ (me : Me ActorState View). me.0) c.seat_note-said.ensures.note;
      learned = c.seat_learn.new.seat.me.0;
      others = c.seat_learn.ensures.looked.0;
      learning = c.seat_learn.ensures.looked.1;
      its = c.part-its.result.me.0;
      is_dealt = ap (λ (me : Me ActorState View). me.0) c.part-its.ensures.part;
    } in
    let story : Merged one.seat.me.0 other.seat.me.0 = record { told = told; all = c.merge.new.seat.me.0; last = c.merge.ensures.looked.0; merging = c.merge.ensures.looked.1 } in
    let first = ap (λ (seat : Seat ActorState View). seat.me.0) c.replace.ensures.after ∙ ap (λ (me : Me ActorState View). me.0) c.part-own.ensures.part in
    let second = ap (λ (seat : Seat ActorState View). seat.me.0) c.replace.ensures.value ∙ c.part-own.ensures.rest in
    subst (λ (view : View). HaveMet view c.replace.result.me.0) (sym first) (subst (λ (view : View). HaveMet (dealt c.merge.new.seat.me.0) view) (sym second) (have_met one.seat.me.0 other.seat.me.0 (one.worker, one.attempt) (other.worker, other.attempt) one.numbered other.numbered config openings story))

pub returns-clause-event : goal.returns-clause-event
returns-clause-event c =
    let same = ap (λ (me : Me ActorState View). me.0) c.seat_note-said.ensures.same in
    let said = ap (λ (me : Me ActorState View). me.0) c.seat_note-said.ensures.note in
    let its = ap (λ (me : Me ActorState View). me.0) c.part-its.ensures.part in
    record {
      looked = c.look.new.seat.me.0;
      first_look = c.look.ensures.event;
      learned = c.seat_learn.new.seat.me.0;
      second_look = subst (λ (view : View). WentOn [] (learns c.args.other.now.seat.me.0 view) c.seat_learn.new.seat.me.0) said c.seat_learn.ensures.event;
      all = c.merge.new.seat.me.0;
      last_look =
          subst (λ (view : View). WentOn [] (merges view (dealt c.seat_learn.new.seat.me.0)) c.merge.new.seat.me.0) same
          (subst (λ (view : View). WentOn [] (merges c.seat_note-said.new.seat.me.0 view) c.merge.new.seat.me.0) its c.merge.ensures.event);
      one_is = ap (λ (seat : Seat ActorState View). seat.me.0) c.replace.ensures.after ∙ ap (λ (me : Me ActorState View). me.0) c.part-own.ensures.part;
      other_is = ap (λ (seat : Seat ActorState View). seat.me.0) c.replace.ensures.value ∙ c.part-own.ensures.rest;
    }
