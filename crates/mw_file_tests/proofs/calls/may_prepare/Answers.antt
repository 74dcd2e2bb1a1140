-- Goals of `may_prepare` (src/calls.rt).
use Rattle.std.proofs.Common.{sym, ◌∙◌}
use Rattle.mw_file_tests.proofs.PreparedPlaces.{may_prepare_from}
use Rattle.mw_file_tests.proofs.calls.may_prepare.Goals as goal

pub returns-then-has_room_for : goal.returns-then-has_room_for
returns-then-has_room_for c rise =
    may_prepare_from c.args.words c.args.states.now c.args.changes.now (sym c.has_room_for.ensures ∙ c.if-has_room_for.true) (sym c.places_rise.ensures ∙ rise)
