-- Goals of `may_seal` (src/calls.rt).
use Rattle.std.proofs.Common.{sym, ◌∙◌}
use Rattle.mw_file.specs.PlaceStates.{writes_of_place}
use Rattle.mw_file_tests.proofs.ApartWrites.{apart_from}
use Rattle.mw_file_tests.proofs.calls.may_seal.Goals as goal

pub returns-then-is_at : goal.returns-then-is_at
returns-then-is_at c apart =
    let states = c.args.states.now in
    let place = c.args.place.0 in
    record {
      prepared = c.is_at.ensures.stage c.if-is_at.true;
      apart = apart_from (writes_of_place states place) states (sym c.shares_no_address.ensures ∙ apart);
    }
