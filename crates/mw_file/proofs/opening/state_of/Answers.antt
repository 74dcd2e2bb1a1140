-- Goals of `state_of` (src/opening.rt).
use Rattle.std.proofs.Common.{length, sym, ◌∙◌}
use Rattle.std.proofs.lemmas.Bool.{eqb-false}
use Rattle.mw_record.specs.Damages.{records_of}
use Rattle.mw_file.proofs.Recalled.{sealed_record}
use Rattle.mw_file.proofs.opening.state_of.Goals as goal

-- a place whose record has entries is sealed
pub returns-clause-record : goal.returns-clause-record
returns-clause-record c =
    let some = eqb-false (length c.writes_of-writes.result.items) 0 (sym c.is_empty.ensures ∙ c.if-is_empty.false) in
    sealed_record (records_of c.args.image.now c.args.place) c.writes_of-writes.result.items c.writes_of-writes.ensures.pairs some
