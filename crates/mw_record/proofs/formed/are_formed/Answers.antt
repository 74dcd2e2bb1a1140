-- Goals of `are_formed` (src/formed.rt).
use Rattle.std.proofs.Common.{sym, ◌∙◌}
use Rattle.mw_record.specs.Records.{record_at, is_formed}
use Rattle.mw_record.proofs.TestsBelow.{each_fails}
use Rattle.mw_record.proofs.formed.are_formed.Goals as goal

pub returns-then-not-is_formed : goal.returns-then-not-is_formed
returns-then-not-is_formed c =
    sym (each_fails (λ j. is_formed c.args.layout c.args.words (record_at c.args.layout c.args.bytes.now c.args.words j)) c.args.places c.loop-place.place c.loop-place-test.true (sym c.is_formed.ensures ∙ c.if-not-is_formed.true))
