-- Goals of `FormedFile::is_covered` (src/formed.rt).
use Rattle.std.proofs.Common.{sym, ap, ◌∙◌}
use Rattle.mw_record.specs.Records.{record_at}
use Rattle.mw_record.proofs.TestsBelow.{has, covered_at}
use Rattle.mw_record.proofs.formed.FormedFile.is_covered.Goals as goal

pub returns-in-loop-place : goal.returns-in-loop-place
returns-in-loop-place c =
    let kept = record_at c.args.self.now.layout c.args.self.now.bytes.now c.args.self.now.words in
    sym (covered_at kept c.args.places c.loop-place.place c.args.addr c.loop-place-test.true
    (ap (λ r. has r c.args.addr) (sym c.in-Some.ensures) ∙ sym c.holds.ensures ∙ c.if-holds.true))
