-- Goals of `FormedFile::are_apart` (src/formed.rt).
use Rattle.std.proofs.Common.{true, sym, ap, ◌∙◌}
use Rattle.std.specs.Option.{option_map_or}
use Rattle.mw_record.specs.Records.{record_at, is_apart}
use Rattle.mw_record.proofs.TestsBelow.{each_fails}
use Rattle.mw_record.proofs.formed.FormedFile.are_apart.Goals as goal

pub returns-in-loop-place : goal.returns-in-loop-place
returns-in-loop-place c =
    let kept = record_at c.args.self.now.layout c.args.self.now.bytes.now c.args.self.now.words in
    sym (each_fails (λ j. option_map_or (is_apart kept j) (kept j) true) c.args.self.now.places c.loop-place.place c.loop-place-test.true
    (ap (λ r. option_map_or (is_apart kept c.loop-place.place) r true) (sym c.in-Some.ensures) ∙ sym c.is_apart.ensures ∙ c.if-not-is_apart.true))
