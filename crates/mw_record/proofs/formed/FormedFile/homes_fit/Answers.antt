-- Goals of `FormedFile::homes_fit` (src/formed.rt).
use Rattle.std.proofs.Common.{◌||◌, nat_le, sym, ap, ◌∙◌}
use Rattle.std.proofs.lemmas.Bool.{or_from, lt-leb}
use Rattle.mw_words.specs.declared.limits.TheConstants.{MAX_VALUE}
use Rattle.mw_record.specs.Records.{record_at, home, is_covered}
use Rattle.mw_record.proofs.TestsBelow.{each_fails}
use Rattle.mw_record.proofs.formed.FormedFile.homes_fit.Goals as goal

pub returns-then-not-is_covered : goal.returns-then-not-is_covered
returns-then-not-is_covered c =
    let file = c.args.self.now in
    let kept = record_at file.layout file.bytes.now file.words in
    let bare = ap (is_covered kept file.places) (sym c.from.ensures) ∙ sym c.is_covered.ensures ∙ c.if-not-is_covered.true in
    let large = ap (λ v. nat_le v MAX_VALUE) (sym c.home.ensures) ∙ lt-leb _ _ c.if-home-gt-MAX_VALUE.true in
    sym (each_fails (λ a. is_covered kept file.places a || nat_le (home file.bytes.now a) MAX_VALUE) file.words c.loop-addr.addr c.loop-addr-test.true
    (or_from _ _ bare large))
