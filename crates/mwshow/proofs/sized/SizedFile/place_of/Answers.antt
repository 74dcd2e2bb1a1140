-- Goals of `SizedFile::place_of` (src/sized.rt).
use Rattle.std.proofs.Common.{sym, ap, ◌∙◌}
use Rattle.mwshow.specs.Places.{comes_at, has_damage}
use Rattle.mwshow.proofs.Lowest.{found}
use Rattle.mwshow.proofs.sized.SizedFile.place_of.Goals as goal

pub returns-then-has_damage : goal.returns-then-has_damage
returns-then-has_damage c =
    let file = c.args.self.now in
    sym (found (comes_at file.layout file.at file.words c.args.damage file.bytes.now) file.places c.loop-place.place c.loop-place-test.true c.loop-place.invariant
    (ap (has_damage c.args.damage) (sym (c.deref.ensures.value ∙ c.in_ok-first.ensures)) ∙ sym c.has_damage.ensures ∙ c.if-has_damage.true))
