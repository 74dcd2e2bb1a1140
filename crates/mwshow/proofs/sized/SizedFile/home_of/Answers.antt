-- Goals of `SizedFile::home_of` (src/sized.rt).
use Rattle.std.proofs.Common.{sym, ap, ◌∙◌}
use Rattle.mw_record.specs.declared.damages.Damage.TheVariants.{Value}
use Rattle.mwshow.specs.Places.{has_damage, passes_at}
use Rattle.mwshow.proofs.Lowest.{found}
use Rattle.mwshow.proofs.sized.SizedFile.home_of.Goals as goal

pub returns-then-has_damage : goal.returns-then-has_damage
returns-then-has_damage c =
    let file = c.args.self.now in
    sym (found (passes_at file.at file.words file.bytes.now) file.words c.loop-addr.addr c.loop-addr-test.true c.loop-addr.invariant
    (ap (has_damage Value) (sym (c.deref.ensures.value ∙ c.in_ok-first.ensures)) ∙ sym c.has_damage.ensures ∙ c.if-has_damage.true))
