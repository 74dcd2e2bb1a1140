-- Goals of `Plain::into_disks` (src/plain.rt).
use Rattle.std.proofs.Common.{◌++◌, map, sym, ap, ◌∙◌, append-nil, arith}
use Rattle.std.proofs.lemmas.List.{nil_from_length}
use Rattle.std.specs.Vec.Iter.{into_iter_items}
use Rattle.mw_plain.specs.Quotas.{disk_in}
use Rattle.std.proofs.lemmas.Grind.{common_steps}
use Rattle.mw_plain.proofs.plain.Plain.into_disks.Goals as goal

pub returns : goal.returns
returns g c =
    let none = nil_from_length (into_iter_items c.loop-part.part-iterator) (sym c.loop-part.part-iterator.rest.ok.0 ∙ c.in-None.ensures.steps.0) in
    sym (append-nil c.loop-part.disks.items) ∙ ap (λ ps. c.loop-part.disks.items ++ map disk_in ps) (sym none) ∙ c.loop-part.invariant.given

pub loop-part-preserved : goal.loop-part-preserved
loop-part-preserved c = grind (arith, common_steps)

pub loop-part-init : goal.loop-part-init
loop-part-init c = grind (arith, common_steps)
