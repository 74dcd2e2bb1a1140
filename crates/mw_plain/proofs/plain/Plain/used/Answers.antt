-- Goals of `Plain::used` (src/plain.rt).
use Rattle.std.proofs.Common.{◌≤◌, ◌+◌, take, length, arith, ap, sym, ◌∙◌}
use Rattle.std.proofs.lemmas.List.{take_all}
use Rattle.mw_plain.specs.Quotas.{used_by}
use Rattle.mw_plain.proofs.UsedSlots.{used_first, used_more}
use Rattle.mw_plain.proofs.plain.Plain.used.Goals as goal

pub overflow_add-used : goal.overflow_add-used
overflow_add-used g c =
    let few = used_first c.loop-part.part-index c.args.self.now.parts.items in
    let part = c.part-item.result in
    omega (arith, few, c.loop-part.invariant.counted, c.args.self.now.shared, c.args.self.now.small, c.from-used.ensures, c.used.ensures, part.within, part.few_slots)

pub returns-clause-within : goal.returns-clause-within
returns-clause-within g c =
    let few = used_first c.loop-part.part-index c.args.self.now.parts.items in
    omega (arith, few, c.loop-part.invariant.counted, c.args.self.now.shared)

pub loop-part-preserved : goal.loop-part-preserved
loop-part-preserved g c =
    let value = c.deref-part-items.ensures.value in
    let items = c.deref-part-items.result.now in
    let k = c.loop-part.part-index in
    let so_far = c.loop-part.invariant.counted ∙ ap (λ ps. used_by (take k ps)) (sym value) in
    let more = used_more items k c.part-item.result c.loop-part.used c.from-used.result c.loop-part-test.true (sym c.part-item.is) so_far (c.from-used.ensures ∙ c.used.ensures) in
    record { counted = more ∙ ap (λ ps. used_by (take (k + 1) ps)) value }

pub returns-clause-sum : goal.returns-clause-sum
returns-clause-sum g c =
    let all : length c.args.self.now.parts.items ≤ c.loop-part.part-index = omega (arith, c.loop-part-test.false, ap length c.deref-part-items.ensures.value) in
    c.loop-part.invariant.counted ∙ ap used_by (take_all c.loop-part.part-index c.args.self.now.parts.items all)
