-- Goals of `Plain::find` (src/plain.rt).
use Rattle.std.specs.Prelude.{length}
use Rattle.std.proofs.Common.{get_or, sym, ap, ◌∙◌, arith}
use Rattle.std.specs.Cmp.Lexicographic.{same_text, other_text}
use Rattle.mw_plain.proofs.TenantSearch.{is_first, none_yet}
use Rattle.mw_plain.proofs.plain.Plain.find.Goals as goal

pub returns-then-eq : goal.returns-then-eq
returns-then-eq g c =
    let value = c.deref-part-items.ensures.value in
    is_first c.args.self.now c.loop-tenant.tenant c.part-item.result c.args.name.now.items
    (omega (arith, c.loop-tenant-test.true, ap length value))
    (c.part-item.is ∙ ap (λ xs. get_or xs c.loop-tenant.tenant c.part-item.result) value)
    c.loop-tenant.invariant
    (sym c.as_slice.ensures.value ∙ same_text _ _ (sym c.if-eq.true ∙ c.eq.ensures) ∙ c.as_slice-in-loop-tenant.ensures.value)

pub returns : goal.returns
returns g c = λ earlier before is. c.loop-tenant.invariant earlier (omega (arith, c.loop-tenant-test.false, before, ap length c.deref-part-items.ensures.value)) is

pub loop-tenant-preserved : goal.loop-tenant-preserved
loop-tenant-preserved g c =
    let value = c.deref-part-items.ensures.value in
    none_yet c.args.self.now c.loop-tenant.tenant c.part-item.result c.args.name.now.items
    (omega (arith, c.loop-tenant-test.true, ap length value))
    (c.part-item.is ∙ ap (λ xs. get_or xs c.loop-tenant.tenant c.part-item.result) value)
    c.loop-tenant.invariant
    (λ same. other_text _ _ (sym c.if-eq.false ∙ c.eq.ensures) (c.as_slice.ensures.value ∙ same ∙ sym c.as_slice-in-loop-tenant.ensures.value))
