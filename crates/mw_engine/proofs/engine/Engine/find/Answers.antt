-- Goals of `Engine::find` (src/tenants.rt).
use Rattle.std.specs.Prelude.{◌≤◌, List, length}
use Rattle.std.proofs.Common.{get_or, sym, ap, subst, ◌∙◌, arith}
use Rattle.std.proofs.lemmas.List.{length-map}
use Rattle.std.specs.Cmp.Lexicographic.{same_text, other_text}
use Rattle.mw_engine.specs.Identity.{HasNone, HasWords, IsFirst, Line}
use Rattle.mw_engine.specs.Lines.{line_of}
use Rattle.mw_engine.specs.TenantWords.{lines_told}
use Rattle.mw_engine.proofs.Branded.{same_lines}
use Rattle.mw_engine.proofs.TenantSearch.{has, is_first, none_at_all, none_yet}
use Rattle.mw_engine.proofs.engine.Engine.find.Goals as goal

pub returns-then-eq-clause-first : goal.returns-then-eq-clause-first
returns-then-eq-clause-first g c =
    let engine = c.args.self.now in
    let value = c.deref-line-items.ensures.0 in
    subst (λ (lines : List Line). IsFirst lines c.args.name.now.items (c.loop-tenant.tenant, c.line-item.result.words)) (same_lines engine.words g.J.EngineBrand.identity engine.same)
    (is_first engine.words.lines.items c.loop-tenant.tenant c.line-item.result c.args.name.now.items
    (omega (arith, c.loop-tenant-test.true, ap length value))
    (c.line-item.is ∙ ap (λ xs. get_or xs c.loop-tenant.tenant c.line-item.result) value)
    c.loop-tenant.invariant
    (sym c.as_slice.ensures.value ∙ same_text _ _ (sym c.if-eq.true ∙ c.eq.ensures) ∙ c.as_slice-in-loop-tenant.ensures.value))

pub returns-then-eq-clause-words : goal.returns-then-eq-clause-words
returns-then-eq-clause-words g c =
    let engine = c.args.self.now in
    let value = c.deref-line-items.ensures.0 in
    subst (λ (lines : List Line). HasWords lines c.loop-tenant.tenant c.line-item.result.words) (same_lines engine.words g.J.EngineBrand.identity engine.same)
    (has engine.words.lines.items c.loop-tenant.tenant c.line-item.result c.args.name.now.items
    (omega (arith, c.loop-tenant-test.true, ap length value))
    (c.line-item.is ∙ ap (λ xs. get_or xs c.loop-tenant.tenant c.line-item.result) value))

pub returns-clause-first : goal.returns-clause-first
returns-clause-first g c =
    let engine = c.args.self.now in
    let count = length-map engine.words.lines.items line_of in
    let past : length (lines_told engine.words) ≤ c.loop-tenant.tenant = omega (arith, c.loop-tenant-test.false, count, ap length c.deref-line-items.ensures.0) in
    subst (λ (lines : List Line). HasNone lines (length lines) c.args.name.now.items) (same_lines engine.words g.J.EngineBrand.identity engine.same)
    (none_at_all (lines_told engine.words) c.loop-tenant.tenant c.args.name.now.items past c.loop-tenant.invariant)

pub loop-tenant-preserved : goal.loop-tenant-preserved
loop-tenant-preserved g c =
    let value = c.deref-line-items.ensures.0 in
    none_yet c.args.self.now.words.lines.items c.loop-tenant.tenant c.line-item.result c.args.name.now.items
    (omega (arith, c.loop-tenant-test.true, ap length value))
    (c.line-item.is ∙ ap (λ xs. get_or xs c.loop-tenant.tenant c.line-item.result) value)
    c.loop-tenant.invariant
    (λ same. other_text _ _ (sym c.if-eq.false ∙ c.eq.ensures) (c.as_slice.ensures.value ∙ same ∙ sym c.as_slice-in-loop-tenant.ensures.value))
