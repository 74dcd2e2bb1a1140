-- Goals of `Plain::new` (src/plain.rt).
use Rattle.std.proofs.Common.{◌≡◌, ◌<◌, ◌≤◌, ◌+◌, length, drop, get_or, sym, ap, subst, ◌∙◌, arith, append-nil}
use Rattle.std.proofs.lemmas.List.{nil_from_length}
use Rattle.std.specs.Vec.Iter.{into_iter_items}
use Rattle.mw_plain.specs.Lines.{FitLines, AreMadeOf, quotas_in}
use Rattle.mw_plain.specs.Quotas.{quotas_of}
use Rattle.mw_plain.proofs.NewStores.{line_is_there, next_of, made_more, shared_more, made_all, stands_new}
use Rattle.std.proofs.lemmas.Grind.{common_steps}
use Rattle.mw_plain.proofs.plain.Plain.new.Goals as goal

pub new-part-requires-clause-within : goal.new-part-requires-clause-within
new-part-requires-clause-within g c =
    let parts = c.loop-file.parts in
    let here = c.index-lines-len.is ∙ ap (λ i. get_or c.args.lines.now i c.index-lines-len.result) (c.len.ensures ∙ parts.ok.0) in
    (next_of c.args.lines.now (length parts.items) c.index-lines-len.result (into_iter_items c.loop-file.file-iterator) c.in-Some.file (into_iter_items c.next.new.self)
    here c.in-Some.ensures.steps.0 c.loop-file.invariant.fit).within

pub new-part-requires-clause-fits : goal.new-part-requires-clause-fits
new-part-requires-clause-fits g c =
    let parts = c.loop-file.parts in
    let here = c.index-lines-len.is ∙ ap (λ i. get_or c.args.lines.now i c.index-lines-len.result) (c.len.ensures ∙ parts.ok.0) in
    (next_of c.args.lines.now (length parts.items) c.index-lines-len.result (into_iter_items c.loop-file.file-iterator) c.in-Some.file (into_iter_items c.next.new.self)
    here c.in-Some.ensures.steps.0 c.loop-file.invariant.fit).fits

pub loop-file-preserved : goal.loop-file-preserved
loop-file-preserved g c =
    let parts = c.loop-file.parts in
    let lines = c.args.lines.now in
    let line = c.index-lines-len.result in
    let file = c.in-Some.file in
    let left = into_iter_items c.loop-file.file-iterator in
    let rest = into_iter_items c.next.new.self in
    let here = c.index-lines-len.is ∙ ap (λ i. get_or lines i line) (c.len.ensures ∙ parts.ok.0) in
    let next = next_of lines (length parts.items) line left file rest here c.in-Some.ensures.steps.0 c.loop-file.invariant.fit in
    let pushed = c.in_ok-push.ensures.items in
    let count : length c.push.new.self.items ≡ length parts.items + 1 = omega (arith, c.in_ok-push.ensures.len, parts.ok.0, c.push.new.self.ok.0) in
    record {
      fit = subst (λ n. FitLines (drop n lines) rest) (sym count) next.fit;
      made = λ more others. made_more lines c.args.files.items left rest parts.items c.push.new.self.items (length parts.items) line file c.new-part.result next c.in-Some.ensures.steps.0
          c.new-part.ensures pushed c.loop-file.invariant.made more (subst (λ n. AreMadeOf (drop n lines) rest more) count others);
      shared = subst (λ n. quotas_of c.push.new.self.items + quotas_in (drop n lines) ≤ c.args.pool) (sym count)
          (shared_more lines parts.items c.push.new.self.items (length parts.items) c.args.pool line c.new-part.result next.lines_left c.new-part.ensures.quota pushed c.loop-file.invariant.shared);
      few = omega (arith, count, next.there);
    }

pub returns-clause-made : goal.returns-clause-made
returns-clause-made g c =
    let parts = c.loop-file.parts in
    subst (AreMadeOf c.args.lines.now c.args.files.items) (append-nil parts.items)
    (made_all c.args.lines.now c.args.files.items (into_iter_items c.loop-file.file-iterator) parts.items (length parts.items) (nil_from_length _ (sym c.loop-file.file-iterator.rest.ok.0 ∙ c.in-None.ensures.steps.0)) c.loop-file.invariant.fit c.loop-file.invariant.made)

pub returns-clause-stands : goal.returns-clause-stands
returns-clause-stands g c tenant line opened s l f starts =
    let parts = c.loop-file.parts in
    let made = subst (AreMadeOf c.args.lines.now c.args.files.items) (append-nil parts.items)
    (made_all c.args.lines.now c.args.files.items (into_iter_items c.loop-file.file-iterator) parts.items (length parts.items) (nil_from_length _ (sym c.loop-file.file-iterator.rest.ok.0 ∙ c.in-None.ensures.steps.0)) c.loop-file.invariant.fit c.loop-file.invariant.made) in
    stands_new g.D.Disk.facts _ c.args.lines.now c.args.files.items tenant line opened s made l f starts

-- there is a line for the next file
pub bounds-lines-len : goal.bounds-lines-len
bounds-lines-len g c =
    let parts = c.loop-file.parts in
    let there = line_is_there c.args.lines.now (length parts.items) (into_iter_items c.loop-file.file-iterator) c.in-Some.file (into_iter_items c.next.new.self) c.in-Some.ensures.steps.0 c.loop-file.invariant.fit in
    subst (λ n. n < length c.args.lines.now) (sym (c.len.ensures ∙ parts.ok.0)) there

pub loop-file-init : goal.loop-file-init
loop-file-init c = grind (arith, common_steps)
