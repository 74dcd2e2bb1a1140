-- Goals of `opened` (src/new_parts.rt).
use Rattle.std.proofs.Common.{◌≡◌, ◌+◌, ◌++◌, [], length, drop, get_or, sym, ap, subst, ◌∙◌, arith, append-nil}
use Rattle.std.proofs.lemmas.List.{nil_from_length}
use Rattle.std.specs.Vec.Iter.{into_iter_items}
use Rattle.mw_engine.specs.OpenedFiles.{AreMadeOf, FitLines}
use Rattle.mw_engine.proofs.OpenedParts.{line_left, made_all, made_more, next_of}
use Rattle.mw_engine.proofs.new_parts.opened.Goals as goal

-- nothing is made yet, and all lines and files are left
pub loop-file-init : goal.loop-file-init
loop-file-init g c =
    let facts = g.D.Disk.facts in
    let lines = c.args.lines.now in
    let files = c.args.files.items in
    let openings = c.in_ok-openings.openings.items in
    let books = c.in_ok-books.books.items in
    let all = c.into_iter-file-iterator.ensures.into_iter_gives.0 in
    let none = c.in_ok-openings.ensures.items in
    let count = ap length none in
    record {
      fit = subst (λ fs. FitLines facts (drop (length openings) lines) fs) (sym all) (subst (λ os. FitLines facts (drop (length os) lines) files) (sym none) c.requires.fit);
      made = λ os bs others. subst (λ one. AreMadeOf facts lines files (one ++ os) (books ++ bs)) (sym none)
          (subst (λ one. AreMadeOf facts lines files ([] ++ os) (one ++ bs)) (sym c.in_ok-books.ensures.items)
          (subst (λ fs. AreMadeOf facts lines fs os bs) all
          (subst (λ one. AreMadeOf facts (drop (length one) lines) (into_iter_items c.into_iter-file-iterator.result) os bs) none others)));
      few = omega (arith, count);
    }

-- there are more lines than openings
pub bounds-lines-len : goal.bounds-lines-len
bounds-lines-len g c =
    let openings = c.loop-file.openings in
    let there = line_left g.D.Disk.facts c.args.lines.now (length openings.items) (into_iter_items c.loop-file.file-iterator) c.in-Some.file (into_iter_items c.next.new.self) c.in-Some.ensures.steps.0
    c.loop-file.invariant.fit in
    omega (arith, there, c.len.ensures, openings.ok.0)

pub opened_one-opening-requires : goal.opened_one-opening-requires
opened_one-opening-requires g c =
    let openings = c.loop-file.openings in
    let here = c.index-lines-len.is ∙ ap (λ i. get_or c.args.lines.now i c.index-lines-len.result) (c.len.ensures ∙ openings.ok.0) in
    record {
      fits = (next_of g.D.Disk.facts c.args.lines.now (length openings.items) c.index-lines-len.result (into_iter_items c.loop-file.file-iterator) c.in-Some.file (into_iter_items c.next.new.self)
          here c.in-Some.ensures.steps.0 c.loop-file.invariant.fit).fits;
    }

pub loop-file-preserved : goal.loop-file-preserved
loop-file-preserved g c =
    let facts = g.D.Disk.facts in
    let openings = c.loop-file.openings in
    let lines = c.args.lines.now in
    let line = c.index-lines-len.result in
    let file = c.in-Some.file in
    let left = into_iter_items c.loop-file.file-iterator in
    let rest = into_iter_items c.next.new.self in
    let here = c.index-lines-len.is ∙ ap (λ i. get_or lines i line) (c.len.ensures ∙ openings.ok.0) in
    let next = next_of facts lines (length openings.items) line left file rest here c.in-Some.ensures.steps.0 c.loop-file.invariant.fit in
    let count : length c.push.new.self.items ≡ length openings.items + 1 = omega (arith, c.in_ok-push.ensures.len, openings.ok.0, c.push.new.self.ok.0) in
    record {
      fit = subst (λ n. FitLines facts (drop n lines) rest) (sym count) next.fit;
      made = λ os bs others. made_more facts lines c.args.files.items left rest openings.items c.push.new.self.items c.loop-file.books.items c.push-in-loop-file.new.self.items (length openings.items) line file
          c.opened_one-opening.result.0 c.opened_one-opening.result.1 next c.in-Some.ensures.steps.0 c.opened_one-opening.ensures c.in_ok-push.ensures.items c.in_ok-push-2.ensures.items
          c.loop-file.invariant.made os bs (subst (λ n. AreMadeOf facts (drop n lines) rest os bs) count others);
      few = omega (arith, count, next.there);
    }

pub returns : goal.returns
returns g c =
    let facts = g.D.Disk.facts in
    let openings = c.loop-file.openings in
    let books = c.loop-file.books in
    let lines = c.args.lines.now in
    let files = c.args.files.items in
    subst (λ os. AreMadeOf facts lines files os books.items) (append-nil openings.items)
    (subst (λ bs. AreMadeOf facts lines files (openings.items ++ []) bs) (append-nil books.items)
    (made_all facts lines files (into_iter_items c.loop-file.file-iterator) openings.items books.items (length openings.items)
    (nil_from_length _ (sym c.loop-file.file-iterator.rest.ok.0 ∙ c.in-None.ensures.steps.0)) c.loop-file.invariant.fit c.loop-file.invariant.made))
