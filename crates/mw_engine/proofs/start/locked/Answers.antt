-- Goals of `locked` (src/start.rt).
use Rattle.std.specs.Prelude.{◌≡◌, ◌+◌, ◌++◌, length, Option}
use Rattle.std.specs.Option.{option_to_list}
use Rattle.std.specs.Vec.Iter.{into_iter_items}
use Rattle.std.proofs.Common.{ap, sym, subst, ◌∙◌, length-append, arith}
use Rattle.mw_core.specs.FromTable.{FilePass}
use Rattle.mw_engine.proofs.GuardedFileLaws.{ArePaired, first_kept, keeps_some, paired, rest_kept}
use Rattle.mw_engine.proofs.start.locked.Goals as goal

pub loop-book-init : goal.loop-book-init
loop-book-init g c =
    let facts = g.D.Disk.facts in
    let identity = g.J.EngineBrand.identity in
    let books = c.into_iter-book-iterator.ensures.into_iter_gives.0 in
    let file_passes = c.into_iter-file_passes.ensures.rest in
    let even = c.requires.even in
    let of_books = ap length books in
    let of_file_passes = ap length file_passes in
    let none = ap length c.in_ok-made.ensures.items in
    record {
      kept = subst (λ bs. ArePaired facts identity bs (into_iter_items c.into_iter-file_passes.result)) (sym books)
          (subst (λ rs. ArePaired facts identity c.args.books.items rs) (sym file_passes) (paired facts identity c.args.books.items c.args.file_passes.items c.requires.kept));
      even = omega (arith, even, of_books, of_file_passes);
      all = omega (arith, none, of_books);
    }

pub invariant_of-kept : goal.invariant_of-kept
invariant_of-kept g c =
    let file_pass = c.in-Some-next.file_pass in
    let also = c.next-in-loop-book.ensures.items ∙ ap (λ (found : Option FilePass). option_to_list found ++ into_iter_items c.next-in-loop-book.new.self) c.in-Some-next.is in
    record {
      kept = keeps_some g.D.Disk.facts g.J.EngineBrand.identity c.in-Some.book file_pass c.tenant-tenant.result
          (first_kept g.D.Disk.facts g.J.EngineBrand.identity c.in-Some.book file_pass (into_iter_items c.loop-book.book-iterator) (into_iter_items c.next.new.self) (into_iter_items c.loop-book.file_passes)
          (into_iter_items c.next-in-loop-book.new.self) c.in-Some.ensures.steps.0 also c.loop-book.invariant.kept) (sym c.tenant-tenant.ensures);
    }

pub loop-book-preserved : goal.loop-book-preserved
loop-book-preserved g c =
    let file_pass = c.in-Some-next.file_pass in
    let at = c.in-Some.ensures.steps.0 in
    let also = c.next-in-loop-book.ensures.items ∙ ap (λ (found : Option FilePass). option_to_list found ++ into_iter_items c.next-in-loop-book.new.self) c.in-Some-next.is in
    let inv = c.loop-book.invariant in
    let even = inv.even in
    let all = inv.all in
    let of_books = ap length at in
    let of_file_passes = ap length also in
    let more : length c.push.new.self.items ≡ length c.loop-book.made.items + 1 = ap length c.in_ok-push.ensures.items ∙ length-append c.loop-book.made.items _ in
    record {
      kept = rest_kept g.D.Disk.facts g.J.EngineBrand.identity c.in-Some.book file_pass (into_iter_items c.loop-book.book-iterator) (into_iter_items c.next.new.self) (into_iter_items c.loop-book.file_passes)
          (into_iter_items c.next-in-loop-book.new.self) at also inv.kept;
      even = omega (arith, even, of_books, of_file_passes);
      all = omega (arith, all, of_books, more);
    }

-- no book is left, so there is a lock for each
pub returns : goal.returns
returns g c =
    let all = c.loop-book.invariant.all in
    let none : length (into_iter_items c.loop-book.book-iterator) ≡ 0 = sym c.loop-book.book-iterator.rest.ok.0 ∙ c.in-None.ensures.steps.0 in
    omega (arith, all, none)
