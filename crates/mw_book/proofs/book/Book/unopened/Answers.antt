-- Goals of `Book::unopened` (src/book.rt).
use Rattle.std.proofs.Common.{replicate}
use Rattle.std.proofs.lemmas.List.{get_or-replicate}
use Rattle.mw_words.specs.declared.limits.TheConstants.{MAX_PLACES, MAX_POOL}
use Rattle.mw_book.proofs.FilePlaces.{in_order_permutes}
use Rattle.mw_book.proofs.NewBooks.{none_ahead, none_prepared, unopened_tells}
use Rattle.mw_book.proofs.book.Book.unopened.Goals as goal

pub returns-clause-shows : goal.returns-clause-shows
returns-clause-shows g c contents long =
    unopened_tells g.D.Disk.facts contents c.args.words c.args.places (replicate MAX_POOL 0) _ (λ slot lt. get_or-replicate MAX_POOL slot 0 0 lt)
    (none_ahead MAX_PLACES) (none_prepared MAX_PLACES) long

pub invariant_of-result-clause-permuted : goal.invariant_of-result-clause-permuted
invariant_of-result-clause-permuted g c = in_order_permutes c.in_order.result c.args.places c.in_order.ensures
