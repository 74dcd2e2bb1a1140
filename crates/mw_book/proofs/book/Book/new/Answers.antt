-- Goals of `Book::new` (src/book.rt).
use Rattle.std.proofs.Common.{replicate}
use Rattle.std.proofs.lemmas.List.{get_or-replicate}
use Rattle.mw_words.specs.declared.limits.TheConstants.{MAX_PLACES, MAX_POOL}
use Rattle.mw_file.specs.File.{states_of}
use Rattle.mw_book.proofs.FilePlaces.{in_order_permutes}
use Rattle.mw_book.proofs.NewBooks.{new_tells, no_records, none_ahead, none_prepared}
use Rattle.mw_book.proofs.book.Book.new.Goals as goal

pub returns-clause-shows : goal.returns-clause-shows
returns-clause-shows g c words long keeps =
    new_tells g.D.Disk.facts c.args.file words _ c.args.places (replicate MAX_POOL 0) _ c.requires.free (λ slot lt. get_or-replicate MAX_POOL slot 0 0 lt)
    (none_ahead MAX_PLACES) (none_prepared MAX_PLACES) c.words-words.ensures long keeps

pub returns-clause-none_ahead : goal.returns-clause-none_ahead
returns-clause-none_ahead g c = none_ahead MAX_PLACES

pub returns-clause-none_prepared : goal.returns-clause-none_prepared
returns-clause-none_prepared g c slot entries = no_records (states_of c.args.file) c.in_order.result MAX_PLACES c.args.places slot entries

pub invariant_of-result-clause-permuted : goal.invariant_of-result-clause-permuted
invariant_of-result-clause-permuted g c = in_order_permutes c.in_order.result c.args.places c.in_order.ensures
