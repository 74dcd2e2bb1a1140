-- Goals of `Book::has_place` (src/book.rt).
use Rattle.std.proofs.Common.{nat_lt, ap, ◌∙◌}
use Rattle.mw_file.specs.File.{states_of}
use Rattle.mw_book.specs.Permits.{vacant_place}
use Rattle.mw_book.proofs.FoundPlaces.{found_at}
use Rattle.mw_book.proofs.RepresentedFiles.{placed_in}
use Rattle.mw_book.proofs.book.Book.has_place.Goals as goal

pub returns-in-Some-clause-shown : goal.returns-in-Some-clause-shown
returns-in-Some-clause-shown g c file shows sound =
    let book = c.args.self.now in
    ap (λ place. nat_lt place book.places)
    (c.vacant_place.ensures ∙ ap (λ states. vacant_place states book.table book.places) c.states.ensures
    ∙ found_at (states_of c.in-Some.file) book.table book.places file (placed_in g.D.Disk.facts book c.in-Some.file c.in-Some.is file shows))
