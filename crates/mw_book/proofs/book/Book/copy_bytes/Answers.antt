-- Goals of `Book::copy_bytes` (src/book.rt).
use Rattle.std.proofs.Common.{refl}
use Rattle.mw_book.proofs.CopiedFiles.{book_not_read, copy_ended, only_read, still_represent}
use Rattle.mw_book.proofs.book.Book.copy_bytes.Goals as goal

pub returns-then-self-clause-read : goal.returns-then-self-clause-read
returns-then-self-clause-read g c = book_not_read g.D.Disk.facts c.args.self.now

pub returns-clause-ends : goal.returns-clause-ends
returns-clause-ends g c =
    copy_ended g.D.Disk.facts c.args.self.now _ c.in-Some.file c.copy_bytes.new.self c.in-Some.is
    (record { is_held = refl; is_words = refl; is_places = refl; is_place_of = refl; is_table = refl; is_failed = refl })
    c.copy_bytes.ensures.read c.copy_bytes.result c.if-self.false c.copy_bytes.ensures.ends

pub returns-clause-read : goal.returns-clause-read
returns-clause-read g c =
    only_read g.D.Disk.facts c.args.self.now _ c.in-Some.file c.copy_bytes.new.self c.in-Some.is
    (record { is_held = refl; is_words = refl; is_places = refl; is_place_of = refl; is_table = refl; is_failed = refl })
    c.copy_bytes.ensures.read

pub returns-clause-represents : goal.returns-clause-represents
returns-clause-represents g c = still_represent g.D.Disk.facts c.args.self.now c.in-Some.file c.copy_bytes.new.self c.in-Some.is c.copy_bytes.ensures.read
