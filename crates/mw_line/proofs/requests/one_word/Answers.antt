-- Goals of `one_word` (src/requests.rt).
use Rattle.std.proofs.Common.{◌≡◌, refl, arith}
use Rattle.std.specs.Prelude.{codes}
use Rattle.std.proofs.lemmas.Slice.Eq.{text_from_reads}
use Rattle.mw_line.specs.LineReader.{word_of}
use Rattle.mw_line.proofs.requests.one_word.Goals as goal

pub returns-in-REPORT : goal.returns-in-REPORT
unfolding word_of
returns-in-REPORT c =
    let e : c.args.line.now ≡ codes "REPORT" = text_from_reads c.args.line.now (codes "REPORT") (omega arith) (omega arith, (omega arith, (omega arith, (omega arith, (omega arith, (omega arith, tt)))))) in
    rw e (refl, refl)

pub returns-in-ADMIN : goal.returns-in-ADMIN
unfolding word_of
returns-in-ADMIN c =
    let e : c.args.line.now ≡ codes "ADMIN" = text_from_reads c.args.line.now (codes "ADMIN") (omega arith) (omega arith, (omega arith, (omega arith, (omega arith, (omega arith, tt))))) in
    rw e (refl, refl)
