-- Goals of `turns_back` (src/reading_tests.rt).
use Rattle.mw_table_tests.proofs.ReadsStayReads.{reads_on}
use Rattle.mw_table_tests.proofs.reading_tests.turns_back.Goals as goal

pub is_at_first-requires : goal.is_at_first-requires
is_at_first-requires c =
    let old = c.args.side.now in
    reads_on old.pass c.advance.new.pass old.actor c.advance.new.actor c.advance.result c.requires.reading c.advance.ensures.advances
