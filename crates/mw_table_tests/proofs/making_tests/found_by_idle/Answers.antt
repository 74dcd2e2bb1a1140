-- Goals of `found_by_idle` (src/making_tests.rt).
use Rattle.mw_core.specs.FromTable.{IsDealt}
use Rattle.mw_table_tests.proofs.TakenPasses.{next_is}
use Rattle.mw_table_tests.proofs.making_tests.found_by_idle.Goals as goal

-- the last pass but one is of the table
pub figures-requires-clause-own : goal.figures-requires-clause-own
figures-requires-clause-own c =
    (next_is (IsDealt c.args.shared.now c.requires.dealt.0) c.args.passes.items c.pop.new.self.items c.pop-2.new.self.items c.pop.result c.pop-2.result c.in_ok-one.one c.pop.ensures.items c.pop-2.ensures.items c.in_ok-one.was
    c.requires.dealt.1).own
