-- Goals of `found_by_two` (src/making_tests.rt).
use Rattle.std.proofs.Common.{ap, ◌∙◌}
use Rattle.mw_core.specs.FromTable.{IsDealt, View}
use Rattle.mw_table_tests.proofs.TakenPasses.{next_is, taken_is}
use Rattle.mw_table_tests.proofs.making_tests.found_by_two.Goals as goal

-- the last pass is of the table
pub figure-gate-requires-clause-own : goal.figure-gate-requires-clause-own
figure-gate-requires-clause-own c =
    (taken_is (IsDealt c.args.shared.now c.requires.dealt.0) c.args.passes.items c.pop.new.self.items c.pop.result c.in_ok-other.other c.pop.ensures.items c.in_ok-other.was c.requires.dealt.1).own

-- so is the one before it
pub figure-door-requires-clause-own : goal.figure-door-requires-clause-own
figure-door-requires-clause-own c =
    (next_is (IsDealt c.args.shared.now c.requires.dealt.0) c.args.passes.items c.pop.new.self.items c.pop-2.new.self.items c.pop.result c.pop-2.result c.in_ok-one.one c.pop.ensures.items c.pop-2.ensures.items c.in_ok-one.was
    c.requires.dealt.1).own

-- it has no file, as it was made
pub meet-requires-clause-one_free : goal.meet-requires-clause-one_free
meet-requires-clause-one_free c =
    c.figure-door.ensures.looked.same_files
    ∙ ap (λ (view : View). view.files)
    (next_is (IsDealt c.args.shared.now c.requires.dealt.0) c.args.passes.items c.pop.new.self.items c.pop-2.new.self.items c.pop.result c.pop-2.result c.in_ok-one.one c.pop.ensures.items c.pop-2.ensures.items c.in_ok-one.was
    c.requires.dealt.1).view

-- nor has the last
pub meet-requires-clause-other_free : goal.meet-requires-clause-other_free
meet-requires-clause-other_free c =
    c.figure-gate.ensures.looked.same_files
    ∙ ap (λ (view : View). view.files)
    (taken_is (IsDealt c.args.shared.now c.requires.dealt.0) c.args.passes.items c.pop.new.self.items c.pop.result c.in_ok-other.other c.pop.ensures.items c.in_ok-other.was c.requires.dealt.1).view

-- both are still of the table
pub meet-requires-clause-one : goal.meet-requires-clause-one
meet-requires-clause-one c = c.figure-door.ensures.own

pub meet-requires-clause-other : goal.meet-requires-clause-other
meet-requires-clause-other c = c.figure-gate.ensures.own
