-- Proves the law `marks_are_own`.
use Rattle.mw_law_store.proofs.MarksOfEvents as owning
use Rattle.mw_law_store.proofs.laws.marks_are_own.Goals as goal

pub returns-clause-own : goal.returns-clause-own
returns-clause-own c = owning.marks_are_own

pub returns-clause-neighbours : goal.returns-clause-neighbours
returns-clause-neighbours c = owning.neighbours_faults_leave_no_mark

pub returns-clause-faults : goal.returns-clause-faults
returns-clause-faults c = owning.faults_are_own

pub returns-clause-counted : goal.returns-clause-counted
returns-clause-counted c = owning.faults_are_counted
