-- Proves the law `every_run_is_durably_linearizable`.
use Rattle.mw_world.proofs.HeadlineConsequences.{equal_marks}
use Rattle.mw_law_store.proofs.DurabilityInRunsLaws.{runs_hold_changes}
use Rattle.mw_law_store.proofs.RunSimulation.{every_run_is_durably_linearizable}
use Rattle.mw_law_store.proofs.laws.every_run_is_durably_linearizable.Goals as goal

pub returns-clause-alone : goal.returns-clause-alone
returns-clause-alone c = every_run_is_durably_linearizable

pub returns-clause-held : goal.returns-clause-held
returns-clause-held c = runs_hold_changes every_run_is_durably_linearizable

pub returns-clause-equal : goal.returns-clause-equal
returns-clause-equal c = equal_marks every_run_is_durably_linearizable
