-- Proves the law `runs_are_simulated`.
use Rattle.mw_law_store.proofs.RunSimulation.{events_are_simulated, runs_are_simulated}
use Rattle.mw_law_store.proofs.laws.runs_are_simulated.Goals as goal

pub returns-clause-keep : goal.returns-clause-keep
returns-clause-keep c = events_are_simulated

pub returns-clause-runs : goal.returns-clause-runs
returns-clause-runs c = runs_are_simulated
