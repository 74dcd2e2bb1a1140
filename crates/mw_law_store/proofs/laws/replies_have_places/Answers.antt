-- Proves the law `replies_have_places`.
use Rattle.mw_law_store.proofs.Histories as histories
use Rattle.mw_law_store.proofs.RunSimulation.{events_are_simulated, runs_are_simulated}
use Rattle.mw_law_store.proofs.laws.replies_have_places.Goals as goal

pub returns-clause-places : goal.returns-clause-places
returns-clause-places c = histories.replies_have_places runs_are_simulated

pub returns-clause-asks : goal.returns-clause-asks
returns-clause-asks c = histories.asks_stand_once runs_are_simulated

pub returns-clause-fit : goal.returns-clause-fit
returns-clause-fit c = histories.seals_fit runs_are_simulated

pub returns-clause-stay : goal.returns-clause-stay
returns-clause-stay c = histories.seals_stay runs_are_simulated events_are_simulated

pub returns-clause-long : goal.returns-clause-long
returns-clause-long c = histories.seals_stay_long runs_are_simulated events_are_simulated
