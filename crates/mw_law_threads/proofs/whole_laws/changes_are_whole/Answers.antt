-- Proves the law `changes_are_whole`.
use Rattle.mw_law_threads.proofs.Whole.WholeChangeLaws.{doubt_is_whole, places_hold_whole_changes, requests_ask_for_one_change, requests_stay_asked, sealed_changes_are_whole}
use Rattle.mw_law_threads.proofs.whole_laws.changes_are_whole.Goals as goal

pub returns-clause-places : goal.returns-clause-places
returns-clause-places c = places_hold_whole_changes

pub returns-clause-doubt : goal.returns-clause-doubt
returns-clause-doubt c = doubt_is_whole

pub returns-clause-sealed : goal.returns-clause-sealed
returns-clause-sealed c = sealed_changes_are_whole

pub returns-clause-once : goal.returns-clause-once
returns-clause-once c = requests_ask_for_one_change

pub returns-clause-stay : goal.returns-clause-stay
returns-clause-stay c = requests_stay_asked
